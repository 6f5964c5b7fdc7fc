-- What comes first, in its place, and what is told of it ahead.
use Rattle.std.specs.Prelude.{◌≡◌, ◌≢◌, ◌⊎◌, ◌↔◌, ◌<◌, ◌≤◌, ◌+◌, ◌==◌, ◌&&◌, ℕ, Bool, true, false, cond, List, [], ◌∷◌, ◌++◌, length, take, drop, reverse, refl, unwrap_or}
use Rattle.std.specs.Ordering.{nat_cmp, is_eq}
use Rattle.std.specs.Cmp.{tied_itself, nat_cmp_total}
use Rattle.std.specs.BTreeMap.{insert_entry}
use Rattle.std.proofs.Common.{ap, sym, subst, ◌∙◌, inl, inr, arith, eq-eqb, get_or}
use Rattle.std.proofs.lemmas.Bool.{false≢true, true≢false, ne_eqb}
use Rattle.std.proofs.lemmas.List.{take_more, take_all, drop_more}
use Rattle.inc_fs.specs.Lists.{IsIn}
use Rattle.inc_fs.specs.Lookups.{lookup_here, lookup_there, path_cmp_total, same_paths, same_numbers, same_bytes}
use Rattle.inc_fs.specs.Paths.{Text, Path, path_cmp}
use Rattle.inc_fs.specs.Points.{same_number}
use Rattle.inc_fs.specs.declared.op.Op.{Op}
use Rattle.inc_fs.specs.declared.op.Op.TheVariants.{TryLock, ListDir, Link, Close}
use Rattle.inc_fs.specs.declared.op.Reply.{Reply}
use Rattle.inc_fs.specs.declared.op.Reply.TheVariants.{Names, Got, Done}
use Rattle.inc_proto.specs.Events.{Steps}
use Rattle.inc_proto.specs.Views.{IsDone, same_text}
use Rattle.inc_proto.proofs.Anys.{in_left, in_end, in_more}
use Rattle.inc_proto.proofs.Turned.{last_is_first}
use Rattle.inc_laws.specs.Loads.{IsLink, LinksHeld}
use Rattle.inc_laws.specs.Places.{is_close, is_link, first, closings_by, linkings_by, closed_in, linked_in, TellsAhead, AreBefore, IsFar, AreFar}
use Rattle.inc_laws.proofs.Here.{same_itself}

-- ---- Where what comes first is.

pub first_from : (P : Op × Reply → Bool) (coming : Steps) (at : ℕ) → at ≤ first P coming at
first_from P [] at = omega arith
first_from P (step ∷ coming) at = go (P step) (first_from P coming (at + 1))
  where
    go : (b : Bool) → at + 1 ≤ first P coming (at + 1) → at ≤ cond b at (first P coming (at + 1))
    go true le = omega arith
    go false le = omega (arith, le)

pub first_within : (P : Op × Reply → Bool) (coming : Steps) (at : ℕ) → first P coming at ≤ at + length coming
first_within P [] at = omega arith
first_within P (step ∷ coming) at = go (P step) (first_within P coming (at + 1))
  where
    go : (b : Bool) → first P coming (at + 1) ≤ (at + 1) + length coming → cond b at (first P coming (at + 1)) ≤ at + length (step ∷ coming)
    go true le = omega arith
    go false le = omega (arith, le)

-- ---- What is linked before a handle is closed.

linking : (krate from file : Text) (h : ℕ) (step : Op × Reply) → IsLink krate from file step → (is_link krate (from, file) step ≡ true) × (is_close h step ≡ false)
linking krate from file h (Link k f to x, Done) is = (
  (λ i. same_text (is.0 i) krate && (same_text (is.1 i) from && same_text (is.2 i) file)) ∙ (λ i. same_itself krate i && (same_itself from i && same_itself file i)),
  refl,
)
linking krate from file h step is = absurd is

both_true : (a b : Bool) → (a && b) ≡ true → (a ≡ true) × (b ≡ true)
both_true true true is = (refl, refl)
both_true true false is = absurd (false≢true is)
both_true false b is = absurd (false≢true is)

linked_by : (krate from file : Text) (step : Op × Reply) → is_link krate (from, file) step ≡ true → IsLink krate from file step
linked_by krate from file (Link k f to x, Done) is =
    let outer = both_true (same_text k krate) (same_text f from && same_text x file) is in
    let inner = both_true (same_text f from) (same_text x file) outer.1 in
    (same_bytes k krate outer.0, same_bytes f from inner.0, same_bytes x file inner.1)
linked_by krate from file step is = absurd (false≢true is)

left_open : (h : ℕ) (step : Op × Reply) → ¬ IsDone (Close h) step → is_close h step ≡ false
left_open h (Close handle, Done) still = go (same_number handle h)
  where
    go : (handle ≡ h) ⊎ (handle ≢ h) → handle == h ≡ false
    go (inl same) = absurd (still (ap Close same))
    go (inr off) = ne_eqb handle h off
left_open h step still = refl

pub closed_not : (h : ℕ) (step : Op × Reply) → is_close h step ≡ false → ¬ IsDone (Close h) step
closed_not h (Close handle, Done) is = λ closed.
    let same : handle ≡ h = cc in
    true≢false (sym (eq-eqb handle h same) ∙ is)
closed_not h (o, Done) is = λ closed. cc
closed_not h step is = λ closed. closed

pub links_before : (krate from file : Text) (h : ℕ) (coming : Steps) (at : ℕ) → LinksHeld krate from file h coming → first (is_link krate (from, file)) coming at < first (is_close h) coming at
links_before krate from file h [] at held = absurd held
links_before krate from file h (step ∷ coming) at (inl link) =
    let is = linking krate from file h step link in
    go (is_link krate (from, file) step) (is_close h step) is.0 is.1 (first_from (is_close h) coming (at + 1))
  where
    go : (a b : Bool) → a ≡ true → b ≡ false → at + 1 ≤ first (is_close h) coming (at + 1)
        → cond a at (first (is_link krate (from, file)) coming (at + 1)) < cond b at (first (is_close h) coming (at + 1))
    go true false p q le = omega (arith, le)
    go false b p q le = absurd (false≢true p)
    go true true p q le = absurd (true≢false q)
links_before krate from file h (step ∷ coming) at (inr (still, rest)) =
    go (is_link krate (from, file) step) (is_close h step) (left_open h step still) (first_from (is_close h) coming (at + 1)) (links_before krate from file h coming (at + 1) rest)
  where
    go : (a b : Bool) → b ≡ false → at + 1 ≤ first (is_close h) coming (at + 1) → first (is_link krate (from, file)) coming (at + 1) < first (is_close h) coming (at + 1)
        → cond a at (first (is_link krate (from, file)) coming (at + 1)) < cond b at (first (is_close h) coming (at + 1))
    go true false q le lt = omega (arith, le)
    go false false q le lt = lt
    go a true q le lt = absurd (true≢false q)

pub before_links : (krate from file : Text) (h : ℕ) (coming : Steps) (at : ℕ) → first (is_link krate (from, file)) coming at < first (is_close h) coming at → LinksHeld krate from file h coming
before_links krate from file h [] at lt = absurd (omega (arith, lt))
before_links krate from file h (step ∷ coming) at lt =
    go (is_link krate (from, file) step) (is_close h step) refl refl (first_from (is_link krate (from, file)) coming (at + 1)) (before_links krate from file h coming (at + 1)) lt
  where
    go : (a b : Bool) → is_link krate (from, file) step ≡ a → is_close h step ≡ b → at + 1 ≤ first (is_link krate (from, file)) coming (at + 1)
        → (first (is_link krate (from, file)) coming (at + 1) < first (is_close h) coming (at + 1) → LinksHeld krate from file h coming)
        → cond a at (first (is_link krate (from, file)) coming (at + 1)) < cond b at (first (is_close h) coming (at + 1))
        → IsLink krate from file step ⊎ ((¬ IsDone (Close h) step) × LinksHeld krate from file h coming)
    go true b p q le ih lt = inl (linked_by krate from file step p)
    go false true p q le ih lt = absurd (omega (arith, le, lt))
    go false false p q le ih lt = inr (closed_not h step q, ih lt)

-- ---- The tables, brought back by one step.

none_then : {A : Type 0} (b : Bool) (x y : A) → b ≡ false → y ≡ cond b x y
none_then b x y is = sym (ap (λ b. cond b x y) is)

some_then : {A : Type 0} (b : Bool) (x y : A) → b ≡ true → x ≡ cond b x y
some_then b x y is = sym (ap (λ b. cond b x y) is)

pub ahead_next : (krate : Text) (step : Op × Reply) (coming : Steps) (at end : ℕ) (closings : List (ℕ × ℕ)) (linkings : List (Path × ℕ)) → TellsAhead krate coming (at + 1) end closings linkings
    → TellsAhead krate (step ∷ coming) at end (closings_by step at closings) (linkings_by krate step at linkings)
ahead_next krate step coming at end closings linkings t = record { closed = closed step; linked = linked step }
  where
    closed : (step : Op × Reply) (h : ℕ) → closed_in (closings_by step at closings) end h ≡ first (is_close h) (step ∷ coming) at
    closed (Close handle, Done) h = go (same_numbers h handle)
      where
        go : (h ≡ handle) ⊎ (is_eq (nat_cmp h handle) ≡ false) → closed_in (insert_entry nat_cmp closings handle at) end h ≡ cond (handle == h) at (first (is_close h) coming (at + 1))
        go (inl same) =
            ap (λ k. closed_in (insert_entry nat_cmp closings k at) end h) (sym same) ∙ ap (λ o. unwrap_or o end) (lookup_here nat_cmp nat_cmp_total closings h at)
            ∙ some_then (handle == h) at (first (is_close h) coming (at + 1)) (eq-eqb handle h (sym same))
        go (inr off) =
            ap (λ o. unwrap_or o end) (lookup_there nat_cmp nat_cmp_total closings handle h at off) ∙ t.closed h
            ∙ none_then (handle == h) at (first (is_close h) coming (at + 1)) (ne_eqb handle h (λ same. false≢true (sym off ∙ ap (λ k. is_eq (nat_cmp h k)) same ∙ ap is_eq (tied_itself nat_cmp_total h))))
    closed step h = t.closed h

    linked : (step : Op × Reply) (path : Path) → linked_in (linkings_by krate step at linkings) end path ≡ first (is_link krate path) (step ∷ coming) at
    linked (Link k from to file, Done) path = here (same_text k krate)
      where
        its : Bool
        its = same_text from path.0 && same_text file path.1

        apart : is_eq (path_cmp path (from, file)) ≡ false → its ≡ false
        apart off = go its refl
          where
            go : (b : Bool) → its ≡ b → its ≡ false
            go false is = is
            go true is =
                let both = both_true (same_text from path.0) (same_text file path.1) is in
                let same : (from, file) ≡ path = (λ i. (same_bytes from path.0 both.0 i, same_bytes file path.1 both.1 i)) in
                absurd (false≢true (sym off ∙ ap (λ q. is_eq (path_cmp path q)) same ∙ ap is_eq (tied_itself path_cmp_total path)))

        named : path ≡ (from, file) → its ≡ true
        named same = (λ i. same_text from ((same i).0) && same_text file ((same i).1)) ∙ (λ i. same_itself from i && same_itself file i)

        place : (path ≡ (from, file)) ⊎ (is_eq (path_cmp path (from, file)) ≡ false)
            → linked_in (insert_entry path_cmp linkings (from, file) at) end path ≡ cond its at (first (is_link krate path) coming (at + 1))
        place (inl same) =
            ap (λ q. linked_in (insert_entry path_cmp linkings q at) end path) (sym same) ∙ ap (λ o. unwrap_or o end) (lookup_here path_cmp path_cmp_total linkings path at)
            ∙ some_then its at (first (is_link krate path) coming (at + 1)) (named same)
        place (inr off) =
            ap (λ o. unwrap_or o end) (lookup_there path_cmp path_cmp_total linkings (from, file) path at off) ∙ t.linked path
            ∙ none_then its at (first (is_link krate path) coming (at + 1)) (apart off)

        here : (b : Bool) → linked_in (cond b (insert_entry path_cmp linkings (from, file) at) linkings) end path ≡ cond (b && its) at (first (is_link krate path) coming (at + 1))
        here true = place (same_paths path (from, file))
        here false = t.linked path
    linked step path = t.linked path

-- ---- What is told of a step.

pub far_same : (krate : Text) (f g : ℕ → ℕ) (p q : Path → ℕ) (end : ℕ) (step : Op × Reply) (far : ℕ) → ((h : ℕ) → f h ≡ g h) → ((path : Path) → p path ≡ q path)
    → IsFar krate f p end step far → IsFar krate g q end step far
far_same krate f g p q end (TryLock handle exclusive, Got) far closed linked is = is ∙ closed handle
far_same krate f g p q end (ListDir k entry, Names names) far closed linked is = λ bound some within. (
  λ lt. let r = (is bound some within).0 lt in (r.0, r.1, λ file among. subst (λ x. x < bound) (linked (entry, file)) (r.2 file among)),
  λ r. (is bound some within).1 (r.0, r.1, λ file among. subst (λ x. x < bound) (sym (linked (entry, file))) (r.2 file among)),
)
far_same krate f g p q end step far closed linked is = tt

-- ---- Steps and names in their order.

-- one more name, and the later of two places
pub before_more : (place : Text → ℕ) (names : List Text) (i : ℕ) (item : Text) (last at now : ℕ) → i < length names → item ≡ get_or names i item
    → ((bound : ℕ) → 0 < bound → (last < bound ↔ AreBefore place bound (take i names))) → at ≡ place item → ((bound : ℕ) → now < bound ↔ ((last < bound) × (at < bound)))
    → (bound : ℕ) → 0 < bound → (now < bound ↔ AreBefore place bound (take (i + 1) names))
before_more place names i item last at now within same was is both bound some = (
  λ lt file among. go file (both bound).0 lt (in_more names i item file within among),
  λ all. (both bound).1 ((was bound some).1 (λ file among. all file (subst (λ ns. IsIn ns file) (sym more) (in_left (take i names) _ file among))), subst (λ n. n < bound) (sym is) (all item last_in)),
)
  where
    more : take (i + 1) names ≡ take i names ++ get_or names i item ∷ []
    more = take_more names i item within

    last_in : IsIn (take (i + 1) names) item
    last_in = subst (λ ns. IsIn ns item) (sym more) (in_end (take i names) (get_or names i item) item (sym same))

    go : (file : Text) → (now < bound → (last < bound) × (at < bound)) → now < bound → IsIn (take i names) file ⊎ (get_or names i item ≡ file) → place file < bound
    go file to lt (inl early) = (was bound some).0 (to lt).0 file early
    go file to lt (inr late) = subst (λ f. place f < bound) (same ∙ late) (subst (λ n. n < bound) is (to lt).1)

pub none_before : (place : Text → ℕ) (names : List Text) (i last : ℕ) → i ≡ length names → ((bound : ℕ) → 0 < bound → (last < bound ↔ AreBefore place bound (take i names)))
    → (bound : ℕ) → 0 < bound → (last < bound ↔ AreBefore place bound names)
none_before place names i last all was bound some = subst (λ ns. last < bound ↔ AreBefore place bound ns) (take_all i names (omega (arith, all))) (was bound some)

-- of a listing of this crate, and of another or an empty one
pub far_listing : (krate : Text) (f : ℕ → ℕ) (g : Path → ℕ) (end : ℕ) (k entry : Text) (names : List Text) (step : Op × Reply) (far : ℕ) → step.0 ≡ ListDir k entry → step.1 ≡ Names names
    → IsFar krate f g end (ListDir k entry, Names names) far → IsFar krate f g end step far
far_listing krate f g end k entry names step far op reply is =
    subst (λ o. IsFar krate f g end (o, step.1) far) (sym op) (subst (λ r. IsFar krate f g end (ListDir k entry, r) far) (sym reply) is)

pub far_here : (krate : Text) (f : ℕ → ℕ) (g : Path → ℕ) (end : ℕ) (k entry : Text) (names : List Text) (far : ℕ) → k ≡ krate → names ≢ []
    → ((bound : ℕ) → 0 < bound → (far < bound ↔ AreBefore (λ file. g (entry, file)) bound names)) → IsFar krate f g end (ListDir k entry, Names names) far
far_here krate f g end k entry names far here some is = λ bound positive within. ((λ lt. (here, some, (is bound positive).0 lt)), λ r. (is bound positive).1 r.2)

pub far_never : (krate : Text) (f : ℕ → ℕ) (g : Path → ℕ) (end : ℕ) (k entry : Text) (names : List Text) → ((k ≡ krate) → (names ≢ []) → ⊥) → IsFar krate f g end (ListDir k entry, Names names) end
far_never krate f g end k entry names never = λ bound positive within. ((λ lt. absurd (omega (arith, lt, within))), λ r. absurd (never r.0 r.1))

-- the tables and what is told, brought back by one step
pub ahead_more : (krate : Text) (steps : Steps) (i at : ℕ) (item : Op × Reply) (closings nearer : List (ℕ × ℕ)) (linkings nearer_links : List (Path × ℕ)) (fars more : List ℕ) (far : ℕ)
    → i ≡ at + 1 → at < length steps → item ≡ get_or steps at item
    → TellsAhead krate (drop i steps) i (length steps) closings linkings → AreFar krate (length steps) (drop i steps) i (reverse fars)
    → IsFar krate (closed_in closings (length steps)) (linked_in linkings (length steps)) (length steps) item far
    → more ≡ fars ++ far ∷ [] → nearer ≡ closings_by item at closings → nearer_links ≡ linkings_by krate item at linkings
    → (TellsAhead krate (drop at steps) at (length steps) nearer nearer_links) × (AreFar krate (length steps) (drop at steps) at (reverse more))
ahead_more krate steps i at item closings nearer linkings nearer_links fars more far next within same tells are is pushed by_close by_link = (
  subst (λ ss. TellsAhead krate ss at (length steps) nearer nearer_links) (sym items)
      (subst (λ c. TellsAhead krate (item ∷ drop (at + 1) steps) at (length steps) c nearer_links) (sym by_close)
      (subst (λ l. TellsAhead krate (item ∷ drop (at + 1) steps) at (length steps) (closings_by item at closings) l) (sym by_link)
      (ahead_next krate item (drop (at + 1) steps) at (length steps) closings linkings then))),
  subst (λ ss. AreFar krate (length steps) ss at (reverse more)) (sym items)
      (subst (AreFar krate (length steps) (item ∷ drop (at + 1) steps) at) (sym (ap reverse pushed ∙ last_is_first fars far))
      (far_same krate _ _ _ _ (length steps) item far then.closed then.linked is, subst (λ n. AreFar krate (length steps) (drop n steps) n (reverse fars)) next are)),
)
  where
    items : drop at steps ≡ item ∷ drop (at + 1) steps
    items = drop_more steps at item within ∙ ap (λ s. s ∷ drop (at + 1) steps) (sym same)

    then : TellsAhead krate (drop (at + 1) steps) (at + 1) (length steps) closings linkings
    then = subst (λ n. TellsAhead krate (drop n steps) n (length steps) closings linkings) next tells
