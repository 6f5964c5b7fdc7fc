-- What a session asked for, did and saw last, brought forward by one more step.
use Rattle.std.specs.Prelude.{◌≡◌, ◌⊎◌, ◌↔◌, ◌≤◌, ◌<◌, ◌+◌, ◌++◌, ℕ, suc, List, [], ◌∷◌, length, Bool, true, false, refl, Option, Some, None, IsTrue}
use Rattle.std.proofs.Common.{ap, sym, ◌∙◌, subst, inl, inr, arith, get_or, take}
use Rattle.std.proofs.lemmas.List.{take_more, take_all}
use Rattle.std.specs.Option.{is_some}
use Rattle.std.proofs.lemmas.Bool.{false≢true}
use Rattle.std.proofs.lemmas.Map.Lookups.{CmpEqualImpliesEq}
use Rattle.std.specs.declared.cmp.Ordering.{Ordering}
use Rattle.std.specs.Ordering.{is_eq}
use Rattle.std.specs.Cmp.{IsTotalOrder}
use Rattle.std.specs.Cmp.Lexicographic.{nat_list_cmp_total}
use Rattle.std.specs.Map.{lookup}
use Rattle.std.specs.BTreeMap.{insert_entry, is_at}
use Rattle.inc_fs.specs.Lists.{IsIn}
use Rattle.inc_fs.specs.Lookups.{lookup_here, lookup_there, same_or_apart, path_cmp_total, same_texts}
use Rattle.inc_fs.specs.Paths.{Text, Path, text_cmp, path_cmp}
use Rattle.inc_fs.specs.declared.op.Op.{Op}
use Rattle.inc_fs.specs.declared.op.Op.TheVariants.{MakeLock, MakeDir, UnlinkLock, Rename, Look}
use Rattle.inc_fs.specs.declared.op.Reply.{Reply}
use Rattle.inc_fs.specs.declared.op.Reply.TheVariants.{Names, Done}
use Rattle.inc_names.specs.declared.session.SessionName.{SessionName}
use Rattle.inc_names.specs.Entries.{lock_text, final_text, IsSessionName, IsNewer}
use Rattle.inc_names.specs.EntryLaws.{same_lock_text, same_final_name}
use Rattle.inc_proto.specs.Asked.{HasNewer}
use Rattle.inc_proto.specs.Events.{Steps}
use Rattle.inc_proto.specs.Indexes.{IsSince, Tells, file_cmp, asked_by, AreAsked, made_by, unlinked_by, AreUnlinked, IsBack, AreBack, IsBackBy, IsNewerOf, ListsNewer, AreNewest, IsNewestWith, IsNewestBy, IsLater, IsBoth, IsStill, IsTold}
use Rattle.inc_proto.specs.Permits.{IsHash}
use Rattle.inc_proto.specs.Views.{HasAny, IsTry, IsMakeDir, HasTriedDir, IsDone, HasDone, IsLook, HasLooked, IsStanding}
use Rattle.inc_proto.specs.declared.index.Told.{Told}
use Rattle.inc_proto.proofs.Anys.{in_left, in_end, in_more}
use Rattle.inc_proto.proofs.Tells.{one_more, itself, told_now, told_still, told_before, any_same, any_now, any_still, file_cmp_total, path_exact, file_exact}

-- a place is put at one key, which finds it; the others find what they found
put_at : {K : Type 0} (R : K → K → Ordering) → IsTotalOrder R → CmpEqualImpliesEq R → (P : Op × Reply → Type 0) (step : Op × Reply) (steps : Steps) (k q : K) (places : List (K × ℕ))
    → Tells (HasAny P) steps (lookup (is_at (R q)) places) → (q ≡ k → P step) → (P step → q ≡ k)
    → Tells (HasAny P) (step ∷ steps) (lookup (is_at (R q)) (insert_entry R places k (length steps)))
put_at {K = K} R total exact P step steps k q places told to back = go (same_or_apart R exact q k)
  where
    found : K → Option ℕ
    found j = lookup (is_at (R q)) (insert_entry R places j (length steps))

    go : (q ≡ k) ⊎ (is_eq (R q k) ≡ false) → Tells (HasAny P) (step ∷ steps) (found k)
    go (inl same) =
        subst (λ j. Tells (HasAny P) (step ∷ steps) (found j)) same
        (subst (Tells (HasAny P) (step ∷ steps)) (sym (lookup_here R total places q (length steps))) (any_now P step steps (to same)))
    go (inr apart) =
        subst (Tells (HasAny P) (step ∷ steps)) (sym (lookup_there R total places k q (length steps) apart))
        (any_still P step steps (lookup (is_at (R q)) places) (λ is. itself R total q (subst (λ j. is_eq (R q j) ≡ false) (sym (back is)) apart)) told)

-- ---- What it asked for.

abbrev is_make_lock : Op → Bool
is_make_lock (MakeLock krate entry) = true
is_make_lock op = false

pub asked_next : (step : Op × Reply) (steps : Steps) (places : List (Path × ℕ)) → AreAsked steps places → AreAsked (step ∷ steps) (asked_by step (length steps) places)
asked_next (MakeLock k e, reply) steps places told q =
    put_at path_cmp path_cmp_total path_exact (IsTry (MakeLock q.0 q.1)) (MakeLock k e, reply) steps (k, e) q places (told q)
    (λ same. ap (λ p. MakeLock p.0 p.1) (sym same))
    (λ is. let ks : q.0 ≡ k = cc in let es : q.1 ≡ e = cc in λ i. (ks i, es i))
asked_next step steps places told q =
    any_still (IsTry (MakeLock q.0 q.1)) step steps (lookup (is_at (path_cmp q)) places) (λ is. absurd (false≢true (ap is_make_lock is))) (told q)

pub made_next : (step : Op × Reply) (steps : Steps) (place : Option ℕ) → Tells HasTriedDir steps place → Tells HasTriedDir (step ∷ steps) (made_by step (length steps) place)
made_next (MakeDir k e, reply) steps place told = any_now IsMakeDir (MakeDir k e, reply) steps tt
made_next step steps place told = any_still IsMakeDir step steps place (λ is. is) told

-- ---- What it did.

done_is : (op : Op) (step : Op × Reply) → IsDone op step → step ≡ (op, Done)
done_is op (o, Done) is = λ i. (is i, Done)
done_is op step is = absurd is

abbrev is_unlinking : Op × Reply → Bool
is_unlinking (UnlinkLock krate entry, Done) = true
is_unlinking step = false

pub unlinked_next : (step : Op × Reply) (steps : Steps) (places : List (Path × ℕ)) → AreUnlinked steps places → AreUnlinked (step ∷ steps) (unlinked_by step (length steps) places)
unlinked_next (UnlinkLock k e, Done) steps places told q =
    put_at path_cmp path_cmp_total path_exact (IsDone (UnlinkLock q.0 q.1)) (UnlinkLock k e, Done) steps (k, e) q places (told q)
    (λ same. ap (λ p. UnlinkLock p.0 p.1) (sym same))
    (λ is. let ks : q.0 ≡ k = cc in let es : q.1 ≡ e = cc in λ i. (ks i, es i))
unlinked_next step steps places told q =
    any_still (IsDone (UnlinkLock q.0 q.1)) step steps (lookup (is_at (path_cmp q)) places)
    (λ is. absurd (false≢true (ap is_unlinking (done_is (UnlinkLock q.0 q.1) step is)))) (told q)

abbrev is_renaming : Op × Reply → Bool
is_renaming (Rename krate from to, Done) = true
is_renaming step = false

pub back_next : (step : Op × Reply) (steps : Steps) (old new : List ((Path × Text) × ℕ)) → IsBackBy step (length steps) old new → AreBack steps old → AreBack (step ∷ steps) new
back_next (Rename k from to, Done) steps old new (inl w) told krate entry m named =
    let n = w.0 in
    let hash = w.1 in
    let there : from ≡ final_text n hash = w.4 in
    subst (λ places. Tells (HasAny (IsBack krate entry m)) ((Rename k from to, Done) ∷ steps) (lookup (is_at (file_cmp ((krate, entry), lock_text m))) places)) (sym w.5)
    (put_at file_cmp file_cmp_total file_exact (IsBack krate entry m) (Rename k from to, Done) steps ((k, to), lock_text n) ((krate, entry), lock_text m) old (told krate entry m named)
    (λ same.
    let its : n ≡ m = same_lock_text n m (sym (ap (λ p. p.1) same)) in
    let name : from ≡ final_text m hash = there ∙ ap (λ n. final_text n hash) its in
    let ks : k ≡ krate = sym (ap (λ p. p.0.0) same) in
    let es : to ≡ entry = sym (ap (λ p. p.0.1) same) in
    (hash, w.3, λ i. Rename (ks i) (name i) (es i)))
    (λ is.
    let its : m ≡ n = same_final_name m n is.0 hash (sym (ap from_of is.2) ∙ there) in
    let ks : krate ≡ k = sym (ap krate_of is.2) in
    let es : entry ≡ to = sym (ap to_of is.2) in
    λ i. ((ks i, es i), lock_text (its i))))
  where
    from_of : Op → Text
    from_of (Rename a b d) = b
    from_of op = []

    krate_of : Op → Text
    krate_of (Rename a b d) = a
    krate_of op = []

    to_of : Op → Text
    to_of (Rename a b d) = d
    to_of op = []
back_next (Rename k from to, Done) steps old new (inr w) told krate entry m named =
    subst (λ places. Tells (HasAny (IsBack krate entry m)) ((Rename k from to, Done) ∷ steps) (lookup (is_at (file_cmp ((krate, entry), lock_text m))) places)) (sym w.1)
    (any_still (IsBack krate entry m) (Rename k from to, Done) steps (lookup (is_at (file_cmp ((krate, entry), lock_text m))) old)
    (λ is. w.0 m is.0 named is.1 (ap from_of is.2)) (told krate entry m named))
  where
    from_of : Op → Text
    from_of (Rename a b d) = b
    from_of op = []
back_next step steps old new by told krate entry m named =
    subst (λ places. Tells (HasAny (IsBack krate entry m)) (step ∷ steps) (lookup (is_at (file_cmp ((krate, entry), lock_text m))) places)) (sym by)
    (any_still (IsBack krate entry m) step steps (lookup (is_at (file_cmp ((krate, entry), lock_text m))) old)
    (λ is. absurd (false≢true (ap is_renaming (done_is (Rename krate (final_text m is.0) entry) step is.2)))) (told krate entry m named))

-- ---- The newest that was listed.

in_take : (names : List Text) (i : ℕ) (x d : Text) → i < length names → IsIn (take i names) x → IsIn (take (i + 1) names) x
in_take names i x d within is = subst (λ ns. IsIn ns x) (sym (take_more names i d within)) (in_left (take i names) (get_or names i d ∷ []) x is)

in_this : (names : List Text) (i : ℕ) (name x : Text) → i < length names → name ≡ get_or names i name → name ≡ x → IsIn (take (i + 1) names) x
in_this names i name x within at is = subst (λ ns. IsIn ns x) (sym (take_more names i name within)) (in_end (take i names) (get_or names i name) x (sym at ∙ is))

-- more was seen where a `Look` lists it
newer_more : (k : Text) (names : List Text) (steps : Steps) (krate : Text) (n : SessionName) → HasNewer krate n ((Look k, Names names) ∷ steps)
    → HasNewer krate n steps ⊎ ((k ≡ krate) × ListsNewer names n)
newer_more k names steps krate n (m, hash, named, small, inl is, newer) = inr (is.0, (m, hash, named, small, is.1, newer))
newer_more k names steps krate n (m, hash, named, small, inr any, newer) = inl (m, hash, named, small, any, newer)

newer_still : (krate : Text) (n : SessionName) (step : Op × Reply) (steps : Steps) → HasNewer krate n steps → HasNewer krate n (step ∷ steps)
newer_still krate n step steps w = (w.0, w.1, w.2, w.3, inr w.4, w.5)

-- a step that is no listing shows nothing
newer_not : (krate : Text) (n : SessionName) (step : Op × Reply) (steps : Steps) → ((entry : Text) → IsLook krate entry step → ⊥) → HasNewer krate n (step ∷ steps) → HasNewer krate n steps
newer_not krate n step steps off (m, hash, named, small, inl is, newer) = absurd (off (final_text m hash) is)
newer_not krate n step steps off (m, hash, named, small, inr any, newer) = (m, hash, named, small, any, newer)

same_newest : (step : Op × Reply) (steps : Steps) (old new : List (Text × SessionName)) → ((krate entry : Text) → IsLook krate entry step → ⊥) → new ≡ old
    → AreNewest steps old → AreNewest (step ∷ steps) new
same_newest step steps old new off same told krate n =
    subst (λ newest. HasNewer krate n (step ∷ steps) ↔ IsNewerOf (lookup (is_at (text_cmp krate)) newest) n) (sym same)
    (λ has. (told krate n).0 (newer_not krate n step steps (off krate) has), λ is. newer_still krate n step steps ((told krate n).1 is))

pub newest_next : (step : Op × Reply) (steps : Steps) (old new : List (Text × SessionName)) → IsNewestBy step old new → AreNewest steps old → AreNewest (step ∷ steps) new
newest_next (Look k, Names names) steps old new by told krate n = (
  λ has. (by krate n).1 (one_more (λ was. inl ((told krate n).0 was)) inr (newer_more k names steps krate n has)),
  λ is. one_more (λ was. newer_still krate n (Look k, Names names) steps ((told krate n).1 was)) now ((by krate n).0 is),
)
  where
    now : (k ≡ krate) × ListsNewer names n → HasNewer krate n ((Look k, Names names) ∷ steps)
    now w = let l = w.1 in (l.0, l.1, l.2, l.3, inl (w.0, l.4), l.5)
newest_next step steps old new by told krate n = same_newest step steps old new (λ krate entry is. is) by told krate n

-- the newest of these is put
pub newest_put : (krate k : Text) (names : List Text) (before : Option SessionName) (m : SessionName) (old new : List (Text × SessionName))
    → ((n : SessionName) → IsNewer m n ↔ (IsNewerOf before n ⊎ ListsNewer names n)) → before ≡ lookup (is_at (text_cmp krate)) old → k ≡ krate
    → new ≡ insert_entry text_cmp old k m → IsNewestWith krate names old new
newest_put krate k names before m old new f was same is q n = subst Says (sym (is ∙ ap (λ k. insert_entry text_cmp old k m) same)) (go (same_texts q krate))
  where
    Says : List (Text × SessionName) → Type 0
    Says newest = IsNewerOf (lookup (is_at (text_cmp q)) newest) n ↔ (IsNewerOf (lookup (is_at (text_cmp q)) old) n ⊎ ((krate ≡ q) × ListsNewer names n))

    go : (q ≡ krate) ⊎ (is_eq (text_cmp q krate) ≡ false) → Says (insert_entry text_cmp old krate m)
    go (inl here) =
        let found : lookup (is_at (text_cmp q)) (insert_entry text_cmp old krate m) ≡ Some m =
        subst (λ k. lookup (is_at (text_cmp q)) (insert_entry text_cmp old k m) ≡ Some m) here (lookup_here text_cmp nat_list_cmp_total old q m) in
        let its : before ≡ lookup (is_at (text_cmp q)) old = was ∙ ap (λ k. lookup (is_at (text_cmp k)) old) (sym here) in (
          λ newer. one_more (λ b. inl (subst (λ o. IsNewerOf o n) its b)) (λ l. inr (sym here, l)) ((f n).0 (subst (λ o. IsNewerOf o n) found newer)),
          λ any. subst (λ o. IsNewerOf o n) (sym found) ((f n).1 (one_more (λ b. inl (subst (λ o. IsNewerOf o n) (sym its) b)) (λ w. inr w.1) any)),
        )
    go (inr apart) =
        let there = lookup_there text_cmp nat_list_cmp_total old krate q m apart in (
          λ newer. inl (subst (λ o. IsNewerOf o n) there newer),
          λ any. subst (λ o. IsNewerOf o n) (sym there)
              (one_more (λ b. b) (λ w. absurd (itself text_cmp nat_list_cmp_total q (subst (λ k. is_eq (text_cmp q k) ≡ false) w.0 apart))) any),
        )

-- of no names,
pub lists_none : (n : SessionName) (before : Option SessionName) → IsNewerOf before n ↔ (IsNewerOf before n ⊎ ListsNewer [] n)
lists_none n before = (inl, one_more (λ was. was) (λ w. absurd w.4))

-- of one more,
pub lists_newer_more : (names : List Text) (i : ℕ) (name : Text) (n : SessionName) (before newest next : Option SessionName) → i < length names → name ≡ get_or names i name
    → IsNewerOf newest n ↔ (IsNewerOf before n ⊎ ListsNewer (take i names) n)
    → IsNewerOf next n ↔ (IsNewerOf newest n ⊎ ((m : SessionName) × (hash : ℕ) × IsSessionName m × IsHash hash × (name ≡ final_text m hash) × IsNewer m n))
    → IsNewerOf next n ↔ (IsNewerOf before n ⊎ ListsNewer (take (i + 1) names) n)
lists_newer_more names i name n before newest next within at was now = (
  λ is. one_more (λ older. one_more inl (λ w. inr (first w)) (was.0 older)) (λ w. inr (this w)) (now.0 is),
  λ any. now.1 (one_more (λ old. inl (was.1 (inl old))) (λ w. split w (in_more names i name (final_text w.0 w.1) within w.4)) any),
)
  where
    first : ListsNewer (take i names) n → ListsNewer (take (i + 1) names) n
    first w = (w.0, w.1, w.2, w.3, in_take names i (final_text w.0 w.1) name within w.4, w.5)

    this : (m : SessionName) × (hash : ℕ) × IsSessionName m × IsHash hash × (name ≡ final_text m hash) × IsNewer m n → ListsNewer (take (i + 1) names) n
    this w = (w.0, w.1, w.2, w.3, in_this names i name (final_text w.0 w.1) within at w.4, w.5)

    split : (w : ListsNewer (take (i + 1) names) n) → IsIn (take i names) (final_text w.0 w.1) ⊎ (get_or names i name ≡ final_text w.0 w.1)
        → IsNewerOf newest n ⊎ ((m : SessionName) × (hash : ℕ) × IsSessionName m × IsHash hash × (name ≡ final_text m hash) × IsNewer m n)
    split w (inl is) = inl (was.1 (inr (w.0, w.1, w.2, w.3, is, w.5)))
    split w (inr is) = inr (w.0, w.1, w.2, w.3, at ∙ is, w.5)

-- of all
pub lists_newer_all : {A : Type 0} (names : List Text) (i : ℕ) (n : SessionName) {B : Type 0} → length names ≤ i → A ↔ (B ⊎ ListsNewer (take i names) n) → A ↔ (B ⊎ ListsNewer names n)
lists_newer_all {A} names i n {B} past f = subst (λ ns. A ↔ (B ⊎ ListsNewer ns n)) (take_all i names past) f

-- ---- Of no steps, and of a place.

pub nothing_told : (P : Op × Reply → Type 0) → Tells (HasAny P) [] None
nothing_told P [] before is = (λ none. none, λ none. none)
nothing_told P (x ∷ after) before is = absurd (cc)

pub newest_none : AreNewest [] []
newest_none krate n = (λ w. absurd w.4, λ is. absurd is)

-- a step that says nothing
pub newest_before : (step : Op × Reply) (steps : Steps) (newest : List (Text × SessionName)) → ((krate entry : Text) → IsLook krate entry step → ⊥)
    → AreNewest (step ∷ steps) newest → AreNewest steps newest
newest_before step steps newest off told krate n =
    (λ has. (told krate n).0 (newer_still krate n step steps has), λ is. newer_not krate n step steps (off krate) ((told krate n).1 is))

-- ---- Answers from when things were said last.

-- one of two
pub either_told : (Says Tell : Steps → Type 0) (steps : Steps) (x y at : Option ℕ) → IsLater x y at → Tells Says steps x → Tells Tell steps y → Tells (λ after. Says after ⊎ Tell after) steps at
either_told Says Tell steps x y at later one other after before is =
    let a = one after before is in
    let b = other after before is in
    let l = later (length before) in (
      λ any. l.1 (one_more (λ s. inl (a.0 s)) (λ t. inr (b.0 t)) any),
      λ since. one_more (λ s. inl (a.1 s)) (λ t. inr (b.1 t)) (l.0 since),
    )

-- whether it was ever said
pub ever_told : (Says : Steps → Type 0) (steps : Steps) (at : Option ℕ) → Tells Says steps at → (b : Bool) → b ≡ is_some at → IsTrue b ↔ Says steps
ever_told Says steps at told b is = go at is (told steps [] (sym (append_nil steps)))
  where
    append_nil : (ss : Steps) → ss ++ [] ≡ ss
    append_nil [] = refl
    append_nil (s ∷ ss) = ap (λ t. s ∷ t) (append_nil ss)

    go : (at : Option ℕ) → b ≡ is_some at → Says steps ↔ IsSince at 0 → IsTrue b ↔ Says steps
    go None is f = (λ yes. absurd (false≢true (sym is ∙ yes)), λ says. absurd (f.0 says))
    go (Some at) is f = (λ yes. f.1 (omega arith), λ says. is)

-- it was said within the steps
within_steps : (P : Op × Reply → Type 0) (steps : Steps) (at : ℕ) → Tells (HasAny P) steps (Some at) → at < length steps
within_steps P steps at told = go (less_or_not at (length steps))
  where
    less_or_not : (m n : ℕ) → (m < n) ⊎ (n ≤ m)
    less_or_not m n = grind arith

    go : (at < length steps) ⊎ (length steps ≤ at) → at < length steps
    go (inl less) = less
    go (inr past) = absurd ((told [] steps refl).1 past)

any_weaker : (P Q : Op × Reply → Type 0) → ((step : Op × Reply) → P step → Q step) → (steps : Steps) → HasAny P steps → HasAny Q steps
any_weaker P Q f [] any = any
any_weaker P Q f (step ∷ steps) (inl is) = inl (f step is)
any_weaker P Q f (step ∷ steps) (inr any) = inr (any_weaker P Q f steps any)

-- two things that were said last at one place were said by one step there
said_at : (P Q : Op × Reply → Type 0) (steps : Steps) (at : ℕ) → Tells (HasAny P) steps (Some at) → Tells (HasAny Q) steps (Some at) → Tells (HasAny (λ step. P step × Q step)) steps (Some at)
said_at P Q [] at p q = absurd ((p [] [] refl).1 (omega arith))
said_at P Q (s ∷ ss) at p q =
    go (said_at P Q ss at) (here_or_before at (length ss) (within_steps P (s ∷ ss) at p))
  where
    here_or_before : (m n : ℕ) → m < suc n → (m ≡ n) ⊎ (m < n)
    here_or_before m n less = grind arith

    only : (R : Op × Reply → Type 0) → HasAny R (s ∷ []) → R s
    only R (inl is) = is
    only R (inr none) = absurd none

    off : (R : Op × Reply → Type 0) → Tells (HasAny R) (s ∷ ss) (Some at) → at < length ss → R s → ⊥
    off R told less is = let le : length ss ≤ at = (told (s ∷ []) ss refl).0 (inl is) in absurd (omega arith)

    now : (R : Op × Reply → Type 0) → Tells (HasAny R) (s ∷ ss) (Some at) → at ≡ length ss → R s
    now R told same = only R ((told (s ∷ []) ss refl).1 (let le : length ss ≤ at = omega arith in le))

    go : (Tells (HasAny P) ss (Some at) → Tells (HasAny Q) ss (Some at) → Tells (HasAny (λ step. P step × Q step)) ss (Some at)) → (at ≡ length ss) ⊎ (at < length ss)
        → Tells (HasAny (λ step. P step × Q step)) (s ∷ ss) (Some at)
    go rec (inl same) =
        subst (λ n. Tells (HasAny (λ step. P step × Q step)) (s ∷ ss) (Some n)) (sym same)
        (any_now (λ step. P step × Q step) s ss (now P p same, now Q q same))
    go rec (inr less) =
        any_still (λ step. P step × Q step) s ss (Some at) (λ w. off P p less w.0)
        (rec (told_before (HasAny P) s ss (Some at) (any_same P s (off P p less)) p) (told_before (HasAny Q) s ss (Some at) (any_same Q s (off Q q less)) q))

-- what is never said isn't said with anything else
never_both : (P R : Op × Reply → Type 0) (steps : Steps) → ((step : Op × Reply) → R step → P step) → Tells (HasAny P) steps None → Tells (HasAny R) steps None
never_both P R steps f told after before is = (λ any. (told after before is).0 (any_weaker R P f after any), λ none. absurd none)

-- both at once
pub both_told : (P Q : Op × Reply → Type 0) (steps : Steps) (x y : Option ℕ) (told : Told) → IsBoth x y told → Tells (HasAny P) steps x → Tells (HasAny Q) steps y
    → IsTold (HasAny (λ step. P step × Q step)) steps told
both_told P Q steps None y told is p q =
    subst (IsTold (HasAny (λ step. P step × Q step)) steps) (sym is) (never_both P (λ step. P step × Q step) steps (λ step w. w.0) p)
both_told P Q steps (Some x) None told is p q =
    subst (IsTold (HasAny (λ step. P step × Q step)) steps) (sym is) (never_both Q (λ step. P step × Q step) steps (λ step w. w.1) q)
both_told P Q steps (Some x) (Some y) told (inl w) p q =
    subst (IsTold (HasAny (λ step. P step × Q step)) steps) (sym w.1)
    (said_at P Q steps x p (subst (λ m. Tells (HasAny Q) steps (Some m)) (sym w.0) q))
both_told P Q steps (Some x) (Some y) told (inr is) p q =
    subst (IsTold (HasAny (λ step. P step × Q step)) steps) (sym is) (λ after before split none. absurd none)

-- ---- A lock file that stands.

look_or_unlinked : (krate entry : Text) (step : Op × Reply) → IsLook krate entry step → IsDone (UnlinkLock krate entry) step → ⊥
look_or_unlinked krate entry (Look k, Names names) look done = done
look_or_unlinked krate entry step look done = look

since_or_not : (at : Option ℕ) (n : ℕ) → IsSince at n ⊎ (IsSince at n → ⊥)
since_or_not None n = inr (λ none. none)
since_or_not (Some at) n = le_or_not n at
  where
    le_or_not : (m n : ℕ) → (m ≤ n) ⊎ (m ≤ n → ⊥)
    le_or_not m n = grind arith

-- it was said by the latest step, and is still so
still_now : (said taken at : Option ℕ) (n : ℕ) → IsStill said taken at → ((s : ℕ) → said ≡ Some s → s < suc n) → IsSince said n → (IsSince taken n → ⊥) → at ≡ Some n
still_now None taken at n is within since off = absurd since
still_now (Some said) None at n is within since off =
    let same : said ≡ n = omega (arith, within said refl, since) in
    is ∙ ap Some same
still_now (Some said) (Some taken) at n (inl w) within since off =
    let same : said ≡ n = omega (arith, within said refl, since) in
    w.1 ∙ ap Some same
still_now (Some said) (Some taken) at n (inr w) within since off = absurd (off (omega (arith, since, w.0)))

-- it was taken back by the latest step
still_gone : (said taken at : Option ℕ) (n : ℕ) → IsStill said taken at → (IsSince said n → ⊥) → IsSince taken n → at ≡ None
still_gone None taken at n is off since = is
still_gone (Some said) None at n is off since = absurd since
still_gone (Some said) (Some taken) at n (inl w) off since = absurd (off (omega (arith, since, w.0)))
still_gone (Some said) (Some taken) at n (inr w) off since = w.1

still_none : (said taken at : Option ℕ) → IsStill said taken at → (IsSince said 0 → ⊥) → IsSince at 0 → ⊥
still_none None taken at is off since = subst (λ o. IsSince o 0) is since
still_none (Some said) taken at is off since = off (omega arith)

-- it stands by when it was seen, and when it was taken away
pub still_told : (krate entry : Text) (steps : Steps) (said taken at : Option ℕ) → IsStill said taken at → Tells (HasLooked krate entry) steps said
    → Tells (HasDone (UnlinkLock krate entry)) steps taken → Tells (IsStanding krate entry) steps at
still_told krate entry [] said taken at is looked done [] before split =
    (λ none. absurd none, λ since. still_none said taken at is (looked [] [] refl).1 (subst (λ ss. IsSince at (length ss)) (sym split) since))
still_told krate entry [] said taken at is looked done (x ∷ after) before split = absurd (cc)
still_told krate entry (s ∷ ss) said taken at is looked done later earlier whole = go (still_told krate entry ss said taken at is) (since_or_not said (length ss)) (since_or_not taken (length ss)) later earlier whole
  where
    only : (R : Op × Reply → Type 0) → HasAny R (s ∷ []) → R s
    only R (inl is) = is
    only R (inr none) = absurd none

    Stands : Steps → Type 0
    Stands = IsStanding krate entry

    within : (m : ℕ) → said ≡ Some m → m < suc (length ss)
    within m same = within_steps (IsLook krate entry) (s ∷ ss) m (subst (Tells (HasLooked krate entry) (s ∷ ss)) same looked)

    never : IsDone (UnlinkLock krate entry) s → Tells Stands (s ∷ ss) None
    never is [] before split = (λ none. none, λ none. none)
    never is (x ∷ after) before split =
        let same : s ≡ x = cc in
        let taken_x = subst (IsDone (UnlinkLock krate entry)) same is in
        (one_more (λ look. absurd (look_or_unlinked krate entry x look taken_x)) (λ w. absurd (w.0 taken_x)), λ none. absurd none)

    go : (Tells (HasLooked krate entry) ss said → Tells (HasDone (UnlinkLock krate entry)) ss taken → Tells Stands ss at) → IsSince said (length ss) ⊎ (IsSince said (length ss) → ⊥)
        → IsSince taken (length ss) ⊎ (IsSince taken (length ss) → ⊥) → Tells Stands (s ∷ ss) at
    go rec (inl since) (inl since_taken) =
        absurd (look_or_unlinked krate entry s (only (IsLook krate entry) ((looked (s ∷ []) ss refl).1 since)) (only (IsDone (UnlinkLock krate entry)) ((done (s ∷ []) ss refl).1 since_taken)))
    go rec (inl since) (inr not_taken) =
        subst (Tells Stands (s ∷ ss)) (sym (still_now said taken at (length ss) is within since not_taken))
        (told_now Stands s ss (λ none. none) (λ after. inl (only (IsLook krate entry) ((looked (s ∷ []) ss refl).1 since))))
    go rec (inr not_seen) (inl since_taken) =
        subst (Tells Stands (s ∷ ss)) (sym (still_gone said taken at (length ss) is not_seen since_taken))
        (never (only (IsDone (UnlinkLock krate entry)) ((done (s ∷ []) ss refl).1 since_taken)))
    go rec (inr not_seen) (inr not_taken) =
        let no_look : IsLook krate entry s → ⊥ = λ look. not_seen ((looked (s ∷ []) ss refl).0 (inl look)) in
        let no_taking : IsDone (UnlinkLock krate entry) s → ⊥ = λ it. not_taken ((done (s ∷ []) ss refl).0 (inl it)) in
        told_still Stands s ss at (λ none. none) (λ after. (one_more (λ look. absurd (no_look look)) (λ w. w.1), λ stands. inr (no_taking, stands)))
        (rec (told_before (HasLooked krate entry) s ss said (any_same (IsLook krate entry) s no_look) looked)
        (told_before (HasDone (UnlinkLock krate entry)) s ss taken (any_same (IsDone (UnlinkLock krate entry)) s no_taking) done))
