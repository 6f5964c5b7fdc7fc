-- Which directories of a session are left, brought forward by one more step.
use Rattle.std.specs.Prelude.{◌≡◌, ◌⊎◌, ◌≤◌, ◌<◌, ◌+◌, ◌++◌, ◌&&◌, ℕ, suc, List, [], ◌∷◌, length, Bool, true, false, not, cond, refl, Option, Some, None, IfSome}
use Rattle.std.proofs.Common.{ap, sym, ◌∙◌, subst, inl, inr, arith, eq-eqb, get_or, take, drop, length-append}
use Rattle.std.proofs.lemmas.Bool.{false≢true}
use Rattle.std.proofs.lemmas.List.{take_more, take_all}
use Rattle.std.specs.Ordering.{is_eq}
use Rattle.std.specs.Map.{lookup}
use Rattle.std.specs.BTreeMap.{insert_entry, is_at}
use Rattle.inc_fs.specs.Lists.{IsIn, remove_entry}
use Rattle.inc_fs.specs.Lookups.{lookup_here, lookup_there, removed_here, removed_there, path_cmp_total, same_paths, same_bytes}
use Rattle.inc_fs.specs.Paths.{Text, Path, path_cmp}
use Rattle.inc_fs.specs.declared.op.Op.{Op}
use Rattle.inc_fs.specs.declared.op.Op.TheVariants.{Draw, Look, MakeDir, RemoveDir, Rename}
use Rattle.inc_fs.specs.declared.op.Reply.{Reply}
use Rattle.inc_fs.specs.declared.op.Reply.TheVariants.{Names, Done, Fault}
use Rattle.inc_names.specs.declared.session.SessionName.{SessionName}
use Rattle.inc_names.specs.Entries.{lock_text, working_text, final_text, IsSessionName}
use Rattle.inc_names.specs.EntryLaws.{same_working_text, same_final_name, working_is_no_final}
use Rattle.inc_proto.specs.Clears.{HasClearLook}
use Rattle.inc_proto.specs.declared.index.Left.{Left}
use Rattle.inc_proto.specs.Events.{Steps}
use Rattle.inc_proto.specs.Lefts.{IsDirOf, IsLeft, AreLeft, Was, IsLocked, IsWith, IsWithout, IsLeftBy}
use Rattle.inc_proto.specs.Views.{same_text, without, left_by, left_after}
use Rattle.inc_proto.proofs.Anys.{in_left, in_right, in_either, in_end, in_last}
use Rattle.inc_proto.proofs.Tells.{one_more, itself, set_here, set_there}

at_some : {A : Type 0} (P : A → Type 0) (o : Option A) (x : A) → o ≡ Some x → IfSome o P → P x
at_some P o x is f = subst (λ o. IfSome o P) is f

if_some : {A : Type 0} (P Q : A → Type 0) (o : Option A) → ((x : A) → P x → Q x) → IfSome o P → IfSome o Q
if_some P Q None f is = is
if_some P Q (Some x) f is = f x is

pair_of : {k krate l lock : Text} → k ≡ krate → l ≡ lock → ◌≡◌ {A = Path} (k, l) (krate, lock)
pair_of ks ls = λ i. (ks i, ls i)

-- a directory is of one session
one_session : (m n : SessionName) (d : Text) → IsDirOf m d → IsDirOf n d → m ≡ n
one_session m n d (inl x) (inl y) = same_working_text m n (sym x ∙ y)
one_session m n d (inl x) (inr y) = absurd (working_is_no_final m n y.0 (sym x ∙ y.2))
one_session m n d (inr x) (inl y) = absurd (working_is_no_final n m x.0 (sym y ∙ x.2))
one_session m n d (inr x) (inr y) = same_final_name m n x.0 y.0 (sym x.2 ∙ y.2)

-- ---- Lock files that are listed.

kept_same : (k : Text) (names : List Text) (at : ℕ) (lefts : List (Path × Left)) → IsLocked k names at lefts lefts
kept_same k names at lefts krate n named = go (lookup (is_at (path_cmp (krate, lock_text n))) lefts)
  where
    go : (o : Option Left) → IfSome o (λ left. ((krate ≡ k) × IsIn names (lock_text n) × (left.at ≡ at)) ⊎ (o ≡ Some left))
    go None = tt
    go (Some left) = inr refl

-- a name that is no lock file's
pub locked_same : (k : Text) (names : List Text) (at : ℕ) (old new : List (Path × Left)) → new ≡ old → IsLocked k names at old new
locked_same k names at old new same = subst (IsLocked k names at old) (sym same) (kept_same k names at old)

-- one more is listed
pub locked_put : (k name : Text) (at : ℕ) (left : Left) (path : Path) (old new : List (Path × Left)) → path ≡ (k, name) → left.at ≡ at → new ≡ insert_entry path_cmp old path left
    → IsLocked k (name ∷ []) at old new
locked_put k name at left path old new path_is place is krate n named =
    subst Says (sym (is ∙ ap (λ p. insert_entry path_cmp old p left) path_is)) (go (same_paths q (k, name)))
  where
    q : Path
    q = (krate, lock_text n)

    P : Left → Type 0
    P its = ((krate ≡ k) × IsIn (name ∷ []) (lock_text n) × (its.at ≡ at)) ⊎ (lookup (is_at (path_cmp (krate, lock_text n))) old ≡ Some its)

    Says : List (Path × Left) → Type 0
    Says lefts = IfSome (lookup (is_at (path_cmp (krate, lock_text n))) lefts) P

    go : (◌≡◌ {A = Path} (krate, lock_text n) (k, name)) ⊎ (is_eq (path_cmp (krate, lock_text n) (k, name)) ≡ false) → Says (insert_entry path_cmp old (k, name) left)
    go (inl same) =
        subst (λ p. Says (insert_entry path_cmp old p left)) same
        (subst (λ o. IfSome o P) (sym (lookup_here path_cmp path_cmp_total old (krate, lock_text n) left)) (inl (ap (λ p. p.0) same, inl (sym (ap (λ p. p.1) same)), place)))
    go (inr apart) =
        subst (λ o. IfSome o P) (sym (lookup_there path_cmp path_cmp_total old (k, name) (krate, lock_text n) left apart)) (kept_same k (name ∷ []) at old krate n named)

locked_more : (k : Text) (xs ys : List Text) (at : ℕ) (a b c : List (Path × Left)) → IsLocked k xs at a b → IsLocked k ys at b c → IsLocked k (xs ++ ys) at a c
locked_more k xs ys at a b c first then krate n named =
    if_some _ _ (lookup (is_at (path_cmp (krate, lock_text n))) c)
    (λ left. one_more (λ w. inl (w.0, in_right xs ys (lock_text n) w.1, w.2)) (λ is. one_more (λ w. inl (w.0, in_left xs ys (lock_text n) w.1, w.2)) inr (at_some _ _ left is (first krate n named))))
    (then krate n named)

pub locked_none : (k : Text) (at : ℕ) (lefts : List (Path × Left)) → IsLocked k [] at lefts lefts
locked_none k at lefts = kept_same k [] at lefts

pub locked_next : (k : Text) (names : List Text) (i : ℕ) (name : Text) (at : ℕ) (a b c : List (Path × Left)) → i < length names → name ≡ get_or names i name
    → IsLocked k (take i names) at a b → IsLocked k (name ∷ []) at b c → IsLocked k (take (i + 1) names) at a c
locked_next k names i name at a b c within same first then =
    subst (λ ns. IsLocked k ns at a c) (ap (λ x. take i names ++ x ∷ []) same ∙ sym (take_more names i name within)) (locked_more k (take i names) (name ∷ []) at a b c first then)

pub locked_all : (k : Text) (names : List Text) (i : ℕ) (at : ℕ) (a b : List (Path × Left)) → length names ≤ i → IsLocked k (take i names) at a b → IsLocked k names at a b
locked_all k names i at a b past is = subst (λ ns. IsLocked k ns at a b) (take_all i names past) is

-- ---- Directories that are there.

-- nothing is kept of n, or it is kept as it was
with_kept : (k : Text) (names : List Text) (old : List (Path × Left)) (krate : Text) (n : SessionName) → ((d : Text) → (krate ≡ k) × IsDirOf n d × IsIn names d → ⊥) → (o : Option Left)
    → o ≡ lookup (is_at (path_cmp (krate, lock_text n))) old
    → IfSome o (λ left. (was : Left) × Was krate n old was left × ((d : Text) → IsIn was.dirs d ⊎ ((krate ≡ k) × IsDirOf n d × IsIn names d) → IsIn left.dirs d))
with_kept k names old krate n off None is = tt
with_kept k names old krate n off (Some left) is = (left, (sym is, refl), λ d. one_more (λ there. there) (λ w. absurd (off d w)))

pub with_none : (k : Text) (lefts : List (Path × Left)) → IsWith k [] lefts lefts
with_none k lefts krate n named = with_kept k [] lefts krate n (λ d w. w.2) (lookup (is_at (path_cmp (krate, lock_text n))) lefts) refl

-- a name that is no directory's
pub with_same : (k dir : Text) (lefts : List (Path × Left)) → ((n : SessionName) → IsSessionName n → IsDirOf n dir → ⊥) → IsWith k (dir ∷ []) lefts lefts
with_same k dir lefts off krate n named =
    with_kept k (dir ∷ []) lefts krate n (λ d w. off n named (one_more (λ is. subst (IsDirOf n) (sym is) w.1) (λ none. absurd none) w.2)) (lookup (is_at (path_cmp (krate, lock_text n))) lefts) refl

-- one more directory of n is there
pub with_put : (k dir : Text) (n : SessionName) (its next : Left) (path : Path) (old rest new : List (Path × Left)) → path ≡ (k, lock_text n)
    → Some its ≡ lookup (is_at (path_cmp path)) old → rest ≡ remove_entry (is_at (path_cmp path)) old → next.at ≡ its.at → next.dirs ≡ its.dirs ++ dir ∷ []
    → new ≡ insert_entry path_cmp rest path next → IsDirOf n dir → IsWith k (dir ∷ []) old new
with_put k dir n its next path old rest new path_is found rest_is place dirs new_is dir_is krate m named =
    subst Says (sym (new_is ∙ ap (λ es. insert_entry path_cmp es path next) rest_is)) (go (same_paths (krate, lock_text m) path))
  where
    P : Left → Type 0
    P left = (was : Left) × Was krate m old was left × ((d : Text) → IsIn was.dirs d ⊎ ((krate ≡ k) × IsDirOf m d × IsIn (dir ∷ []) d) → IsIn left.dirs d)

    Says : List (Path × Left) → Type 0
    Says lefts = IfSome (lookup (is_at (path_cmp (krate, lock_text m))) lefts) P

    more : (d : Text) → IsIn its.dirs d ⊎ ((krate ≡ k) × IsDirOf m d × IsIn (dir ∷ []) d) → IsIn next.dirs d
    more d any = subst (λ ds. IsIn ds d) (sym dirs) (one_more (λ is. in_left its.dirs (dir ∷ []) d is) (λ w. one_more (λ is. in_end its.dirs dir d is) (λ none. absurd none) w.2) any)

    go : (◌≡◌ {A = Path} (krate, lock_text m) path) ⊎ (is_eq (path_cmp (krate, lock_text m) path) ≡ false) → Says (insert_entry path_cmp (remove_entry (is_at (path_cmp path)) old) path next)
    go (inl same) =
        let here : lookup (is_at (path_cmp (krate, lock_text m))) (insert_entry path_cmp (remove_entry (is_at (path_cmp path)) old) path next) ≡ Some next =
        subst (λ p. lookup (is_at (path_cmp p)) (insert_entry path_cmp (remove_entry (is_at (path_cmp path)) old) path next) ≡ Some next) (sym same) (set_here path_cmp path_cmp_total old path next) in
        let was : lookup (is_at (path_cmp (krate, lock_text m))) old ≡ Some its = ap (λ p. lookup (is_at (path_cmp p)) old) same ∙ sym found in
        subst (λ o. IfSome o P) (sym here) (its, (was, place), more)
    go (inr apart) =
        let off : (d : Text) → (krate ≡ k) × IsDirOf m d × IsIn (dir ∷ []) d → ⊥ = λ d w.
        let its_dir : IsDirOf m dir = one_more (λ is. subst (IsDirOf m) (sym is) w.1) (λ none. absurd none) w.2 in
        let one : m ≡ n = one_session m n dir its_dir dir_is in
        let same : path ≡ (krate, lock_text m) = path_is ∙ pair_of (sym w.0) (ap lock_text (sym one)) in
        itself path_cmp path_cmp_total (krate, lock_text m) (subst (λ p. is_eq (path_cmp (krate, lock_text m) p) ≡ false) same apart) in
        subst (λ o. IfSome o P) (sym (set_there path_cmp path_cmp_total old path (krate, lock_text m) next apart))
        (with_kept k (dir ∷ []) old krate m off (lookup (is_at (path_cmp (krate, lock_text m))) old) refl)

-- nothing is kept of n, so nothing is added
pub with_gone : (k dir : Text) (n : SessionName) (path : Path) (old rest : List (Path × Left)) → path ≡ (k, lock_text n) → rest ≡ remove_entry (is_at (path_cmp path)) old
    → IsDirOf n dir → IsWith k (dir ∷ []) old rest
with_gone k dir n path old rest path_is rest_is dir_is krate m named = subst Says (sym rest_is) (go (same_paths (krate, lock_text m) path))
  where
    P : Left → Type 0
    P left = (was : Left) × Was krate m old was left × ((d : Text) → IsIn was.dirs d ⊎ ((krate ≡ k) × IsDirOf m d × IsIn (dir ∷ []) d) → IsIn left.dirs d)

    Says : List (Path × Left) → Type 0
    Says lefts = IfSome (lookup (is_at (path_cmp (krate, lock_text m))) lefts) P

    go : (◌≡◌ {A = Path} (krate, lock_text m) path) ⊎ (is_eq (path_cmp (krate, lock_text m) path) ≡ false) → Says (remove_entry (is_at (path_cmp path)) old)
    go (inl same) =
        let here : lookup (is_at (path_cmp (krate, lock_text m))) (remove_entry (is_at (path_cmp path)) old) ≡ None =
        subst (λ p. lookup (is_at (path_cmp p)) (remove_entry (is_at (path_cmp path)) old) ≡ None) (sym same) (removed_here path_cmp path_cmp_total old path) in
        subst (λ o. IfSome o P) (sym here) tt
    go (inr apart) =
        let off : (d : Text) → (krate ≡ k) × IsDirOf m d × IsIn (dir ∷ []) d → ⊥ = λ d w.
        let its_dir : IsDirOf m dir = one_more (λ is. subst (IsDirOf m) (sym is) w.1) (λ none. absurd none) w.2 in
        let one : m ≡ n = one_session m n dir its_dir dir_is in
        let same : path ≡ (krate, lock_text m) = path_is ∙ pair_of (sym w.0) (ap lock_text (sym one)) in
        itself path_cmp path_cmp_total (krate, lock_text m) (subst (λ p. is_eq (path_cmp (krate, lock_text m) p) ≡ false) same apart) in
        subst (λ o. IfSome o P) (sym (removed_there path_cmp path_cmp_total old path (krate, lock_text m) apart))
        (with_kept k (dir ∷ []) old krate m off (lookup (is_at (path_cmp (krate, lock_text m))) old) refl)

with_more : (k : Text) (xs ys : List Text) (a b c : List (Path × Left)) → IsWith k xs a b → IsWith k ys b c → IsWith k (xs ++ ys) a c
with_more k xs ys a b c first then krate n named =
    if_some _ _ (lookup (is_at (path_cmp (krate, lock_text n))) c)
    (λ left w.
    let v = at_some _ _ w.0 w.1.0 (first krate n named) in (
      v.0,
      (v.1.0, w.1.1 ∙ v.1.1),
      λ d. one_more (λ old. w.2 d (inl (v.2 d (inl old))))
          (λ new. one_more (λ x. w.2 d (inl (v.2 d (inr (new.0, new.1, x))))) (λ y. w.2 d (inr (new.0, new.1, y))) (in_either xs ys d new.2)),
    ))
    (then krate n named)

pub with_next : (k : Text) (names : List Text) (i : ℕ) (name : Text) (a b c : List (Path × Left)) → i < length names → name ≡ get_or names i name
    → IsWith k (take i names) a b → IsWith k (name ∷ []) b c → IsWith k (take (i + 1) names) a c
with_next k names i name a b c within same first then =
    subst (λ ns. IsWith k ns a c) (ap (λ x. take i names ++ x ∷ []) same ∙ sym (take_more names i name within)) (with_more k (take i names) (name ∷ []) a b c first then)

pub with_all : (k : Text) (names : List Text) (i : ℕ) (a b : List (Path × Left)) → length names ≤ i → IsWith k (take i names) a b → IsWith k names a b
with_all k names i a b past is = subst (λ ns. IsWith k ns a b) (take_all i names past) is

-- ---- A directory that isn't there any more.

same_self : (t : Text) → same_text t t ≡ true
same_self [] = refl
same_self (x ∷ xs) = ap (λ b. b && same_text xs xs) (eq-eqb x x refl) ∙ same_self xs

in_without : (entry d : Text) (xs : List Text) → IsIn xs d → same_text d entry ≡ false → IsIn (without entry xs) d
in_without entry d [] is off = is
in_without entry d (x ∷ xs) (inl is) off =
    let keep : not (same_text x entry) ≡ true = ap (λ t. not (same_text t entry)) is ∙ ap not off in
    subst (λ b. IsIn (cond b (x ∷ without entry xs) (without entry xs)) d) (sym keep) (inl is)
in_without entry d (x ∷ xs) (inr is) off = go (not (same_text x entry)) (in_without entry d xs is off)
  where
    go : (b : Bool) → IsIn (without entry xs) d → IsIn (cond b (x ∷ without entry xs) (without entry xs)) d
    go true is = inr is
    go false is = is

not_true : (b : Bool) → not b ≡ true → b ≡ false
not_true true is = absurd (false≢true is)
not_true false is = refl

out_without : (entry d : Text) (xs : List Text) → IsIn (without entry xs) d → IsIn xs d × (same_text d entry ≡ false)
out_without entry d [] is = absurd is
out_without entry d (x ∷ xs) is = go (out_without entry d xs) (not (same_text x entry)) refl is
  where
    go : (IsIn (without entry xs) d → IsIn xs d × (same_text d entry ≡ false)) → (b : Bool) → not (same_text x entry) ≡ b
        → IsIn (cond b (x ∷ without entry xs) (without entry xs)) d → IsIn (x ∷ xs) d × (same_text d entry ≡ false)
    go rec true keep (inl is) = (inl is, subst (λ t. same_text t entry ≡ false) is (not_true (same_text x entry) keep))
    go rec true keep (inr is) = let w = rec is in (inr w.0, w.1)
    go rec false keep is = let w = rec is in (inr w.0, w.1)

-- as it was
without_kept : (k entry : Text) (old : List (Path × Left)) (krate : Text) (n : SessionName) (o : Option Left) → o ≡ lookup (is_at (path_cmp (krate, lock_text n))) old
    → IfSome o (λ left. (was : Left) × Was krate n old was left × ((d : Text) → IsIn was.dirs d → ((krate ≡ k) × (d ≡ entry)) ⊎ IsIn left.dirs d))
without_kept k entry old krate n None is = tt
without_kept k entry old krate n (Some left) is = (left, (sym is, refl), λ d there. inr there)

pub without_same : (k entry : Text) (lefts : List (Path × Left)) → IsWithout k entry lefts lefts
without_same k entry lefts krate n named = without_kept k entry lefts krate n (lookup (is_at (path_cmp (krate, lock_text n))) lefts) refl

pub without_put : (k dir : Text) (n : SessionName) (its next : Left) (path : Path) (old rest new : List (Path × Left)) → path ≡ (k, lock_text n)
    → Some its ≡ lookup (is_at (path_cmp path)) old → rest ≡ remove_entry (is_at (path_cmp path)) old → (next.at ≡ its.at) × (next.dirs ≡ without dir its.dirs)
    → new ≡ insert_entry path_cmp rest path next → IsWithout k dir old new
without_put k dir n its next path old rest new path_is found rest_is next_is new_is krate m named =
    subst Says (sym (new_is ∙ ap (λ es. insert_entry path_cmp es path next) rest_is)) (go (same_paths (krate, lock_text m) path))
  where
    P : Left → Type 0
    P left = (was : Left) × Was krate m old was left × ((d : Text) → IsIn was.dirs d → ((krate ≡ k) × (d ≡ dir)) ⊎ IsIn left.dirs d)

    Says : List (Path × Left) → Type 0
    Says lefts = IfSome (lookup (is_at (path_cmp (krate, lock_text m))) lefts) P

    less : krate ≡ k → (d : Text) → IsIn its.dirs d → ((krate ≡ k) × (d ≡ dir)) ⊎ IsIn next.dirs d
    less here d is = pick (same_text d dir) refl
      where
        pick : (b : Bool) → same_text d dir ≡ b → ((krate ≡ k) × (d ≡ dir)) ⊎ IsIn next.dirs d
        pick true same = inl (here, same_bytes d dir same)
        pick false off = inr (subst (λ ds. IsIn ds d) (sym next_is.1) (in_without dir d its.dirs is off))

    go : (◌≡◌ {A = Path} (krate, lock_text m) path) ⊎ (is_eq (path_cmp (krate, lock_text m) path) ≡ false) → Says (insert_entry path_cmp (remove_entry (is_at (path_cmp path)) old) path next)
    go (inl same) =
        let here : lookup (is_at (path_cmp (krate, lock_text m))) (insert_entry path_cmp (remove_entry (is_at (path_cmp path)) old) path next) ≡ Some next =
        subst (λ p. lookup (is_at (path_cmp p)) (insert_entry path_cmp (remove_entry (is_at (path_cmp path)) old) path next) ≡ Some next) (sym same) (set_here path_cmp path_cmp_total old path next) in
        let was : lookup (is_at (path_cmp (krate, lock_text m))) old ≡ Some its = ap (λ p. lookup (is_at (path_cmp p)) old) same ∙ sym found in
        subst (λ o. IfSome o P) (sym here) (its, (was, next_is.0), less (ap (λ p. p.0) (same ∙ path_is)))
    go (inr apart) =
        subst (λ o. IfSome o P) (sym (set_there path_cmp path_cmp_total old path (krate, lock_text m) next apart))
        (without_kept k dir old krate m (lookup (is_at (path_cmp (krate, lock_text m))) old) refl)

pub without_gone : (k dir : Text) (path : Path) (old rest : List (Path × Left)) → rest ≡ remove_entry (is_at (path_cmp path)) old → IsWithout k dir old rest
without_gone k dir path old rest rest_is krate m named = subst Says (sym rest_is) (go (same_paths (krate, lock_text m) path))
  where
    P : Left → Type 0
    P left = (was : Left) × Was krate m old was left × ((d : Text) → IsIn was.dirs d → ((krate ≡ k) × (d ≡ dir)) ⊎ IsIn left.dirs d)

    Says : List (Path × Left) → Type 0
    Says lefts = IfSome (lookup (is_at (path_cmp (krate, lock_text m))) lefts) P

    go : (◌≡◌ {A = Path} (krate, lock_text m) path) ⊎ (is_eq (path_cmp (krate, lock_text m) path) ≡ false) → Says (remove_entry (is_at (path_cmp path)) old)
    go (inl same) =
        let here : lookup (is_at (path_cmp (krate, lock_text m))) (remove_entry (is_at (path_cmp path)) old) ≡ None =
        subst (λ p. lookup (is_at (path_cmp p)) (remove_entry (is_at (path_cmp path)) old) ≡ None) (sym same) (removed_here path_cmp path_cmp_total old path) in
        subst (λ o. IfSome o P) (sym here) tt
    go (inr apart) =
        subst (λ o. IfSome o P) (sym (removed_there path_cmp path_cmp_total old path (krate, lock_text m) apart))
        (without_kept k dir old krate m (lookup (is_at (path_cmp (krate, lock_text m))) old) refl)

-- ---- One more step.

made_in : (k e krate d : Text) (ns : List Text) → IsIn (cond (same_text k krate) (ns ++ e ∷ []) ns) d → IsIn ns d ⊎ ((krate ≡ k) × (e ≡ d))
made_in k e krate d ns is = go (same_text k krate) refl is
  where
    go : (b : Bool) → same_text k krate ≡ b → IsIn (cond b (ns ++ e ∷ []) ns) d → IsIn ns d ⊎ ((krate ≡ k) × (e ≡ d))
    go true same is = one_more inl (λ it. inr (sym (same_bytes k krate same), it)) (in_last ns e d is)
    go false off is = inl is

-- of one that was taken away
off_itself : (e d : Text) → same_text d e ≡ false → d ≡ e → ⊥
off_itself e d off same = false≢true (sym off ∙ ap (λ t. same_text t e) same ∙ same_self e)

taken_in : (k e krate d : Text) (ns : List Text) → IsIn (cond (same_text k krate) (without e ns) ns) d → IsIn ns d × (krate ≡ k → d ≡ e → ⊥)
taken_in k e krate d ns is = go (same_text k krate) refl is
  where
    go : (b : Bool) → same_text k krate ≡ b → IsIn (cond b (without e ns) ns) d → IsIn ns d × (krate ≡ k → d ≡ e → ⊥)
    go true same is = let w = out_without e d ns is in (w.0, λ here it. off_itself e d w.1 it)
    go false off is = (is, λ here it. off_itself krate k off (sym here))

moved_in : (k from to krate d : Text) (ns : List Text) → IsIn (cond (same_text k krate) (without from ns ++ to ∷ []) ns) d
    → (IsIn ns d × (krate ≡ k → d ≡ from → ⊥)) ⊎ ((krate ≡ k) × (to ≡ d))
moved_in k from to krate d ns is = go (same_text k krate) refl is
  where
    go : (b : Bool) → same_text k krate ≡ b → IsIn (cond b (without from ns ++ to ∷ []) ns) d → (IsIn ns d × (krate ≡ k → d ≡ from → ⊥)) ⊎ ((krate ≡ k) × (to ≡ d))
    go true same is =
        one_more (λ there. let w = out_without from d ns there in inl (w.0, λ here it. off_itself from d w.1 it)) (λ it. inr (sym (same_bytes k krate same), it)) (in_last (without from ns) to d is)
    go false off is = inl (is, λ here it. off_itself krate k off (sym here))

-- what is left is among these, after one more step
left_more : (step : Op × Reply) (steps : Steps) (krate : Text) (n : SessionName) (was left : Left) → left.at ≡ was.at
    → ((ns : List Text) (d : Text) → IsDirOf n d → IsIn (left_by krate step ns) d → (IsIn ns d → IsIn was.dirs d) → IsIn left.dirs d)
    → IsLeft krate n steps was → IsLeft krate n (step ∷ steps) left
left_more step steps krate n was left place among it = record {
  later = step ∷ it.later;
  earlier = it.earlier;
  names = it.names;
  whole = ap (λ ss. step ∷ ss) it.whole;
  place = it.place ∙ sym place;
  lock = it.lock;
  among = λ d of is. among (left_after krate it.later it.names) d of is (it.among d of);
}

same_left : (step : Op × Reply) (steps : Steps) (old new : List (Path × Left)) → ((krate : Text) (ns : List Text) → left_by krate step ns ≡ ns) → new ≡ old → AreLeft steps old
    → AreLeft (step ∷ steps) new
same_left step steps old new same is told krate n named =
    subst (λ lefts. IfSome (lookup (is_at (path_cmp (krate, lock_text n))) lefts) (IsLeft krate n (step ∷ steps))) (sym is)
    (if_some (IsLeft krate n steps) (IsLeft krate n (step ∷ steps)) (lookup (is_at (path_cmp (krate, lock_text n))) old)
    (λ left. left_more step steps krate n left left refl (λ ns d of is before. before (subst (λ xs. IsIn xs d) (same krate ns) is))) (told krate n named))

pub left_next : (step : Op × Reply) (steps : Steps) (old new : List (Path × Left)) → IsLeftBy step (length steps) old new → AreLeft steps old → AreLeft (step ∷ steps) new
left_next (Look k, Names names) steps old new by told krate n named =
    if_some _ _ (lookup (is_at (path_cmp (krate, lock_text n))) new)
    (λ left w. one_more (listed left w) (λ is. kept left w (at_some (IsLeft krate n steps) _ w.0 is (told krate n named))) (at_some _ _ w.0 w.1.0 (by.1 krate n named)))
    (by.2 krate n named)
  where
    listed : (left : Left) (w : (was : Left) × Was krate n by.0 was left × ((d : Text) → IsIn was.dirs d ⊎ ((krate ≡ k) × IsDirOf n d × IsIn names d) → IsIn left.dirs d))
        → (krate ≡ k) × IsIn names (lock_text n) × (w.0.at ≡ length steps) → IsLeft krate n ((Look k, Names names) ∷ steps) left
    listed left w l = record {
      later = [];
      earlier = steps;
      names = names;
      whole = ap (λ k. (Look k, Names names) ∷ steps) (sym l.0);
      place = sym (w.1.1 ∙ l.2);
      lock = l.1;
      among = λ d of is. w.2 d (inr (l.0, of, is));
    }

    kept : (left : Left) (w : (was : Left) × Was krate n by.0 was left × ((d : Text) → IsIn was.dirs d ⊎ ((krate ≡ k) × IsDirOf n d × IsIn names d) → IsIn left.dirs d))
        → IsLeft krate n steps w.0 → IsLeft krate n ((Look k, Names names) ∷ steps) left
    kept left w = left_more (Look k, Names names) steps krate n w.0 left w.1.1 (λ ns d of is before. w.2 d (inl (before is)))
left_next (MakeDir k e, Done) steps old new by told krate n named =
    if_some _ _ (lookup (is_at (path_cmp (krate, lock_text n))) new)
    (λ left w. left_more (MakeDir k e, Done) steps krate n w.0 left w.1.1
    (λ ns d of is before. w.2 d (one_more (λ there. inl (before there)) (λ it. inr (it.0, of, inl it.1)) (made_in k e krate d ns is)))
    (at_some (IsLeft krate n steps) _ w.0 w.1.0 (told krate n named)))
    (by krate n named)
left_next (RemoveDir k e, Done) steps old new by told krate n named =
    if_some _ _ (lookup (is_at (path_cmp (krate, lock_text n))) new)
    (λ left w. left_more (RemoveDir k e, Done) steps krate n w.0 left w.1.1
    (λ ns d of is before.
    let r = taken_in k e krate d ns is in
    one_more (λ it. absurd (r.1 it.0 it.1)) (λ there. there) (w.2 d (before r.0)))
    (at_some (IsLeft krate n steps) _ w.0 w.1.0 (told krate n named)))
    (by krate n named)
left_next (Rename k from to, Done) steps old new by told krate n named =
    if_some _ _ (lookup (is_at (path_cmp (krate, lock_text n))) new)
    (λ left w.
    let v = at_some _ _ w.0 w.1.0 (by.1 krate n named) in
    left_more (Rename k from to, Done) steps krate n v.0 left (w.1.1 ∙ v.1.1)
    (λ ns d of is before.
    one_more
    (λ r. one_more (λ it. absurd (r.1 it.0 it.1)) (λ there. w.2 d (inl there)) (v.2 d (before r.0)))
    (λ it. w.2 d (inr (it.0, of, inl it.1)))
    (moved_in k from to krate d ns is))
    (at_some (IsLeft krate n steps) _ v.0 v.1.0 (told krate n named)))
    (by.2 krate n named)
left_next step steps old new by told krate n named = same_left step steps old new (λ krate ns. refl) by told krate n named

-- ---- Of no steps, and of a place.

pub left_none : AreLeft [] []
left_none krate n named = tt

no_look : (krate : Text) → Draw ≡ Look krate → ⊥
no_look krate is = cc

without_place : (krate : Text) (n : SessionName) (steps : Steps) (left : Left) → IsLeft krate n ((Draw, Fault) ∷ steps) left → IsLeft krate n steps left
without_place krate n steps left it = go it.later it.whole it.among
  where
    go : (later : Steps) → ((Draw, Fault) ∷ steps) ≡ later ++ (Look krate, Names it.names) ∷ it.earlier
        → ((d : Text) → IsDirOf n d → IsIn (left_after krate later it.names) d → IsIn left.dirs d) → IsLeft krate n steps left
    go [] whole among = absurd (no_look krate (ap (λ s. s.0) (ap first whole)))
      where
        first : Steps → Op × Reply
        first [] = (Draw, Fault)
        first (s ∷ ss) = s
    go (s ∷ later) whole among =
        let same : ◌≡◌ {A = Op × Reply} (Draw, Fault) s = ap first whole in
        record {
          later = later;
          earlier = it.earlier;
          names = it.names;
          whole = ap (drop 1) whole;
          place = it.place;
          lock = it.lock;
          among = λ d of is. among d of (subst (λ s. IsIn (left_by krate s (left_after krate later it.names)) d) same is);
        }
      where
        first : Steps → Op × Reply
        first [] = (Draw, Fault)
        first (s ∷ ss) = s

pub left_before : (steps : Steps) (lefts : List (Path × Left)) → AreLeft ((Draw, Fault) ∷ steps) lefts → AreLeft steps lefts
left_before steps lefts told krate n named =
    if_some (IsLeft krate n ((Draw, Fault) ∷ steps)) (IsLeft krate n steps) (lookup (is_at (path_cmp (krate, lock_text n))) lefts)
    (without_place krate n steps) (told krate n named)

-- ---- A `Look` after which no directory is left.

-- a step that stands no earlier than the last ones is among those after
among_after : (later earlier after before : Steps) (x : Op × Reply) → later ++ x ∷ earlier ≡ after ++ before → length before ≤ length earlier → (rest : Steps) × (after ≡ later ++ x ∷ rest)
among_after [] earlier [] before x same le = absurd (past (length earlier) (length before) (ap length same) le)
  where
    past : (n m : ℕ) → suc n ≡ m → m ≤ n → ⊥
    past n m is le = omega arith
among_after [] earlier (y ∷ after) before x same le = (after, ap (λ s. s ∷ after) (sym (ap first same)))
  where
    first : Steps → Op × Reply
    first [] = y
    first (s ∷ ss) = s
among_after (l ∷ later) earlier [] before x same le = absurd (past (length later) (length earlier) (length before) (count same) le)
  where
    count : ((l ∷ later) ++ x ∷ earlier) ≡ before → length before ≡ suc (length later) + suc (length earlier)
    count is = ap length (sym is) ∙ length-append (l ∷ later) (x ∷ earlier)

    past : (a n m : ℕ) → m ≡ suc a + suc n → m ≤ n → ⊥
    past a n m is le = omega arith
among_after (l ∷ later) earlier (y ∷ after) before x same le =
    let w = among_after later earlier after before x (ap (drop 1) same) le in
    (w.0, ap (λ s. s ∷ after) (sym (ap first same)) ∙ ap (λ ss. l ∷ ss) w.1)
  where
    first : Steps → Op × Reply
    first [] = y
    first (s ∷ ss) = s

pub clear_since : (krate : Text) (n : SessionName) (steps : Steps) (left : Left) → IsLeft krate n steps left → left.dirs ≡ [] → (after before : Steps) → steps ≡ after ++ before
    → length before ≤ left.at → HasClearLook krate n after
clear_since krate n steps left it none after before split le =
    let w = among_after it.later it.earlier after before (Look krate, Names it.names) (sym it.whole ∙ split) (subst (λ m. length before ≤ m) (sym it.place) le) in
    (it.later, w.0, (Look krate, Names it.names), w.1, (refl, it.lock, (λ is. off (working_text n) (inl refl) is, λ hash small is. off (final_text n hash) (inr (hash, small, refl)) is)))
  where
    off : (d : Text) → IsDirOf n d → IsIn (left_after krate it.later it.names) d → ⊥
    off d of is = subst (λ ds. IsIn ds d) none (it.among d of is)
