-- Lists of pairs in the order of their keys, as an insertion, a removal and a value put in place change them.
use Rattle.std.proofs.Common.{◌≡◌, List, [], ◌∷◌, Bool, true, false, cond, refl, ap, sym, ◌∙◌, None, Some, Option, IsSome, ℕ}
use Rattle.std.specs.declared.cmp.Ordering.{Ordering}
use Rattle.std.specs.declared.cmp.Ordering.TheVariants.{Less, Equal, Greater}
use Rattle.std.specs.Ordering.{is_eq, match_ordering}
use Rattle.std.specs.Cmp.{IsTotalOrder, tied_itself, alike_right}
use Rattle.std.specs.List.Sorted.{IsStrictlySortedBy}
use Rattle.std.specs.Map as map
use Rattle.std.specs.Map.{lookup, set_value, keys_of}
use Rattle.std.specs.BTreeMap.{insert_entry, is_at}
use Rattle.std.proofs.lemmas.Map.{lookup-none}
use Rattle.std.proofs.lemmas.Map.Entries.{none_below_head}
use Rattle.inc_fs.specs.Lists.{remove_entry}
use Rattle.std.proofs.lemmas.Map.Steps.{set_value_same}
use Rattle.inc_fs.specs.Paths.{Text}
use Rattle.inc_fs.specs.declared.state.Entry.{Entry}
use Rattle.inc_fs.specs.declared.state.Entry.TheVariants.{LockFile, Folder}
use Rattle.inc_fs.specs.State.{folder_of}

module _ {K V : Type 0} (test : K → Bool) where
  -- where no key passes, nothing is removed
  pub remove_entry-none : (es : List (K × V)) → lookup test es ≡ None → remove_entry test es ≡ es
  remove_entry-none [] none = refl
  remove_entry-none (e ∷ es) none =
      elim (test e.0) as (λ b. cond b (Some e.1) (lookup test es) ≡ None → cond b (remove_entry test es) (e ∷ remove_entry test es) ≡ e ∷ es) [
        | true ↦ λ h. cc
        | false ↦ λ h. ap (λ l. e ∷ l) (remove_entry-none es h)
      ] none

  -- where the removal of the first passing key leaves none, it removes all
  pub remove_entry-first : (es : List (K × V)) → lookup test (map.remove_entry test es) ≡ None → map.remove_entry test es ≡ remove_entry test es
  remove_entry-first [] none = refl
  remove_entry-first (e ∷ es) none =
      elim (test e.0) as (λ b. test e.0 ≡ b → lookup test (cond b es (e ∷ map.remove_entry test es)) ≡ None → cond b es (e ∷ map.remove_entry test es) ≡ cond b (remove_entry test es) (e ∷ remove_entry test es)) [
        | true ↦ λ is h. sym (remove_entry-none es h)
        | false ↦ λ is h. ap (λ l. e ∷ l) (remove_entry-first es (sym (ap (λ b. cond b (Some e.1) (lookup test (map.remove_entry test es))) is) ∙ h))
      ] refl none

  pub set_value-none : (es : List (K × V)) (v : V) → lookup test es ≡ None → set_value test es v ≡ es
  set_value-none [] v none = refl
  set_value-none (e ∷ es) v none =
      elim (test e.0) as (λ b. cond b (Some e.1) (lookup test es) ≡ None → cond b ((e.0, v) ∷ es) (e ∷ set_value test es v) ≡ e ∷ es) [
        | true ↦ λ h. cc
        | false ↦ λ h. ap (λ l. e ∷ l) (set_value-none es v h)
      ] none

  -- of two values put in one place, the later stays
  pub set_value-set_value : (es : List (K × V)) (v w : V) → set_value test (set_value test es v) w ≡ set_value test es w
  set_value-set_value [] v w = refl
  set_value-set_value (e ∷ es) v w =
      elim (test e.0) as (λ b. test e.0 ≡ b → set_value test (cond b ((e.0, v) ∷ es) (e ∷ set_value test es v)) w ≡ cond b ((e.0, w) ∷ es) (e ∷ set_value test es w)) [
        | true ↦ λ is. ap (λ b. cond b ((e.0, w) ∷ es) ((e.0, v) ∷ set_value test es w)) is
        | false ↦ λ is. ap (λ b. cond b ((e.0, w) ∷ set_value test es v) (e ∷ set_value test (set_value test es v) w)) is ∙ ap (λ l. e ∷ l) (set_value-set_value es v w)
      ] refl

module _ {K V : Type 0} (R : K → K → Ordering) (o : IsTotalOrder R) where
  -- what was inserted at a new key, and removed again
  pub remove_entry-insert_entry : (es : List (K × V)) (k : K) (v : V) → lookup (is_at (R k)) es ≡ None → remove_entry (is_at (R k)) (insert_entry R es k v) ≡ es
  remove_entry-insert_entry [] k v none = ap (λ r. cond (is_eq r) [] ((k, v) ∷ [])) (tied_itself o k)
  remove_entry-insert_entry (e ∷ es) k v none =
      elim (R k e.0) as (λ r. cond (is_eq r) (Some e.1) (lookup (is_at (R k)) es) ≡ None → R k e.0 ≡ r → remove_entry (is_at (R k)) (match_ordering r ((k, v) ∷ e ∷ es) ((e.0, v) ∷ es) (e ∷ insert_entry R es k v)) ≡ e ∷ es) [
        | Less ↦ λ _ _. ap (λ r. cond (is_eq r) (remove_entry (is_at (R k)) (e ∷ es)) ((k, v) ∷ remove_entry (is_at (R k)) (e ∷ es))) (tied_itself o k) ∙ remove_entry-none (is_at (R k)) (e ∷ es) none
        | Equal ↦ λ h _. cc
        | Greater ↦ λ h is. ap (λ r. cond (is_eq r) (remove_entry (is_at (R k)) (insert_entry R es k v)) (e ∷ remove_entry (is_at (R k)) (insert_entry R es k v))) is ∙ ap (λ l. e ∷ l) (remove_entry-insert_entry es k v h)
      ] none refl

  -- in a sorted list, a value put in place is an insertion at its key
  pub set_value-insert_entry : (es : List (K × V)) (k : K) (v : V) → IsStrictlySortedBy R (keys_of es) → IsSome (lookup (is_at (R k)) es) → set_value (is_at (R k)) es v ≡ insert_entry R es k v
  unfolding IsStrictlySortedBy
  set_value-insert_entry [] k v sorted there = cc
  set_value-insert_entry (e ∷ es) k v sorted there =
      elim (R k e.0) as (λ r. R k e.0 ≡ r → IsSome (cond (is_eq r) (Some e.1) (lookup (is_at (R k)) es)) → cond (is_eq r) ((e.0, v) ∷ es) (e ∷ set_value (is_at (R k)) es v) ≡ match_ordering r ((k, v) ∷ e ∷ es) ((e.0, v) ∷ es) (e ∷ insert_entry R es k v)) [
        | Less ↦ λ is h. absurd (gone (lookup-none (is_at (R k)) (e ∷ es) (none_below_head o k e es sorted is)) is h)
        | Equal ↦ λ is h. refl
        | Greater ↦ λ is h. ap (λ l. e ∷ l) (set_value-insert_entry es k v sorted.1 h)
      ] refl there
    where
      gone : lookup (is_at (R k)) (e ∷ es) ≡ None → R k e.0 ≡ Less → IsSome (lookup (is_at (R k)) es) → ⊥
      gone none is some = absurd cc

  -- a value put at a key that was inserted before another one's removal, as if it had been inserted at once
  pub set_value-remove-insert : (es : List (K × V)) (k q : K) (v w : V) → is_eq (R q k) ≡ false → set_value (is_at (R k)) (remove_entry (is_at (R q)) (insert_entry R es k v)) w ≡ remove_entry (is_at (R q)) (insert_entry R es k w)
  set_value-remove-insert [] k q v w apart =
      ap (λ b. set_value (is_at (R k)) (cond b [] ((k, v) ∷ [])) w) apart ∙ ap (λ r. cond (is_eq r) ((k, w) ∷ []) ((k, v) ∷ [])) (tied_itself o k) ∙ sym (ap (λ b. cond b [] ((k, w) ∷ [])) apart)
  set_value-remove-insert (e ∷ es) k q v w apart =
      elim (R k e.0) as (λ r. R k e.0 ≡ r → set_value (is_at (R k)) (remove_entry (is_at (R q)) (match_ordering r ((k, v) ∷ e ∷ es) ((e.0, v) ∷ es) (e ∷ insert_entry R es k v))) w
      ≡ remove_entry (is_at (R q)) (match_ordering r ((k, w) ∷ e ∷ es) ((e.0, w) ∷ es) (e ∷ insert_entry R es k w))) [
        | Less ↦ λ is. ap (λ b. set_value (is_at (R k)) (cond b rest ((k, v) ∷ rest)) w) apart ∙ ap (λ r. cond (is_eq r) ((k, w) ∷ rest) ((k, v) ∷ set_value (is_at (R k)) rest w)) (tied_itself o k) ∙ sym (ap (λ b. cond b rest ((k, w) ∷ rest)) apart)
        | Equal ↦ λ is. ap (λ b. set_value (is_at (R k)) (cond b left ((e.0, v) ∷ left)) w) (off is) ∙ ap (λ r. cond (is_eq r) ((e.0, w) ∷ left) ((e.0, v) ∷ set_value (is_at (R k)) left w)) is ∙ sym (ap (λ b. cond b left ((e.0, w) ∷ left)) (off is))
        | Greater ↦ λ is. go is (is_eq (R q e.0)) (set_value-remove-insert es k q v w apart)
      ] refl
    where
      left : List (K × V)
      left = remove_entry (is_at (R q)) es

      rest : List (K × V)
      rest = remove_entry (is_at (R q)) (e ∷ es)

      off : R k e.0 ≡ Equal → is_eq (R q e.0) ≡ false
      off is = ap is_eq (sym (alike_right o k e.0 q is)) ∙ apart

      go : R k e.0 ≡ Greater → (b : Bool) → set_value (is_at (R k)) (remove_entry (is_at (R q)) (insert_entry R es k v)) w ≡ remove_entry (is_at (R q)) (insert_entry R es k w)
          → set_value (is_at (R k)) (cond b (remove_entry (is_at (R q)) (insert_entry R es k v)) (e ∷ remove_entry (is_at (R q)) (insert_entry R es k v))) w
          ≡ cond b (remove_entry (is_at (R q)) (insert_entry R es k w)) (e ∷ remove_entry (is_at (R q)) (insert_entry R es k w))
      go is true ih = ih
      go is false ih = ap (λ r. cond (is_eq r) ((e.0, w) ∷ remove_entry (is_at (R q)) (insert_entry R es k v)) (e ∷ set_value (is_at (R k)) (remove_entry (is_at (R q)) (insert_entry R es k v)) w)) is ∙ ap (λ l. e ∷ l) ih

-- a directory's names, taken out of the entries
module _ {K : Type 0} (R : K → K → Ordering) where
  -- a directory that stands at a key is found there
  pub folder_found : (found : Option Entry) (names : List (Text × ℕ)) → folder_of found ≡ Some names → found ≡ Some (Folder names)
  folder_found None names is = cc
  folder_found (Some (LockFile number)) names is = cc
  folder_found (Some (Folder others)) names is = cc

  -- names put back as they were
  pub folder_put_back : (es : List (K × Entry)) (k : K) (names : List (Text × ℕ)) (out : Entry) → folder_of (lookup (is_at (R k)) es) ≡ Some names
      → set_value (is_at (R k)) (set_value (is_at (R k)) es out) (Folder names) ≡ es
  folder_put_back es k names out is = set_value-set_value (is_at (R k)) es out (Folder names) ∙ set_value_same (is_at (R k)) es (Folder names) (folder_found _ names is)

  -- names put back changed
  pub folder_changed : IsTotalOrder R → (es : List (K × Entry)) (k : K) (names changed : List (Text × ℕ)) (out : Entry) → IsStrictlySortedBy R (keys_of es) → folder_of (lookup (is_at (R k)) es) ≡ Some names
      → set_value (is_at (R k)) (set_value (is_at (R k)) es out) (Folder changed) ≡ insert_entry R es k (Folder changed)
  folder_changed o es k names changed out sorted is =
      set_value-set_value (is_at (R k)) es out (Folder changed) ∙ set_value-insert_entry R o es k (Folder changed) sorted (some_there (lookup (is_at (R k)) es) (folder_found _ names is))
    where
      some_there : (found : Option Entry) → found ≡ Some (Folder names) → IsSome found
      some_there None is = cc
      some_there (Some entry) is = refl
