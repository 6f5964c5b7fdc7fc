-- The names in a crate directory, found from its first entry on.
use Rattle.std.proofs.Common.{◌≡◌, ◌≤◌, ◌<◌, ◌∙◌, ◌&&◌, not, append_assoc, append-nil, ℕ, List, [], ◌∷◌, ◌++◌, true, false, Bool, cond, refl, ap, sym, subst, inl, inr, arith, nat_eq, Result, Ok, Err, OnOk, OnErr}
use Rattle.std.specs.List.{AllByRecursion}
use Rattle.std.specs.List.Sorted.{IsStrictlySortedBy}
use Rattle.std.specs.Map.{keys_of, set_value}
use Rattle.std.specs.BTreeMap.{insert_entry, is_at}
use Rattle.std.specs.BTreeMap.Range.{entries_between, range_contains}
use Rattle.std.specs.Ordering.{is_gt, is_le, is_eq, nat_cmp, ordering_then, match_ordering}
use Rattle.std.specs.declared.cmp.Ordering.{Ordering}
use Rattle.std.specs.declared.cmp.Ordering.TheVariants.{Less, Equal, Greater}
use Rattle.std.specs.declared.ops.Bound.TheVariants.{Included, Unbounded}
use Rattle.std.specs.Cmp.{IsTotalOrder, IsEquivalence, tied_itself}
use Rattle.std.proofs.lemmas.Cmp.{ranked}
use Rattle.std.proofs.lemmas.Bool.Decides.{nat_tests}
use Rattle.std.specs.Cmp.Lexicographic.{pointwise, slice_cmp, nat_list_cmp_total, nat_list_eq_equiv}
use Rattle.inc_base.specs.Texts.{IsLabel, is_label_byte}
use Rattle.inc_fs.specs.Lists.{remove_entry}
use Rattle.inc_fs.specs.Lookups.{same_texts, same_bytes}
use Rattle.inc_fs.specs.Listed.{AreNamed, least_label, first_path}
use Rattle.inc_fs.specs.Paths.{Text, Path, text_cmp, path_cmp, names_in}

-- ---- Names stay labels.

module _ {V : Type 0} where
  pub named_inserted : (es : List (Path × V)) (path : Path) (v : V) → AreNamed (keys_of es) → IsLabel path.1 → AreNamed (keys_of (insert_entry path_cmp es path v))
  named_inserted [] path v all label = (label, tt)
  named_inserted (e ∷ es) path v all label =
      elim (path_cmp path e.0) as (λ r. AreNamed (keys_of (match_ordering r ((path, v) ∷ e ∷ es) ((e.0, v) ∷ es) (e ∷ insert_entry path_cmp es path v)))) [
        | Less ↦ (label, all)
        | Equal ↦ all
        | Greater ↦ (all.0, named_inserted es path v all.1 label)
      ]

  pub named_left : (es : List (Path × V)) (path : Path) → AreNamed (keys_of es) → AreNamed (keys_of (remove_entry (is_at (path_cmp path)) es))
  named_left [] path all = tt
  named_left (e ∷ es) path all =
      elim (is_at (path_cmp path) e.0) as (λ b. AreNamed (keys_of (cond b (remove_entry (is_at (path_cmp path)) es) (e ∷ remove_entry (is_at (path_cmp path)) es)))) [
        | true ↦ named_left es path all.1
        | false ↦ (all.0, named_left es path all.1)
      ]

  pub named_replaced : (es : List (Path × V)) (path : Path) (v : V) → AreNamed (keys_of es) → AreNamed (keys_of (set_value (is_at (path_cmp path)) es v))
  named_replaced [] path v all = tt
  named_replaced (e ∷ es) path v all =
      elim (is_at (path_cmp path) e.0) as (λ b. AreNamed (keys_of (cond b ((e.0, v) ∷ es) (e ∷ set_value (is_at (path_cmp path)) es v)))) [
        | true ↦ all
        | false ↦ (all.0, named_replaced es path v all.1)
      ]

-- what is there after an insertion that may have found no memory
pub named_after : {T E V : Type 0} (result : Result T E) (old grown new : List (Path × V)) → OnOk result (new ≡ grown) → OnErr result (new ≡ old) → AreNamed (keys_of grown) → AreNamed (keys_of old) → AreNamed (keys_of new)
named_after (Ok done) old grown new ok err all before = subst (λ es. AreNamed (keys_of es)) (sym ok) all
named_after (Err cause) old grown new ok err all before = subst (λ es. AreNamed (keys_of es)) (sym err) before

-- ---- No label is before the least.

byte_above : (b : ℕ) → is_label_byte b ≡ true → 45 ≤ b
byte_above b h = grind (arith, nat_tests)

least_is : (text : Text) → IsLabel text → is_gt (text_cmp least_label text) ≡ false
least_is [] label = absurd (omega (arith, label.some))
least_is (b ∷ bs) label = go (byte_above b (label.each 0 0 label.some)) (nat_cmp 45 b) refl bs
  where
    go : 45 ≤ b → (r : Ordering) → r ≡ nat_cmp 45 b → (bs : Text) → is_gt (ordering_then r (slice_cmp nat_cmp [] bs)) ≡ false
    go above Less is bs = refl
    go above Equal is [] = refl
    go above Equal is (x ∷ bs) = refl
    go above Greater is bs = let below : b < 45 = ranked 45 b Greater is in absurd (omega arith)

-- ---- What stands before the first entry of a crate directory is none of its own.

module _ {V : Type 0} (krate : Text) where
  abbrev is_from : Path × V → Bool
  is_from e = range_contains path_cmp (Included (first_path krate)) Unbounded e.0

  own_is_from : (e : Path × V) → IsLabel e.0.1 → pointwise nat_eq e.0.0 krate ≡ true → is_from e ≡ true
  own_is_from e label own = go (text_cmp krate e.0.0) (ap (text_cmp krate) (same_bytes e.0.0 krate own) ∙ tied_itself nat_list_cmp_total krate) (text_cmp least_label e.0.1) (least_is e.0.1 label)
    where
      go : (r : Ordering) → r ≡ Equal → (s : Ordering) → is_gt s ≡ false → (is_le (ordering_then r s) && true) ≡ true
      go Less is s h = cc
      go Greater is s h = cc
      go Equal is Less h = refl
      go Equal is Equal h = refl
      go Equal is Greater h = cc

  pub names_from : (es : List (Path × V)) → AreNamed (keys_of es) → names_in krate (keys_of (entries_between path_cmp (Included (first_path krate)) Unbounded es)) ≡ names_in krate (keys_of es)
  names_from [] all = refl
  names_from (e ∷ es) all = go (is_from e) (pointwise nat_eq e.0.0 krate) refl (own_is_from e all.0) (names_from es all.1)
    where
      rest : List (Path × V)
      rest = entries_between path_cmp (Included (first_path krate)) Unbounded es

      go : (kept own : Bool) → pointwise nat_eq e.0.0 krate ≡ own → (own ≡ true → kept ≡ true) → names_in krate (keys_of rest) ≡ names_in krate (keys_of es)
          → names_in krate (keys_of (cond kept (e ∷ rest) rest)) ≡ names_in krate (keys_of (e ∷ es))
      go true own is h ih = ap (λ names. cond (pointwise nat_eq e.0.0 krate) (e.0.1 ∷ names) names) ih
      go false true is h ih = absurd (let no : false ≡ true = h refl in cc)
      go false false is h ih = ih ∙ sym (ap (λ b. cond b (e.0.1 ∷ names_in krate (keys_of es)) (names_in krate (keys_of es))) is)

-- ---- The entries from a path on.

module _ {V : Type 0} (from : Path) where
  abbrev after : List (Path × V) → List (Path × V)
  after es = entries_between path_cmp (Included from) Unbounded es

  all_after : (P : Path → Type 0) (es : List (Path × V)) → AllByRecursion P (keys_of es) → AllByRecursion P (keys_of (after es))
  all_after P [] all = tt
  all_after P (e ∷ es) all = elim (range_contains path_cmp (Included from) Unbounded e.0) as (λ b. AllByRecursion P (keys_of (cond b (e ∷ after es) (after es)))) [
    | true ↦ (all.0, all_after P es all.1)
    | false ↦ all_after P es all.1
  ]

  pub sorted_after : (es : List (Path × V)) → IsStrictlySortedBy path_cmp (keys_of es) → IsStrictlySortedBy path_cmp (keys_of (after es))
  unfolding IsStrictlySortedBy
  sorted_after [] sorted = tt
  sorted_after (e ∷ es) sorted = elim (range_contains path_cmp (Included from) Unbounded e.0) as (λ b. IsStrictlySortedBy path_cmp (keys_of (cond b (e ∷ after es) (after es)))) [
    | true ↦ (all_after (λ y. path_cmp e.0 y ≡ Less) es sorted.0, sorted_after es sorted.1)
    | false ↦ sorted_after es sorted.1
  ]

  pub none_before : (es : List (Path × V)) → AllByRecursion (λ path. is_gt (path_cmp from path) ≡ false) (keys_of (after es))
  none_before [] = tt
  none_before (e ∷ es) = go (path_cmp from e.0) refl (none_before es)
    where
      go : (r : Ordering) → path_cmp from e.0 ≡ r → AllByRecursion (λ path. is_gt (path_cmp from path) ≡ false) (keys_of (after es))
          → AllByRecursion (λ path. is_gt (path_cmp from path) ≡ false) (keys_of (cond (is_le r && true) (e ∷ after es) (after es)))
      go Less is ih = (ap is_gt is, ih)
      go Equal is ih = (ap is_gt is, ih)
      go Greater is ih = ih

-- ---- What stands after the last entry of a crate directory is none of its own.

none_past : (krate : Text) (paths : List Path) → AllByRecursion (λ path. text_cmp krate path.0 ≡ Less) paths → names_in krate paths ≡ []
none_past krate [] all = refl
none_past krate (path ∷ paths) all = go (pointwise nat_eq path.0 krate) refl (none_past krate paths all.1)
  where
    go : (own : Bool) → pointwise nat_eq path.0 krate ≡ own → names_in krate paths ≡ [] → cond own (path.1 ∷ names_in krate paths) (names_in krate paths) ≡ []
    go true is ih = absurd (let equal : text_cmp krate path.0 ≡ Equal = ap (text_cmp krate) (same_bytes path.0 krate is) ∙ tied_itself nat_list_cmp_total krate in let less = all.0 in cc)
    go false is ih = ih

all_past : (krate : Text) (first : Path) (paths : List Path) → text_cmp krate first.0 ≡ Less → AllByRecursion (λ path. path_cmp first path ≡ Less) paths → AllByRecursion (λ path. text_cmp krate path.0 ≡ Less) paths
all_past krate first [] less all = tt
all_past krate first (path ∷ paths) less all = (go (text_cmp first.0 path.0) refl all.0, all_past krate first paths less all.1)
  where
    go : (r : Ordering) → text_cmp first.0 path.0 ≡ r → ordering_then r (text_cmp first.1 path.1) ≡ Less → text_cmp krate path.0 ≡ Less
    go Less is h = IsTotalOrder.trans nat_list_cmp_total krate first.0 path.0 less is
    go Equal is h = elim (same_texts first.0 path.0) [
      | inl same ↦ subst (λ text. text_cmp krate text ≡ Less) same less
      | inr off ↦ absurd (let equal : is_eq (text_cmp first.0 path.0) ≡ true = ap is_eq is in cc)
    ]
    go Greater is h = cc

pub stops : (krate : Text) (first : Path) (paths : List Path) → is_gt (path_cmp (first_path krate) first) ≡ false → not (pointwise nat_eq first.0 krate) ≡ true
    → IsStrictlySortedBy path_cmp (first ∷ paths) → names_in krate (first ∷ paths) ≡ []
unfolding IsStrictlySortedBy
stops krate first paths from other sorted = none_past krate (first ∷ paths) (less, all_past krate first paths less sorted.0)
  where
    go : (r : Ordering) → text_cmp krate first.0 ≡ r → is_gt (ordering_then r (text_cmp least_label first.1)) ≡ false → r ≡ Less
    go Less is h = refl
    go Equal is h = elim (same_texts krate first.0) [
      | inl same ↦ absurd (let own : pointwise nat_eq first.0 krate ≡ true = subst (λ text. pointwise nat_eq text krate ≡ true) same (IsEquivalence.refl nat_list_eq_equiv krate) in cc)
      | inr off ↦ absurd (let equal : is_eq (text_cmp krate first.0) ≡ true = ap is_eq is in cc)
    ]
    go Greater is h = cc

    less : text_cmp krate first.0 ≡ Less
    less = go (text_cmp krate first.0) refl from

-- ---- The loop over them.

-- a path of the crate directory adds its name
pub adds_own : {V : Type 0} (krate : Text) (names : List Text) (path : Path) (v : V) (rest : List (Path × V)) → not (pointwise nat_eq path.0 krate) ≡ false
    → (names ++ path.1 ∷ []) ++ names_in krate (keys_of rest) ≡ names ++ names_in krate (keys_of ((path, v) ∷ rest))
adds_own krate names path v rest = go (pointwise nat_eq path.0 krate)
  where
    left : List Text
    left = names_in krate (keys_of rest)

    go : (own : Bool) → not own ≡ false → (names ++ path.1 ∷ []) ++ left ≡ names ++ cond own (path.1 ∷ left) left
    go true is = append_assoc names (path.1 ∷ []) left
    go false is = cc

-- where none is left, all names are there
pub all_there : (names left whole : List Text) → names ++ left ≡ whole → left ≡ [] → names ≡ whole
all_there names left whole is none = sym (append-nil names) ∙ ap (λ ns. names ++ ns) (sym none) ∙ is
