-- Values by names, which contracts see as the list of the pairs in the order of the names.
use Rattle.std.specs.Prelude.{ℕ, suc, Bool, false, cond, List, [], ◌∷◌, Option, Some, None}
use Rattle.std.specs.Ordering.{is_eq, is_lt, nat_cmp}
use Rattle.std.specs.Cmp.Lexicographic.{slice_cmp}
use Rattle.std.specs.declared.cmp.Ordering.{Ordering}
use Rattle.std.specs.List.Sorted.{IsStrictlySortedBy}
use Rattle.std.specs.Map.{keys_of, lookup}
use Rattle.std.specs.BTreeMap.{insert_entry, is_at}

-- names are ordered by their bytes
abbrev pub name_cmp : List ℕ → List ℕ → Ordering
name_cmp = slice_cmp nat_cmp

-- each name stands before those after it
abbrev pub AreOrdered : {V : Type 0} → List (List ℕ × V) → Type 0
AreOrdered pairs = IsStrictlySortedBy name_cmp (keys_of pairs)

-- what stands at a name
abbrev pub value_at : {V : Type 0} → List ℕ → List (List ℕ × V) → Option V
value_at name pairs = lookup (is_at (name_cmp name)) pairs

-- with another value at a name, whether there was one or not
abbrev pub with_value : {V : Type 0} → List (List ℕ × V) → List ℕ → V → List (List ℕ × V)
with_value pairs name value = insert_entry name_cmp pairs name value

-- how many of the first keys stand before this one
abbrev pub place_in : {K V : Type 0} → (K → K → Ordering) → K → List (K × V) → ℕ
place_in order key [] = 0
place_in order key (p ∷ ps) = cond (is_lt (order p.0 key)) (suc (place_in order key ps)) 0

abbrev pub place_of : {V : Type 0} → List ℕ → List (List ℕ × V) → ℕ
place_of name pairs = place_in name_cmp name pairs

-- whether a pair is the key's
abbrev pub is_keyed : {K V : Type 0} → (K → K → Ordering) → K → Option (K × V) → Bool
is_keyed order key None = false
is_keyed order key (Some p) = is_eq (order key p.0)
