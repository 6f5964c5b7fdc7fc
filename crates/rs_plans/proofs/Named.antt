-- The tests of names say what queries ask for.
use Rattle.std.proofs.Common.{◌≡◌, ◌≢◌, inl, inr, ℕ, ◌≤◌, ◌&&◌, ◌||◌, Bool, true, false, not, List, [], codes, refl, sym, ap, ◌∙◌, arith, nat_lt, nat_le, length}
use Rattle.std.specs.List.{list_all}
use Rattle.std.specs.Str.{bytes_eq}
use Rattle.std.proofs.lemmas.Bool.Decides.{nat_tests}
use Rattle.std.proofs.lemmas.List.Sums.{AllPass-from_list_all}
use Rattle.std.proofs.lemmas.Slice.Eq.{bytes_eq-Decides}
use Rattle.inc_base.specs.Texts.{IsName, is_name_byte}
use Rattle.inc_query.specs.Queries.{IsNameOrNone, IsModule, IsQuery}
use Rattle.rs_tree.specs.declared.place.Place.{Place}
use Rattle.rs_tree.proofs.Both.{left_of, right_of}
use Rattle.rs_plans.specs.Names.{is_module, is_name, is_name_or_none, is_place}
use Rattle.rs_plans.specs.Steps.{query, whole}

name_is : (text : List ℕ) → is_name text ≡ true → IsName text
name_is text e =
    let some : nat_lt 0 (length text) ≡ true = left_of (nat_lt 0 (length text)) (nat_le (length text) 64 && list_all is_name_byte text) e in
    let more : (nat_le (length text) 64 && list_all is_name_byte text) ≡ true = right_of (nat_lt 0 (length text)) (nat_le (length text) 64 && list_all is_name_byte text) e in
    let few : nat_le (length text) 64 ≡ true = left_of (nat_le (length text) 64) (list_all is_name_byte text) more in
    let each : list_all is_name_byte text ≡ true = right_of (nat_le (length text) 64) (list_all is_name_byte text) more in
    record { some = grind (arith, nat_tests); few = grind (arith, nat_tests); each = AllPass-from_list_all is_name_byte text each }

name_or_none_is : (text : List ℕ) → is_name_or_none text ≡ true → IsNameOrNone text
name_or_none_is text e = by (bytes_eq text []) refl e
  where
    by : (b : Bool) → bytes_eq text [] ≡ b → (b || is_name text) ≡ true → IsNameOrNone text
    by true is h = inl ((bytes_eq-Decides text []).0 is)
    by false is h = inr (name_is text h)

not_crate : (text : List ℕ) → not (bytes_eq text (codes "crate")) ≡ true → text ≢ codes "crate"
not_crate text e same = (let is : bytes_eq text (codes "crate") ≡ true = (bytes_eq-Decides text (codes "crate")).1 same in let bad : false ≡ true = sym (ap not is) ∙ e in absurd (cc))

pub module_is : (text : List ℕ) → is_module text ≡ true → IsModule text
module_is text e =
    (name_or_none_is text (left_of (is_name_or_none text) (not (bytes_eq text (codes "crate"))) e), not_crate text (right_of (is_name_or_none text) (not (bytes_eq text (codes "crate"))) e))

-- a query of a place
pub query_is : (kind : ℕ) (p : Place) → kind ≤ 9 → is_place p ≡ true → IsQuery (query kind p)
query_is kind p low e = record {
  kind = omega (arith, low);
  «module» = module_is p.«module» (left_of (is_module p.«module») (is_name_or_none p.name) e);
  name = name_or_none_is p.name (right_of (is_module p.«module») (is_name_or_none p.name) e);
  unit = λ is. absurd (omega (arith, low, is));
}

root_is : IsModule []
root_is = (inl refl, λ e. absurd (cc))

-- one of the whole text
pub whole_is : (kind : ℕ) → kind ≤ 10 → IsQuery (whole kind)
whole_is kind low = record { kind = low; «module» = root_is; name = inl refl; unit = λ is. refl }
