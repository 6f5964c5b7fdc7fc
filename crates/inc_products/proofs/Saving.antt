-- The values that stand in the cache's file, and the objects behind them.
use Rattle.std.proofs.Common.{◌≡◌, ℕ, ◌+◌, suc, zero, ◌==◌, ◌&&◌, Bool, true, false, cond, List, [], ◌∷◌, ◌++◌, Some, Decides, refl, sym, ap, ◌∙◌, subst, arith, append-nil, filter}
use Rattle.std.specs.Prelude.{slice_get, unwrap_or}
use Rattle.std.specs.List.{AllByRecursion}
use Rattle.std.specs.Map.{lookup}
use Rattle.std.specs.BTreeMap.{is_at}
use Rattle.std.specs.Option.{option_map_or}
use Rattle.std.specs.Ordering.{is_eq, nat_cmp}
use Rattle.std.specs.Str.{bytes_eq}
use Rattle.std.specs.declared.cmp.Ordering.{Ordering}
use Rattle.std.specs.declared.cmp.Ordering.TheVariants.{Less, Equal, Greater}
use Rattle.std.proofs.lemmas.Bool.Decides.{Decides-eqb}
use Rattle.std.proofs.lemmas.Cmp.{nat_cmp_total, tied_itself}
use Rattle.std.proofs.lemmas.List.Elements.{filter-append}
use Rattle.std.proofs.lemmas.Map.Lookups.{exact_unsigned}
use Rattle.std.proofs.lemmas.Slice.Eq.{bytes_eq-Decides}
use Rattle.sha2.specs.Sha256.{sha256}
use Rattle.inc_wire.specs.Fits.{Each}
use Rattle.inc_graph.specs.declared.node.Node.{Node}
use Rattle.inc_products.specs.Loads.{are_kept_from, begins_with_value_of, bytes_at, is_nothing, is_value_of, objects_from}
use Rattle.inc_products.specs.Named.{value_at}
use Rattle.inc_products.specs.Plans.{File}
use Rattle.inc_products.specs.Saved.{Value, is_kept_kind, is_object_kind, kept_of, kind_at, object_name, value_of}
use Rattle.inc_products.specs.Starts.{AreValuesFrom, BeginsWithValueOf, IsObject, IsValueOf, IsWellObject}
use Rattle.inc_products.proofs.Matching.{FollowsAt, follows_here, follows_next, some_is}

both_of : (a b : Bool) → (a && b) ≡ true → (a ≡ true) × (b ≡ true)
both_of true b e = (refl, e)
both_of false b e = absurd (cc)

both_true : {a b : Bool} → a ≡ true → b ≡ true → (a && b) ≡ true
both_true {a} {b} p q = ap (λ c. c && b) p ∙ q

-- the test of the values decides

value_decides : (i : ℕ) (n : Node) (v : Value) → Decides (is_value_of i n v) (IsValueOf i n v)
value_decides i n v = (
  λ e. (let p = both_of (v.0 == i) (bytes_eq (sha256 v.1) n.print.0) e in record { at = (Decides-eqb v.0 i).0 p.0; print = (bytes_eq-Decides (sha256 v.1) n.print.0).0 p.1 }),
  λ is. both_true ((Decides-eqb v.0 i).1 is.at) ((bytes_eq-Decides (sha256 v.1) n.print.0).1 is.print),
)

nothing_decides : (values : List Value) → Decides (is_nothing values) (values ≡ [])
nothing_decides [] = (λ e. refl, λ e. refl)
nothing_decides (v ∷ vs) = (λ e. absurd (cc), λ e. absurd (cc))

begins_decides : (i : ℕ) (n : Node) (test : List Value → Bool) (Others : List Value → Type 0) → ((vs : List Value) → Decides (test vs) (Others vs)) → (values : List Value) → Decides (begins_with_value_of i n test values) (BeginsWithValueOf i n Others values)
begins_decides i n test Others tells [] = (λ e. absurd (cc), λ e. absurd e)
begins_decides i n test Others tells (v ∷ vs) = (
  λ e. (let p = both_of (is_value_of i n v) (test vs) e in ((value_decides i n v).0 p.0, (tells vs).0 p.1)),
  λ is. both_true ((value_decides i n v).1 is.0) ((tells vs).1 is.1),
)

kept_step : (i : ℕ) (n : Node) (test : List Value → Bool) (Others : List Value → Type 0) → ((vs : List Value) → Decides (test vs) (Others vs)) → (values : List Value) (b : Bool) → Decides (cond b (begins_with_value_of i n test values) (test values)) (cond b (BeginsWithValueOf i n Others values) (Others values))
kept_step i n test Others tells values true = begins_decides i n test Others tells values
kept_step i n test Others tells values false = tells values

pub kept_decides : (i : ℕ) (ns : List Node) (values : List Value) → Decides (are_kept_from i ns values) (AreValuesFrom is_kept_kind i ns values)
kept_decides i [] values = nothing_decides values
kept_decides i (n ∷ ns) values = kept_step i n (are_kept_from (i + 1) ns) (AreValuesFrom is_kept_kind (i + 1) ns) (kept_decides (i + 1) ns) values (is_kept_kind n.query.kind)

module _ (all : List Node) (passes : ℕ → Bool) where
  abbrev Pass : List Value → Type 0
  Pass vs = AllByRecursion (λ (v : Value). passes (kind_at all v.0) ≡ true) vs

  pass_step : (i : ℕ) (n : Node) (Others : List Value → Type 0) → slice_get all i ≡ Some n → ((vs : List Value) → Others vs → Pass vs) → (vs : List Value) (b : Bool) → passes n.query.kind ≡ b → cond b (BeginsWithValueOf i n Others vs) (Others vs) → Pass vs
  pass_step i n Others at later [] true e are = absurd are
  pass_step i n Others at later (v ∷ vs) true e are =
      let kind : kind_at all v.0 ≡ n.query.kind = ap (kind_at all) are.0.at ∙ ap (λ o. option_map_or (λ (m : Node). m.query.kind) o 0) at in
      (ap passes kind ∙ e, later vs are.1)
  pass_step i n Others at later vs false e are = later vs are

  -- values are of nodes whose kinds pass
  pub kinds_pass : (i : ℕ) (ns : List Node) (vs : List Value) → FollowsAt all i ns → AreValuesFrom passes i ns vs → Pass vs
  kinds_pass i [] vs at are = subst Pass (sym are) tt
  kinds_pass i (n ∷ ns) vs at are = pass_step i n (AreValuesFrom passes (i + 1) ns) (follows_here all i n ns at) (λ ws more. kinds_pass (i + 1) ns ws (follows_next all i n ns at) more) vs (passes n.query.kind) refl are

filter_all : (p : Value → Bool) (vs : List Value) → AllByRecursion (λ v. p v ≡ true) vs → filter p vs ≡ vs
filter_all p [] a = refl
filter_all p (v ∷ vs) a = ap (λ b. cond b (v ∷ filter p vs) (filter p vs)) a.0 ∙ ap (λ l. v ∷ l) (filter_all p vs a.1)

filter_none : (p : Value → Bool) (vs : List Value) → AllByRecursion (λ v. p v ≡ false) vs → filter p vs ≡ []
filter_none p [] a = refl
filter_none p (v ∷ vs) a = ap (λ b. cond b (v ∷ filter p vs) (filter p vs)) a.0 ∙ filter_none p vs a.1

weaker_values : (P Q : Value → Type 0) → ((v : Value) → P v → Q v) → (vs : List Value) → AllByRecursion P vs → AllByRecursion Q vs
weaker_values P Q f [] a = tt
weaker_values P Q f (v ∷ vs) a = (f v a.0, weaker_values P Q f vs a.1)

pub object_not_kept : (k : ℕ) → is_object_kind k ≡ true → is_kept_kind k ≡ false
object_not_kept k e = ap is_kept_kind ((Decides-eqb k 10).0 e)

module _ (nodes : List Node) (kept objects : List Value) (are_kept : AllByRecursion (λ (v : Value). is_kept_kind (kind_at nodes v.0) ≡ true) kept) where
  -- of both, the cache has those of its kinds
  pub kept_part : AllByRecursion (λ (v : Value). is_object_kind (kind_at nodes v.0) ≡ true) objects → kept_of nodes (kept ++ objects) ≡ kept
  kept_part are_objects =
      let p : Value → Bool = λ v. is_kept_kind (kind_at nodes v.0) in
      let none = filter_none p objects (weaker_values (λ v. is_object_kind (kind_at nodes v.0) ≡ true) (λ v. p v ≡ false) (λ v e. object_not_kept (kind_at nodes v.0) e) objects are_objects) in
      filter-append p kept objects ∙ ap (λ l. l ++ filter p objects) (filter_all p kept are_kept) ∙ ap (λ l. kept ++ l) none ∙ append-nil kept

  -- the value of an object's node isn't among the cache's
  pub past_kept : (j : ℕ) → is_object_kind (kind_at nodes j) ≡ true → value_of (kept ++ objects) j ≡ value_of objects j
  past_kept j is = ap (λ o. unwrap_or o []) (go kept are_kept)
    where
      off : (v : Value) → is_kept_kind (kind_at nodes v.0) ≡ true → (r : Ordering) → nat_cmp j v.0 ≡ r → is_eq (nat_cmp j v.0) ≡ false
      off v k Less e = ap is_eq e
      off v k Equal e = absurd (let no : is_kept_kind (kind_at nodes v.0) ≡ false = ap (λ i. is_kept_kind (kind_at nodes i)) (sym (exact_unsigned j v.0 e)) ∙ object_not_kept (kind_at nodes j) is in cc)
      off v k Greater e = ap is_eq e

      go : (vs : List Value) → AllByRecursion (λ (v : Value). is_kept_kind (kind_at nodes v.0) ≡ true) vs → lookup (is_at (nat_cmp j)) (vs ++ objects) ≡ lookup (is_at (nat_cmp j)) objects
      go [] a = refl
      go (v ∷ vs) a = ap (λ b. cond b (Some v.1) (lookup (is_at (nat_cmp j)) (vs ++ objects))) (off v a.0 (nat_cmp j v.0) refl) ∙ go vs a.1

-- of the values from a position on

pub value_first : (i j : ℕ) (b : List ℕ) (vs : List Value) → i ≡ j → value_of ((i, b) ∷ vs) j ≡ b
value_first i j b vs e = ap (λ k. value_of ((i, b) ∷ vs) k) (sym e) ∙ ap (λ c. unwrap_or (cond c (Some b) (lookup (is_at (nat_cmp i)) vs)) []) (ap is_eq (tied_itself nat_cmp_total i))

behind_off : (i j : ℕ) (r : Ordering) → nat_cmp (i + suc j) i ≡ r → is_eq r ≡ false
behind_off i j Less e = refl
behind_off i j Equal e = absurd (let same = exact_unsigned (i + suc j) i e in omega (arith, same))
behind_off i j Greater e = refl

pub value_behind : (i j : ℕ) (b : List ℕ) (vs : List Value) → value_of ((i, b) ∷ vs) (i + suc j) ≡ value_of vs (i + 1 + j)
value_behind i j b vs =
    (let e : i + suc j ≡ i + 1 + j = omega arith in
    ap (λ c. unwrap_or (cond c (Some b) (lookup (is_at (nat_cmp (i + suc j))) vs)) []) (behind_off i j (nat_cmp (i + suc j) i) refl) ∙ ap (value_of vs) e)

pub next_place : (i j : ℕ) → i + 1 + j ≡ i + suc j
next_place i j = omega arith

first_place : (i : ℕ) → i ≡ i + 0
first_place i = omega arith

module _ (files : List File) where
  object_step : (i j : ℕ) (m : Node) (rest : List Value) (bytes : List ℕ) (c : Bool) → value_of rest (i + 1 + j) ≡ bytes → value_of (cond c ((i, bytes_at (object_name m.query.module) files) ∷ rest) rest) (i + suc j) ≡ bytes
  object_step i j m rest bytes true later = value_behind i j (bytes_at (object_name m.query.module) files) rest ∙ later
  object_step i j m rest bytes false later = ap (value_of rest) (sym (next_place i j)) ∙ later

  -- the object of a node is its file
  pub object_value : (i : ℕ) (ns : List Node) (j : ℕ) (n : Node) → slice_get ns j ≡ Some n → is_object_kind n.query.kind ≡ true → value_of (objects_from files i ns) (i + j) ≡ bytes_at (object_name n.query.module) files
  object_value i [] j n at is = absurd (cc)
  object_value i (m ∷ ms) zero n at is =
      let same : m ≡ n = some_is at in
      let it : is_object_kind m.query.kind ≡ true = ap (λ (x : Node). is_object_kind x.query.kind) same ∙ is in
      let b = bytes_at (object_name m.query.module) files in
      ap (λ c. value_of (cond c ((i, b) ∷ objects_from files (i + 1) ms) (objects_from files (i + 1) ms)) (i + 0)) it
      ∙ value_first i (i + 0) b (objects_from files (i + 1) ms) (first_place i) ∙ ap (λ (x : Node). bytes_at (object_name x.query.module) files) same
  object_value i (m ∷ ms) (suc j) n at is = object_step i j m (objects_from files (i + 1) ms) (bytes_at (object_name n.query.module) files) (is_object_kind m.query.kind) (object_value (i + 1) ms j n at is)

  -- the file of each object's node is there and well
  abbrev pub ObjectsWell : List Node → Type 0
  ObjectsWell all = (j : ℕ) (n : Node) → slice_get all j ≡ Some n → is_object_kind n.query.kind ≡ true → (bytes : List ℕ) × ((value_at (object_name n.query.module) files ≡ Some bytes) × IsWellObject all j bytes)

  module _ (all : List Node) (well : ObjectsWell all) where
    abbrev AreObjects : ℕ → List Node → List Value → Type 0
    AreObjects i ns vs = AreValuesFrom is_object_kind i ns vs × Each (λ (v : Value). IsObject v.1) vs

    one_object : (i : ℕ) (n : Node) → slice_get all i ≡ Some n → is_object_kind n.query.kind ≡ true → IsValueOf i n (i, bytes_at (object_name n.query.module) files) × IsObject (bytes_at (object_name n.query.module) files)
    one_object i n at is =
        let it = well i n at is in
        let bytes : bytes_at (object_name n.query.module) files ≡ it.0 = ap (λ o. unwrap_or o []) it.1.0 in
        let node : it.1.1.0.node ≡ n = some_is (sym it.1.1.0.there ∙ at) in
        (record { at = refl; print = ap sha256 bytes ∙ it.1.1.0.print ∙ ap (λ (x : Node). x.print.0) node }, subst IsObject (sym bytes) it.1.1.1)

    are_step : (i : ℕ) (n : Node) (ns : List Node) (vs : List Value) → slice_get all i ≡ Some n → AreObjects (i + 1) ns vs → (c : Bool) → is_object_kind n.query.kind ≡ c
        → (let ws : List Value = cond c ((i, bytes_at (object_name n.query.module) files) ∷ vs) vs in cond c (BeginsWithValueOf i n (AreValuesFrom is_object_kind (i + 1) ns) ws) (AreValuesFrom is_object_kind (i + 1) ns ws) × Each (λ (v : Value). IsObject v.1) ws)
    are_step i n ns vs at later true e = (let it = one_object i n at e in ((it.0, later.0), (it.1, later.1)))
    are_step i n ns vs at later false e = later

    pub objects_are : (i : ℕ) (ns : List Node) → FollowsAt all i ns → AreObjects i ns (objects_from files i ns)
    objects_are i [] at = (refl, tt)
    objects_are i (n ∷ ns) at = are_step i n ns (objects_from files (i + 1) ns) (follows_here all i n ns at) (objects_are (i + 1) ns (follows_next all i n ns at)) (is_object_kind n.query.kind) refl
