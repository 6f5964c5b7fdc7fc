-- Files that are those demanded, each well.
use Rattle.std.proofs.Common.{◌≡◌, ℕ, ◌+◌, suc, Bool, true, false, cond, List, [], ◌∷◌, map, Some, refl, sym, ap, ◌∙◌, subst, arith}
use Rattle.std.specs.Prelude.{slice_get}
use Rattle.std.specs.List.{AllByRecursion}
use Rattle.std.specs.List.Sorted.{IsStrictlySortedBy}
use Rattle.std.specs.Map.{keys_of}
use Rattle.std.specs.Ordering.{match_ordering}
use Rattle.std.specs.declared.cmp.Ordering.{Ordering}
use Rattle.std.specs.declared.cmp.Ordering.TheVariants.{Less, Equal, Greater}
use Rattle.std.proofs.lemmas.Map.Lookups.{exact_bytes}
use Rattle.inc_wire.specs.declared.header.Header.{Header}
use Rattle.inc_graph.specs.declared.node.Node.{Node}
use Rattle.inc_products.specs.declared.part.Part.{Part}
use Rattle.inc_products.specs.declared.part.Part.TheVariants as part
use Rattle.inc_products.specs.Named.{AreOrdered, name_cmp, value_at, with_value}
use Rattle.inc_products.specs.Plans.{File}
use Rattle.inc_products.specs.Saved.{Value, bytes_of, cache_name, demanded, files_of, graph_name, is_object_kind, object_name, products_name, with_object, with_objects}
use Rattle.inc_products.specs.Walks.{AreWell, Behind}
use Rattle.inc_products.proofs.Places.{turned}
use Rattle.inc_products.proofs.Walking.{at_equal, at_first, passed}

pub some_is : {X : Type 0} {x y : X} → Some x ≡ Some y → x ≡ y
some_is e = cc

-- each of the names in order has its value

there_after : {V : Type 0} (x : List ℕ × V) (xs ys : List (List ℕ × V)) → Behind x.0 (keys_of ys) → AllByRecursion (λ (y : List ℕ × V). value_at y.0 xs ≡ Some y.1) ys → AllByRecursion (λ (y : List ℕ × V). value_at y.0 (x ∷ xs) ≡ Some y.1) ys
there_after x xs [] b a = tt
there_after x xs (y ∷ ys) b a = (passed y.0 x xs Greater (turned x.0 y.0 Less b.0) refl ∙ a.0, there_after x xs ys b.1 a.1)

pub each_there : {V : Type 0} (xs : List (List ℕ × V)) → AreOrdered xs → AllByRecursion (λ (y : List ℕ × V). value_at y.0 xs ≡ Some y.1) xs
unfolding IsStrictlySortedBy
each_there [] s = tt
each_there (x ∷ xs) s = (at_first x xs, there_after x xs xs s.0 (each_there xs s.1))

-- what is so of each is so of what stands at a name

abbrev Of : {V : Type 0} → (List ℕ × V → Type 0) → List ℕ → V → Type 0
Of D q v = (name : List ℕ) × ((name ≡ q) × D (name, v))

at_step : {V : Type 0} (D : List ℕ × V → Type 0) (q : List ℕ) (v : V) (x : List ℕ × V) (xs : List (List ℕ × V)) → D x → value_at q (x ∷ xs) ≡ Some v → (value_at q xs ≡ Some v → Of D q v) → (r : Ordering) → name_cmp q x.0 ≡ r → Of D q v
at_step D q v x xs d at later Less e = later (sym (passed q x xs Less e refl) ∙ at)
at_step D q v x xs d at later Equal e = (x.0, (sym (exact_bytes q x.0 e), subst (λ w. D (x.0, w)) (some_is (sym (at_equal q x xs e) ∙ at)) d))
at_step D q v x xs d at later Greater e = later (sym (passed q x xs Greater e refl) ∙ at)

pub all_at : {V : Type 0} (D : List ℕ × V → Type 0) (q : List ℕ) (v : V) (xs : List (List ℕ × V)) → AllByRecursion D xs → value_at q xs ≡ Some v → Of D q v
all_at D q v [] a at = absurd (cc)
all_at D q v (x ∷ xs) a at = at_step D q v x xs a.0 at (λ e. all_at D q v xs a.1 e) (name_cmp q x.0) refl

module _ (Well : Part → List ℕ → Type 0) where
  abbrev pub Found : List ℕ → Part → List File → Type 0
  Found q p fs = (bytes : List ℕ) × ((value_at q fs ≡ Some bytes) × Well p bytes)

  well_step : (q : List ℕ) (p : Part) (x : List ℕ × Part) (xs : List (List ℕ × Part)) (f : File) (fs : List File) → x.0 ≡ f.0 → Well x.1 f.1 → value_at q (x ∷ xs) ≡ Some p → (value_at q xs ≡ Some p → Found q p fs)
      → (r : Ordering) → name_cmp q x.0 ≡ r → Found q p (f ∷ fs)
  well_step q p x xs f fs same well at later Less e =
      let found = later (sym (passed q x xs Less e refl) ∙ at) in
      (found.0, (passed q f fs Less (ap (name_cmp q) (sym same) ∙ e) refl ∙ found.1.0, found.1.1))
  well_step q p x xs f fs same well at later Equal e = (f.1, (at_equal q f fs (ap (name_cmp q) (sym same) ∙ e), subst (λ z. Well z f.1) (some_is (sym (at_equal q x xs e) ∙ at)) well))
  well_step q p x xs f fs same well at later Greater e =
      let found = later (sym (passed q x xs Greater e refl) ∙ at) in
      (found.0, (passed q f fs Greater (ap (name_cmp q) (sym same) ∙ e) refl ∙ found.1.0, found.1.1))

  -- what is demanded at a name is there, and well
  pub well_there : (q : List ℕ) (p : Part) (ps : List (List ℕ × Part)) (fs : List File) → AreWell Well ps fs → value_at q ps ≡ Some p → Found q p fs
  well_there q p [] fs w at = absurd (cc)
  well_there q p (x ∷ xs) [] w at = absurd w
  well_there q p (x ∷ xs) (f ∷ fs) w at = well_step q p x xs f fs w.0 w.1.0 at (λ e. well_there q p xs fs w.1.1 e) (name_cmp q x.0) refl

  -- files whose bytes are determined by what is demanded are those
  pub matched : (D : List ℕ × Part → Type 0) (T : File → Type 0) (f : Part → List ℕ) → ((p : List ℕ × Part) (x : File) → D p → T x → p.0 ≡ x.0 → Well p.1 x.1 → x.1 ≡ f p.1)
      → (ps : List (List ℕ × Part)) (fs : List File) → AllByRecursion D ps → AllByRecursion T fs → AreWell Well ps fs → fs ≡ map (λ (p : List ℕ × Part). (p.0, f p.1)) ps
  matched D T f each [] [] d t w = refl
  matched D T f each [] (x ∷ xs) d t w = absurd w
  matched D T f each (p ∷ ps) [] d t w = absurd w
  matched D T f each (p ∷ ps) (x ∷ xs) d t w =
      let bytes = each p x d.0 t.0 w.0 w.1.0 in
      ap (λ n. (n, x.1) ∷ xs) (sym w.0) ∙ ap (λ b. (p.0, b) ∷ xs) bytes ∙ ap (λ l. (p.0, f p.1) ∷ l) (matched D T f each ps xs d.1 t.1 w.1.1)

-- values by names, under a map of the values

abbrev pub mapped : {A B : Type 0} → (A → B) → List (List ℕ × A) → List (List ℕ × B)
mapped f ps = map (λ p. (p.0, f p.1)) ps

module _ {A B : Type 0} (f : A → B) where
  step : (name : List ℕ) (v : A) (x : List ℕ × A) (xs : List (List ℕ × A)) (r : Ordering) → mapped f (with_value xs name v) ≡ with_value (mapped f xs) name (f v)
      → mapped f (match_ordering r ((name, v) ∷ x ∷ xs) ((x.0, v) ∷ xs) (x ∷ with_value xs name v)) ≡ match_ordering r ((name, f v) ∷ (x.0, f x.1) ∷ mapped f xs) ((x.0, f v) ∷ mapped f xs) ((x.0, f x.1) ∷ with_value (mapped f xs) name (f v))
  step name v x xs Less later = refl
  step name v x xs Equal later = refl
  step name v x xs Greater later = ap (λ l. (x.0, f x.1) ∷ l) later

  mapped_put : (name : List ℕ) (v : A) (ps : List (List ℕ × A)) → mapped f (with_value ps name v) ≡ with_value (mapped f ps) name (f v)
  mapped_put name v [] = refl
  mapped_put name v (x ∷ xs) = step name v x xs (name_cmp name x.0) (mapped_put name v xs)

  module _ (g : ℕ → A) where
    mapped_object : (i : ℕ) (n : Node) (ps : List (List ℕ × A)) (b : Bool) → mapped f (cond b (with_value ps (object_name n.query.module) (g i)) ps) ≡ cond b (with_value (mapped f ps) (object_name n.query.module) (f (g i))) (mapped f ps)
    mapped_object i n ps true = mapped_put (object_name n.query.module) (g i) ps
    mapped_object i n ps false = refl

    mapped_objects : (i : ℕ) (ns : List Node) (ps : List (List ℕ × A)) → mapped f (with_objects g i ns ps) ≡ with_objects (λ j. f (g j)) i ns (mapped f ps)
    mapped_objects i [] ps = refl
    mapped_objects i (n ∷ ns) ps = mapped_objects (i + 1) ns (with_object g i n ps) ∙ ap (with_objects (λ j. f (g j)) (i + 1) ns) (mapped_object i n ps (is_object_kind n.query.kind))

-- the files are what is demanded, each name with its bytes
pub files_mapped : (h : Header) (nodes : List Node) (values : List Value) → mapped (bytes_of h nodes values) (demanded nodes) ≡ files_of h nodes values
files_mapped h nodes values =
    let f = bytes_of h nodes values in
    let one = with_value [] graph_name part.Graph in
    let two = with_value one cache_name part.Cache in
    mapped_objects f (λ i. part.Object i) 0 nodes (with_value two products_name part.Products)
    ∙ ap (with_objects (λ i. f (part.Object i)) 0 nodes)
    (mapped_put f products_name part.Products two ∙ ap (λ l. with_value l products_name (f part.Products)) (mapped_put f cache_name part.Cache one ∙ ap (λ l. with_value l cache_name (f part.Cache)) (mapped_put f graph_name part.Graph [])))

-- what is demanded, and at which names

abbrev pub IsDemand : List Node → List ℕ × Part → Type 0
IsDemand nodes (name, part.Graph) = name ≡ graph_name
IsDemand nodes (name, part.Cache) = name ≡ cache_name
IsDemand nodes (name, part.Products) = name ≡ products_name
IsDemand nodes (name, part.Object i) = (n : Node) × ((slice_get nodes i ≡ Some n) × ((is_object_kind n.query.kind ≡ true) × (name ≡ object_name n.query.module)))

module _ {V : Type 0} (D : List ℕ × V → Type 0) (name : List ℕ) (v : V) (d : D (name, v)) where
  all_step : (x : List ℕ × V) (xs : List (List ℕ × V)) (r : Ordering) → name_cmp name x.0 ≡ r → D x → AllByRecursion D xs → AllByRecursion D (with_value xs name v) → AllByRecursion D (match_ordering r ((name, v) ∷ x ∷ xs) ((x.0, v) ∷ xs) (x ∷ with_value xs name v))
  all_step x xs Less e h a later = (d, (h, a))
  all_step x xs Equal e h a later = (subst (λ n. D (n, v)) (exact_bytes name x.0 e) d, a)
  all_step x xs Greater e h a later = (h, later)

  all_with : (xs : List (List ℕ × V)) → AllByRecursion D xs → AllByRecursion D (with_value xs name v)
  all_with [] a = (d, tt)
  all_with (x ∷ xs) a = all_step x xs (name_cmp name x.0) refl a.0 a.1 (all_with xs a.1)

-- the nodes from a position on
abbrev pub FollowsAt : List Node → ℕ → List Node → Type 0
FollowsAt all i ns = (j : ℕ) → slice_get all (i + j) ≡ slice_get ns j

pub follows_here : (all : List Node) (i : ℕ) (n : Node) (ns : List Node) → FollowsAt all i (n ∷ ns) → slice_get all i ≡ Some n
follows_here all i n ns at = (let e : i ≡ i + 0 = omega arith in ap (slice_get all) e) ∙ at 0

pub follows_next : (all : List Node) (i : ℕ) (n : Node) (ns : List Node) → FollowsAt all i (n ∷ ns) → FollowsAt all (i + 1) ns
follows_next all i n ns at j = (let e : i + 1 + j ≡ i + suc j = omega arith in ap (slice_get all) e) ∙ at (suc j)

pub follows_all : (all : List Node) → FollowsAt all 0 all
follows_all all j = (let e : 0 + j ≡ j = omega arith in ap (slice_get all) e)

object_demands : (all : List Node) (i : ℕ) (ns : List Node) (ps : List (List ℕ × Part)) → FollowsAt all i ns → AllByRecursion (IsDemand all) ps → AllByRecursion (IsDemand all) (with_objects part.Object i ns ps)
object_demands all i [] ps at a = a
object_demands all i (n ∷ ns) ps at a = object_demands all (i + 1) ns (with_object part.Object i n ps) (follows_next all i n ns at) (one (is_object_kind n.query.kind) refl)
  where
    one : (b : Bool) → is_object_kind n.query.kind ≡ b → AllByRecursion (IsDemand all) (cond b (with_value ps (object_name n.query.module) (part.Object i)) ps)
    one true e = all_with (IsDemand all) (object_name n.query.module) (part.Object i) (n, (follows_here all i n ns at, (e, refl))) ps a
    one false e = a

pub demands_are : (nodes : List Node) → AllByRecursion (IsDemand nodes) (demanded nodes)
demands_are nodes =
    let D = IsDemand nodes in
    let one = with_value [] graph_name part.Graph in
    let two = with_value one cache_name part.Cache in
    object_demands nodes 0 nodes (with_value two products_name part.Products) (follows_all nodes)
    (all_with D products_name part.Products refl two (all_with D cache_name part.Cache refl one (all_with D graph_name part.Graph refl [] tt)))
