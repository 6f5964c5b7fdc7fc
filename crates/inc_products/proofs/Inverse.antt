-- What is read of the files of a graph and its values is that graph and those values.
use Rattle.std.proofs.Common.{◌≡◌, ℕ, ◌+◌, suc, zero, Bool, true, false, cond, List, [], ◌∷◌, ◌++◌, Option, Some, None, inl, inr, refl, sym, ap, ◌∙◌, subst, arith}
use Rattle.std.specs.Prelude.{slice_get}
use Rattle.std.specs.List.{AllByRecursion}
use Rattle.std.specs.BTreeMap.{is_at}
use Rattle.std.specs.Option.{option_map, option_map_or}
use Rattle.std.proofs.lemmas.Map.Made.{lookup-map_values}
use Rattle.sha2.specs.Sha256.{sha256}
use Rattle.inc_wire.specs.Fits.{Each}
use Rattle.inc_wire.specs.FormLaws.{same_header_front}
use Rattle.inc_wire.specs.declared.header.Header.{Header}
use Rattle.inc_graph.specs.declared.node.Node.{Node}
use Rattle.inc_graph.specs.Forms.{FitsCache, FitsFile, FitsGraph, IsFileHeader, cache_form, file_form, graph_form}
use Rattle.inc_products.specs.declared.part.Part.{Part}
use Rattle.inc_products.specs.declared.part.Part.TheVariants as part
use Rattle.inc_products.specs.declared.start.Start.{Start}
use Rattle.inc_products.specs.declared.start.Start.TheVariants as s
use Rattle.inc_products.specs.Fronts.{HasNoGraph, IsGraphFile, IsOther}
use Rattle.inc_products.specs.Named.{name_cmp, value_at}
use Rattle.inc_products.specs.Plans.{File}
use Rattle.inc_products.specs.Saved.{Value, bytes_of, cache_name, demanded, graph_name, is_kept_kind, is_object_kind, kept_of, kind_at, object_name, value_of}
use Rattle.inc_products.specs.Starts.{AreValuesFrom, BeginsWithValueOf, IsBad, IsFirstDamaged, IsObject, IsStart, IsWell, IsWhole}
use Rattle.inc_products.proofs.Saving.{kept_part, kinds_pass, next_place, past_kept, value_behind, value_first}
use Rattle.inc_products.proofs.Matching.{IsDemand, all_at, demands_are, files_mapped, follows_all, some_is}
use Rattle.inc_products.proofs.Naming.{cache_there, graph_there, object_there}

-- a value at its place

placed : (i j : ℕ) (v : Value) (vs : List Value) → v.0 ≡ i → value_of (v ∷ vs) (i + suc j) ≡ value_of vs (i + 1 + j)
placed i j v vs at = ap (λ a. value_of ((a, v.1) ∷ vs) (i + suc j)) at ∙ value_behind i j v.1 vs

placed_first : (i : ℕ) (v : Value) (vs : List Value) → v.0 ≡ i → value_of (v ∷ vs) (i + 0) ≡ v.1
placed_first i v vs at = (let e : i ≡ i + 0 = omega arith in value_first v.0 (i + 0) v.1 vs (at ∙ e))

module _ (passes : ℕ → Bool) where
  -- values of the same nodes that are the same at each are the same
  abbrev SameAt : ℕ → List Node → List Value → List Value → Type 0
  SameAt i ns vs ws = (j : ℕ) (n : Node) → slice_get ns j ≡ Some n → passes n.query.kind ≡ true → value_of vs (i + j) ≡ value_of ws (i + j)

  same_step : (i : ℕ) (n : Node) (ns : List Node) (Others : List Value → Type 0) → ((vs ws : List Value) → Others vs → Others ws → SameAt (i + 1) ns vs ws → vs ≡ ws) → (b : Bool) → passes n.query.kind ≡ b
      → (vs ws : List Value) → cond b (BeginsWithValueOf i n Others vs) (Others vs) → cond b (BeginsWithValueOf i n Others ws) (Others ws) → SameAt i (n ∷ ns) vs ws → vs ≡ ws
  same_step i n ns Others later true e [] ws av aw same = absurd av
  same_step i n ns Others later true e (v ∷ vs) [] av aw same = absurd aw
  same_step i n ns Others later true e (v ∷ vs) (w ∷ ws) av aw same =
      let bytes : v.1 ≡ w.1 = sym (placed_first i v vs av.0.at) ∙ same 0 n refl e ∙ placed_first i w ws aw.0.at in
      let rest : vs ≡ ws = later vs ws av.1 aw.1 (λ j m at p. sym (placed i j v vs av.0.at) ∙ same (suc j) m at p ∙ placed i j w ws aw.0.at) in
      ap (λ a. (a, v.1) ∷ vs) (av.0.at ∙ sym aw.0.at) ∙ ap (λ b. (w.0, b) ∷ vs) bytes ∙ ap (λ l. w ∷ l) rest
  same_step i n ns Others later false e vs ws av aw same = later vs ws av aw (λ j m at p. ap (value_of vs) (next_place i j) ∙ same (suc j) m at p ∙ sym (ap (value_of ws) (next_place i j)))

  values_same : (i : ℕ) (ns : List Node) (vs ws : List Value) → AreValuesFrom passes i ns vs → AreValuesFrom passes i ns ws → SameAt i ns vs ws → vs ≡ ws
  values_same i [] vs ws av aw same = av ∙ sym aw
  values_same i (n ∷ ns) vs ws av aw same = same_step i n ns (AreValuesFrom passes (i + 1) ns) (λ xs ys ax ay at. values_same (i + 1) ns xs ys ax ay at) (passes n.query.kind) refl vs ws av aw same

  -- each has its node's print, and what each is besides

  abbrev PlacedAs : (List ℕ → Type 0) → Node → List ℕ → Type 0
  PlacedAs Q n bytes = (sha256 bytes ≡ n.print.0) × Q bytes

  first_placed : (Q : List ℕ → Type 0) (i : ℕ) (m n : Node) (Others : List Value → Type 0) → m ≡ n → (vs : List Value) → BeginsWithValueOf i m Others vs → Each (λ (v : Value). Q v.1) vs → PlacedAs Q n (value_of vs (i + 0))
  first_placed Q i m n Others same [] is each = absurd is
  first_placed Q i m n Others same (v ∷ vs) is each =
      let bytes = placed_first i v vs is.0.at in
      (ap sha256 bytes ∙ is.0.print ∙ ap (λ (x : Node). x.print.0) same, subst Q (sym bytes) each.0)

  next_placed : (Q : List ℕ → Type 0) (i j : ℕ) (m n : Node) (Others : List Value → Type 0) → ((vs : List Value) → Others vs → Each (λ (v : Value). Q v.1) vs → PlacedAs Q n (value_of vs (i + 1 + j)))
      → (b : Bool) (vs : List Value) → cond b (BeginsWithValueOf i m Others vs) (Others vs) → Each (λ (v : Value). Q v.1) vs → PlacedAs Q n (value_of vs (i + suc j))
  next_placed Q i j m n Others later true [] av each = absurd av
  next_placed Q i j m n Others later true (v ∷ vs) av each = subst (PlacedAs Q n) (sym (placed i j v vs av.0.at)) (later vs av.1 each.1)
  next_placed Q i j m n Others later false vs av each = subst (PlacedAs Q n) (ap (value_of vs) (next_place i j)) (later vs av each)

  value_placed : (Q : List ℕ → Type 0) (i : ℕ) (ns : List Node) (vs : List Value) → AreValuesFrom passes i ns vs → Each (λ (v : Value). Q v.1) vs → (j : ℕ) (n : Node) → slice_get ns j ≡ Some n → passes n.query.kind ≡ true → PlacedAs Q n (value_of vs (i + j))
  value_placed Q i [] vs av each j n at p = absurd (cc)
  value_placed Q i (m ∷ ms) vs av each zero n at p =
      let same : m ≡ n = some_is at in
      let here : passes m.query.kind ≡ true = ap (λ (x : Node). passes x.query.kind) same ∙ p in
      first_placed Q i m n (AreValuesFrom passes (i + 1) ms) same vs (subst (λ b. cond b (BeginsWithValueOf i m (AreValuesFrom passes (i + 1) ms) vs) (AreValuesFrom passes (i + 1) ms vs)) here av) each
  value_placed Q i (m ∷ ms) vs av each (suc j) n at p = next_placed Q i j m n (AreValuesFrom passes (i + 1) ms) (λ ws aw more. value_placed Q (i + 1) ms ws aw more j n at p) (passes m.query.kind) vs av each

module _ (want : Header) (files : List File) (nodes : List Node) (values : List Value) (is : IsWhole want files nodes values) where
  kept_kinds : AllByRecursion (λ (v : Value). is_kept_kind (kind_at nodes v.0) ≡ true) is.saved.kept
  kept_kinds = kinds_pass nodes is_kept_kind 0 nodes is.saved.kept (follows_all nodes) is.saved.are_kept

  kept_same : kept_of nodes values ≡ is.saved.kept
  kept_same = ap (kept_of nodes) is.saved.made ∙ kept_part nodes is.saved.kept is.saved.objects kept_kinds (kinds_pass nodes is_object_kind 0 nodes is.saved.objects (follows_all nodes) is.saved.are_objects)

  object_same : (j : ℕ) (n : Node) → slice_get nodes j ≡ Some n → is_object_kind n.query.kind ≡ true → value_of values j ≡ value_of is.saved.objects j
  object_same j n at object =
      let kind : is_object_kind (kind_at nodes j) ≡ true = ap (λ o. is_object_kind (option_map_or (λ (m : Node). m.query.kind) o 0)) at ∙ object in
      ap (λ vs. value_of vs j) is.saved.made ∙ past_kept nodes is.saved.kept is.saved.objects kept_kinds j kind

  looked : (q : List ℕ) → value_at q files ≡ option_map (bytes_of want nodes values) (value_at q (demanded nodes))
  looked q = ap (value_at q) (is.whole ∙ sym (files_mapped want nodes values)) ∙ lookup-map_values (bytes_of want nodes values) (is_at (name_cmp q)) (demanded nodes)

  graph_file : IsGraphFile want (value_at graph_name files) nodes
  graph_file = record { there = looked graph_name ∙ ap (option_map (bytes_of want nodes values)) (graph_there nodes); fits = is.graph }

  cache_bytes : value_at cache_name files ≡ Some (file_form cache_form (want, is.saved.kept))
  cache_bytes = looked cache_name ∙ ap (option_map (bytes_of want nodes values)) (cache_there nodes) ∙ ap (λ vs. Some (file_form cache_form (want, vs))) kept_same

  object_bytes : (j : ℕ) (n : Node) → slice_get nodes j ≡ Some n → is_object_kind n.query.kind ≡ true → value_at (object_name n.query.module) files ≡ Some (value_of is.saved.objects j)
  object_bytes j n at object =
      looked (object_name n.query.module) ∙ ap (option_map (bytes_of want nodes values)) (object_there nodes is.graph.more j n at object) ∙ ap Some (object_same j n at object)

  -- each file is well
  part_well : (name : List ℕ) (p : Part) → IsDemand nodes (name, p) → IsWell want nodes p (bytes_of want nodes values p)
  part_well name part.Graph d = tt
  part_well name part.Cache d = record { values = is.saved.kept; fits = is.saved.fits; whole = ap (λ vs. file_form cache_form (want, vs)) kept_same; kept = is.saved.are_kept }
  part_well name part.Products d = refl
  part_well name (part.Object i) d =
      let place : 0 + i ≡ i = omega arith in
      let bytes : value_of is.saved.objects (0 + i) ≡ value_of values i = ap (value_of is.saved.objects) place ∙ sym (object_same i d.0 d.1.0 d.1.1.0) in
      let it = value_placed is_object_kind IsObject 0 nodes is.saved.objects is.saved.are_objects is.saved.each i d.0 d.1.0 d.1.1.0 in
      (record { node = d.0; there = d.1.0; print = ap sha256 (sym bytes) ∙ it.0 }, subst IsObject bytes it.1)

  none_damaged : (q : List ℕ) (o : Option Part) → value_at q (demanded nodes) ≡ o → IsBad (IsWell want nodes) (value_at q (demanded nodes)) (value_at q files) → ⊥
  none_damaged q o at bad = go o at (subst (λ b. IsBad (IsWell want nodes) o b) (looked q ∙ ap (option_map (bytes_of want nodes values)) at) (subst (λ a. IsBad (IsWell want nodes) a (value_at q files)) at bad))
    where
      go : (o : Option Part) → value_at q (demanded nodes) ≡ o → IsBad (IsWell want nodes) o (option_map (bytes_of want nodes values) o) → ⊥
      go None at bad = bad
      go (Some p) at bad = (let d = all_at (IsDemand nodes) q p (demanded nodes) (demands_are nodes) at in bad (part_well d.0 p d.1.1))

  -- the graph's file is no other's
  not_other : IsOther want (value_at graph_name files) → ⊥
  not_other other =
      let forms = some_is (sym graph_file.there ∙ other.there) in
      let same = same_header_front want other.header (graph_form nodes) other.rest is.saved.fits.header.header other.is.header forms in
      other.differs (ap (λ (h : Header). h.compiler) (sym same.0), ap (λ (h : Header). h.krate) (sym same.0))

  has_graph : HasNoGraph want (value_at graph_name files) → ⊥
  has_graph none = go (subst (HasNoGraph want) graph_file.there none)
    where
      go : HasNoGraph want (Some (file_form graph_form (want, nodes))) → ⊥
      go (inl none) = none want (graph_form nodes) is.saved.fits.header refl
      go (inr none) = none.1.none (want, nodes) (record { header = is.saved.fits.header; value = is.graph }) refl

module _ (want : Header) (files : List File)
    (graphs_differ : (a b : Header × List Node) → FitsFile FitsGraph a → FitsFile FitsGraph b → file_form graph_form a ≡ file_form graph_form b → a ≡ b)
    (caches_differ : (a b : Header × List Value) → FitsFile FitsCache a → FitsFile FitsCache b → file_form cache_form a ≡ file_form cache_form b → a ≡ b) where
  same_nodes : (a b : List Node) → IsFileHeader want → IsGraphFile want (value_at graph_name files) a → IsGraphFile want (value_at graph_name files) b → a ≡ b
  same_nodes a b header is too =
      ap (λ (p : Header × List Node). p.1) (graphs_differ (want, a) (want, b) (record { header = header; value = is.fits }) (record { header = header; value = too.fits }) (some_is (sym is.there ∙ too.there)))

  same_values : (nodes : List Node) (vs ws : List Value) → IsWhole want files nodes vs → IsWhole want files nodes ws → vs ≡ ws
  same_values nodes vs ws is too =
      let kept : is.saved.kept ≡ too.saved.kept = ap (λ (p : Header × List Value). p.1) (caches_differ (want, is.saved.kept) (want, too.saved.kept) is.saved.fits too.saved.fits (some_is (sym (cache_bytes want files nodes vs is) ∙ cache_bytes want files nodes ws too))) in
      let objects : is.saved.objects ≡ too.saved.objects = values_same is_object_kind 0 nodes is.saved.objects too.saved.objects is.saved.are_objects too.saved.are_objects (λ j n at object.
      (let place : 0 + j ≡ j = omega arith in
      ap (value_of is.saved.objects) place ∙ some_is (sym (object_bytes want files nodes vs is j n at object) ∙ object_bytes want files nodes ws too j n at object) ∙ sym (ap (value_of too.saved.objects) place))) in
      is.saved.made ∙ ap (λ l. l ++ is.saved.objects) kept ∙ ap (λ l. too.saved.kept ++ l) objects ∙ sym too.saved.made

  same_whole : (a b : List Node) (vs ws : List Value) → a ≡ b → IsWhole want files a vs → IsWhole want files b ws → s.Whole b ws ≡ s.Whole a vs
  same_whole a b vs ws same is too =
      ap (λ (ns : List Node). s.Whole ns ws) (sym same) ∙ ap (s.Whole a) (same_values a ws vs (subst (λ ns. IsWhole want files ns ws) (sym same) too) is)

  -- nothing else is read of files that are whole
  pub one_start : (nodes : List Node) (values : List Value) → IsWhole want files nodes values → (start : Start) → IsStart want files start → start ≡ s.Whole nodes values
  one_start nodes values is (s.Whole ns ws) too = same_whole nodes ns values ws (same_nodes nodes ns is.saved.fits.header (graph_file want files nodes values is) (graph_file want files ns ws too)) is too
  one_start nodes values is s.OtherCompiler other = absurd (not_other want files nodes values is other)
  one_start nodes values is (s.Damaged name) (inl none) = absurd (has_graph want files nodes values is none.1)
  one_start nodes values is (s.Damaged name) (inr found) =
      let same : found.0 ≡ nodes = same_nodes found.0 nodes is.saved.fits.header found.1 (graph_file want files nodes values is) in
      let first : IsFirstDamaged (IsWell want nodes) (demanded nodes) files name = subst (λ ns. IsFirstDamaged (IsWell want ns) (demanded ns) files name) same found.2 in
      absurd (none_damaged want files nodes values is name (value_at name (demanded nodes)) refl first.damaged)
