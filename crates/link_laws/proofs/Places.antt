-- Each place is that of one item, whose number, kind and signature are found by it.
use Rattle.std.proofs.Common.{◌≡◌, ℕ, ◌+◌, zero, suc, Bool, true, false, cond, List, [], ◌∷◌, map, Option, Some, None, refl, sym, ap, ◌∙◌, subst, arith}
use Rattle.std.specs.Prelude.{slice_get, option_and_then}
use Rattle.std.specs.Option.{option_map, option_map_or}
use Rattle.std.specs.Str.{bytes_eq}
use Rattle.std.proofs.lemmas.Bool.{and_from, and_parts}
use Rattle.std.proofs.lemmas.Option.{none-some, same_Some, slice_get-map}
use Rattle.std.proofs.lemmas.Slice.Eq.{bytes_eq-Decides}
use Rattle.rs_tree.specs.declared.place.Place.{Place}
use Rattle.rs_tree.specs.declared.index.IndexItem.{IndexItem}
use Rattle.rs_tree.specs.declared.index.Sig.{Sig}
use Rattle.rs_tree.specs.declared.tree.Crate.{Crate}
use Rattle.rs_tree.specs.declared.tree.Placed.{Placed}
use Rattle.rs_tree.specs.Plain.{plain_placed}
use Rattle.rs_grammar.specs.Tidy.{IsTidyCrate, place_in}
use Rattle.rs_lookup.specs.Places.{Name, item_name, place_from, place_name, same}
use Rattle.rs_names.specs.Indexed.{index_item}
use Rattle.rs_names.specs.Resolved.{item_at}
use Rattle.rs_types.specs.Types.{places_of, sig_at}
use Rattle.rs_queries.specs.Known.{items_of, kind_at, place_of, sig_of, sigs_of}
use Rattle.link_laws.proofs.Lists.{Once, once}

-- ---- What an option holds.

pub map_some : {A B : Type 0} (f : A → B) (o : Option A) (y : B) → option_map f o ≡ Some y → (x : A) × (o ≡ Some x) × (f x ≡ y)
map_some f None y e = absurd (none-some y e)
map_some f (Some x) y e = (x, refl, same_Some (f x) y e)

pub then_some : {A B : Type 0} (f : A → Option B) (o : Option A) (y : B) → option_and_then f o ≡ Some y → (x : A) × (o ≡ Some x) × (f x ≡ Some y)
then_some f None y e = absurd (none-some y e)
then_some f (Some x) y e = (x, refl, e)

pub got_map : {A B : Type 0} (f : A → B) (xs : List A) (i : ℕ) (x : A) → slice_get xs i ≡ Some x → slice_get (map f xs) i ≡ Some (f x)
got_map f xs i x e = slice_get-map f xs i ∙ ap (option_map f) e

-- ---- Names by their numbers.

same_names : (a b : Name) → same a b ≡ true → a ≡ b
same_names a b e =
    let both = and_parts (bytes_eq a.0 b.0) (bytes_eq a.1 b.1) e in
    λ j. ((bytes_eq-Decides a.0 b.0).0 both.0 j, (bytes_eq-Decides a.1 b.1).0 both.1 j)

names_same : (a b : Name) → a ≡ b → same a b ≡ true
names_same a b e = and_from (bytes_eq a.0 b.0) (bytes_eq a.1 b.1) ((bytes_eq-Decides a.0 b.0).1 (ap (λ (n : Name). n.0) e)) ((bytes_eq-Decides a.1 b.1).1 (ap (λ (n : Name). n.1) e))

-- the first place of a name has it
placed_from : (q : Name) (i : ℕ) (names : List Name) (k : ℕ) → place_from q i names ≡ Some k → (j : ℕ) × (k ≡ i + j) × (slice_get names j ≡ Some q)
placed_from q i [] k e = absurd (none-some k e)
placed_from q i (n ∷ names) k e = by (same q n) refl e (placed_from q (i + 1) names k)
  where
    by : (b : Bool) → same q n ≡ b → cond b (Some i) (place_from q (i + 1) names) ≡ Some k → (place_from q (i + 1) names ≡ Some k → (j : ℕ) × (k ≡ i + 1 + j) × (slice_get names j ≡ Some q)) → (j : ℕ) × (k ≡ i + j) × (slice_get (n ∷ names) j ≡ Some q)
    by true is e later = (let here : i ≡ k = same_Some i k e in (0, omega (arith, here), ap Some (sym (same_names q n is))))
    by false is e later = (let more = later e in (suc more.0, omega (arith, more.1), more.2))

pub placed_at : (q : Name) (names : List Name) (k : ℕ) → place_from q 0 names ≡ Some k → slice_get names k ≡ Some q
placed_at q names k e = (let its = placed_from q 0 names k e in let here : k ≡ its.0 = omega (arith, its.1) in ap (slice_get names) here ∙ its.2)

some_place : (q : Name) (i : ℕ) (names : List Name) (j : ℕ) → slice_get names j ≡ Some q → (k : ℕ) × (place_from q i names ≡ Some k)
some_place q i [] j e = absurd (none-some q e)
some_place q i (n ∷ names) zero e = (i, ap (λ b. cond b (Some i) (place_from q (i + 1) names)) (names_same q n (sym (same_Some n q e))))
some_place q i (n ∷ names) (suc j) e = by (same q n) (some_place q (i + 1) names j e)
  where
    by : (b : Bool) → (k : ℕ) × (place_from q (i + 1) names ≡ Some k) → (k : ℕ) × (cond b (Some i) (place_from q (i + 1) names) ≡ Some k)
    by true more = (i, refl)
    by false more = more

-- where names differ it is the only one
pub place_found : (q : Name) (names : List Name) (j : ℕ) → Once names → slice_get names j ≡ Some q → place_from q 0 names ≡ Some j
place_found q names j differ e =
    let some = some_place q 0 names j e in
    some.1 ∙ ap Some (differ some.0 j q (placed_at q names some.0 some.1) e)

-- ---- Items by their names.

once_rest : (n : Name) (names : List Name) → Once (n ∷ names) → Once names
once_rest n names differ i j x p q = (let both : suc i ≡ suc j = differ (suc i) (suc j) x p q in omega (arith, both))

item_found : (q : Name) (items : List IndexItem) (j : ℕ) (x : IndexItem) → Once (map item_name items) → slice_get items j ≡ Some x → item_name x ≡ q → item_at q items ≡ Some x
item_found q [] j x differ e is = absurd (none-some x e)
item_found q (y ∷ items) zero x differ e is = (let here : y ≡ x = same_Some y x e in ap (λ b. cond b (Some y) (item_at q items)) (names_same q (item_name y) (sym (ap item_name here ∙ is))) ∙ ap Some here)
item_found q (y ∷ items) (suc j) x differ e is = by (same q (item_name y)) refl (item_found q items j x (once_rest (item_name y) (map item_name items) differ) e is)
  where
    there : slice_get (map item_name items) j ≡ Some q
    there = got_map item_name items j x e ∙ ap Some is

    by : (b : Bool) → same q (item_name y) ≡ b → item_at q items ≡ Some x → cond b (Some y) (item_at q items) ≡ Some x
    by true same more = absurd (let bad : zero ≡ suc j = differ zero (suc j) q (ap Some (sym (same_names q (item_name y) same))) there in omega (arith, bad))
    by false same more = more

pub found_item : (q : Name) (items : List IndexItem) (x : IndexItem) → item_at q items ≡ Some x → (j : ℕ) × (slice_get items j ≡ Some x) × (item_name x ≡ q)
found_item q [] x e = absurd (none-some x e)
found_item q (y ∷ items) x e = by (same q (item_name y)) refl e (found_item q items x)
  where
    by : (b : Bool) → same q (item_name y) ≡ b → cond b (Some y) (item_at q items) ≡ Some x → (item_at q items ≡ Some x → (j : ℕ) × (slice_get items j ≡ Some x) × (item_name x ≡ q)) → (j : ℕ) × (slice_get (y ∷ items) j ≡ Some x) × (item_name x ≡ q)
    by true same e later = (let here : y ≡ x = same_Some y x e in (0, e, sym (same_names q (item_name y) same ∙ ap item_name here)))
    by false same e later = (let more = later e in (suc more.0, more.1, more.2))

-- ---- The items of a tree.

abbrev pub the_item : Placed → IndexItem
the_item p = index_item (plain_placed p)

abbrev pub names_in : Crate → List Name
names_in krate = map item_name (items_of krate)

pub placed_names : (ps : List Placed) → map item_name (map index_item (map plain_placed ps)) ≡ map place_in ps
placed_names [] = refl
placed_names (p ∷ ps) = ap (λ ns. place_in p ∷ ns) (placed_names ps)

module _ (krate : Crate) (tidy : IsTidyCrate krate) where
  pub places_differ : Once (map place_in krate.items)
  places_differ = once (map place_in krate.items) tidy.items

  pub names_differ : Once (names_in krate)
  names_differ = subst Once (sym (placed_names krate.items)) places_differ

  pub item_numbered : (i : ℕ) (p : Placed) → slice_get krate.items i ≡ Some p → slice_get (items_of krate) i ≡ Some (the_item p)
  item_numbered i p e = got_map index_item (map plain_placed krate.items) i (plain_placed p) (got_map plain_placed krate.items i p e)

  pub name_numbered : (i : ℕ) (p : Placed) → slice_get krate.items i ≡ Some p → slice_get (names_in krate) i ≡ Some (place_in p)
  name_numbered i p e = got_map item_name (items_of krate) i (the_item p) (item_numbered i p e)

  -- an item's number is found by its place
  pub number_found : (i : ℕ) (p : Placed) → slice_get krate.items i ≡ Some p → place_from (place_in p) 0 (names_in krate) ≡ Some i
  number_found i p e = place_found (place_in p) (names_in krate) i names_differ (name_numbered i p e)

  -- items of the index are those of the tree
  pub item_placed : (i : ℕ) (x : IndexItem) → slice_get (items_of krate) i ≡ Some x → (p : Placed) × (slice_get krate.items i ≡ Some p) × (the_item p ≡ x)
  item_placed i x e =
      let outer = map_some index_item (slice_get (map plain_placed krate.items) i) x (sym (slice_get-map index_item (map plain_placed krate.items) i) ∙ e) in
      let inner = map_some plain_placed (slice_get krate.items i) outer.0 (sym (slice_get-map plain_placed krate.items i) ∙ outer.1) in
      (inner.0, inner.1, ap index_item inner.2 ∙ outer.2)

  -- a signature is that of the item at its place, and has its kind
  pub record Signed (q : Name) (s : Sig) : Type 0 where
    pub number : ℕ
    pub placed : Placed
    pub at : slice_get krate.items number ≡ Some placed
    pub named : place_in placed ≡ q
    pub kind : s.kind ≡ (the_item placed).kind

  kind_found : (i : ℕ) (p : Placed) → slice_get krate.items i ≡ Some p → kind_at (items_of krate) (place_of p) ≡ (the_item p).kind
  kind_found i p e = ap (λ o. option_map_or (λ (x : IndexItem). x.kind) o 0) (item_found (place_in p) (items_of krate) i (the_item p) names_differ (item_numbered i p e) refl)

  pub signed : (q : Name) (s : Sig) → sig_at q (sigs_of krate) ≡ Some s → Signed q s
  signed q s e =
      let sigs = sigs_of krate in
      let entry = map_some (λ (e : Place × Sig). e.1) (option_and_then (slice_get sigs) (place_from q 0 (places_of sigs))) s e in
      let number = then_some (slice_get sigs) (place_from q 0 (places_of sigs)) entry.0 entry.1 in
      let its = map_some (sig_of (items_of krate)) (slice_get krate.items number.0) entry.0 (sym (slice_get-map (sig_of (items_of krate)) krate.items number.0) ∙ number.2) in
      let there = placed_at q (places_of sigs) number.0 number.1 in
      let here = got_map (λ (e : Place × Sig). place_name e.0) sigs number.0 entry.0 number.2 in
      let name : place_name entry.0.0 ≡ q = same_Some (place_name entry.0.0) q (sym here ∙ there) in
      record {
        number = number.0;
        placed = its.0;
        at = its.1;
        named = ap (λ (e : Place × Sig). place_name e.0) its.2 ∙ name;
        kind = sym (ap (λ (s : Sig). s.kind) entry.2) ∙ sym (ap (λ (e : Place × Sig). e.1.kind) its.2) ∙ kind_found number.0 its.0 its.1;
      }
