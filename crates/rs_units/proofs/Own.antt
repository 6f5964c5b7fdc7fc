-- The modules that have a function of their own.
use Rattle.std.proofs.Common.{◌≡◌, ℕ, ◌+◌, ◌<◌, ◌==◌, ◌&&◌, ◌||◌, Bool, true, false, cond, List, [], ◌∷◌, ◌++◌, length, get_or, take, drop, Some, refl, sym, ap, ◌∙◌, Bor, nat_cmp}
use Rattle.std.specs.Prelude.{filter, is_some, Option}
use Rattle.std.specs.Cmp.Lexicographic.{slice_cmp}
use Rattle.std.specs.Str.{bytes_eq}
use Rattle.std.specs.BTreeMap.{BTreeMap, get_by, UpdatesBy}
use Rattle.std.proofs.lemmas.Map.Text.{btree_map_updates_str}
use Rattle.std.proofs.lemmas.Cmp.{nat_list_eq_equiv}
use Rattle.std.proofs.lemmas.List.{at_drop_more, take_more}
use Rattle.std.proofs.lemmas.List.Elements.{filter-append}
use Rattle.rs_tree.specs.declared.index.IndexItem.{IndexItem}
use Rattle.rs_units.specs.Units.{is_own, has_own}

held : {V : Type 0} (b : Bool) (v : V) (o : Option V) → is_some (cond b (Some v) o) ≡ (b || is_some o)
held true v o = refl
held false v o = refl

-- one more of this kind
pub noted : {V : Type 0} (v : V) (m n : BTreeMap (Bor (List ℕ)) V) (item : IndexItem) (bs : List ℕ) → item.kind ≡ 1 → bs ≡ item.module
    → UpdatesBy (λ (x y : Bor (List ℕ)). slice_cmp nat_cmp x.now y.now) (λ (k : Bor (List ℕ)). slice_cmp nat_cmp bs k.now) m n (Some v)
    → (q : List ℕ) → is_some (get_by (λ (k : Bor (List ℕ)). slice_cmp nat_cmp q k.now) n) ≡ (is_own q item || is_some (get_by (λ (k : Bor (List ℕ)). slice_cmp nat_cmp q k.now) m))
noted v m n item bs kind is up q =
    let old = get_by (λ (k : Bor (List ℕ)). slice_cmp nat_cmp q k.now) m in
    ap is_some (btree_map_updates_str bs m n (Some v) up q ∙ (λ j. cond ((nat_list_eq_equiv.symm bs q ∙ ap (bytes_eq q) is) j) (Some v) old))
    ∙ held (bytes_eq q item.module) v old
    ∙ sym (λ j. ((kind j == 1) && bytes_eq q item.module) || is_some old)

-- the items from one on
pub own_more : (q : List ℕ) (items : List IndexItem) (k : ℕ) (d : IndexItem) → k < length items → has_own (drop k items) q ≡ (is_own q (get_or items k d) || has_own (drop (k + 1) items) q)
own_more q items k d less = at_drop_more (λ xs. has_own xs q) items k d less

-- the modules up to one
pub units_more : (p : List ℕ → Bool) (ms : List (List ℕ)) (k : ℕ) (m : List ℕ) → k < length ms → m ≡ get_or ms k m → filter p ([] ∷ take (k + 1) ms) ≡ filter p ([] ∷ take k ms) ++ filter p (m ∷ [])
units_more p ms k m less is =
    ap (λ xs. filter p ([] ∷ xs)) (take_more ms k m less ∙ ap (λ x. take k ms ++ x ∷ []) (sym is)) ∙ filter-append p ([] ∷ take k ms) (m ∷ [])
