-- What a text defines once, its tree lists once.
use Rattle.std.proofs.Common.{◌≡◌, ℕ, zero, suc, ◌<◌, inl, inr, List, [], ◌∷◌, ◌++◌, map, length, Option, Some, None, refl, sym, ap, ◌∙◌, subst, arith, get_or}
use Rattle.std.specs.List.{Contains}
use Rattle.std.proofs.lemmas.List.Elements.{Contains-append_right}
use Rattle.rs_tree.specs.declared.tree.Placed.{Placed}
use Rattle.rs_grammar.specs.declared.named.Named.{Named}
use Rattle.rs_grammar.specs.declared.sited.Sited.{Sited}
use Rattle.rs_grammar.specs.Grammar.{Section, Module, Alone}
use Rattle.rs_grammar.specs.Twice.{key, AllOnce}
use Rattle.rs_grammar.specs.Correct.{placed_in, name_in, modules_of, items_of, names_of}
use Rattle.rs_grammar.specs.Tidy.{Throughout, Distinct, IsListed, IsTidyCrate, TreesAreTidy, place_in}
use Rattle.rs_grammar.proofs.Lists.{cons_same, no_tokens, same_head, same_rest, some_same}
use Rattle.rs_grammar.proofs.Names.{Key}
use Rattle.rs_grammar.proofs.Tidy.{modules_named, items_named, sections_named}

abbrev kept : {Y : Type 0} → Option Y → List Y → List Y
kept None ys = ys
kept (Some y) ys = y ∷ ys

-- what is listed of the names
abbrev picked : {Y : Type 0} → (Named → Option Y) → List Named → List Y
picked f [] = []
picked f (d ∷ ds) = kept (f d) (picked f ds)

record Cut {Y : Type 0} (f : Named → Option Y) (ds : List Named) (a : List Y) (y : Y) : Type 0 where
  before : List Named
  one : Named
  rest : List Named
  parts : ds ≡ before ++ one ∷ rest
  front : picked f before ≡ a
  is : f one ≡ Some y

-- a listed one comes from a name
cut_picked : {Y : Type 0} (f : Named → Option Y) (ds : List Named) (a : List Y) (y : Y) (b : List Y) → picked f ds ≡ a ++ y ∷ b → Cut f ds a y
cut_picked f [] [] y b e = absurd (no_tokens e)
cut_picked f [] (x ∷ a) y b e = absurd (no_tokens e)
cut_picked {Y} f (d ∷ ds) a y b e = go (λ a e. cut_picked f ds a y b e) (f d) refl a e
  where
    go : ((a : List Y) → picked f ds ≡ a ++ y ∷ b → Cut f ds a y) → (o : Option Y) → f d ≡ o → (a : List Y) → kept o (picked f ds) ≡ a ++ y ∷ b → Cut f (d ∷ ds) a y
    go later None i a e =
        let c = later a e in
        record { before = d ∷ c.before; one = c.one; rest = c.rest; parts = cons_same refl c.parts; front = ap (λ o. kept o (picked f c.before)) i ∙ c.front; is = c.is }
    go later (Some z) i [] e = record { before = []; one = d; rest = ds; parts = refl; front = refl; is = i ∙ ap Some (same_head e) }
    go later (Some z) i (x ∷ a) e =
        let c = later a (same_rest e) in
        record { before = d ∷ c.before; one = c.one; rest = c.rest; parts = cons_same refl c.parts; front = ap (λ o. kept o (picked f c.before)) i ∙ cons_same (same_head e) c.front; is = c.is }

-- where it is listed, a name has its key
held : {Y : Type 0} (f : Named → Option Y) (g : Y → Key) → ((d : Named) (y : Y) → f d ≡ Some y → key d ≡ g y) → (ds : List Named) (y : Y) → Contains (picked f ds) y → Contains (map key ds) (g y)
held f g inj [] y h = absurd (omega (arith, h.1))
held {Y} f g inj (d ∷ ds) y h = go (λ k. Contains-append_right (key d ∷ []) (map key ds) (g y) (held f g inj ds y k)) (f d) refl h
  where
    here : (Contains (picked f ds) y → Contains (map key (d ∷ ds)) (g y)) → (z : Y) → f d ≡ Some z → (k : ℕ) → k < length (z ∷ picked f ds) → get_or (z ∷ picked f ds) k y ≡ y → Contains (map key (d ∷ ds)) (g y)
    here later z i zero l e = (0, omega arith, inj d z i ∙ ap g e)
    here later z i (suc k) l e = later (k, omega (arith, l), e)

    go : (Contains (picked f ds) y → Contains (map key (d ∷ ds)) (g y)) → (o : Option Y) → f d ≡ o → Contains (kept o (picked f ds)) y → Contains (map key (d ∷ ds)) (g y)
    go later None i h = later h
    go later (Some z) i h = here later z i h.0 h.1 h.2

distinct : {Y : Type 0} (f : Named → Option Y) (g : Y → Key) → ((d : Named) (y : Y) → f d ≡ Some y → key d ≡ g y) → (ds : List Named) → AllOnce ds → Distinct (picked f ds)
distinct f g inj ds once a y b e h =
    let c = cut_picked f ds a y b e in
    once c.before c.one c.rest c.parts (subst (λ q. Contains (map key c.before) q) (sym (inj c.one y c.is)) (held f g inj c.before y (subst (λ l. Contains l y) (sym c.front) h)))

-- modules
abbrev of_module : Option (List ℕ) → List ℕ → Option (List ℕ)
of_module None name = Some name
of_module (Some m) name = None

abbrev module_name : Named → Option (List ℕ)
module_name d = of_module d.module d.name

abbrev module_key : List ℕ → Key
module_key name = (None, name)

module_keys : (d : Named) (y : List ℕ) → module_name d ≡ Some y → key d ≡ module_key y
module_keys d y e = go d.module d.name e
  where
    go : (m : Option (List ℕ)) (n : List ℕ) → of_module m n ≡ Some y → ◌≡◌ {A = Key} (m, n) (None, y)
    go None n e = λ i. (None, some_same e i)
    go (Some m) n e = absurd cc

no_modules : (name : List ℕ) (ss : List Sited) (ds : List Named) → picked module_name (map (name_in name) ss ++ ds) ≡ picked module_name ds
no_modules name [] ds = refl
no_modules name (s ∷ ss) ds = no_modules name ss ds

modules_picked : (xs : List Section) → modules_of xs ≡ picked module_name (names_of xs)
modules_picked [] = refl
modules_picked (Module at name items ∷ xs) = cons_same refl (modules_picked xs ∙ sym (no_modules name items (names_of xs)))
modules_picked (Alone s ∷ xs) = modules_picked xs

-- items
abbrev of_item : Option (List ℕ) → List ℕ → Option (List ℕ × List ℕ)
of_item None name = None
of_item (Some m) name = Some (m, name)

abbrev item_name : Named → Option (List ℕ × List ℕ)
item_name d = of_item d.module d.name

abbrev item_key : List ℕ × List ℕ → Key
item_key p = (Some p.0, p.1)

item_keys : (d : Named) (y : List ℕ × List ℕ) → item_name d ≡ Some y → key d ≡ item_key y
item_keys d y e = go d.module d.name e
  where
    go : (m : Option (List ℕ)) (n : List ℕ) → of_item m n ≡ Some y → ◌≡◌ {A = Key} (m, n) (Some y.0, y.1)
    go None n e = absurd cc
    go (Some m) n e = ap item_key (some_same e)

items_in : (name : List ℕ) (ss : List Sited) (ps : List Placed) (ds : List Named) → map place_in ps ≡ picked item_name ds → map place_in (map (placed_in name) ss ++ ps) ≡ picked item_name (map (name_in name) ss ++ ds)
items_in name [] ps ds e = e
items_in name (s ∷ ss) ps ds e = cons_same refl (items_in name ss ps ds e)

items_picked : (xs : List Section) → map place_in (items_of xs) ≡ picked item_name (names_of xs)
items_picked [] = refl
items_picked (Module at name items ∷ xs) = items_in name items (items_of xs) (names_of xs) (items_picked xs)
items_picked (Alone s ∷ xs) = cons_same refl (items_picked xs)

-- the modules of items
in_listed : (all : List (List ℕ)) (name : List ℕ) (ss : List Sited) (more : List Placed) → Contains all name → Throughout (IsListed all) more → Throughout (IsListed all) (map (placed_in name) ss ++ more)
in_listed all name [] more h k = k
in_listed all name (s ∷ ss) more h k = (inr h, in_listed all name ss more h k)

listed : (all : List (List ℕ)) (xs : List Section) → ((m : List ℕ) → Contains (modules_of xs) m → Contains all m) → Throughout (IsListed all) (items_of xs)
listed all [] h = tt
listed all (Module at name items ∷ xs) h =
    in_listed all name items (items_of xs) (h name (0, omega arith, refl)) (listed all xs (λ m k. h m (Contains-append_right (name ∷ []) (modules_of xs) m k)))
listed all (Alone s ∷ xs) h = (inl refl, listed all xs h)

pub trees_are_tidy : TreesAreTidy
trees_are_tidy tokens tree h =
    let n = sections_named tokens h.fit in
    subst IsTidyCrate (sym h.makes) (record {
      modules = subst Distinct (sym (modules_picked h.sections)) (distinct module_name module_key module_keys (names_of h.sections) h.once);
      items = subst Distinct (sym (items_picked h.sections)) (distinct item_name item_key item_keys (names_of h.sections) h.once);
      listed = listed (modules_of h.sections) h.sections (λ m k. k);
      names = modules_named h.sections n;
      named = items_named h.sections n;
    })
