-- The tree of a text of at most 1,048,576 bytes is bounded.
use Rattle.std.proofs.Common.{◌≡◌, ℕ, ◌≤◌, List, [], ◌∷◌, ◌++◌, length, map, Ok, sym, subst, arith, length-append}
use Rattle.std.specs.List.{AllByRecursion}
use Rattle.std.proofs.lemmas.List.{length-map}
use Rattle.rs_tree.specs.Plain.{definition}
use Rattle.rs_tree.specs.declared.token.Token.{Token}
use Rattle.rs_tree.specs.declared.tree.Crate.{Crate}
use Rattle.rs_tree.specs.declared.tree.Placed.{Placed}
use Rattle.rs_grammar.specs.declared.sited.Sited.{Sited}
use Rattle.rs_grammar.specs.Lexeme.{lexeme}
use Rattle.rs_grammar.specs.Grammar.{Section, Module, Alone}
use Rattle.rs_grammar.specs.Correct.{HasTree, items_of, modules_of, placed_in}
use Rattle.rs_text.specs.Laws.{TextIs}
use Rattle.rs_text.specs.Text.{IsTextAs, WithTokens, text_of}
use Rattle.range_laws.specs.Bounded.{most, IsShort, BoundedItem, BoundedCrate}
use Rattle.range_laws.specs.Sizes.{definition_size}
use Rattle.range_laws.proofs.Kept.{KeptSited, KeptSection, matched_kept}
use Rattle.range_laws.proofs.Sized.{total, sited_size, section_size, matched_small}
use Rattle.range_laws.proofs.Fine.{FineTokens, tokens_fine}

item_bounded : (name : List ℕ) (s : Sited) → IsShort name → KeptSited s → sited_size s ≤ most → BoundedItem (placed_in name s)
item_bounded name s short kept small =
    let few : definition_size (definition s.placed.item.body) ≤ most = omega (arith, small) in
    record { «module» = short; start = kept.start; name = kept.item.name; at = kept.item.at; inside = kept.item.inside; small = few }

in_bounded : (name : List ℕ) (ss : List Sited) (more : List Placed) → IsShort name → AllByRecursion KeptSited ss → total sited_size ss ≤ most → AllByRecursion BoundedItem more
    → AllByRecursion BoundedItem (map (placed_in name) ss ++ more)
in_bounded name [] more short k small b = b
in_bounded name (s ∷ ss) more short k small b = (item_bounded name s short k.0 (omega (arith, small)), in_bounded name ss more short k.1 (omega (arith, small)) b)

nothing_short : IsShort []
nothing_short = omega arith

items_bounded : (xs : List Section) → AllByRecursion KeptSection xs → total section_size xs ≤ most → AllByRecursion BoundedItem (items_of xs)
items_bounded [] k small = tt
items_bounded (Module at name items ∷ xs) k small = in_bounded name items (items_of xs) k.0.0.1 k.0.1 (omega (arith, small)) (items_bounded xs k.1 (omega (arith, small)))
items_bounded (Alone s ∷ xs) k small = (item_bounded [] s nothing_short k.0 (omega (arith, small)), items_bounded xs k.1 (omega (arith, small)))

modules_short : (xs : List Section) → AllByRecursion KeptSection xs → AllByRecursion IsShort (modules_of xs)
modules_short [] k = tt
modules_short (Module at name items ∷ xs) k = (k.0.0.1, modules_short xs k.1)
modules_short (Alone s ∷ xs) k = modules_short xs k.1

few_modules : (xs : List Section) → length (modules_of xs) ≤ total section_size xs
few_modules [] = omega arith
few_modules (Module at name items ∷ xs) = (let r = few_modules xs in omega (arith, r))
few_modules (Alone s ∷ xs) = (let r = few_modules xs in omega (arith, r))

few_sited : (ss : List Sited) → length ss ≤ total sited_size ss
few_sited [] = omega arith
few_sited (s ∷ ss) = (let r = few_sited ss in omega (arith, r))

few_items : (xs : List Section) → length (items_of xs) ≤ total section_size xs
few_items [] = omega arith
few_items (Module at name items ∷ xs) =
    let r = few_items xs in
    let l = length-append (map (placed_in name) items) (items_of xs) in
    let m = length-map items (placed_in name) in
    let n = few_sited items in
    omega (arith, r, l, m, n)
few_items (Alone s ∷ xs) = (let r = few_items xs in omega (arith, r))

pub crate_bounded : (tokens : List Token) (krate : Crate) → FineTokens tokens → HasTree tokens krate → BoundedCrate krate
crate_bounded tokens krate fine has =
    let kept = matched_kept has.fit fine.each in
    let small = matched_small has.fit in
    let l = length-map tokens lexeme in
    let few = fine.few in
    let within : total section_size has.sections ≤ most = omega (arith, small, l, few) in
    let m = few_modules has.sections in
    let n = few_items has.sections in
    subst BoundedCrate (sym has.makes) (record {
      modules = modules_short has.sections kept;
      few_modules = omega (arith, m, within);
      items = items_bounded has.sections kept within;
      few_items = omega (arith, n, within);
    })

-- a text's tokens, where it has a tree
pub tree_of : TextIs → (text : List ℕ) (krate : Crate) → text_of text ≡ Ok krate → WithTokens text (λ tokens. HasTree tokens krate)
tree_of law text krate e = subst (IsTextAs text) e (law.is text)

pub text_bounded : TextIs → (text : List ℕ) (krate : Crate) → IsShort text → text_of text ≡ Ok krate → BoundedCrate krate
text_bounded law text krate short e = (let w = tree_of law text krate e in crate_bounded w.tokens krate (tokens_fine text w.tokens short w.are) w.holds)
