-- A text's tree, its items and its fault are in the ranges of their types.
use Rattle.std.proofs.Common.{◌≡◌, ℕ, ◌<◌, ◌≤◌, Bool, true, false, not, List, [], ◌∷◌, ◌++◌, length, map, Ok, Err, refl, sym, ap, ◌∙◌, subst, arith, length-append}
use Rattle.std.specs.Prelude.{◌^◌, ◌&&◌, if◌then◌else◌}
use Rattle.std.specs.List.{AllByRecursion}
use Rattle.std.proofs.lemmas.List.{length-map}
use Rattle.inc_wire.specs.Fits.{Always, Each, FitsText}
use Rattle.rs_tree.specs.Plain.{Definition, Const, Func, definition, plain_placed}
use Rattle.rs_tree.specs.declared.place.At.{At}
use Rattle.rs_tree.specs.declared.tree.Crate.{Crate}
use Rattle.rs_tree.specs.declared.tree.Param.{Param}
use Rattle.rs_tree.specs.declared.tree.Path as path
use Rattle.rs_tree.specs.declared.tree.Placed.{Placed}
use Rattle.rs_lex.specs.Tokens.{joined}
use Rattle.rs_lex.specs.Places.{place_of}
use Rattle.rs_grammar.specs.declared.named.Named.{Named}
use Rattle.rs_grammar.specs.declared.sited.Sited.{Sited}
use Rattle.rs_grammar.specs.Grammar.{Section, Module, Alone}
use Rattle.rs_grammar.specs.Lexeme.{Lexeme, lexeme, lexemes}
use Rattle.rs_grammar.specs.Correct.{name_in, names_of, rest_place}
use Rattle.rs_grammar.proofs.Again.{in_text}
use Rattle.rs_names.specs.Indexed.{index_item, is_root_main, kind_of}
use Rattle.rs_text.specs.Laws.{TextIs, TokensAreLexed}
use Rattle.rs_text.specs.Text.{IsTextAs, text_of}
use Rattle.rs_text.specs.declared.fault.TextFault.{TextFault}
use Rattle.rs_text.specs.declared.fault.TextFault.TheVariants as text
use Rattle.rs_forms.specs.Fits.{FitsFault, FitsIndexItem}
use Rattle.rs_queries.specs.Known.{params_of}
use Rattle.rs_plans.specs.Plans.{index_fault}
use Rattle.plan_laws.specs.Texts.{HasCrate}
use Rattle.plan_laws.specs.Whole.{FitsPlaced, HasItems}
use Rattle.range_laws.specs.Bounded.{most, IsNear, IsShort, BoundedCrate, BoundedItem}
use Rattle.range_laws.specs.Sizes.{definition_size}
use Rattle.range_laws.proofs.Fine.{place_near, tokens_fine}
use Rattle.range_laws.proofs.Kept.{AllFine, KeptSited, KeptSection, matched_kept}
use Rattle.range_laws.proofs.Lexed.{from_lexed, ordered}
use Rattle.range_laws.proofs.Whole.{crate_bounded, tree_of}

-- ---- The index.

text_fits : (text : List ℕ) → IsShort text → FitsText text
text_fits text h = omega (arith, h)

texts_fit : (xs : List (List ℕ)) → AllByRecursion IsShort xs → Each FitsText xs
texts_fit [] h = tt
texts_fit (x ∷ xs) h = (text_fits x h.0, texts_fit xs h.1)

kind_small : (main : Bool) (d : Definition path.Path) → kind_of main d < 2 ^ 8
kind_small main (Const typ value) = omega arith
kind_small main (Func inlined params gives stmts tail) = by (inlined && not main)
  where
    by : (b : Bool) → (if b then 2 else 1) < 2 ^ 8
    by true = omega arith
    by false = omega arith

index_items_fit : (ps : List Placed) → AllByRecursion BoundedItem ps → Each FitsIndexItem (map index_item (map plain_placed ps))
index_items_fit [] h = tt
index_items_fit (p ∷ ps) h =
    (record { «module» = text_fits p.module h.0.module; name = text_fits p.item.name h.0.name; kind = kind_small (is_root_main p.module p.item.name) (definition p.item.body) }, index_items_fit ps h.1)

pub crate_fits : (text : List ℕ) (krate : Crate) → text_of text ≡ Ok krate → BoundedCrate krate → HasCrate text krate
crate_fits text krate e b =
    let a = b.few_modules in
    let c = b.few_items in
    let l = length-map krate.items plain_placed in
    let m = length-map (map plain_placed krate.items) index_item in
    record {
      is = e;
      index = record {
        modules = record { few = omega (arith, a); each = texts_fit krate.modules b.modules };
        items = record { few = omega (arith, c, l, m); each = index_items_fit krate.items b.items };
      };
    }

-- ---- The items.

pub few_params : (d : Definition path.Path) → definition_size d ≤ most → length (params_of d) ≤ most
few_params (Const typ value) h = omega arith
few_params (Func inlined params gives stmts tail) h = (let l = length-map params (λ (p : Param). p.typ) in omega (arith, h, l))

always : {X : Type 0} (xs : List X) → Each Always xs
always [] = tt
always (x ∷ xs) = (tt, always xs)

each_item : (P : Placed → Type 0) (ps : List Placed) → AllByRecursion BoundedItem ps → ((before rest : List Placed) (p : Placed) → ps ≡ before ++ p ∷ rest → BoundedItem p → P p) → AllByRecursion P ps
each_item P [] b h = tt
each_item P (p ∷ ps) b h = (h [] ps p refl b.0, each_item P ps b.1 (λ before rest q e. h (p ∷ before) rest q (ap (λ z. p ∷ z) e)))

pub items_fit : TextIs → TokensAreLexed → (text : List ℕ) (krate : Crate) → IsShort text → text_of text ≡ Ok krate → HasItems krate
items_fit law lexed text krate short e =
    let w = tree_of law text krate e in
    let fine = tokens_fine text w.tokens short w.are in
    let order = lexed text w.tokens w.are in
    let bounded = crate_bounded w.tokens krate fine w.holds in
    let l = length-map w.tokens lexeme in
    let f = fine.few in
    let few : length (lexemes w.tokens) ≤ most = omega (arith, l, f) in
    record {
      each = each_item FitsPlaced krate.items bounded.items (λ before rest p parts b.
          let from = in_text w.holds.fit before rest p (sym (ap (λ (c : Crate). c.items) w.holds.makes) ∙ parts) in
          let t = from_lexed from fine.each (ordered (place_of text) w.tokens order.texts order.places) few in
          let n = few_params (definition p.item.body) b.small in
          record { tokens = t.fit; lexed = t.lexed; params = record { few = omega (arith, n); each = always (params_of (definition p.item.body)) } });
    }

-- ---- The fault.

fault_fits : (f : TextFault) → IsNear (index_fault f).at → IsShort (index_fault f).name → FitsFault (index_fault f)
fault_fits f h s = (let l = h.line in let c = h.column in record { line = omega (arith, l); column = omega (arith, c); name = omega (arith, s) })

nothing : IsShort []
nothing = omega arith

back_near : (a : List Lexeme) (t : Lexeme) (b : List Lexeme) → AllFine (a ++ t ∷ b) → IsNear t.at
back_near [] t b h = h.0.at
back_near (x ∷ a) t b h = back_near a t b h.1

rest_near : (end : At) (a b : List Lexeme) → IsNear end → AllFine (a ++ b) → IsNear (rest_place end b)
rest_near end a [] n h = n
rest_near end a (t ∷ b) n h = back_near a t b h

abbrev IsNearName : Named → Type 0
IsNearName d = IsNear d.at × IsShort d.name

in_near : (name : List ℕ) (ss : List Sited) (more : List Named) → AllByRecursion KeptSited ss → AllByRecursion IsNearName more → AllByRecursion IsNearName (map (name_in name) ss ++ more)
in_near name [] more k b = b
in_near name (s ∷ ss) more k b = ((k.0.at, k.0.item.name), in_near name ss more k.1 b)

names_near : (xs : List Section) → AllByRecursion KeptSection xs → AllByRecursion IsNearName (names_of xs)
names_near [] k = tt
names_near (Module at name items ∷ xs) k = ((k.0.0.0, k.0.0.1), in_near name items (names_of xs) k.0.1 (names_near xs k.1))
names_near (Alone s ∷ xs) k = ((k.0.at, k.0.item.name), names_near xs k.1)

one_near : (before : List Named) (d : Named) (rest : List Named) → AllByRecursion IsNearName (before ++ d ∷ rest) → IsNearName d
one_near [] d rest h = h.0
one_near (x ∷ before) d rest h = one_near before d rest h.1

pub text_fault_fits : TextIs → (bytes : List ℕ) (fault : TextFault) → IsShort bytes → text_of bytes ≡ Err fault → FitsFault (index_fault fault)
text_fault_fits law bytes fault short e = go fault (subst (IsTextAs bytes) e (law.is bytes))
  where
    go : (f : TextFault) → IsTextAs bytes (Err f) → FitsFault (index_fault f)
    go (text.Byte at) h =
        let l = ap length h.is.joins in
        let m = length-append (joined h.is.pieces) h.is.rest in
        fault_fits (text.Byte at) (subst IsNear (sym h.is.place) (place_near (joined h.is.pieces) (omega (arith, l, m, short)))) nothing
    go (text.Nesting at) h =
        let fine = tokens_fine bytes h.tokens short h.are in
        let t = h.holds in
        fault_fits (text.Nesting at) (subst IsNear (sym t.place) (back_near t.before t.bracket t.rest (subst AllFine t.parts fine.each))) nothing
    go (text.Syntax at) h =
        let fine = tokens_fine bytes h.tokens short h.are in
        let t = h.holds in
        fault_fits (text.Syntax at) (subst IsNear (sym t.place) (rest_near (place_of bytes) t.before t.rest (place_near bytes short) (subst AllFine t.parts fine.each))) nothing
    go (text.Twice at name) h =
        let fine = tokens_fine bytes h.tokens short h.are in
        let t = h.holds in
        let f = t.twice.first in
        let n = one_near f.before t.twice.named f.rest (subst (AllByRecursion IsNearName) f.parts (names_near t.sections (matched_kept t.fit fine.each))) in
        fault_fits (text.Twice at name) (subst IsNear (sym t.twice.place) n.0) (subst IsShort (sym t.twice.text) n.1)
    go text.Memory h = absurd h
