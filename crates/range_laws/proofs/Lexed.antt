-- An item's tokens can be a text's, and are in the ranges of their types.
use Rattle.std.proofs.Common.{◌≡◌, ◌≤◌, inl, inr, Bool, true, false, List, [], ◌∷◌, ◌++◌, length, map, refl, sym, ap, ◌∙◌, subst, arith, length-append, eq-eqb}
use Rattle.std.specs.Prelude.{◌==◌, ◌&&◌, ◌||◌, nat_lt}
use Rattle.std.specs.Option.{is_some}
use Rattle.std.specs.List.{AllByRecursion}
use Rattle.std.proofs.lemmas.Bool.{lt-ltb}
use Rattle.std.proofs.lemmas.List.{length-map}
use Rattle.inc_wire.specs.Fits.{Each, FitsList}
use Rattle.rs_tree.specs.Kinds.{kind_of}
use Rattle.rs_tree.specs.declared.place.At.{At}
use Rattle.rs_tree.specs.declared.token.Token.{Token}
use Rattle.rs_tree.specs.declared.tree.Placed.{Placed}
use Rattle.rs_grammar.specs.declared.sited.Sited.{Sited}
use Rattle.rs_grammar.specs.Grammar.{Nt, Item, Matches, m-here, m-nt}
use Rattle.rs_grammar.specs.Lexed.{IsBefore, IsNotAfter, first_or, Ascend, AreTokens}
use Rattle.rs_grammar.specs.Lexeme.{Lexeme, lexemes, moved, relative, seen, token}
use Rattle.rs_grammar.proofs.Again.{FromItem}
use Rattle.rs_grammar.proofs.Turned.{places_turn}
use Rattle.rs_forms.specs.Fits.{FitsToken}
use Rattle.rs_plans.specs.Readings.{are_lexed, is_before, last_place}
use Rattle.range_laws.specs.Bounded.{most, IsNear}
use Rattle.range_laws.proofs.Kept.{AllFine, relative_near, seen_fine}

-- each is a token, and before all that follow it
abbrev pub AreOrdered : List Lexeme → Type 0
AreOrdered [] = Unit {0}
AreOrdered (t ∷ u) = (is_some (kind_of t.text) ≡ true) × AllByRecursion (λ x. IsBefore t.at x.at) u × AreOrdered u

before_both : {a b c : At} → IsBefore a b → IsBefore b c → IsBefore a c
before_both (inl x) (inl y) = inl (omega (arith, x, y))
before_both (inl x) (inr y) = inl (omega (arith, x, y.0))
before_both (inr x) (inl y) = inl (omega (arith, x.0, y))
before_both (inr x) (inr y) = inr (omega (arith, x.0, y.0), omega (arith, x.1, y.1))

later : (end at : At) (ts : List Token) → IsBefore at (first_or end ts) → Ascend end ts → AllByRecursion (λ x. IsBefore at x.at) (lexemes ts)
later end at [] h a = tt
later end at (t ∷ ts) h a = (h, later end at ts (before_both h a.0) a.1)

pub ordered : (end : At) (ts : List Token) → AreTokens ts → Ascend end ts → AreOrdered (lexemes ts)
ordered end [] k a = tt
ordered end (t ∷ ts) k a = (k.0, later end t.at ts a.0 a.1, ordered end ts k.1 a.1)

all_front : (P : Lexeme → Type 0) (a b : List Lexeme) → AllByRecursion P (a ++ b) → AllByRecursion P a
all_front P [] b h = tt
all_front P (t ∷ a) b h = (h.0, all_front P a b h.1)

all_back : (P : Lexeme → Type 0) (a b : List Lexeme) → AllByRecursion P (a ++ b) → AllByRecursion P b
all_back P [] b h = h
all_back P (t ∷ a) b h = all_back P a b h.1

ordered_front : (a b : List Lexeme) → AreOrdered (a ++ b) → AreOrdered a
ordered_front [] b h = tt
ordered_front (t ∷ a) b h = (h.0, all_front (λ x. IsBefore t.at x.at) a b h.1, ordered_front a b h.2)

ordered_back : (a b : List Lexeme) → AreOrdered (a ++ b) → AreOrdered b
ordered_back [] b h = h
ordered_back (t ∷ a) b h = ordered_back a b h.2

or_second : (x : Bool) {y : Bool} → y ≡ true → (x || y) ≡ true
or_second true e = refl
or_second false e = e

before_is : (a b : At) → IsBefore a b → is_before a b ≡ true
before_is a b (inl h) = ap (λ q. q || (a.line == b.line && nat_lt a.column b.column)) (lt-ltb a.line b.line h)
before_is a b (inr h) = or_second (nat_lt a.line b.line) (ap (λ q. q && nat_lt a.column b.column) (eq-eqb a.line b.line h.0) ∙ lt-ltb a.column b.column h.1)

near_last : (at : At) → IsNear at → IsBefore at last_place
near_last at h = (let l = h.line in inl (omega (arith, l)))

next_before : (base : At) (t : Lexeme) (u : List Lexeme) → IsNear t.at → IsNotAfter base t.at → AllByRecursion (λ x. IsNotAfter base x.at) u → AllByRecursion (λ x. IsBefore t.at x.at) u
    → is_before (relative base t.at) (first_or last_place (map token (seen base u))) ≡ true
next_before base t [] h n ns b = before_is (relative base t.at) last_place (near_last (relative base t.at) (relative_near base t.at h))
next_before base t (x ∷ u) h n ns b = before_is (relative base t.at) (relative base x.at) (places_turn.order base t.at x.at n ns.0 b.0)

all_three : {x y z : Bool} → x ≡ true → y ≡ true → z ≡ true → ((x && y) && z) ≡ true
all_three {y} {z} a b c = ap (λ q. (q && y) && z) a ∙ ap (λ q. q && z) b ∙ c

seen_lexed : (base : At) (u : List Lexeme) → AllFine u → AllByRecursion (λ x. IsNotAfter base x.at) u → AreOrdered u → are_lexed (map token (seen base u)) ≡ true
seen_lexed base [] f n o = refl
seen_lexed base (t ∷ u) f n o = all_three o.0 (next_before base t u f.0.at n.0 n.1 o.1) (seen_lexed base u f.1 n.1 o.2)

each_fits : (u : List Lexeme) → AllFine u → Each FitsToken (map token u)
each_fits [] f = tt
each_fits (t ∷ u) f =
    let l = f.0.at.line in
    let c = f.0.at.column in
    let x = f.0.text in
    (record { line = omega (arith, l); column = omega (arith, c); text = omega (arith, x) }, each_fits u f.1)

not_after : (base : At) (u : List Lexeme) → AllByRecursion (λ x. IsBefore base x.at) u → AllByRecursion (λ x. IsNotAfter base x.at) u
not_after base [] h = tt
not_after base (t ∷ u) h = (inr h.0, not_after base u h.1)

-- tokens in their ranges that can be a text's
pub record LexedTokens (tokens : List Token) : Type 0 where
  pub fit : FitsList FitsToken tokens
  pub lexed : are_lexed tokens ≡ true

item_lexed : {u : List Lexeme} {s : Sited} → Matches _ (Nt Item) u s → AllFine u → AreOrdered u → length u ≤ most → LexedTokens s.placed.item.tokens
item_lexed (m-nt (m-here {t} {a} m)) f o h =
    let l = length-map (t ∷ a) (moved t.at) in
    let k = length-map (seen t.at (t ∷ a)) token in
    record {
      fit = record { few = omega (arith, l, k, h); each = each_fits (seen t.at (t ∷ a)) (seen_fine t.at (t ∷ a) f) };
      lexed = seen_lexed t.at (t ∷ a) f (inl refl, not_after t.at a o.1) o;
    }

pub from_lexed : {u : List Lexeme} {p : Placed} → FromItem u p → AllFine u → AreOrdered u → length u ≤ most → LexedTokens p.item.tokens
from_lexed {u} f fine order few =
    let fine2 = all_front _ f.tokens f.back (all_back _ f.front (f.tokens ++ f.back) (subst AllFine f.parts fine)) in
    let order2 = ordered_front f.tokens f.back (ordered_back f.front (f.tokens ++ f.back) (subst AreOrdered f.parts order)) in
    let l = ap length f.parts in
    let m = length-append f.front (f.tokens ++ f.back) in
    let n = length-append f.tokens f.back in
    subst (λ (q : Placed). LexedTokens q.item.tokens) (sym f.is) (item_lexed f.item fine2 order2 (omega (arith, l, m, n, few)))
