-- A reduced expression comes to the same, whatever its locals are worth and whatever functions give.
use Rattle.std.proofs.Common.{◌≡◌, ℤ, pos, Bool, true, false, cond, ◌&&◌, ◌∷◌, Option, None, Some, Ok, Err, refl, sym, ap, ◌∙◌}
use Rattle.rs_tree.specs.declared.place.At.{At}
use Rattle.rs_tree.specs.declared.tree.UnaryOp.{UnaryOp}
use Rattle.rs_tree.specs.declared.tree.UnaryOp.TheVariants as op
use Rattle.rs_tree.specs.declared.tree.CmpOp.{CmpOp}
use Rattle.rs_tree.specs.Plain.{Exp, Exps, Operands, Number, Truth, Path, Call, Group, Unary, Arith, Compare, And, Or, Done, By}
use Rattle.rs_value.specs.Value.{Outcome, and_then, is_zero, number_of, unary, arithmetic, holds, value, chain, all, any}
use Rattle.rs_value.specs.Value as worth
use Rattle.rs_value.specs.declared.trap.Trap.{Trap}
use Rattle.rs_lower.specs.Code.{is_not}
use Rattle.rs_lower.specs.Fixed.{shown}
use Rattle.rs_lower.specs.Meanings.{Leaf, Meanings}
use Rattle.rs_lower.specs.Reduced.{by_consts, constant_of, folded, folded_or, is_fixed, is_fixed_all, is_fixed_by, reduced, reduced_all, reduced_by, value_in, valued, valued_all, valued_by}
use Rattle.lower_laws.specs.Seen.{World, Agrees, outcomes, seen, seen_all, seen_by, worth_of}

both_true : (a b : Bool) → (a && b) ≡ true → (a ≡ true) × (b ≡ true)
both_true true b h = (refl, h)
both_true false b h = absurd cc

-- an expression without locals and calls has the same values in every such world
mutual
  seen_fixed : (w : Meanings) (g : World) → Agrees w g → (e : Exp Leaf) → is_fixed e ≡ true → seen g e ≡ valued (by_consts w) e
  seen_fixed w g agrees (Number at n) h = refl
  seen_fixed w g agrees (Truth at b) h = refl
  seen_fixed w g agrees (Path at p) h = ap (λ v. Path at (p.0, v)) (agrees p h)
  seen_fixed w g agrees (Call at p args) h = absurd cc
  seen_fixed w g agrees (Group at e) h = ap (Group at) (seen_fixed w g agrees e h)
  seen_fixed w g agrees (Unary at op e) h = ap (Unary at op) (seen_fixed w g agrees e h)
  seen_fixed w g agrees (Arith at a more) h =
      let both = both_true (is_fixed a) (is_fixed_by more) h in
      (λ j. Arith at (seen_fixed w g agrees a both.0 j) (seen_fixed_by w g agrees more both.1 j))
  seen_fixed w g agrees (Compare at op a b) h =
      let both = both_true (is_fixed a) (is_fixed b) h in
      (λ j. Compare at op (seen_fixed w g agrees a both.0 j) (seen_fixed w g agrees b both.1 j))
  seen_fixed w g agrees (And at parts) h = ap (And at) (seen_fixed_all w g agrees parts h)
  seen_fixed w g agrees (Or at parts) h = ap (Or at) (seen_fixed_all w g agrees parts h)

  seen_fixed_all : (w : Meanings) (g : World) → Agrees w g → (es : Exps Leaf) → is_fixed_all es ≡ true → seen_all g es ≡ valued_all (by_consts w) es
  seen_fixed_all w g agrees Exps.Empty h = refl
  seen_fixed_all w g agrees (Exps.Of e more) h =
      let both = both_true (is_fixed e) (is_fixed_all more) h in
      (λ j. Exps.Of (seen_fixed w g agrees e both.0 j) (seen_fixed_all w g agrees more both.1 j))

  seen_fixed_by : (w : Meanings) (g : World) → Agrees w g → (os : Operands Leaf) → is_fixed_by os ≡ true → seen_by g os ≡ valued_by (by_consts w) os
  seen_fixed_by w g agrees Done h = refl
  seen_fixed_by w g agrees (By op e more) h =
      let both = both_true (is_fixed e) (is_fixed_by more) h in
      (λ j. By op (seen_fixed w g agrees e both.0 j) (seen_fixed_by w g agrees more both.1 j))

-- what is folded has neither locals nor calls, and that value
pub folded_known : (w : Meanings) (e : Exp Leaf) (x : ℤ) → folded w e ≡ Some x → (is_fixed e ≡ true) × (value (valued (by_consts w) e) ≡ Ok x)
folded_known w e x h = by w.folds (is_fixed e) (value (valued (by_consts w) e)) h
  where
    by : (folds b : Bool) (o : Outcome) → cond folds (value_in (cond b (Some o) None)) None ≡ Some x → (b ≡ true) × (o ≡ Ok x)
    by true true (Ok y) h = let same : y ≡ x = cc in (refl, ap Ok same)
    by true true (Err t) h = absurd cc
    by true false o h = absurd cc
    by false b o h = absurd cc

pub known_folded : (w : Meanings) (e : Exp Leaf) (x : ℤ) → w.folds ≡ true → is_fixed e ≡ true → value (valued (by_consts w) e) ≡ Ok x → folded w e ≡ Some x
known_folded w e x folds fixed is = (λ j. cond (folds j) (value_in (cond (fixed j) (Some (is j)) None)) None)

folded_worth : (w : Meanings) (g : World) → Agrees w g → (e : Exp Leaf) (x : ℤ) → folded w e ≡ Some x → worth_of g e ≡ Ok x
folded_worth w g agrees e x h =
    let known = folded_known w e x h in
    ap value (seen_fixed w g agrees e known.0) ∙ known.1

-- a value that is 1 or 0
abbrev pub Bit : Outcome → Type 0
Bit o = (x : ℤ) → o ≡ Ok x → shown true x ≡ x

bit : (b : Bool) → Bit (Ok (number_of b))
bit true x h = let same : pos 1 ≡ x = cc in (λ j. shown true (sym same j)) ∙ same
bit false x h = let same : pos 0 ≡ x = cc in (λ j. shown true (sym same j)) ∙ same

fault_bit : (t : Trap) → Bit (Err t)
fault_bit t x h = absurd cc

not_bit : (o : Outcome) → Bit (and_then o (unary op.Not))
not_bit (Ok v) = bit (is_zero v)
not_bit (Err t) = fault_bit t

pub compare_bit : (cmp : CmpOp) (a b : Outcome) → Bit (and_then a (λ m. and_then b (λ n. Ok (number_of (holds cmp m n)))))
compare_bit cmp (Ok m) (Ok n) = bit (holds cmp m n)
compare_bit cmp (Ok m) (Err t) = fault_bit t
compare_bit cmp (Err t) b = fault_bit t

choice_bit : (b : Bool) (x y : Outcome) → Bit x → Bit y → Bit (cond b x y)
choice_bit true x y first second = first
choice_bit false x y first second = second

part_bit : (o : Outcome) (next : ℤ → Outcome) → ((v : ℤ) → Bit (next v)) → Bit (and_then o next)
part_bit (Ok v) next each = each v
part_bit (Err t) next each = fault_bit t

pub all_bit : (es : Exps worth.Leaf) → Bit (all es)
all_bit Exps.Empty = bit true
all_bit (Exps.Of e more) = part_bit (value e) _ (λ v. choice_bit (is_zero v) (Ok (pos 0)) (all more) (bit false) (all_bit more))

pub any_bit : (es : Exps worth.Leaf) → Bit (any es)
any_bit Exps.Empty = bit false
any_bit (Exps.Of e more) = part_bit (value e) _ (λ v. choice_bit (is_zero v) (any more) (Ok (pos 1)) (any_bit more) (bit true))

-- what gives truth values gives 1 or 0
abbrev pub Shows : Bool → Outcome → Type 0
Shows truth o = (x : ℤ) → o ≡ Ok x → shown truth x ≡ x

pub number_shows : (o : Outcome) → Shows false o
number_shows o x h = refl

pub unary_shows : (op : UnaryOp) (o : Outcome) → Shows (is_not op) (and_then o (unary op))
unary_shows op.Negate o = number_shows _
unary_shows op.Not o = not_bit o

constant_worth : (g : World) (at : At) (truth : Bool) (x : ℤ) → worth_of g (constant_of at truth x) ≡ Ok (shown truth x)
constant_worth g at false x = refl
constant_worth g at true x = refl

kept_or : (w : Meanings) (g : World) → Agrees w g → (at : At) (truth : Bool) (e parts : Exp Leaf) → Shows truth (worth_of g e) → worth_of g parts ≡ worth_of g e → worth_of g (folded_or at truth (folded w e) parts) ≡ worth_of g e
kept_or w g agrees at truth e parts shows same = by (folded w e) (folded_worth w g agrees e)
  where
    by : (o : Option ℤ) → ((x : ℤ) → o ≡ Some x → worth_of g e ≡ Ok x) → worth_of g (folded_or at truth o parts) ≡ worth_of g e
    by None known = same
    by (Some x) known = constant_worth g at truth x ∙ ap Ok (shows x (known x refl)) ∙ sym (known x refl)

mutual
  pub worth_kept : (w : Meanings) (g : World) → Agrees w g → (e : Exp Leaf) → worth_of g (reduced w e) ≡ worth_of g e
  worth_kept w g agrees (Number at n) = refl
  worth_kept w g agrees (Truth at b) = refl
  worth_kept w g agrees (Path at p) = refl
  worth_kept w g agrees (Call at p args) = ap (λ os. worth.given (g.call p os)) (outcomes_kept w g agrees args)
  worth_kept w g agrees (Group at e) = worth_kept w g agrees e
  worth_kept w g agrees (Unary at op e) =
      kept_or w g agrees at (is_not op) (Unary at op e) (Unary at op (reduced w e)) (unary_shows op (worth_of g e)) (ap (λ o. and_then o (unary op)) (worth_kept w g agrees e))
  worth_kept w g agrees (Arith at a more) =
      kept_or w g agrees at false (Arith at a more) (Arith at (reduced w a) (reduced_by w more)) (number_shows _)
      (ap (chain (seen_by g (reduced_by w more))) (worth_kept w g agrees a) ∙ chain_kept w g agrees more (worth_of g a))
  worth_kept w g agrees (Compare at op a b) =
      kept_or w g agrees at true (Compare at op a b) (Compare at op (reduced w a) (reduced w b)) (compare_bit op (worth_of g a) (worth_of g b))
      (λ j. and_then (worth_kept w g agrees a j) (λ m. and_then (worth_kept w g agrees b j) (λ n. Ok (number_of (holds op m n)))))
  worth_kept w g agrees (And at parts) = kept_or w g agrees at true (And at parts) (And at (reduced_all w parts)) (all_bit (seen_all g parts)) (all_kept w g agrees parts)
  worth_kept w g agrees (Or at parts) = kept_or w g agrees at true (Or at parts) (Or at (reduced_all w parts)) (any_bit (seen_all g parts)) (any_kept w g agrees parts)

  outcomes_kept : (w : Meanings) (g : World) → Agrees w g → (es : Exps Leaf) → outcomes (seen_all g (reduced_all w es)) ≡ outcomes (seen_all g es)
  outcomes_kept w g agrees Exps.Empty = refl
  outcomes_kept w g agrees (Exps.Of e more) = (λ j. worth_kept w g agrees e j ∷ outcomes_kept w g agrees more j)

  all_kept : (w : Meanings) (g : World) → Agrees w g → (es : Exps Leaf) → all (seen_all g (reduced_all w es)) ≡ all (seen_all g es)
  all_kept w g agrees Exps.Empty = refl
  all_kept w g agrees (Exps.Of e more) = (λ j. and_then (worth_kept w g agrees e j) (λ v. cond (is_zero v) (Ok (pos 0)) (all_kept w g agrees more j)))

  any_kept : (w : Meanings) (g : World) → Agrees w g → (es : Exps Leaf) → any (seen_all g (reduced_all w es)) ≡ any (seen_all g es)
  any_kept w g agrees Exps.Empty = refl
  any_kept w g agrees (Exps.Of e more) = (λ j. and_then (worth_kept w g agrees e j) (λ v. cond (is_zero v) (any_kept w g agrees more j) (Ok (pos 1))))

  chain_kept : (w : Meanings) (g : World) → Agrees w g → (os : Operands Leaf) (x : Outcome) → chain (seen_by g (reduced_by w os)) x ≡ chain (seen_by g os) x
  chain_kept w g agrees Done x = refl
  chain_kept w g agrees (By op e more) x =
      ap (λ o. chain (seen_by g (reduced_by w more)) (and_then x (λ m. and_then o (arithmetic op m)))) (worth_kept w g agrees e)
      ∙ chain_kept w g agrees more (and_then x (λ m. and_then (worth_of g e) (arithmetic op m)))
