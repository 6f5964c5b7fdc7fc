-- What level 1 folds. The outermost arithmetic chain, comparison, chain of `&&` or `||` and unary expression that has neither locals
-- nor calls, and whose value by the rules of constants is a number or truth value, becomes that value. Groups are transparent. One that
-- has no value stays, with its parts reduced. A chain isn't folded in part: each operand is reduced by itself.
use Rattle.std.specs.Prelude.{ℤ, Bool, true, false, not, ◌&&◌, if◌then◌else◌, Option, Some, None, Ok, Err}
use Rattle.rs_tree.specs.declared.answers.Found.TheVariants as f
use Rattle.rs_tree.specs.declared.answers.Const.{Const}
use Rattle.rs_tree.specs.declared.answers.Const.TheVariants as c
use Rattle.rs_tree.specs.declared.place.At.{At}
use Rattle.rs_tree.specs.Plain.{Exp, Exps, Operands, Number, Truth, Path, Call, Group, Unary, Arith, Compare, And, Or, Done, By}
use Rattle.rs_tree.specs.Plain.{Sta, Stas, Arms, Let, Assign, Return, Eval, While, If, Print, Bare, Else, Arm}
use Rattle.rs_lookup.specs.Places.{place_name}
use Rattle.rs_value.specs.Value as worth
use Rattle.rs_lower.specs.Meanings.{Leaf, Meanings, const_at}
use Rattle.rs_lower.specs.Code.{is_not}

-- a constant's value as a number
abbrev pub number_in : Option Const → Option ℤ
number_in None = None
number_in (Some (c.Int v)) = Some v
number_in (Some (c.Bool b)) = Some (worth.number_of b)
number_in (Some c.Cycle) = None
number_in (Some c.Overflow) = None
number_in (Some c.DivZero) = None
number_in (Some c.Bad) = None

-- the value of a path that leads to a constant
abbrev pub leaf_value : Meanings → Leaf → Option ℤ
leaf_value w (p, f.Local) = None
leaf_value w (p, f.Item place) = number_in (const_at (place_name place) w.consts)
leaf_value w (p, f.Private) = None
leaf_value w (p, f.Absent) = None

-- the expression whose paths have these values
abbrev mutual
  pub valued : {A : Type 0} → (A → worth.Leaf) → Exp A → Exp worth.Leaf
  valued v (Number at n) = Number at n
  valued v (Truth at b) = Truth at b
  valued v (Path at p) = Path at (v p)
  valued v (Call at p args) = Call at (v p) (valued_all v args)
  valued v (Group at e) = Group at (valued v e)
  valued v (Unary at op e) = Unary at op (valued v e)
  valued v (Arith at a more) = Arith at (valued v a) (valued_by v more)
  valued v (Compare at op a b) = Compare at op (valued v a) (valued v b)
  valued v (And at parts) = And at (valued_all v parts)
  valued v (Or at parts) = Or at (valued_all v parts)

  pub valued_all : {A : Type 0} → (A → worth.Leaf) → Exps A → Exps worth.Leaf
  valued_all v Exps.Empty = Exps.Empty
  valued_all v (Exps.Of e more) = Exps.Of (valued v e) (valued_all v more)

  pub valued_by : {A : Type 0} → (A → worth.Leaf) → Operands A → Operands worth.Leaf
  valued_by v Done = Done
  valued_by v (By op e more) = By op (valued v e) (valued_by v more)

-- a path beside its value as a constant
abbrev pub by_consts : Meanings → Leaf → worth.Leaf
by_consts w leaf = (leaf.0, leaf_value w leaf)

abbrev pub is_item : Leaf → Bool
is_item (p, f.Local) = false
is_item (p, f.Item place) = true
is_item (p, f.Private) = false
is_item (p, f.Absent) = false

-- an expression has neither locals nor calls, also in what `&&` and `||` skip
abbrev mutual
  pub is_fixed : Exp Leaf → Bool
  is_fixed (Number at n) = true
  is_fixed (Truth at b) = true
  is_fixed (Path at p) = is_item p
  is_fixed (Call at p args) = false
  is_fixed (Group at e) = is_fixed e
  is_fixed (Unary at op e) = is_fixed e
  is_fixed (Arith at a more) = is_fixed a && is_fixed_by more
  is_fixed (Compare at op a b) = is_fixed a && is_fixed b
  is_fixed (And at parts) = is_fixed_all parts
  is_fixed (Or at parts) = is_fixed_all parts

  pub is_fixed_all : Exps Leaf → Bool
  is_fixed_all Exps.Empty = true
  is_fixed_all (Exps.Of e more) = is_fixed e && is_fixed_all more

  pub is_fixed_by : Operands Leaf → Bool
  is_fixed_by Done = true
  is_fixed_by (By op e more) = is_fixed e && is_fixed_by more

-- what an expression without locals and calls comes to: its value, or the first fault that is met
abbrev pub Fixed : Type 0
Fixed = Option worth.Outcome

abbrev pub outcome : Meanings → Exp Leaf → Fixed
outcome w e = if is_fixed e then Some (worth.value (valued (by_consts w) e)) else None

abbrev pub value_in : Fixed → Option ℤ
value_in None = None
value_in (Some (Ok v)) = Some v
value_in (Some (Err t)) = None

-- the value by which an expression is replaced, where it is
abbrev pub folded : Meanings → Exp Leaf → Option ℤ
folded w e = if w.folds then value_in (outcome w e) else None

-- a value as an expression: what gives truth values becomes `true` or `false`
abbrev pub constant_of : At → Bool → ℤ → Exp Leaf
constant_of at false v = Number at v
constant_of at true v = Truth at (not (worth.is_zero v))

-- a value's expression, or where there is none the expression of the parts
abbrev pub folded_or : At → Bool → Option ℤ → Exp Leaf → Exp Leaf
folded_or at truth None parts = parts
folded_or at truth (Some v) parts = constant_of at truth v

abbrev mutual
  pub reduced : Meanings → Exp Leaf → Exp Leaf
  reduced w (Number at n) = Number at n
  reduced w (Truth at b) = Truth at b
  reduced w (Path at p) = Path at p
  reduced w (Call at p args) = Call at p (reduced_all w args)
  reduced w (Group at e) = Group at (reduced w e)
  reduced w (Unary at op e) = folded_or at (is_not op) (folded w (Unary at op e)) (Unary at op (reduced w e))
  reduced w (Arith at a more) = folded_or at false (folded w (Arith at a more)) (Arith at (reduced w a) (reduced_by w more))
  reduced w (Compare at op a b) = folded_or at true (folded w (Compare at op a b)) (Compare at op (reduced w a) (reduced w b))
  reduced w (And at parts) = folded_or at true (folded w (And at parts)) (And at (reduced_all w parts))
  reduced w (Or at parts) = folded_or at true (folded w (Or at parts)) (Or at (reduced_all w parts))

  pub reduced_all : Meanings → Exps Leaf → Exps Leaf
  reduced_all w Exps.Empty = Exps.Empty
  reduced_all w (Exps.Of e more) = Exps.Of (reduced w e) (reduced_all w more)

  pub reduced_by : Meanings → Operands Leaf → Operands Leaf
  reduced_by w Done = Done
  reduced_by w (By op e more) = By op (reduced w e) (reduced_by w more)

abbrev pub reduced_in : Meanings → Option (Exp Leaf) → Option (Exp Leaf)
reduced_in w None = None
reduced_in w (Some e) = Some (reduced w e)

-- a statement with each of its expressions reduced
abbrev mutual
  pub sta_reduced : Meanings → Sta Leaf → Sta Leaf
  sta_reduced w (Let mutable at name typ value) = Let mutable at name typ (reduced w value)
  sta_reduced w (Assign at name value) = Assign at name (reduced w value)
  sta_reduced w (Return at value) = Return at (reduced_in w value)
  sta_reduced w (Eval value) = Eval (reduced w value)
  sta_reduced w (While cond body) = While (reduced w cond) (stas_reduced w body)
  sta_reduced w (If arms) = If (arms_reduced w arms)
  sta_reduced w (Print value) = Print (reduced w value)

  pub stas_reduced : Meanings → Stas Leaf → Stas Leaf
  stas_reduced w Stas.Empty = Stas.Empty
  stas_reduced w (Stas.Of s more) = Stas.Of (sta_reduced w s) (stas_reduced w more)

  pub arms_reduced : Meanings → Arms Leaf → Arms Leaf
  arms_reduced w Bare = Bare
  arms_reduced w (Else body) = Else (stas_reduced w body)
  arms_reduced w (Arm cond body more) = Arm (reduced w cond) (stas_reduced w body) (arms_reduced w more)
