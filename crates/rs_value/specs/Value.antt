-- The value of an expression whose paths have values (docs/LANGUAGE.md, "Values").
use Rattle.std.specs.Prelude.{◌^◌, ◌-◌, ℤ, pos, negsuc, ◌+ℤ◌, ◌-ℤ◌, ◌*ℤ◌, neg_ℤ, int_lt, int_le, int_div, int_rem, Bool, true, false, not, ◌&&◌, ◌==◌, if◌then◌else◌, Option, Some, None, Result, Ok, Err}
use Rattle.rs_tree.specs.declared.tree.Path as path
use Rattle.rs_tree.specs.declared.tree.UnaryOp.{UnaryOp}
use Rattle.rs_tree.specs.declared.tree.UnaryOp.TheVariants.{Negate, Not}
use Rattle.rs_tree.specs.declared.tree.ArithOp.{ArithOp}
use Rattle.rs_tree.specs.declared.tree.ArithOp.TheVariants.{Add, Sub, Mul, Div, Rem}
use Rattle.rs_tree.specs.declared.tree.CmpOp.{CmpOp}
use Rattle.rs_tree.specs.declared.tree.CmpOp.TheVariants.{Equal, NotEqual, Less, Greater, AtMost, AtLeast}
use Rattle.rs_tree.specs.Plain.{Exp, Exps, Operands, Number, Truth, Path, Call, Group, Unary, Arith, Compare, And, Or, Done, By}
use Rattle.rs_value.specs.declared.trap.Trap.{Trap}
use Rattle.rs_value.specs.declared.trap.Trap.TheVariants.{Overflow, DivZero, NoValue}

-- a number, a truth value as 1 or 0, or the first fault met
abbrev pub Outcome : Type 0
Outcome = Result ℤ Trap

abbrev pub and_then : Outcome → (ℤ → Outcome) → Outcome
and_then (Ok v) f = f v
and_then (Err t) f = Err t

-- the numbers of 64 bits with a sign
abbrev pub fits : ℤ → Bool
fits z = int_le (negsuc (2 ^ 63 - 1)) z && int_lt z (pos (2 ^ 63))

-- v, where z is such a number
abbrev pub within : ℤ → ℤ → Outcome
within z v = if fits z then Ok v else Err Overflow

abbrev pub is_zero : ℤ → Bool
is_zero (pos n) = n == 0
is_zero (negsuc n) = false

abbrev pub number_of : Bool → ℤ
number_of true = pos 1
number_of false = pos 0

-- division cuts toward zero, and a remainder has the dividend's sign; where the division leaves the numbers the
-- remainder is refused too
abbrev pub arithmetic : ArithOp → ℤ → ℤ → Outcome
arithmetic Add x y = within (x +ℤ y) (x +ℤ y)
arithmetic Sub x y = within (x -ℤ y) (x -ℤ y)
arithmetic Mul x y = within (x *ℤ y) (x *ℤ y)
arithmetic Div x y = if is_zero y then Err DivZero else within (int_div x y) (int_div x y)
arithmetic Rem x y = if is_zero y then Err DivZero else within (int_div x y) (int_rem x y)

abbrev pub unary : UnaryOp → ℤ → Outcome
unary Negate x = within (neg_ℤ x) (neg_ℤ x)
unary Not x = Ok (number_of (is_zero x))

abbrev pub holds : CmpOp → ℤ → ℤ → Bool
holds Equal x y = int_le x y && int_le y x
holds NotEqual x y = not (int_le x y && int_le y x)
holds Less x y = int_lt x y
holds Greater x y = int_lt y x
holds AtMost x y = int_le x y
holds AtLeast x y = int_le y x

-- the value that a path has, where it has one
abbrev pub given : Option ℤ → Outcome
given None = Err NoValue
given (Some v) = Ok v

-- a path beside its value
abbrev pub Leaf : Type 0
Leaf = path.Path × Option ℤ

-- from the left; a call has no value. `&&` and `||` skip what the left decides.
abbrev mutual
  pub value : Exp Leaf → Outcome
  value (Number at n) = Ok n
  value (Truth at b) = Ok (number_of b)
  value (Path at p) = given p.1
  value (Call at p args) = Err NoValue
  value (Group at e) = value e
  value (Unary at op e) = and_then (value e) (unary op)
  value (Arith at first more) = chain more (value first)
  value (Compare at op a b) = and_then (value a) (λ x. and_then (value b) (λ y. Ok (number_of (holds op x y))))
  value (And at parts) = all parts
  value (Or at parts) = any parts

  pub chain : Operands Leaf → Outcome → Outcome
  chain Done v = v
  chain (By op e more) v = chain more (and_then v (λ x. and_then (value e) (arithmetic op x)))

  pub all : Exps Leaf → Outcome
  all Exps.Empty = Ok (pos 1)
  all (Exps.Of e more) = and_then (value e) (λ v. if is_zero v then Ok (pos 0) else all more)

  pub any : Exps Leaf → Outcome
  any Exps.Empty = Ok (pos 0)
  any (Exps.Of e more) = and_then (value e) (λ v. if is_zero v then any more else Ok (pos 1))
