-- How large a tree is: no more than the tokens that it is written with.
use Rattle.std.specs.Prelude.{ℕ, ◌+◌, Option, Some, None, length}
use Rattle.rs_tree.specs.Plain.{Exp, Exps, Operands, Number, Truth, Path, Call, Group, Unary, Arith, Compare, And, Or, Done, By}
use Rattle.rs_tree.specs.Plain.{Sta, Stas, Arms, Let, Assign, Return, Eval, While, If, Print, Bare, Else, Arm, Definition, Const, Func}

-- an operation of several operands is written with a sign beside each but the first
abbrev mutual
  pub size : {A : Type 0} → Exp A → ℕ
  size (Number at n) = 1
  size (Truth at b) = 1
  size (Path at p) = 1
  size (Call at p args) = size_all args + 1
  size (Group at e) = size e + 1
  size (Unary at op e) = size e + 1
  size (Arith at first more) = size first + size_by more
  size (Compare at op a b) = size a + size b + 1
  size (And at parts) = size_all parts + 1
  size (Or at parts) = size_all parts + 1

  pub size_all : {A : Type 0} → Exps A → ℕ
  size_all Exps.Empty = 0
  size_all (Exps.Of e more) = size e + size_all more

  pub size_by : {A : Type 0} → Operands A → ℕ
  size_by Done = 0
  size_by (By op e more) = size e + size_by more + 1

abbrev pub size_in : {A : Type 0} → Option (Exp A) → ℕ
size_in None = 0
size_in (Some e) = size e

abbrev mutual
  pub sta_size : {A : Type 0} → Sta A → ℕ
  sta_size (Let mutable at name typ value) = size value + 1
  sta_size (Assign at name value) = size value + 1
  sta_size (Return at value) = size_in value + 1
  sta_size (Eval value) = size value + 1
  sta_size (While cond body) = size cond + stas_size body + 1
  sta_size (If arms) = arms_size arms
  sta_size (Print value) = size value + 1

  pub stas_size : {A : Type 0} → Stas A → ℕ
  stas_size Stas.Empty = 0
  stas_size (Stas.Of s more) = sta_size s + stas_size more

  pub arms_size : {A : Type 0} → Arms A → ℕ
  arms_size Bare = 0
  arms_size (Else body) = stas_size body + 1
  arms_size (Arm cond body more) = size cond + stas_size body + arms_size more + 1

abbrev pub definition_size : {A : Type 0} → Definition A → ℕ
definition_size (Const typ value) = size value
definition_size (Func inlined params gives stmts tail) = length params + stas_size stmts + size_in tail
