-- How many labels and slots a tree needs.
use Rattle.std.specs.Prelude.{ℕ, ◌+◌, min, Option, Some, None}
use Rattle.rs_tree.specs.Plain.{Exp, Exps, Operands, Number, Truth, Path, Call, Group, Unary, Arith, Compare, And, Or, Done, By}
use Rattle.rs_tree.specs.Plain.{Sta, Stas, Arms, Let, Assign, Return, Eval, While, If, Print, Bare, Else, Arm}

-- a count up to one past the most
abbrev pub capped : ℕ → ℕ
capped n = min n 65536

-- two of each chain of `&&` or `||`
abbrev mutual
  pub labels : {A : Type 0} → Exp A → ℕ
  labels (Number at n) = 0
  labels (Truth at b) = 0
  labels (Path at p) = 0
  labels (Call at p args) = labels_all args
  labels (Group at e) = labels e
  labels (Unary at op e) = labels e
  labels (Arith at a more) = labels a + labels_by more
  labels (Compare at op a b) = labels a + labels b
  labels (And at parts) = 2 + labels_all parts
  labels (Or at parts) = 2 + labels_all parts

  pub labels_all : {A : Type 0} → Exps A → ℕ
  labels_all Exps.Empty = 0
  labels_all (Exps.Of e more) = labels e + labels_all more

  pub labels_by : {A : Type 0} → Operands A → ℕ
  labels_by Done = 0
  labels_by (By op e more) = labels e + labels_by more

abbrev pub labels_in : {A : Type 0} → Option (Exp A) → ℕ
labels_in None = 0
labels_in (Some e) = labels e

-- two of each `while`, and of an `if` one for each condition and one for its end
abbrev mutual
  pub places : {A : Type 0} → Sta A → ℕ
  places (Let mutable at name typ value) = labels value
  places (Assign at name value) = labels value
  places (Return at value) = labels_in value
  places (Eval value) = labels value
  places (While cond body) = 2 + labels cond + places_all body
  places (If arms) = 1 + places_arms arms
  places (Print value) = labels value

  pub places_all : {A : Type 0} → Stas A → ℕ
  places_all Stas.Empty = 0
  places_all (Stas.Of s more) = places s + places_all more

  pub places_arms : {A : Type 0} → Arms A → ℕ
  places_arms Bare = 0
  places_arms (Else body) = places_all body
  places_arms (Arm cond body more) = 1 + labels cond + places_all body + places_arms more

-- a slot for each `let`
abbrev mutual
  pub lets : {A : Type 0} → Sta A → ℕ
  lets (Let mutable at name typ value) = 1
  lets (Assign at name value) = 0
  lets (Return at value) = 0
  lets (Eval value) = 0
  lets (While cond body) = lets_all body
  lets (If arms) = lets_arms arms
  lets (Print value) = 0

  pub lets_all : {A : Type 0} → Stas A → ℕ
  lets_all Stas.Empty = 0
  lets_all (Stas.Of s more) = lets s + lets_all more

  pub lets_arms : {A : Type 0} → Arms A → ℕ
  lets_arms Bare = 0
  lets_arms (Else body) = lets_all body
  lets_arms (Arm cond body more) = lets_all body + lets_arms more
