-- What stands at the paths of a tree, and a tree that is answered: beside what stands at each path stands its answer.
use Rattle.std.specs.Prelude.{List, [], ◌∷◌, ◌++◌, Option, Some, None, length, drop}
use Rattle.rs_tree.specs.Plain.{Exp, Exps, Operands, Number, Truth, Path, Call, Group, Unary, Arith, Compare, And, Or, Done, By}
use Rattle.rs_tree.specs.Plain.{Sta, Stas, Arms, Let, Assign, Return, Eval, While, If, Print, Bare, Else, Arm, Definition, Const, Func}

-- what stands at the paths, in the order of the text: a call's own path comes before its arguments
abbrev mutual
  pub leaves : {A : Type 0} → Exp A → List A
  leaves (Number at n) = []
  leaves (Truth at b) = []
  leaves (Path at p) = p ∷ []
  leaves (Call at p args) = p ∷ leaves_all args
  leaves (Group at e) = leaves e
  leaves (Unary at op e) = leaves e
  leaves (Arith at first more) = leaves first ++ leaves_by more
  leaves (Compare at op a b) = leaves a ++ leaves b
  leaves (And at parts) = leaves_all parts
  leaves (Or at parts) = leaves_all parts

  pub leaves_all : {A : Type 0} → Exps A → List A
  leaves_all Exps.Empty = []
  leaves_all (Exps.Of e more) = leaves e ++ leaves_all more

  pub leaves_by : {A : Type 0} → Operands A → List A
  leaves_by Done = []
  leaves_by (By op e more) = leaves e ++ leaves_by more

abbrev pub leaves_in : {A : Type 0} → Option (Exp A) → List A
leaves_in None = []
leaves_in (Some e) = leaves e

-- a condition comes before its block, and both before what follows them
abbrev mutual
  pub sta_leaves : {A : Type 0} → Sta A → List A
  sta_leaves (Let mutable at name typ value) = leaves value
  sta_leaves (Assign at name value) = leaves value
  sta_leaves (Return at value) = leaves_in value
  sta_leaves (Eval value) = leaves value
  sta_leaves (While cond body) = leaves cond ++ stas_leaves body
  sta_leaves (If arms) = arms_leaves arms
  sta_leaves (Print value) = leaves value

  pub stas_leaves : {A : Type 0} → Stas A → List A
  stas_leaves Stas.Empty = []
  stas_leaves (Stas.Of s more) = sta_leaves s ++ stas_leaves more

  pub arms_leaves : {A : Type 0} → Arms A → List A
  arms_leaves Bare = []
  arms_leaves (Else body) = stas_leaves body
  arms_leaves (Arm cond body more) = leaves cond ++ (stas_leaves body ++ arms_leaves more)

abbrev pub definition_leaves : {A : Type 0} → Definition A → List A
definition_leaves (Const typ value) = leaves value
definition_leaves (Func inlined params gives stmts tail) = stas_leaves stmts ++ leaves_in tail

-- the answer that is next, or the one that stands where they are too few
abbrev pub answer : {B : Type 0} → B → List B → B
answer missing [] = missing
answer missing (b ∷ more) = b

-- each of a list beside its answer, in order
abbrev pub answered : {A B : Type 0} → B → List B → List A → List (A × B)
answered missing bs [] = []
answered missing bs (a ∷ more) = (a, answer missing bs) ∷ answered missing (drop 1 bs) more

-- The tree whose paths are answered from a list, in the order of the text. Each part takes as many answers as it has
-- paths, and what follows it goes on after them.
abbrev mutual
  pub filled : {A B : Type 0} → B → List B → Exp A → Exp (A × B)
  filled missing bs (Number at n) = Number at n
  filled missing bs (Truth at b) = Truth at b
  filled missing bs (Path at p) = Path at (p, answer missing bs)
  filled missing bs (Call at p args) = Call at (p, answer missing bs) (filled_all missing (drop 1 bs) args)
  filled missing bs (Group at e) = Group at (filled missing bs e)
  filled missing bs (Unary at op e) = Unary at op (filled missing bs e)
  filled missing bs (Arith at first more) = Arith at (filled missing bs first) (filled_by missing (drop (length (leaves first)) bs) more)
  filled missing bs (Compare at op a b) = Compare at op (filled missing bs a) (filled missing (drop (length (leaves a)) bs) b)
  filled missing bs (And at parts) = And at (filled_all missing bs parts)
  filled missing bs (Or at parts) = Or at (filled_all missing bs parts)

  pub filled_all : {A B : Type 0} → B → List B → Exps A → Exps (A × B)
  filled_all missing bs Exps.Empty = Exps.Empty
  filled_all missing bs (Exps.Of e more) = Exps.Of (filled missing bs e) (filled_all missing (drop (length (leaves e)) bs) more)

  pub filled_by : {A B : Type 0} → B → List B → Operands A → Operands (A × B)
  filled_by missing bs Done = Done
  filled_by missing bs (By op e more) = By op (filled missing bs e) (filled_by missing (drop (length (leaves e)) bs) more)

abbrev pub filled_in : {A B : Type 0} → B → List B → Option (Exp A) → Option (Exp (A × B))
filled_in missing bs None = None
filled_in missing bs (Some e) = Some (filled missing bs e)

abbrev mutual
  pub sta_filled : {A B : Type 0} → B → List B → Sta A → Sta (A × B)
  sta_filled missing bs (Let mutable at name typ value) = Let mutable at name typ (filled missing bs value)
  sta_filled missing bs (Assign at name value) = Assign at name (filled missing bs value)
  sta_filled missing bs (Return at value) = Return at (filled_in missing bs value)
  sta_filled missing bs (Eval value) = Eval (filled missing bs value)
  sta_filled missing bs (While cond body) = While (filled missing bs cond) (stas_filled missing (drop (length (leaves cond)) bs) body)
  sta_filled missing bs (If arms) = If (arms_filled missing bs arms)
  sta_filled missing bs (Print value) = Print (filled missing bs value)

  pub stas_filled : {A B : Type 0} → B → List B → Stas A → Stas (A × B)
  stas_filled missing bs Stas.Empty = Stas.Empty
  stas_filled missing bs (Stas.Of s more) = Stas.Of (sta_filled missing bs s) (stas_filled missing (drop (length (sta_leaves s)) bs) more)

  pub arms_filled : {A B : Type 0} → B → List B → Arms A → Arms (A × B)
  arms_filled missing bs Bare = Bare
  arms_filled missing bs (Else body) = Else (stas_filled missing bs body)
  arms_filled missing bs (Arm cond body more) =
      Arm (filled missing bs cond) (stas_filled missing (drop (length (leaves cond)) bs) body) (arms_filled missing (drop (length (stas_leaves body)) (drop (length (leaves cond)) bs)) more)

abbrev pub definition_filled : {A B : Type 0} → B → List B → Definition A → Definition (A × B)
definition_filled missing bs (Const typ value) = Const typ (filled missing bs value)
definition_filled missing bs (Func inlined params gives stmts tail) =
    Func inlined params gives (stas_filled missing bs stmts) (filled_in missing (drop (length (stas_leaves stmts)) bs) tail)
