-- The instructions of a tree; truth values are 1 and 0. n is the number of the next label, m the next slot: labels are numbered in the order in which
-- they are first needed, slots in that of the `let`s.
use Rattle.std.specs.Prelude.{ℕ, ◌+◌, ℤ, pos, Bool, true, false, List, [], ◌∷◌, ◌++◌, Option, Some, None}
use Rattle.rs_tree.specs.declared.answers.Found.TheVariants as f
use Rattle.rs_tree.specs.declared.answers.Const.{Const}
use Rattle.rs_tree.specs.declared.answers.Const.TheVariants as c
use Rattle.rs_tree.specs.declared.tree.Typ.{Typ}
use Rattle.rs_tree.specs.declared.tree.UnaryOp.{UnaryOp}
use Rattle.rs_tree.specs.declared.tree.UnaryOp.TheVariants as unary
use Rattle.rs_tree.specs.declared.tree.ArithOp.{ArithOp}
use Rattle.rs_tree.specs.declared.tree.ArithOp.TheVariants as arith
use Rattle.rs_tree.specs.declared.tree.CmpOp.{CmpOp}
use Rattle.rs_tree.specs.declared.tree.CmpOp.TheVariants as cmp
use Rattle.rs_tree.specs.declared.ir.Instr.{Instr}
use Rattle.rs_tree.specs.declared.ir.Instr.TheVariants as i
use Rattle.rs_tree.specs.Plain.{Exp, Exps, Operands, Number, Truth, Path, Call, Group, Unary, Arith, Compare, And, Or, Done, By}
use Rattle.rs_tree.specs.Plain.{Sta, Stas, Arms, Let, Assign, Return, Eval, While, If, Print, Bare, Else, Arm}
use Rattle.rs_lower.specs.Meanings.{Leaf, Meanings, const_at, callee, sig_of, has_kind, gives_truth, gives_value, is_truth_const, is_truth_type}
use Rattle.rs_lookup.specs.Places.{place_name}
use Rattle.rs_value.specs.Value.{number_of}
use Rattle.rs_lower.specs.Locals.{Local, Env, find}
use Rattle.rs_lower.specs.Counts.{labels, places, places_all, lets, lets_all}

abbrev pub arith_code : ArithOp → ℕ
arith_code arith.Add = 0x10
arith_code arith.Sub = 0x11
arith_code arith.Mul = 0x12
arith_code arith.Div = 0x13
arith_code arith.Rem = 0x14

abbrev pub unary_code : UnaryOp → ℕ
unary_code unary.Negate = 0x15
unary_code unary.Not = 0x16

abbrev pub compare_code : CmpOp → ℕ
compare_code cmp.Equal = 0x17
compare_code cmp.NotEqual = 0x18
compare_code cmp.Less = 0x19
compare_code cmp.Greater = 0x1a
compare_code cmp.AtMost = 0x1b
compare_code cmp.AtLeast = 0x1c

-- a local is loaded from its slot
abbrev pub loaded : Option Local → Instr
loaded None = i.Push (pos 0)
loaded (Some l) = i.Load l.slot

-- an assigned value goes to its local's slot
abbrev pub stored : Option Local → Instr
stored None = i.Plain 0x04
stored (Some l) = i.Store l.slot

-- a constant pushes its value
abbrev pub pushed : Option Const → Instr
pushed None = i.Push (pos 0)
pushed (Some (c.Int v)) = i.Push v
pushed (Some (c.Bool b)) = i.Push (number_of b)
pushed (Some c.Cycle) = i.Push (pos 0)
pushed (Some c.Overflow) = i.Push (pos 0)
pushed (Some c.DivZero) = i.Push (pos 0)
pushed (Some c.Bad) = i.Push (pos 0)

abbrev pub path_code : Meanings → Env → Leaf → Instr
path_code w env (p, f.Local) = loaded (find p.name env)
path_code w env (p, f.Item place) = pushed (const_at (place_name place) w.consts)
path_code w env (p, f.Private) = i.Push (pos 0)
path_code w env (p, f.Absent) = i.Push (pos 0)

-- a call says whether its function is of kind 2
abbrev pub call_code : Meanings → Leaf → Instr
call_code w (p, found) = i.Call (has_kind 2 (sig_of w found)) (callee p found)

-- the jump of a part that decides, of `&&` or where `either` of `||`
abbrev pub jump_code : Bool → ℕ
jump_code false = 0x29
jump_code true = 0x2a

-- the end of a chain: f leads to the value, and e is past it
abbrev pub chain_end : ℤ → ℕ → ℕ → List Instr
chain_end v f e = i.Jump 0x28 e ∷ i.Label f ∷ i.Push v ∷ i.Label e ∷ []

-- the value of an expression stands on top afterwards
abbrev mutual
  pub code : Meanings → Env → ℕ → Exp Leaf → List Instr
  code w env n (Number at v) = i.Push v ∷ []
  code w env n (Truth at b) = i.Push (number_of b) ∷ []
  code w env n (Path at p) = path_code w env p ∷ []
  code w env n (Call at p args) = code_all w env n args ++ call_code w p ∷ []
  code w env n (Group at e) = code w env n e
  code w env n (Unary at op e) = code w env n e ++ i.Plain (unary_code op) ∷ []
  code w env n (Arith at a more) = code w env n a ++ code_by w env (n + labels a) more
  code w env n (Compare at op a b) = code w env n a ++ (code w env (n + labels a) b ++ i.Plain (compare_code op) ∷ [])
  code w env n (And at parts) = code_chain w env (jump_code false) (number_of false) n parts
  code w env n (Or at parts) = code_chain w env (jump_code true) (number_of true) n parts

  pub code_all : Meanings → Env → ℕ → Exps Leaf → List Instr
  code_all w env n Exps.Empty = []
  code_all w env n (Exps.Of e more) = code w env n e ++ code_all w env (n + labels e) more

  pub code_by : Meanings → Env → ℕ → Operands Leaf → List Instr
  code_by w env n Done = []
  code_by w env n (By op e more) = code w env n e ++ (i.Plain (arith_code op) ∷ code_by w env (n + labels e) more)

  -- behind the first part the label of the value is needed
  pub code_chain : Meanings → Env → ℕ → ℤ → ℕ → Exps Leaf → List Instr
  code_chain w env jump v n Exps.Empty = chain_end v n (n + 1)
  code_chain w env jump v n (Exps.Of e more) = code w env n e ++ code_parts w env jump v (n + labels e) (n + labels e + 1) more

  pub code_parts : Meanings → Env → ℕ → ℤ → ℕ → ℕ → Exps Leaf → List Instr
  code_parts w env jump v f n Exps.Empty = chain_end v f n
  code_parts w env jump v f n (Exps.Of e more) = i.Jump jump f ∷ (code w env n e ++ code_parts w env jump v f (n + labels e) more)

abbrev pub holds_truth : Option Local → Bool
holds_truth None = false
holds_truth (Some l) = l.truth

-- a path's value is a truth value
abbrev pub is_truth_path : Meanings → Env → Leaf → Bool
is_truth_path w env (p, f.Local) = holds_truth (find p.name env)
is_truth_path w env (p, f.Item place) = is_truth_const (const_at (place_name place) w.consts)
is_truth_path w env (p, f.Private) = false
is_truth_path w env (p, f.Absent) = false

abbrev pub is_not : UnaryOp → Bool
is_not unary.Negate = false
is_not unary.Not = true

-- an expression's value is a truth value
abbrev pub is_truth : Meanings → Env → Exp Leaf → Bool
is_truth w env (Number at v) = false
is_truth w env (Truth at b) = true
is_truth w env (Path at p) = is_truth_path w env p
is_truth w env (Call at p args) = gives_truth (sig_of w p.1)
is_truth w env (Group at e) = is_truth w env e
is_truth w env (Unary at op e) = is_not op
is_truth w env (Arith at a more) = false
is_truth w env (Compare at op a b) = true
is_truth w env (And at parts) = true
is_truth w env (Or at parts) = true

-- an expression has a value
abbrev pub has_value : Meanings → Exp Leaf → Bool
has_value w (Number at v) = true
has_value w (Truth at b) = true
has_value w (Path at p) = true
has_value w (Call at p args) = gives_value (sig_of w p.1)
has_value w (Group at e) = has_value w e
has_value w (Unary at op e) = true
has_value w (Arith at a more) = true
has_value w (Compare at op a b) = true
has_value w (And at parts) = true
has_value w (Or at parts) = true

abbrev pub popped : Bool → List Instr
popped true = i.Plain 0x04 ∷ []
popped false = []

abbrev pub print_code : Bool → ℕ
print_code true = 0x21
print_code false = 0x20

abbrev pub return_code : Bool → ℕ
return_code true = 0x32
return_code false = 0x31

-- a `return`, and the end of a function
abbrev pub returned : Meanings → Env → ℕ → Option (Exp Leaf) → List Instr
returned w env n None = i.Plain 0x31 ∷ []
returned w env n (Some e) = code w env n e ++ i.Plain (return_code w.gives) ∷ []

-- a variable has the type that its `let` names, or its value's
abbrev pub is_truth_let : Meanings → Env → Option Typ → Exp Leaf → Bool
is_truth_let w env None value = is_truth w env value
is_truth_let w env (Some typ) value = is_truth_type typ

-- the locals in scope after a statement
abbrev pub after : Meanings → Env → ℕ → Sta Leaf → Env
after w env m (Let mutable at name typ value) = record { name = name; slot = m; truth = is_truth_let w env typ value } ∷ env
after w env m (Assign at name value) = env
after w env m (Return at value) = env
after w env m (Eval value) = env
after w env m (While cond body) = env
after w env m (If arms) = env
after w env m (Print value) = env

abbrev pub after_all : Meanings → Env → ℕ → Stas Leaf → Env
after_all w env m Stas.Empty = env
after_all w env m (Stas.Of s more) = after_all w (after w env m s) (m + lets s) more

abbrev mutual
  pub body : Meanings → Env → ℕ → ℕ → Sta Leaf → List Instr
  body w env m n (Let mutable at name typ value) = code w env n value ++ i.Store m ∷ []
  body w env m n (Assign at name value) = code w env n value ++ stored (find name env) ∷ []
  body w env m n (Return at value) = returned w env n value
  body w env m n (Eval value) = code w env n value ++ popped (has_value w value)
  body w env m n (Print value) = code w env n value ++ i.Plain (print_code (is_truth w env value)) ∷ []
  body w env m n (While cond inner) =
      i.Label n ∷ (code w env (n + 1) cond ++ (i.Jump 0x29 (n + 1 + labels cond) ∷
      (body_all w env m (n + 2 + labels cond) inner ++ (i.Jump 0x28 n ∷ i.Label (n + 1 + labels cond) ∷ []))))
  body w env m n (If arms) = body_if w env m n arms

  pub body_all : Meanings → Env → ℕ → ℕ → Stas Leaf → List Instr
  body_all w env m n Stas.Empty = []
  body_all w env m n (Stas.Of s more) = body w env m n s ++ body_all w (after w env m s) (m + lets s) (n + places s) more

  -- behind the first block the label past the end is needed
  pub body_if : Meanings → Env → ℕ → ℕ → Arms Leaf → List Instr
  body_if w env m n Bare = i.Label n ∷ []
  body_if w env m n (Else inner) = body_all w env m (n + 1) inner ++ i.Label n ∷ []
  body_if w env m n (Arm cond inner more) =
      code w env n cond ++ (i.Jump 0x29 (n + labels cond) ∷ (body_all w env m (n + labels cond + 1) inner ++
      (i.Jump 0x28 (n + labels cond + 1 + places_all inner) ∷ i.Label (n + labels cond) ∷
      (body_arms w env (m + lets_all inner) (n + labels cond + 1 + places_all inner) (n + labels cond + 2 + places_all inner) more ++
      i.Label (n + labels cond + 1 + places_all inner) ∷ []))))

  pub body_arms : Meanings → Env → ℕ → ℕ → ℕ → Arms Leaf → List Instr
  body_arms w env m e n Bare = []
  body_arms w env m e n (Else inner) = body_all w env m n inner
  body_arms w env m e n (Arm cond inner more) =
      code w env n cond ++ (i.Jump 0x29 (n + labels cond) ∷ (body_all w env m (n + labels cond + 1) inner ++
      (i.Jump 0x28 e ∷ i.Label (n + labels cond) ∷
      body_arms w env (m + lets_all inner) e (n + labels cond + 1 + places_all inner) more)))
