-- What lowering a tree makes of the state.
use Rattle.std.specs.Prelude.{ℕ, ℤ, ◌+◌, Bool, true, false, if◌then◌else◌, List, [], ◌∷◌, ◌++◌, length, take, drop, Option, Some, None}
use Rattle.std.specs.Option.{option_map}
use Rattle.rs_tree.specs.declared.answers.Found.TheVariants.{Absent}
use Rattle.rs_tree.specs.declared.ir.Instr.{Instr}
use Rattle.rs_tree.specs.declared.ir.Instr.TheVariants.{Jump, Plain, Push, Store}
use Rattle.rs_tree.specs.declared.tree.CmpOp.{CmpOp}
use Rattle.rs_tree.specs.declared.tree.Param.{Param}
use Rattle.rs_tree.specs.declared.tree.Path as path
use Rattle.rs_tree.specs.declared.tree.Typ.{Typ}
use Rattle.rs_tree.specs.declared.tree.UnaryOp.{UnaryOp}
use Rattle.rs_tree.specs.Plain.{Exp, Exps, Operands, Sta, Stas, Arms}
use Rattle.rs_tree.specs.Leaves.{leaves, leaves_all, leaves_by, leaves_in, sta_leaves, stas_leaves, arms_leaves}
use Rattle.rs_tree.specs.Leaves.{answer, filled, filled_all, filled_by, filled_in, sta_filled, stas_filled, arms_filled}
use Rattle.rs_value.specs.Value.{number_of}
use Rattle.rs_lower.specs.declared.expr.Lowerer.{Lowerer}
use Rattle.rs_lower.specs.declared.settle.Start.{Start}
use Rattle.rs_lower.specs.Meanings.{Leaf}
use Rattle.rs_lower.specs.Locals.{Env, find, with_params}
use Rattle.rs_lower.specs.Counts.{labels, labels_all, labels_by, labels_in, places, places_all, places_arms, lets, lets_all, lets_arms}
use Rattle.rs_lower.specs.Code.{code, code_all, code_by, code_chain, code_parts, call_code, body, body_all, body_arms, after, after_all, returned, stored, popped, has_value, is_not, is_truth, is_truth_let, jump_code, print_code, unary_code, compare_code}
use Rattle.rs_lower.specs.Reduced.{Fixed, outcome, reduced, reduced_all, reduced_by, reduced_in, sta_reduced, stas_reduced, arms_reduced, value_in}
use Rattle.rs_lower.specs.Fixed.{chained, compared, conjoined, logic_fixed, shown, unary_fixed}

abbrev pub put : List Instr → Lowerer → Lowerer
put is s = record s { code = s.code ++ is }

-- so many answers were taken
abbrev pub moved : ℕ → Lowerer → Lowerer
moved k s = record s { answers = drop k s.answers }

-- so many labels were given out
abbrev pub numbered : ℕ → Lowerer → Lowerer
numbered n s = record s { labels = s.labels + n }

abbrev pub emitted : List Instr → ℕ → ℕ → Lowerer → Lowerer
emitted is n k s = record s { code = s.code ++ is; labels = s.labels + n; answers = drop k s.answers }

abbrev pub worked : List Instr → ℕ → ℕ → ℕ → Env → Lowerer → Lowerer
worked is n m k env s = record s { code = s.code ++ is; labels = s.labels + n; slots = s.slots + m; answers = drop k s.answers; locals = env }

-- the next trees, answered and reduced
abbrev pub reduce : Lowerer → Exp path.Path → Exp Leaf
reduce s e = reduced s.meanings.now (filled Absent s.answers e)

abbrev pub reduce_all : Lowerer → Exps path.Path → Exps Leaf
reduce_all s es = reduced_all s.meanings.now (filled_all Absent s.answers es)

abbrev pub reduce_by : Lowerer → Operands path.Path → Operands Leaf
reduce_by s os = reduced_by s.meanings.now (filled_by Absent s.answers os)

abbrev pub reduce_in : Lowerer → Option (Exp path.Path) → Option (Exp Leaf)
reduce_in s value = reduced_in s.meanings.now (filled_in Absent s.answers value)

abbrev pub reduce_sta : Lowerer → Sta path.Path → Sta Leaf
reduce_sta s t = sta_reduced s.meanings.now (sta_filled Absent s.answers t)

abbrev pub reduce_stas : Lowerer → Stas path.Path → Stas Leaf
reduce_stas s t = stas_reduced s.meanings.now (stas_filled Absent s.answers t)

abbrev pub reduce_arms : Lowerer → Arms path.Path → Arms Leaf
reduce_arms s arms = arms_reduced s.meanings.now (arms_filled Absent s.answers arms)

abbrev pub with_exp : Exp path.Path → Lowerer → Lowerer
with_exp e s = emitted (code s.meanings.now s.locals s.labels (reduce s e)) (labels (reduce s e)) (length (leaves e)) s

abbrev pub with_exps : Exps path.Path → Lowerer → Lowerer
with_exps es s = emitted (code_all s.meanings.now s.locals s.labels (reduce_all s es)) (labels_all (reduce_all s es)) (length (leaves_all es)) s

abbrev pub with_parts : Bool → ℕ → Exps path.Path → Lowerer → Lowerer
with_parts either f es s = emitted (code_parts s.meanings.now s.locals (jump_code either) (number_of either) f s.labels (reduce_all s es)) (1 + labels_all (reduce_all s es)) (length (leaves_all es)) s

-- a call takes its own path's answer before those of its arguments
abbrev pub with_call : path.Path → Exps path.Path → Lowerer → Lowerer
with_call p es s = put (call_code s.meanings.now (p, answer Absent s.answers) ∷ []) (with_exps es (moved 1 s))

abbrev pub with_chain : Bool → Exps path.Path → Lowerer → Lowerer
with_chain either es s = emitted (code_chain s.meanings.now s.locals (jump_code either) (number_of either) s.labels (reduce_all s es)) (2 + labels_all (reduce_all s es)) (length (leaves_all es)) s

abbrev pub with_operands : Operands path.Path → Lowerer → Lowerer
with_operands os s = emitted (code_by s.meanings.now s.locals s.labels (reduce_by s os)) (labels_by (reduce_by s os)) (length (leaves_by os)) s

-- what the next trees come to
abbrev pub outcome_of : Lowerer → Exp path.Path → Fixed
outcome_of s e = outcome s.meanings.now (filled Absent s.answers e)

abbrev pub chained_of : Operands path.Path → Fixed → Lowerer → Fixed
chained_of os x s = chained s.meanings.now (filled_by Absent s.answers os) x

abbrev pub arith_fixed : Exp path.Path → Operands path.Path → Lowerer → Fixed
arith_fixed e os s = chained_of os (outcome_of s e) (with_exp e s)

abbrev pub compare_fixed : CmpOp → Exp path.Path → Exp path.Path → Lowerer → Fixed
compare_fixed op a b s = compared op (outcome_of s a) (outcome_of (with_exp a s) b)

abbrev pub logic_of : Bool → Exps path.Path → Lowerer → Fixed
logic_of either es s = logic_fixed either s.meanings.now (filled_all Absent s.answers es)

abbrev pub conjoined_of : Bool → Exps path.Path → Fixed → Lowerer → Fixed
conjoined_of either es x s = conjoined either s.meanings.now (filled_all Absent s.answers es) x

-- the value by which an expression is replaced, and as it is pushed
abbrev pub value_of : Lowerer → Fixed → Option ℤ
value_of s x = if s.meanings.now.folds then value_in x else None

abbrev pub shown_in : Bool → Option ℤ → Option ℤ
shown_in truth v = option_map (shown truth) v

-- a value is pushed in place of what was lowered since the start
abbrev pub settled : Start → Option ℤ → Lowerer → Lowerer
settled start None s = s
settled start (Some v) s = record s { code = take start.code s.code ++ Push v ∷ []; labels = start.labels }

abbrev pub start_of : Lowerer → Start
start_of s = record { code = length s.code; labels = s.labels }

-- the parts from s to t are replaced where they come to a value
abbrev pub settled_by : Bool → Fixed → Lowerer → Lowerer → Lowerer
settled_by truth x s t = settled (start_of s) (shown_in truth (value_of s x)) t

abbrev pub with_unary : UnaryOp → Exp path.Path → Lowerer → Lowerer
with_unary op e s = settled_by (is_not op) (unary_fixed op (outcome_of s e)) s (put (Plain (unary_code op) ∷ []) (with_exp e s))

abbrev pub with_arith : Exp path.Path → Operands path.Path → Lowerer → Lowerer
with_arith e os s = settled_by false (arith_fixed e os s) s (with_operands os (with_exp e s))

abbrev pub with_compare : CmpOp → Exp path.Path → Exp path.Path → Lowerer → Lowerer
with_compare op a b s = settled_by true (compare_fixed op a b s) s (put (Plain (compare_code op) ∷ []) (with_exp b (with_exp a s)))

abbrev pub with_logic : Bool → Exps path.Path → Lowerer → Lowerer
with_logic either es s = settled_by true (logic_of either es s) s (with_chain either es s)

-- a variable gets the next slot, and is in scope behind its value
abbrev pub with_let : List ℕ → Option Typ → Exp path.Path → Lowerer → Lowerer
with_let name typ value s = worked (code s.meanings.now s.locals s.labels (reduce s value) ++ Store s.slots ∷ []) (labels (reduce s value)) 1 (length (leaves value))
    (record { name = name; slot = s.slots; truth = is_truth_let s.meanings.now s.locals typ (reduce s value) } ∷ s.locals) s

abbrev pub with_assign : List ℕ → Exp path.Path → Lowerer → Lowerer
with_assign name value s = put (stored (find name s.locals) ∷ []) (with_exp value s)

abbrev pub with_eval : Exp path.Path → Lowerer → Lowerer
with_eval value s = put (popped (has_value s.meanings.now (reduce s value))) (with_exp value s)

abbrev pub with_print : Exp path.Path → Lowerer → Lowerer
with_print value s = put (Plain (print_code (is_truth s.meanings.now s.locals (reduce s value))) ∷ []) (with_exp value s)

abbrev pub with_sta : Sta path.Path → Lowerer → Lowerer
with_sta t s = worked (body s.meanings.now s.locals s.slots s.labels (reduce_sta s t)) (places (reduce_sta s t)) (lets t) (length (sta_leaves t)) (after s.meanings.now s.locals s.slots (reduce_sta s t)) s

abbrev pub with_stas : Stas path.Path → Lowerer → Lowerer
with_stas t s = worked (body_all s.meanings.now s.locals s.slots s.labels (reduce_stas s t)) (places_all (reduce_stas s t)) (lets_all t) (length (stas_leaves t)) (after_all s.meanings.now s.locals s.slots (reduce_stas s t)) s

abbrev pub with_block : Stas path.Path → Lowerer → Lowerer
with_block t s = worked (body_all s.meanings.now s.locals s.slots s.labels (reduce_stas s t)) (places_all (reduce_stas s t)) (lets_all t) (length (stas_leaves t)) s.locals s

-- one arm, up to its block's end
abbrev pub with_arm : Exp path.Path → Stas path.Path → Lowerer → Lowerer
with_arm cond inner s = with_block inner (put (Jump 0x29 (s.labels + labels (reduce s cond)) ∷ []) (numbered 1 (with_exp cond s)))

-- the arms after the first
abbrev pub with_arms : ℕ → Arms path.Path → Lowerer → Lowerer
with_arms e arms s = worked (body_arms s.meanings.now s.locals s.slots e s.labels (reduce_arms s arms)) (places_arms (reduce_arms s arms)) (lets_arms arms) (length (arms_leaves arms)) s.locals s

-- a `return`, or the end of a function
abbrev pub with_return : Option (Exp path.Path) → Lowerer → Lowerer
with_return value s = emitted (returned s.meanings.now s.locals s.labels (reduce_in s value)) (labels_in (reduce_in s value)) (length (leaves_in value)) s

-- parameters have the next slots
abbrev pub declared_params : List Param → Lowerer → Lowerer
declared_params ps s = record s { slots = s.slots + length ps; locals = with_params s.slots ps s.locals }
