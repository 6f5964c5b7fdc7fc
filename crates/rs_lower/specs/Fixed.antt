-- What an expression without locals and calls comes to, by what its parts come to.
use Rattle.std.specs.Prelude.{ℤ, Bool, true, false, not, if◌then◌else◌, Some, None, Ok}
use Rattle.std.specs.Option.{option_map}
use Rattle.rs_tree.specs.declared.tree.UnaryOp.{UnaryOp}
use Rattle.rs_tree.specs.declared.tree.ArithOp.{ArithOp}
use Rattle.rs_tree.specs.declared.tree.CmpOp.{CmpOp}
use Rattle.rs_tree.specs.Plain.{Exps, Operands}
use Rattle.rs_value.specs.Value.{Outcome, and_then, is_zero, number_of, unary, arithmetic, holds, given, chain, all, any}
use Rattle.rs_value.specs.Value as worth
use Rattle.rs_lower.specs.Meanings.{Leaf, Meanings}
use Rattle.rs_lower.specs.Reduced.{Fixed, by_consts, is_fixed_all, is_fixed_by, is_item, leaf_value, valued_all, valued_by}

-- a path comes to its constant's value
abbrev pub path_fixed : Meanings → Leaf → Fixed
path_fixed w p = if is_item p then Some (given (leaf_value w p)) else None

abbrev pub unary_fixed : UnaryOp → Fixed → Fixed
unary_fixed op x = option_map (λ (o : Outcome). and_then o (unary op)) x

-- of two parts neither may have locals or calls
abbrev pub both : (Outcome → Outcome → Outcome) → Fixed → Fixed → Fixed
both g None y = None
both g (Some x) None = None
both g (Some x) (Some y) = Some (g x y)

abbrev pub combined : ArithOp → Fixed → Fixed → Fixed
combined op x y = both (λ (a b : Outcome). and_then a (λ m. and_then b (arithmetic op m))) x y

abbrev pub compared : CmpOp → Fixed → Fixed → Fixed
compared op x y = both (λ (a b : Outcome). and_then a (λ m. and_then b (λ n. Ok (number_of (holds op m n))))) x y

-- a chain of arithmetic, from what stands so far
abbrev pub chained : Meanings → Operands Leaf → Fixed → Fixed
chained w os None = None
chained w os (Some x) = if is_fixed_by os then Some (chain (valued_by (by_consts w) os) x) else None

-- a chain of `&&`, or where `either` of `||`
abbrev pub logical : Bool → Exps worth.Leaf → Outcome
logical false es = all es
logical true es = any es

abbrev pub logic_fixed : Bool → Meanings → Exps Leaf → Fixed
logic_fixed either w es = if is_fixed_all es then Some (logical either (valued_all (by_consts w) es)) else None

abbrev pub truth_of : ℤ → Outcome
truth_of v = Ok (number_of (not (is_zero v)))

abbrev pub as_truth : Fixed → Fixed
as_truth x = option_map (λ (o : Outcome). and_then o truth_of) x

-- what stands so far decides a chain
abbrev pub decides : Bool → ℤ → Bool
decides false v = is_zero v
decides true v = not (is_zero v)

abbrev pub joined : Bool → Outcome → Outcome → Outcome
joined either x rest = and_then x (λ v. if decides either v then Ok (number_of either) else rest)

-- one part more
abbrev pub also : Bool → Fixed → Fixed → Fixed
also either x y = both (λ (a b : Outcome). joined either a (and_then b truth_of)) x y

-- a chain, from what stands so far
abbrev pub conjoined : Bool → Meanings → Exps Leaf → Fixed → Fixed
conjoined either w es None = None
conjoined either w es (Some x) = if is_fixed_all es then Some (joined either x (logical either (valued_all (by_consts w) es))) else None

-- a value as it is pushed: 1 or 0 for a truth value
abbrev pub shown : Bool → ℤ → ℤ
shown false v = v
shown true v = number_of (not (is_zero v))
