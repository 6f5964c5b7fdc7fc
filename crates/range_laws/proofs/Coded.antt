-- How long code is: at most five instructions for each part of its tree, and one for each `if`.
use Rattle.std.proofs.Common.{ℕ, ◌+◌, ◌*◌, ◌≤◌, ℤ, Bool, true, false, [], ◌∷◌, ◌++◌, length, Option, Some, None, arith}
use Rattle.std.proofs.lemmas.List.{length-append}
use Rattle.rs_tree.specs.declared.ir.Instr.TheVariants as i
use Rattle.rs_tree.specs.Plain.{Exp, Exps, Operands, Number, Truth, Path, Call, Group, Unary, Arith, Compare, And, Or, Done, By}
use Rattle.rs_tree.specs.Plain.{Sta, Stas, Arms, Let, Assign, Return, Eval, While, If, Print, Bare, Else, Arm}
use Rattle.rs_lower.specs.Code.{after, arith_code, body, body_all, body_arms, body_if, call_code, compare_code, is_truth, jump_code, print_code, return_code, stored, unary_code, code, code_all, code_by, code_chain, code_parts, has_value, popped, returned}
use Rattle.rs_lower.specs.Counts.{labels, places, places_all, places_arms, lets, lets_all}
use Rattle.rs_lower.specs.Locals.{Env, find}
use Rattle.rs_value.specs.Value.{number_of}
use Rattle.rs_lower.specs.Meanings.{Leaf, Meanings}
use Rattle.range_laws.specs.Sizes.{size, size_all, size_by, size_in, sta_size, stas_size, arms_size}

module _ (w : Meanings) where
  mutual
    pub code_short : (env : Env) (n : ℕ) (e : Exp Leaf) → length (code w env n e) + 1 ≤ 5 * size e
    code_short env n (Number at v) = omega arith
    code_short env n (Truth at b) = omega arith
    code_short env n (Path at p) = omega arith
    code_short env n (Call at p args) = omega (arith, length-append (code_all w env n args) (call_code w p ∷ []), code_all_short env n args)
    code_short env n (Group at e) = omega (arith, code_short env n e)
    code_short env n (Unary at op e) = omega (arith, length-append (code w env n e) (i.Plain (unary_code op) ∷ []), code_short env n e)
    code_short env n (Arith at a more) = omega (arith, length-append (code w env n a) (code_by w env (n + labels a) more), code_short env n a, code_by_short env (n + labels a) more)
    code_short env n (Compare at op a b) = omega (arith, length-append (code w env n a) (code w env (n + labels a) b ++ i.Plain (compare_code op) ∷ []), length-append (code w env (n + labels a) b) (i.Plain (compare_code op) ∷ []), code_short env n a, code_short env (n + labels a) b)
    code_short env n (And at parts) = omega (arith, code_chain_short env (jump_code false) (number_of false) n parts)
    code_short env n (Or at parts) = omega (arith, code_chain_short env (jump_code true) (number_of true) n parts)

    code_all_short : (env : Env) (n : ℕ) (es : Exps Leaf) → length (code_all w env n es) ≤ 5 * size_all es
    code_all_short env n Exps.Empty = omega arith
    code_all_short env n (Exps.Of e more) = omega (arith, length-append (code w env n e) (code_all w env (n + labels e) more), code_short env n e, code_all_short env (n + labels e) more)

    code_by_short : (env : Env) (n : ℕ) (os : Operands Leaf) → length (code_by w env n os) ≤ 5 * size_by os
    code_by_short env n Done = omega arith
    code_by_short env n (By op e more) = omega (arith, length-append (code w env n e) (i.Plain (arith_code op) ∷ code_by w env (n + labels e) more), code_short env n e, code_by_short env (n + labels e) more)

    code_chain_short : (env : Env) (jump : ℕ) (v : ℤ) (n : ℕ) (es : Exps Leaf) → length (code_chain w env jump v n es) ≤ 5 * size_all es + 4
    code_chain_short env jump v n Exps.Empty = omega arith
    code_chain_short env jump v n (Exps.Of e more) =
        omega (arith, length-append (code w env n e) (code_parts w env jump v (n + labels e) (n + labels e + 1) more), code_short env n e, code_parts_short env jump v (n + labels e) (n + labels e + 1) more)

    code_parts_short : (env : Env) (jump : ℕ) (v : ℤ) (f n : ℕ) (es : Exps Leaf) → length (code_parts w env jump v f n es) ≤ 5 * size_all es + 4
    code_parts_short env jump v f n Exps.Empty = omega arith
    code_parts_short env jump v f n (Exps.Of e more) =
        omega (arith, length-append (code w env n e) (code_parts w env jump v f (n + labels e) more), code_short env n e, code_parts_short env jump v f (n + labels e) more)

  pub returned_short : (env : Env) (n : ℕ) (value : Option (Exp Leaf)) → length (returned w env n value) ≤ 5 * size_in value + 1
  returned_short env n None = omega arith
  returned_short env n (Some e) = omega (arith, length-append (code w env n e) (i.Plain (return_code w.gives) ∷ []), code_short env n e)

  popped_short : (b : Bool) → length (popped b) ≤ 1
  popped_short true = omega arith
  popped_short false = omega arith

  mutual
    pub body_short : (env : Env) (m n : ℕ) (s : Sta Leaf) → length (body w env m n s) ≤ 5 * sta_size s + places s
    body_short env m n (Let mutable at name typ value) = omega (arith, length-append (code w env n value) (i.Store m ∷ []), code_short env n value)
    body_short env m n (Assign at name value) = omega (arith, length-append (code w env n value) (stored (find name env) ∷ []), code_short env n value)
    body_short env m n (Return at value) = omega (arith, returned_short env n value)
    body_short env m n (Eval value) = omega (arith, length-append (code w env n value) (popped (has_value w value)), code_short env n value, popped_short (has_value w value))
    body_short env m n (Print value) = omega (arith, length-append (code w env n value) (i.Plain (print_code (is_truth w env value)) ∷ []), code_short env n value)
    body_short env m n (While cond inner) = omega (
      arith,
      length-append (code w env (n + 1) cond) (i.Jump 0x29 (n + 1 + labels cond) ∷ (body_all w env m (n + 2 + labels cond) inner ++ (i.Jump 0x28 n ∷ i.Label (n + 1 + labels cond) ∷ []))),
      length-append (body_all w env m (n + 2 + labels cond) inner) (i.Jump 0x28 n ∷ i.Label (n + 1 + labels cond) ∷ []),
      code_short env (n + 1) cond,
      body_all_short env m (n + 2 + labels cond) inner,
    )
    body_short env m n (If arms) = omega (arith, body_if_short env m n arms)

    pub body_all_short : (env : Env) (m n : ℕ) (ss : Stas Leaf) → length (body_all w env m n ss) ≤ 5 * stas_size ss + places_all ss
    body_all_short env m n Stas.Empty = omega arith
    body_all_short env m n (Stas.Of s more) = omega (
      arith,
      length-append (body w env m n s) (body_all w (after w env m s) (m + lets s) (n + places s) more),
      body_short env m n s,
      body_all_short (after w env m s) (m + lets s) (n + places s) more,
    )

    body_if_short : (env : Env) (m n : ℕ) (arms : Arms Leaf) → length (body_if w env m n arms) ≤ 5 * arms_size arms + places_arms arms + 1
    body_if_short env m n Bare = omega arith
    body_if_short env m n (Else inner) = omega (arith, length-append (body_all w env m (n + 1) inner) (i.Label n ∷ []), body_all_short env m (n + 1) inner)
    body_if_short env m n (Arm cond inner more) = omega (
      arith,
      length-append (code w env n cond) (i.Jump 0x29 (n + labels cond) ∷ (body_all w env m (n + labels cond + 1) inner ++ (i.Jump 0x28 (n + labels cond + 1 + places_all inner) ∷ i.Label (n + labels cond) ∷ (body_arms w env (m + lets_all inner) (n + labels cond + 1 + places_all inner) (n + labels cond + 2 + places_all inner) more ++ i.Label (n + labels cond + 1 + places_all inner) ∷ [])))),
      length-append (body_all w env m (n + labels cond + 1) inner) (i.Jump 0x28 (n + labels cond + 1 + places_all inner) ∷ i.Label (n + labels cond) ∷ (body_arms w env (m + lets_all inner) (n + labels cond + 1 + places_all inner) (n + labels cond + 2 + places_all inner) more ++ i.Label (n + labels cond + 1 + places_all inner) ∷ [])),
      length-append (body_arms w env (m + lets_all inner) (n + labels cond + 1 + places_all inner) (n + labels cond + 2 + places_all inner) more) (i.Label (n + labels cond + 1 + places_all inner) ∷ []),
      code_short env n cond,
      body_all_short env m (n + labels cond + 1) inner,
      body_arms_short env (m + lets_all inner) (n + labels cond + 1 + places_all inner) (n + labels cond + 2 + places_all inner) more,
    )

    body_arms_short : (env : Env) (m e n : ℕ) (arms : Arms Leaf) → length (body_arms w env m e n arms) ≤ 5 * arms_size arms + places_arms arms
    body_arms_short env m e n Bare = omega arith
    body_arms_short env m e n (Else inner) = omega (arith, body_all_short env m n inner)
    body_arms_short env m e n (Arm cond inner more) = omega (
      arith,
      length-append (code w env n cond) (i.Jump 0x29 (n + labels cond) ∷ (body_all w env m (n + labels cond + 1) inner ++ (i.Jump 0x28 e ∷ i.Label (n + labels cond) ∷ body_arms w env (m + lets_all inner) e (n + labels cond + 1 + places_all inner) more))),
      length-append (body_all w env m (n + labels cond + 1) inner) (i.Jump 0x28 e ∷ i.Label (n + labels cond) ∷ body_arms w env (m + lets_all inner) e (n + labels cond + 1 + places_all inner) more),
      code_short env n cond,
      body_all_short env m (n + labels cond + 1) inner,
      body_arms_short env (m + lets_all inner) e (n + labels cond + 1 + places_all inner) more,
    )
