-- The leaves of a filled tree are the old ones, each beside its answer.
use Rattle.std.proofs.Common.{◌≡◌, ◌≤◌, ◌+◌, suc, List, [], ◌∷◌, ◌++◌, Option, None, Some, length, drop, map, refl, sym, ap, ◌∙◌, arith}
use Rattle.std.specs.List.{zip}
use Rattle.std.proofs.lemmas.List.{drop-drop, length-append}
use Rattle.rs_tree.specs.Plain.{Exp, Exps, Operands, Number, Truth, Path, Call, Group, Unary, Arith, Compare, And, Or, Done, By}
use Rattle.rs_tree.specs.Plain.{Sta, Stas, Arms, Let, Assign, Return, Eval, While, If, Print, Bare, Else, Arm, Definition, Const, Func}
use Rattle.rs_tree.specs.Leaves.{answer, answered, leaves, leaves_all, leaves_by, leaves_in, sta_leaves, stas_leaves, arms_leaves, definition_leaves}
use Rattle.rs_tree.specs.Leaves.{filled, filled_all, filled_by, filled_in, sta_filled, stas_filled, arms_filled, definition_filled}

-- what is left of a list after a part and what follows it
pub left_after : {A B : Type 0} (xs ys : List A) (bs : List B) → drop (length (xs ++ ys)) bs ≡ drop (length ys) (drop (length xs) bs)
left_after xs ys bs = ap (λ n. drop n bs) (length-append xs ys) ∙ sym (drop-drop (length ys) (length xs) bs)

pub answered_append : {A B : Type 0} (d : B) (bs : List B) (xs ys : List A) → answered d bs (xs ++ ys) ≡ answered d bs xs ++ answered d (drop (length xs) bs) ys
answered_append d bs [] ys = refl
answered_append d bs (x ∷ xs) ys =
    ap (λ t. (x, answer d bs) ∷ t) (answered_append d (drop 1 bs) xs ys ∙ ap (λ r. answered d (drop 1 bs) xs ++ answered d r ys) (sym (left_after (x ∷ []) xs bs)))

pub answered_length : {A B : Type 0} (d : B) (bs : List B) (xs : List A) → length (answered d bs xs) ≡ length xs
answered_length d bs [] = refl
answered_length d bs (x ∷ xs) = ap suc (answered_length d (drop 1 bs) xs)

pub answered_firsts : {A B : Type 0} (d : B) (bs : List B) (xs : List A) → map (λ (p : A × B). p.0) (answered d bs xs) ≡ xs
answered_firsts d bs [] = refl
answered_firsts d bs (x ∷ xs) = ap (λ t. x ∷ t) (answered_firsts d (drop 1 bs) xs)

pub answered_enough : {A B : Type 0} (d : B) (bs : List B) (xs : List A) → length xs ≤ length bs → answered d bs xs ≡ zip xs bs
answered_enough d bs [] enough = refl
answered_enough d [] (x ∷ xs) enough = absurd (omega (arith, enough))
answered_enough d (b ∷ bs) (x ∷ xs) enough = ap (λ t. (x, b) ∷ t) (answered_enough d bs xs (omega (arith, enough)))

joined : {A B : Type 0} (d : B) (bs : List B) (xs ys : List A) {u v : List (A × B)} → u ≡ answered d bs xs → v ≡ answered d (drop (length xs) bs) ys → u ++ v ≡ answered d bs (xs ++ ys)
joined d bs xs ys {u} {v} p q = ap (λ a. a ++ v) p ∙ ap (λ b. answered d bs xs ++ b) q ∙ sym (answered_append d bs xs ys)

mutual
  pub of_expression : {A B : Type 0} (d : B) (bs : List B) (e : Exp A) → leaves (filled d bs e) ≡ answered d bs (leaves e)
  of_expression d bs (Number at n) = refl
  of_expression d bs (Truth at b) = refl
  of_expression d bs (Path at p) = refl
  of_expression d bs (Call at p args) = ap (λ t. (p, answer d bs) ∷ t) (of_expressions d (drop 1 bs) args)
  of_expression d bs (Group at e) = of_expression d bs e
  of_expression d bs (Unary at op e) = of_expression d bs e
  of_expression d bs (Arith at first more) = joined d bs (leaves first) (leaves_by more) (of_expression d bs first) (of_operands d (drop (length (leaves first)) bs) more)
  of_expression d bs (Compare at op a b) = joined d bs (leaves a) (leaves b) (of_expression d bs a) (of_expression d (drop (length (leaves a)) bs) b)
  of_expression d bs (And at parts) = of_expressions d bs parts
  of_expression d bs (Or at parts) = of_expressions d bs parts

  pub of_expressions : {A B : Type 0} (d : B) (bs : List B) (es : Exps A) → leaves_all (filled_all d bs es) ≡ answered d bs (leaves_all es)
  of_expressions d bs Exps.Empty = refl
  of_expressions d bs (Exps.Of e more) = joined d bs (leaves e) (leaves_all more) (of_expression d bs e) (of_expressions d (drop (length (leaves e)) bs) more)

  pub of_operands : {A B : Type 0} (d : B) (bs : List B) (os : Operands A) → leaves_by (filled_by d bs os) ≡ answered d bs (leaves_by os)
  of_operands d bs Done = refl
  of_operands d bs (By op e more) = joined d bs (leaves e) (leaves_by more) (of_expression d bs e) (of_operands d (drop (length (leaves e)) bs) more)

pub of_value : {A B : Type 0} (d : B) (bs : List B) (value : Option (Exp A)) → leaves_in (filled_in d bs value) ≡ answered d bs (leaves_in value)
of_value d bs None = refl
of_value d bs (Some e) = of_expression d bs e

mutual
  pub of_statement : {A B : Type 0} (d : B) (bs : List B) (s : Sta A) → sta_leaves (sta_filled d bs s) ≡ answered d bs (sta_leaves s)
  of_statement d bs (Let mutable at name typ value) = of_expression d bs value
  of_statement d bs (Assign at name value) = of_expression d bs value
  of_statement d bs (Return at value) = of_value d bs value
  of_statement d bs (Eval value) = of_expression d bs value
  of_statement d bs (While cond body) = joined d bs (leaves cond) (stas_leaves body) (of_expression d bs cond) (of_statements d (drop (length (leaves cond)) bs) body)
  of_statement d bs (If arms) = of_arms d bs arms
  of_statement d bs (Print value) = of_expression d bs value

  pub of_statements : {A B : Type 0} (d : B) (bs : List B) (ss : Stas A) → stas_leaves (stas_filled d bs ss) ≡ answered d bs (stas_leaves ss)
  of_statements d bs Stas.Empty = refl
  of_statements d bs (Stas.Of s more) = joined d bs (sta_leaves s) (stas_leaves more) (of_statement d bs s) (of_statements d (drop (length (sta_leaves s)) bs) more)

  pub of_arms : {A B : Type 0} (d : B) (bs : List B) (arms : Arms A) → arms_leaves (arms_filled d bs arms) ≡ answered d bs (arms_leaves arms)
  of_arms d bs Bare = refl
  of_arms d bs (Else body) = of_statements d bs body
  of_arms d bs (Arm cond body more) =
      let here = drop (length (leaves cond)) bs in
      joined d bs (leaves cond) (stas_leaves body ++ arms_leaves more) (of_expression d bs cond)
      (joined d here (stas_leaves body) (arms_leaves more) (of_statements d here body) (of_arms d (drop (length (stas_leaves body)) here) more))

pub of_definition : {A B : Type 0} (d : B) (bs : List B) (def : Definition A) → definition_leaves (definition_filled d bs def) ≡ answered d bs (definition_leaves def)
of_definition d bs (Const typ value) = of_expression d bs value
of_definition d bs (Func inlined params gives stmts tail) = joined d bs (stas_leaves stmts) (leaves_in tail) (of_statements d bs stmts) (of_value d (drop (length (stas_leaves stmts)) bs) tail)
