-- The form of a function depends on the signatures and the values of the items that its paths lead to, and on no others.
use Rattle.std.proofs.Common.{◌≡◌, ℕ, ℤ, zero, suc, ◌+◌, Bool, true, false, List, [], ◌∷◌, ◌++◌, drop, length, refl, sym, ap, subst, ◌∙◌, if◌then◌else◌}
use Rattle.std.specs.Prelude.{Option, Some, None}
use Rattle.std.specs.List.{AllByRecursion}
use Rattle.rs_tree.specs.declared.answers.Const.{Const}
use Rattle.rs_tree.specs.declared.answers.Found.{Found}
use Rattle.rs_tree.specs.declared.answers.Found.TheVariants as f
use Rattle.rs_tree.specs.declared.index.Sig.{Sig}
use Rattle.rs_tree.specs.declared.ir.Instr.TheVariants as i
use Rattle.rs_tree.specs.declared.place.At.{At}
use Rattle.rs_tree.specs.declared.place.Place.{Place}
use Rattle.rs_tree.specs.declared.tree.Item.{Item}
use Rattle.rs_tree.specs.declared.tree.Param.{Param}
use Rattle.rs_tree.specs.declared.tree.Path as path
use Rattle.rs_tree.specs.declared.tree.Typ.{Typ}
use Rattle.rs_tree.specs.Plain.{Exp, Exps, Operands, Number, Truth, Path, Call, Group, Unary, Arith, Compare, And, Or, Done, By, Sta, Stas, Arms, Let, Assign, Return, Eval, While, If, Print, Bare, Else, Arm}
use Rattle.rs_tree.specs.Plain.{Definition, Const as constant, Func, definition}
use Rattle.rs_tree.specs.Leaves.{answered, filled_in, leaves, leaves_all, leaves_by, leaves_in, sta_leaves, stas_filled, stas_leaves, arms_leaves}
use Rattle.rs_tree.specs.LeafLaws.{of_statements, of_value}
use Rattle.rs_value.specs.Value as worth
use Rattle.rs_lower.specs.Code.{after, after_all, arith_code, body, body_all, body_arms, body_if, call_code, code, code_all, code_by, code_chain, code_parts, compare_code, has_value, is_not, is_truth, is_truth_let, is_truth_path, jump_code, path_code, popped, print_code, pushed, return_code, returned, stored, unary_code}
use Rattle.rs_lower.specs.Counts.{labels, lets, lets_all, places, places_all}
use Rattle.rs_lower.specs.Locals.{Env, find, with_params}
use Rattle.rs_lower.specs.Lowered.{function_code, is_within, lowered, lowered_definition, meanings, no_code, reduced_code}
use Rattle.rs_lower.specs.Meanings.{Leaf, Meanings, callee, gives_truth, gives_value, has_kind, is_truth_const, sig_of}
use Rattle.rs_lower.specs.Reduced.{arms_reduced, by_consts, constant_of, folded, folded_or, is_fixed, leaf_value, number_in, outcome, reduced, reduced_all, reduced_by, reduced_in, sta_reduced, stas_reduced, value_in, valued, valued_all, valued_by}
use Rattle.link_laws.proofs.Lists.{each_append}
use Rattle.plan_laws.specs.Agree.{Agrees, ValuesAgree}
use Rattle.plan_laws.proofs.Agree.{two_same}

-- ---- What is so of each element.

front : {X : Type 0} (P : X → Type 0) (xs ys : List X) → AllByRecursion P (xs ++ ys) → AllByRecursion P xs
front P [] ys h = tt
front P (x ∷ xs) ys h = (h.0, front P xs ys h.1)

back : {X : Type 0} (P : X → Type 0) (xs ys : List X) → AllByRecursion P (xs ++ ys) → AllByRecursion P ys
back P [] ys h = h
back P (x ∷ xs) ys h = back P xs ys h.1

dropped : {X : Type 0} (P : X → Type 0) (n : ℕ) (xs : List X) → AllByRecursion P xs → AllByRecursion P (drop n xs)
dropped P zero xs h = h
dropped P (suc n) [] h = tt
dropped P (suc n) (x ∷ xs) h = dropped P n xs h.1

module _ (w v : Meanings) (gives : w.gives ≡ v.gives) (folds : w.folds ≡ v.folds) where
  -- an answer means the same by both
  pub record Same (b : Found) : Type 0 where
    pub sig : Agrees w.sigs v.sigs b
    pub value : ValuesAgree w.consts v.consts b

  abbrev SameLeaf : Leaf → Type 0
  SameLeaf l = Same l.1

  abbrev AllSame : List Leaf → Type 0
  AllSame ls = AllByRecursion SameLeaf ls

  -- ---- Paths.

  path_same : (env : Env) (p : path.Path) (b : Found) → Same b → path_code w env (p, b) ≡ path_code v env (p, b)
  path_same env p f.Local h = refl
  path_same env p (f.Item at) h = ap pushed h.value
  path_same env p f.Private h = refl
  path_same env p f.Absent h = refl

  sig_same : (b : Found) → Same b → sig_of w b ≡ sig_of v b
  sig_same f.Local h = refl
  sig_same (f.Item at) h = h.sig
  sig_same f.Private h = refl
  sig_same f.Absent h = refl

  truth_path_same : (env : Env) (p : path.Path) (b : Found) → Same b → is_truth_path w env (p, b) ≡ is_truth_path v env (p, b)
  truth_path_same env p f.Local h = refl
  truth_path_same env p (f.Item at) h = ap is_truth_const h.value
  truth_path_same env p f.Private h = refl
  truth_path_same env p f.Absent h = refl

  leaf_same : (p : path.Path) (b : Found) → Same b → leaf_value w (p, b) ≡ leaf_value v (p, b)
  leaf_same p f.Local h = refl
  leaf_same p (f.Item at) h = ap number_in h.value
  leaf_same p f.Private h = refl
  leaf_same p f.Absent h = refl

  call_same : (p : path.Path) (b : Found) → Same b → call_code w (p, b) ≡ call_code v (p, b)
  call_same p b h = ap (λ o. i.Call (has_kind 2 o) (callee p b)) (sig_same b h)

  -- ---- Expressions.

  mutual
    code_same : (env : Env) (n : ℕ) (e : Exp Leaf) → AllSame (leaves e) → code w env n e ≡ code v env n e
    code_same env n (Number at x) h = refl
    code_same env n (Truth at b) h = refl
    code_same env n (Path at p) h = ap (λ x. x ∷ []) (path_same env p.0 p.1 h.0)
    code_same env n (Call at p args) h = two_same (code_all_same env n args h.1) (ap (λ x. x ∷ []) (call_same p.0 p.1 h.0))
    code_same env n (Group at e) h = code_same env n e h
    code_same env n (Unary at op e) h = ap (λ l. l ++ i.Plain (unary_code op) ∷ []) (code_same env n e h)
    code_same env n (Arith at a more) h = two_same (code_same env n a (front SameLeaf (leaves a) (leaves_by more) h)) (code_by_same env (n + labels a) more (back SameLeaf (leaves a) (leaves_by more) h))
    code_same env n (Compare at op a b) h =
        two_same (code_same env n a (front SameLeaf (leaves a) (leaves b) h)) (ap (λ l. l ++ i.Plain (compare_code op) ∷ []) (code_same env (n + labels a) b (back SameLeaf (leaves a) (leaves b) h)))
    code_same env n (And at parts) h = chain_same env (jump_code false) (worth.number_of false) n parts h
    code_same env n (Or at parts) h = chain_same env (jump_code true) (worth.number_of true) n parts h

    code_all_same : (env : Env) (n : ℕ) (es : Exps Leaf) → AllSame (leaves_all es) → code_all w env n es ≡ code_all v env n es
    code_all_same env n Exps.Empty h = refl
    code_all_same env n (Exps.Of e more) h = two_same (code_same env n e (front SameLeaf (leaves e) (leaves_all more) h)) (code_all_same env (n + labels e) more (back SameLeaf (leaves e) (leaves_all more) h))

    code_by_same : (env : Env) (n : ℕ) (os : Operands Leaf) → AllSame (leaves_by os) → code_by w env n os ≡ code_by v env n os
    code_by_same env n Done h = refl
    code_by_same env n (By op e more) h =
        two_same (code_same env n e (front SameLeaf (leaves e) (leaves_by more) h)) (ap (λ l. i.Plain (arith_code op) ∷ l) (code_by_same env (n + labels e) more (back SameLeaf (leaves e) (leaves_by more) h)))

    chain_same : (env : Env) (jump : ℕ) (x : ℤ) (n : ℕ) (es : Exps Leaf) → AllSame (leaves_all es) → code_chain w env jump x n es ≡ code_chain v env jump x n es
    chain_same env jump x n Exps.Empty h = refl
    chain_same env jump x n (Exps.Of e more) h =
        two_same (code_same env n e (front SameLeaf (leaves e) (leaves_all more) h)) (parts_same env jump x (n + labels e) (n + labels e + 1) more (back SameLeaf (leaves e) (leaves_all more) h))

    parts_same : (env : Env) (jump : ℕ) (x : ℤ) (l n : ℕ) (es : Exps Leaf) → AllSame (leaves_all es) → code_parts w env jump x l n es ≡ code_parts v env jump x l n es
    parts_same env jump x l n Exps.Empty h = refl
    parts_same env jump x l n (Exps.Of e more) h =
        ap (λ c. i.Jump jump l ∷ c) (two_same (code_same env n e (front SameLeaf (leaves e) (leaves_all more) h)) (parts_same env jump x l (n + labels e) more (back SameLeaf (leaves e) (leaves_all more) h)))

  truth_same : (env : Env) (e : Exp Leaf) → AllSame (leaves e) → is_truth w env e ≡ is_truth v env e
  truth_same env (Number at x) h = refl
  truth_same env (Truth at b) h = refl
  truth_same env (Path at p) h = truth_path_same env p.0 p.1 h.0
  truth_same env (Call at p args) h = ap gives_truth (sig_same p.1 h.0)
  truth_same env (Group at e) h = truth_same env e h
  truth_same env (Unary at op e) h = refl
  truth_same env (Arith at a more) h = refl
  truth_same env (Compare at op a b) h = refl
  truth_same env (And at parts) h = refl
  truth_same env (Or at parts) h = refl

  value_same : (e : Exp Leaf) → AllSame (leaves e) → has_value w e ≡ has_value v e
  value_same (Number at x) h = refl
  value_same (Truth at b) h = refl
  value_same (Path at p) h = refl
  value_same (Call at p args) h = ap gives_value (sig_same p.1 h.0)
  value_same (Group at e) h = value_same e h
  value_same (Unary at op e) h = refl
  value_same (Arith at a more) h = refl
  value_same (Compare at op a b) h = refl
  value_same (And at parts) h = refl
  value_same (Or at parts) h = refl

  -- ---- Statements.

  returned_same : (env : Env) (n : ℕ) (o : Option (Exp Leaf)) → AllSame (leaves_in o) → returned w env n o ≡ returned v env n o
  returned_same env n None h = refl
  returned_same env n (Some e) h = two_same (code_same env n e h) (ap (λ g. i.Plain (return_code g) ∷ []) gives)

  let_same : (env : Env) (typ : Option Typ) (e : Exp Leaf) → AllSame (leaves e) → is_truth_let w env typ e ≡ is_truth_let v env typ e
  let_same env None e h = truth_same env e h
  let_same env (Some typ) e h = refl

  after_same : (env : Env) (m : ℕ) (s : Sta Leaf) → AllSame (sta_leaves s) → after w env m s ≡ after v env m s
  after_same env m (Let mutable at name typ value) h = ap (λ t. record { name = name; slot = m; truth = t } ∷ env) (let_same env typ value h)
  after_same env m (Assign at name value) h = refl
  after_same env m (Return at value) h = refl
  after_same env m (Eval value) h = refl
  after_same env m (While cond body) h = refl
  after_same env m (If arms) h = refl
  after_same env m (Print value) h = refl

  after_all_same : (env : Env) (m : ℕ) (ss : Stas Leaf) → AllSame (stas_leaves ss) → after_all w env m ss ≡ after_all v env m ss
  after_all_same env m Stas.Empty h = refl
  after_all_same env m (Stas.Of s more) h =
      ap (λ e. after_all w e (m + lets s) more) (after_same env m s (front SameLeaf (sta_leaves s) (stas_leaves more) h)) ∙ after_all_same (after v env m s) (m + lets s) more (back SameLeaf (sta_leaves s) (stas_leaves more) h)

  mutual
    body_same : (env : Env) (m n : ℕ) (s : Sta Leaf) → AllSame (sta_leaves s) → body w env m n s ≡ body v env m n s
    body_same env m n (Let mutable at name typ value) h = ap (λ l. l ++ i.Store m ∷ []) (code_same env n value h)
    body_same env m n (Assign at name value) h = ap (λ l. l ++ stored (find name env) ∷ []) (code_same env n value h)
    body_same env m n (Return at value) h = returned_same env n value h
    body_same env m n (Eval value) h = two_same (code_same env n value h) (ap popped (value_same value h))
    body_same env m n (Print value) h = two_same (code_same env n value h) (ap (λ b. i.Plain (print_code b) ∷ []) (truth_same env value h))
    body_same env m n (While cond inner) h =
        ap (λ l. i.Label n ∷ l) (two_same (code_same env (n + 1) cond (front SameLeaf (leaves cond) (stas_leaves inner) h))
        (ap (λ l. i.Jump 0x29 (n + 1 + labels cond) ∷ (l ++ (i.Jump 0x28 n ∷ i.Label (n + 1 + labels cond) ∷ []))) (body_all_same env m (n + 2 + labels cond) inner (back SameLeaf (leaves cond) (stas_leaves inner) h))))
    body_same env m n (If arms) h = if_same env m n arms h

    body_all_same : (env : Env) (m n : ℕ) (ss : Stas Leaf) → AllSame (stas_leaves ss) → body_all w env m n ss ≡ body_all v env m n ss
    body_all_same env m n Stas.Empty h = refl
    body_all_same env m n (Stas.Of s more) h =
        let one = front SameLeaf (sta_leaves s) (stas_leaves more) h in
        two_same (body_same env m n s one)
        (ap (λ e. body_all w e (m + lets s) (n + places s) more) (after_same env m s one) ∙ body_all_same (after v env m s) (m + lets s) (n + places s) more (back SameLeaf (sta_leaves s) (stas_leaves more) h))

    if_same : (env : Env) (m n : ℕ) (arms : Arms Leaf) → AllSame (arms_leaves arms) → body_if w env m n arms ≡ body_if v env m n arms
    if_same env m n Bare h = refl
    if_same env m n (Else inner) h = ap (λ l. l ++ i.Label n ∷ []) (body_all_same env m (n + 1) inner h)
    if_same env m n (Arm cond inner more) h =
        let rest = back SameLeaf (leaves cond) (stas_leaves inner ++ arms_leaves more) h in
        two_same (code_same env n cond (front SameLeaf (leaves cond) (stas_leaves inner ++ arms_leaves more) h))
        (ap (λ l. i.Jump 0x29 (n + labels cond) ∷ l) (two_same (body_all_same env m (n + labels cond + 1) inner (front SameLeaf (stas_leaves inner) (arms_leaves more) rest))
        (ap (λ l. i.Jump 0x28 (n + labels cond + 1 + places_all inner) ∷ i.Label (n + labels cond) ∷ (l ++ i.Label (n + labels cond + 1 + places_all inner) ∷ []))
        (arms_same env (m + lets_all inner) (n + labels cond + 1 + places_all inner) (n + labels cond + 2 + places_all inner) more (back SameLeaf (stas_leaves inner) (arms_leaves more) rest)))))

    arms_same : (env : Env) (m e n : ℕ) (arms : Arms Leaf) → AllSame (arms_leaves arms) → body_arms w env m e n arms ≡ body_arms v env m e n arms
    arms_same env m e n Bare h = refl
    arms_same env m e n (Else inner) h = body_all_same env m n inner h
    arms_same env m e n (Arm cond inner more) h =
        let rest = back SameLeaf (leaves cond) (stas_leaves inner ++ arms_leaves more) h in
        two_same (code_same env n cond (front SameLeaf (leaves cond) (stas_leaves inner ++ arms_leaves more) h))
        (ap (λ l. i.Jump 0x29 (n + labels cond) ∷ l) (two_same (body_all_same env m (n + labels cond + 1) inner (front SameLeaf (stas_leaves inner) (arms_leaves more) rest))
        (ap (λ l. i.Jump 0x28 e ∷ i.Label (n + labels cond) ∷ l) (arms_same env (m + lets_all inner) e (n + labels cond + 1 + places_all inner) more (back SameLeaf (stas_leaves inner) (arms_leaves more) rest)))))

  function_same : (inlined : Bool) (params : List Param) (ss : Stas Leaf) (tail : Option (Exp Leaf)) → AllSame (stas_leaves ss) → AllSame (leaves_in tail) → function_code w inlined params ss tail ≡ function_code v inlined params ss tail
  function_same inlined params ss tail h k =
      let env = with_params 0 params [] in
      ap (λ c. record { inline = inlined; params = length params; slots = length params + lets_all ss; code = c })
      (two_same (body_all_same env (length params) 0 ss h) (ap (λ e. returned w e (places_all ss) tail) (after_all_same env (length params) ss h) ∙ returned_same (after_all v env (length params) ss) (places_all ss) tail k))

  -- ---- Reduced trees.

  mutual
    valued_same : (e : Exp Leaf) → AllSame (leaves e) → valued (by_consts w) e ≡ valued (by_consts v) e
    valued_same (Number at x) h = refl
    valued_same (Truth at b) h = refl
    valued_same (Path at p) h = ap (λ o. Path at (p.0, o)) (leaf_same p.0 p.1 h.0)
    valued_same (Call at p args) h = ap (λ o. Call at (p.0, o) (valued_all (by_consts w) args)) (leaf_same p.0 p.1 h.0) ∙ ap (Call at (by_consts v p)) (valued_all_same args h.1)
    valued_same (Group at e) h = ap (Group at) (valued_same e h)
    valued_same (Unary at op e) h = ap (Unary at op) (valued_same e h)
    valued_same (Arith at a more) h =
        ap (λ e. Arith at e (valued_by (by_consts w) more)) (valued_same a (front SameLeaf (leaves a) (leaves_by more) h)) ∙ ap (Arith at (valued (by_consts v) a)) (valued_by_same more (back SameLeaf (leaves a) (leaves_by more) h))
    valued_same (Compare at op a b) h =
        ap (λ e. Compare at op e (valued (by_consts w) b)) (valued_same a (front SameLeaf (leaves a) (leaves b) h)) ∙ ap (Compare at op (valued (by_consts v) a)) (valued_same b (back SameLeaf (leaves a) (leaves b) h))
    valued_same (And at parts) h = ap (And at) (valued_all_same parts h)
    valued_same (Or at parts) h = ap (Or at) (valued_all_same parts h)

    valued_all_same : (es : Exps Leaf) → AllSame (leaves_all es) → valued_all (by_consts w) es ≡ valued_all (by_consts v) es
    valued_all_same Exps.Empty h = refl
    valued_all_same (Exps.Of e more) h =
        ap (λ x. Exps.Of x (valued_all (by_consts w) more)) (valued_same e (front SameLeaf (leaves e) (leaves_all more) h)) ∙ ap (Exps.Of (valued (by_consts v) e)) (valued_all_same more (back SameLeaf (leaves e) (leaves_all more) h))

    valued_by_same : (os : Operands Leaf) → AllSame (leaves_by os) → valued_by (by_consts w) os ≡ valued_by (by_consts v) os
    valued_by_same Done h = refl
    valued_by_same (By op e more) h =
        ap (λ x. By op x (valued_by (by_consts w) more)) (valued_same e (front SameLeaf (leaves e) (leaves_by more) h)) ∙ ap (By op (valued (by_consts v) e)) (valued_by_same more (back SameLeaf (leaves e) (leaves_by more) h))

  folded_same : (e : Exp Leaf) → AllSame (leaves e) → folded w e ≡ folded v e
  folded_same e h =
      ap (λ b. if b then value_in (outcome w e) else None) folds
      ∙ ap (λ x. if v.folds then value_in (if is_fixed e then Some (worth.value x) else None) else None) (valued_same e h)

  -- by its value, and by what its parts become
  or_same : (at : At) (truth : Bool) (e : Exp Leaf) (one two : Exp Leaf) → AllSame (leaves e) → one ≡ two → folded_or at truth (folded w e) one ≡ folded_or at truth (folded v e) two
  or_same at truth e one two h same = ap (λ o. folded_or at truth o one) (folded_same e h) ∙ ap (folded_or at truth (folded v e)) same

  mutual
    reduced_same : (e : Exp Leaf) → AllSame (leaves e) → reduced w e ≡ reduced v e
    reduced_same (Number at x) h = refl
    reduced_same (Truth at b) h = refl
    reduced_same (Path at p) h = refl
    reduced_same (Call at p args) h = ap (Call at p) (reduced_all_same args h.1)
    reduced_same (Group at e) h = ap (Group at) (reduced_same e h)
    reduced_same (Unary at op e) h = or_same at (is_not op) (Unary at op e) (Unary at op (reduced w e)) (Unary at op (reduced v e)) h (ap (Unary at op) (reduced_same e h))
    reduced_same (Arith at a more) h =
        or_same at false (Arith at a more) (Arith at (reduced w a) (reduced_by w more)) (Arith at (reduced v a) (reduced_by v more)) h
        (ap (λ e. Arith at e (reduced_by w more)) (reduced_same a (front SameLeaf (leaves a) (leaves_by more) h)) ∙ ap (Arith at (reduced v a)) (reduced_by_same more (back SameLeaf (leaves a) (leaves_by more) h)))
    reduced_same (Compare at op a b) h =
        or_same at true (Compare at op a b) (Compare at op (reduced w a) (reduced w b)) (Compare at op (reduced v a) (reduced v b)) h
        (ap (λ e. Compare at op e (reduced w b)) (reduced_same a (front SameLeaf (leaves a) (leaves b) h)) ∙ ap (Compare at op (reduced v a)) (reduced_same b (back SameLeaf (leaves a) (leaves b) h)))
    reduced_same (And at parts) h = or_same at true (And at parts) (And at (reduced_all w parts)) (And at (reduced_all v parts)) h (ap (And at) (reduced_all_same parts h))
    reduced_same (Or at parts) h = or_same at true (Or at parts) (Or at (reduced_all w parts)) (Or at (reduced_all v parts)) h (ap (Or at) (reduced_all_same parts h))

    reduced_all_same : (es : Exps Leaf) → AllSame (leaves_all es) → reduced_all w es ≡ reduced_all v es
    reduced_all_same Exps.Empty h = refl
    reduced_all_same (Exps.Of e more) h =
        ap (λ x. Exps.Of x (reduced_all w more)) (reduced_same e (front SameLeaf (leaves e) (leaves_all more) h)) ∙ ap (Exps.Of (reduced v e)) (reduced_all_same more (back SameLeaf (leaves e) (leaves_all more) h))

    reduced_by_same : (os : Operands Leaf) → AllSame (leaves_by os) → reduced_by w os ≡ reduced_by v os
    reduced_by_same Done h = refl
    reduced_by_same (By op e more) h =
        ap (λ x. By op x (reduced_by w more)) (reduced_same e (front SameLeaf (leaves e) (leaves_by more) h)) ∙ ap (By op (reduced v e)) (reduced_by_same more (back SameLeaf (leaves e) (leaves_by more) h))

  reduced_in_same : (o : Option (Exp Leaf)) → AllSame (leaves_in o) → reduced_in w o ≡ reduced_in v o
  reduced_in_same None h = refl
  reduced_in_same (Some e) h = ap Some (reduced_same e h)

  mutual
    sta_reduced_same : (s : Sta Leaf) → AllSame (sta_leaves s) → sta_reduced w s ≡ sta_reduced v s
    sta_reduced_same (Let mutable at name typ value) h = ap (Let mutable at name typ) (reduced_same value h)
    sta_reduced_same (Assign at name value) h = ap (Assign at name) (reduced_same value h)
    sta_reduced_same (Return at value) h = ap (Return at) (reduced_in_same value h)
    sta_reduced_same (Eval value) h = ap Eval (reduced_same value h)
    sta_reduced_same (While cond body) h =
        ap (λ e. While e (stas_reduced w body)) (reduced_same cond (front SameLeaf (leaves cond) (stas_leaves body) h)) ∙ ap (While (reduced v cond)) (stas_reduced_same body (back SameLeaf (leaves cond) (stas_leaves body) h))
    sta_reduced_same (If arms) h = ap If (arms_reduced_same arms h)
    sta_reduced_same (Print value) h = ap Print (reduced_same value h)

    stas_reduced_same : (ss : Stas Leaf) → AllSame (stas_leaves ss) → stas_reduced w ss ≡ stas_reduced v ss
    stas_reduced_same Stas.Empty h = refl
    stas_reduced_same (Stas.Of s more) h =
        ap (λ x. Stas.Of x (stas_reduced w more)) (sta_reduced_same s (front SameLeaf (sta_leaves s) (stas_leaves more) h)) ∙ ap (Stas.Of (sta_reduced v s)) (stas_reduced_same more (back SameLeaf (sta_leaves s) (stas_leaves more) h))

    arms_reduced_same : (arms : Arms Leaf) → AllSame (arms_leaves arms) → arms_reduced w arms ≡ arms_reduced v arms
    arms_reduced_same Bare h = refl
    arms_reduced_same (Else body) h = ap Else (stas_reduced_same body h)
    arms_reduced_same (Arm cond body more) h =
        let rest = back SameLeaf (leaves cond) (stas_leaves body ++ arms_leaves more) h in
        ap (λ e. Arm e (stas_reduced w body) (arms_reduced w more)) (reduced_same cond (front SameLeaf (leaves cond) (stas_leaves body ++ arms_leaves more) h))
        ∙ ap (λ b. Arm (reduced v cond) b (arms_reduced w more)) (stas_reduced_same body (front SameLeaf (stas_leaves body) (arms_leaves more) rest))
        ∙ ap (Arm (reduced v cond) (stas_reduced v body)) (arms_reduced_same more (back SameLeaf (stas_leaves body) (arms_leaves more) rest))

  -- ---- A reduced tree has no other paths.

  value_kept : (at : At) (truth : Bool) (x : ℤ) → AllSame (leaves (constant_of at truth x))
  value_kept at true x = tt
  value_kept at false x = tt

  or_kept : (at : At) (truth : Bool) (o : Option ℤ) (e : Exp Leaf) → AllSame (leaves e) → AllSame (leaves (folded_or at truth o e))
  or_kept at truth None e h = h
  or_kept at truth (Some x) e h = value_kept at truth x

  mutual
    kept : (e : Exp Leaf) → AllSame (leaves e) → AllSame (leaves (reduced v e))
    kept (Number at x) h = tt
    kept (Truth at b) h = tt
    kept (Path at p) h = h
    kept (Call at p args) h = (h.0, kept_all args h.1)
    kept (Group at e) h = kept e h
    kept (Unary at op e) h = or_kept at (is_not op) (folded v (Unary at op e)) (Unary at op (reduced v e)) (kept e h)
    kept (Arith at a more) h =
        or_kept at false (folded v (Arith at a more)) (Arith at (reduced v a) (reduced_by v more))
        (each_append SameLeaf (leaves (reduced v a)) (leaves_by (reduced_by v more)) (kept a (front SameLeaf (leaves a) (leaves_by more) h)) (kept_by more (back SameLeaf (leaves a) (leaves_by more) h)))
    kept (Compare at op a b) h =
        or_kept at true (folded v (Compare at op a b)) (Compare at op (reduced v a) (reduced v b))
        (each_append SameLeaf (leaves (reduced v a)) (leaves (reduced v b)) (kept a (front SameLeaf (leaves a) (leaves b) h)) (kept b (back SameLeaf (leaves a) (leaves b) h)))
    kept (And at parts) h = or_kept at true (folded v (And at parts)) (And at (reduced_all v parts)) (kept_all parts h)
    kept (Or at parts) h = or_kept at true (folded v (Or at parts)) (Or at (reduced_all v parts)) (kept_all parts h)

    kept_all : (es : Exps Leaf) → AllSame (leaves_all es) → AllSame (leaves_all (reduced_all v es))
    kept_all Exps.Empty h = tt
    kept_all (Exps.Of e more) h =
        each_append SameLeaf (leaves (reduced v e)) (leaves_all (reduced_all v more)) (kept e (front SameLeaf (leaves e) (leaves_all more) h)) (kept_all more (back SameLeaf (leaves e) (leaves_all more) h))

    kept_by : (os : Operands Leaf) → AllSame (leaves_by os) → AllSame (leaves_by (reduced_by v os))
    kept_by Done h = tt
    kept_by (By op e more) h =
        each_append SameLeaf (leaves (reduced v e)) (leaves_by (reduced_by v more)) (kept e (front SameLeaf (leaves e) (leaves_by more) h)) (kept_by more (back SameLeaf (leaves e) (leaves_by more) h))

  kept_in : (o : Option (Exp Leaf)) → AllSame (leaves_in o) → AllSame (leaves_in (reduced_in v o))
  kept_in None h = tt
  kept_in (Some e) h = kept e h

  mutual
    sta_kept : (s : Sta Leaf) → AllSame (sta_leaves s) → AllSame (sta_leaves (sta_reduced v s))
    sta_kept (Let mutable at name typ value) h = kept value h
    sta_kept (Assign at name value) h = kept value h
    sta_kept (Return at value) h = kept_in value h
    sta_kept (Eval value) h = kept value h
    sta_kept (While cond body) h =
        each_append SameLeaf (leaves (reduced v cond)) (stas_leaves (stas_reduced v body)) (kept cond (front SameLeaf (leaves cond) (stas_leaves body) h)) (stas_kept body (back SameLeaf (leaves cond) (stas_leaves body) h))
    sta_kept (If arms) h = arms_kept arms h
    sta_kept (Print value) h = kept value h

    stas_kept : (ss : Stas Leaf) → AllSame (stas_leaves ss) → AllSame (stas_leaves (stas_reduced v ss))
    stas_kept Stas.Empty h = tt
    stas_kept (Stas.Of s more) h =
        each_append SameLeaf (sta_leaves (sta_reduced v s)) (stas_leaves (stas_reduced v more)) (sta_kept s (front SameLeaf (sta_leaves s) (stas_leaves more) h)) (stas_kept more (back SameLeaf (sta_leaves s) (stas_leaves more) h))

    arms_kept : (arms : Arms Leaf) → AllSame (arms_leaves arms) → AllSame (arms_leaves (arms_reduced v arms))
    arms_kept Bare h = tt
    arms_kept (Else body) h = stas_kept body h
    arms_kept (Arm cond body more) h =
        let rest = back SameLeaf (leaves cond) (stas_leaves body ++ arms_leaves more) h in
        each_append SameLeaf (leaves (reduced v cond)) (stas_leaves (stas_reduced v body) ++ arms_leaves (arms_reduced v more)) (kept cond (front SameLeaf (leaves cond) (stas_leaves body ++ arms_leaves more) h))
        (each_append SameLeaf (stas_leaves (stas_reduced v body)) (arms_leaves (arms_reduced v more)) (stas_kept body (front SameLeaf (stas_leaves body) (arms_leaves more) rest)) (arms_kept more (back SameLeaf (stas_leaves body) (arms_leaves more) rest)))

  pub reduced_code_same : (inlined : Bool) (params : List Param) (ss : Stas Leaf) (tail : Option (Exp Leaf)) → AllByRecursion SameLeaf (stas_leaves ss) → AllByRecursion SameLeaf (leaves_in tail)
      → reduced_code w inlined params ss tail ≡ reduced_code v inlined params ss tail
  reduced_code_same inlined params ss tail h k =
      ap (λ x. function_code w inlined params x (reduced_in w tail)) (stas_reduced_same ss h)
      ∙ ap (function_code w inlined params (stas_reduced v ss)) (reduced_in_same tail k)
      ∙ function_same inlined params (stas_reduced v ss) (reduced_in v tail) (stas_kept ss h) (kept_in tail k)

-- ---- An item.

module _ (level : ℕ) (sigs other : List (Place × Sig)) (consts more : List (Place × Const)) where
  -- the answers at the paths of a tree
  abbrev SameBy : Typ → Found → Type 0
  SameBy gives b = Same (meanings level sigs consts gives) (meanings level other more gives) refl refl b

  leaves_same : (gives : Typ) (found : List Found) (ps : List path.Path) → AllByRecursion (SameBy gives) found → AllByRecursion (λ (l : Leaf). SameBy gives l.1) (answered f.Absent found ps)
  leaves_same gives found [] h = tt
  leaves_same gives [] (p ∷ ps) h = (record { sig = tt; value = tt }, leaves_same gives [] ps tt)
  leaves_same gives (b ∷ bs) (p ∷ ps) h = (h.0, leaves_same gives bs ps h.1)

  all_by : (gives : Typ) (found : List Found) → AllByRecursion (Agrees sigs other) found → AllByRecursion (ValuesAgree consts more) found → AllByRecursion (SameBy gives) found
  all_by gives [] h k = tt
  all_by gives (b ∷ bs) h k = (record { sig = h.0; value = k.0 }, all_by gives bs h.1 k.1)

  definition_same : (found : List Found) (d : Definition path.Path) → AllByRecursion (Agrees sigs other) found → AllByRecursion (ValuesAgree consts more) found → lowered_definition level found sigs consts d ≡ lowered_definition level found other more d
  definition_same found (constant typ value) h k = refl
  definition_same found (Func inlined params gives stmts tail) h k =
      let P : Leaf → Type 0 = λ l. SameBy gives l.1 in
      let all = all_by gives found h k in
      let rest = drop (length (stas_leaves stmts)) found in
      ap (λ c. if is_within params stmts tail then c else no_code inlined)
      (reduced_code_same (meanings level sigs consts gives) (meanings level other more gives) refl refl inlined params (stas_filled f.Absent found stmts) (filled_in f.Absent rest tail)
      (subst (AllByRecursion P) (sym (of_statements f.Absent found stmts)) (leaves_same gives found (stas_leaves stmts) all))
      (subst (AllByRecursion P) (sym (of_value f.Absent rest tail)) (leaves_same gives rest (leaves_in tail) (dropped (SameBy gives) (length (stas_leaves stmts)) found all))))

-- where the lists agree at each answer
pub form_same : (level : ℕ) (sigs other : List (Place × Sig)) (consts more : List (Place × Const)) (found : List Found) (item : Item) → AllByRecursion (Agrees sigs other) found → AllByRecursion (ValuesAgree consts more) found
    → lowered level found sigs consts item ≡ lowered level found other more item
form_same level sigs other consts more found item h k = definition_same level sigs other consts more found (definition item.body) h k
