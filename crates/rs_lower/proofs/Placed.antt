-- Each label that lowering gives out has one place in the code, and no other label has one.
use Rattle.std.proofs.Common.{◌≡◌, ℕ, ◌+◌, ◌<◌, Bool, true, false, nat_le, nat_lt, ◌&&◌, if◌then◌else◌, ℤ, pos, Option, Some, None, List, [], ◌∷◌, ◌++◌, refl, sym, ap, ◌∙◌, add_assoc, zero-add, arith}
use Rattle.std.proofs.lemmas.Bool.Decides.{nat_tests}
use Rattle.rs_tree.specs.declared.answers.Const.{Const}
use Rattle.rs_tree.specs.declared.answers.Const.TheVariants as c
use Rattle.rs_tree.specs.declared.answers.Found.{Found}
use Rattle.rs_tree.specs.declared.answers.Found.TheVariants as f
use Rattle.rs_tree.specs.declared.ir.Instr.{Instr}
use Rattle.rs_tree.specs.declared.ir.Instr.TheVariants as i
use Rattle.rs_tree.specs.declared.tree.Path as path
use Rattle.rs_lookup.specs.Places.{place_name}
use Rattle.rs_tree.specs.Labels as labelled
use Rattle.rs_tree.specs.Labels.{count_of_places}
use Rattle.rs_tree.specs.Plain.{Exp, Exps, Operands, Number, Truth, Path, Call, Group, Unary, Arith, Compare, And, Or, Done, By}
use Rattle.rs_tree.specs.Plain.{Sta, Stas, Arms, Let, Assign, Return, Eval, While, If, Print, Bare, Else, Arm}
use Rattle.rs_lower.specs.Code.{code, code_all, code_by, code_chain, code_parts, call_code, path_code, loaded, stored, pushed, unary_code, arith_code, compare_code, print_code, return_code, returned, popped, has_value, is_truth, body, body_all, body_if, body_arms, after}
use Rattle.rs_lower.specs.Counts.{labels, labels_all, labels_by, labels_in, places, places_all, places_arms, lets, lets_all}
use Rattle.rs_lower.specs.Locals.{Local, Env, find}
use Rattle.rs_lower.specs.Meanings.{Leaf, Meanings, const_at}

abbrev is_place : ℕ → Instr → ℕ
is_place l x = if labelled.places l x then 1 else 0

-- 1 where l is one of the k labels from n on
abbrev pub within : ℕ → ℕ → ℕ → ℕ
within l n k = if nat_le n l && nat_lt l (n + k) then 1 else 0

within_none : (l n : ℕ) → 0 ≡ within l n 0
within_none l n = grind (arith, nat_tests)

pub within_more : (l n a b : ℕ) → within l n a + within l (n + a) b ≡ within l n (a + b)
within_more l n a b = grind (arith, nat_tests)

pub within_sum : (l n a b m k : ℕ) → m ≡ n + a → k ≡ a + b → within l n a + within l m b ≡ within l n k
within_sum l n a b m k e d = rw (e, d) (within_more l n a b)

within_one : (l n : ℕ) → is_place l (i.Label n) ≡ within l n 1
within_one l n = grind (arith, nat_tests)

pub within_all : (l k : ℕ) → l < k → within l 0 k ≡ 1
within_all l k less = grind (arith, nat_tests)

pub count-append : (l : ℕ) (xs ys : List Instr) → count_of_places l (xs ++ ys) ≡ count_of_places l xs + count_of_places l ys
count-append l [] ys = sym (zero-add (count_of_places l ys))
count-append l (x ∷ xs) ys = ap (λ n. is_place l x + n) (count-append l xs ys) ∙ sym (add_assoc (is_place l x) (count_of_places l xs) (count_of_places l ys))

no_load : (l : ℕ) (o : Option Local) → is_place l (loaded o) ≡ 0
no_load l None = refl
no_load l (Some s) = refl

no_store : (l : ℕ) (o : Option Local) → is_place l (stored o) ≡ 0
no_store l None = refl
no_store l (Some s) = refl

no_push : (l : ℕ) (o : Option Const) → is_place l (pushed o) ≡ 0
no_push l None = refl
no_push l (Some (c.Int v)) = refl
no_push l (Some (c.Bool b)) = refl
no_push l (Some c.Cycle) = refl
no_push l (Some c.Overflow) = refl
no_push l (Some c.DivZero) = refl
no_push l (Some c.Bad) = refl

no_path : (l : ℕ) (w : Meanings) (env : Env) (p : path.Path) (found : Found) → is_place l (path_code w env (p, found)) ≡ 0
no_path l w env p f.Local = no_load l (find p.name env)
no_path l w env p (f.Item place) = no_push l (const_at (place_name place) w.consts)
no_path l w env p f.Private = refl
no_path l w env p f.Absent = refl

mutual
  pub code_placed : (l : ℕ) (w : Meanings) (env : Env) (n : ℕ) (e : Exp Leaf) → count_of_places l (code w env n e) ≡ within l n (labels e)
  code_placed l w env n (Number at v) = within_none l n
  code_placed l w env n (Truth at b) = within_none l n
  code_placed l w env n (Path at p) = omega (arith, no_path l w env p.0 p.1, within_none l n)
  code_placed l w env n (Call at p args) = omega (arith, count-append l (code_all w env n args) (call_code w p ∷ []), all_placed l w env n args)
  code_placed l w env n (Group at e) = code_placed l w env n e
  code_placed l w env n (Unary at op e) = omega (arith, count-append l (code w env n e) (i.Plain (unary_code op) ∷ []), code_placed l w env n e)
  code_placed l w env n (Arith at a more) =
      omega (arith, count-append l (code w env n a) (code_by w env (n + labels a) more), code_placed l w env n a, by_placed l w env (n + labels a) more, within_more l n (labels a) (labels_by more))
  code_placed l w env n (Compare at op a b) =
      omega (
        arith,
        count-append l (code w env n a) (code w env (n + labels a) b ++ i.Plain (compare_code op) ∷ []),
        count-append l (code w env (n + labels a) b) (i.Plain (compare_code op) ∷ []),
        code_placed l w env n a,
        code_placed l w env (n + labels a) b,
        within_more l n (labels a) (labels b),
      )
  code_placed l w env n (And at parts) = chain_placed l w env 0x29 (pos 0) n parts
  code_placed l w env n (Or at parts) = chain_placed l w env 0x2a (pos 1) n parts

  all_placed : (l : ℕ) (w : Meanings) (env : Env) (n : ℕ) (es : Exps Leaf) → count_of_places l (code_all w env n es) ≡ within l n (labels_all es)
  all_placed l w env n Exps.Empty = within_none l n
  all_placed l w env n (Exps.Of e more) = omega (arith, count-append l (code w env n e) (code_all w env (n + labels e) more), code_placed l w env n e, all_placed l w env (n + labels e) more, within_more l n (labels e) (labels_all more))

  by_placed : (l : ℕ) (w : Meanings) (env : Env) (n : ℕ) (os : Operands Leaf) → count_of_places l (code_by w env n os) ≡ within l n (labels_by os)
  by_placed l w env n Done = within_none l n
  by_placed l w env n (By op e more) =
      omega (arith, count-append l (code w env n e) (i.Plain (arith_code op) ∷ code_by w env (n + labels e) more), code_placed l w env n e, by_placed l w env (n + labels e) more, within_more l n (labels e) (labels_by more))

  chain_placed : (l : ℕ) (w : Meanings) (env : Env) (jump : ℕ) (v : ℤ) (n : ℕ) (es : Exps Leaf) → count_of_places l (code_chain w env jump v n es) ≡ within l n (2 + labels_all es)
  chain_placed l w env jump v n Exps.Empty = omega (arith, within_one l n, within_one l (n + 1), within_more l n 1 1)
  chain_placed l w env jump v n (Exps.Of e more) =
      omega (
        arith,
        count-append l (code w env n e) (code_parts w env jump v (n + labels e) (n + labels e + 1) more),
        code_placed l w env n e,
        parts_placed l w env jump v (n + labels e) (n + labels e + 1) more,
        within_more l (n + labels e) 1 (labels_all more + 1),
        within_sum l n (labels e) (1 + (labels_all more + 1)) (n + labels e) (2 + (labels e + labels_all more)) refl (omega arith),
      )

  parts_placed : (l : ℕ) (w : Meanings) (env : Env) (jump : ℕ) (v : ℤ) (d n : ℕ) (es : Exps Leaf) → count_of_places l (code_parts w env jump v d n es) ≡ within l d 1 + within l n (labels_all es + 1)
  parts_placed l w env jump v d n Exps.Empty = omega (arith, within_one l d, within_one l n)
  parts_placed l w env jump v d n (Exps.Of e more) =
      omega (
        arith,
        count-append l (code w env n e) (code_parts w env jump v d (n + labels e) more),
        code_placed l w env n e,
        parts_placed l w env jump v d (n + labels e) more,
        within_sum l n (labels e) (labels_all more + 1) (n + labels e) (labels e + labels_all more + 1) refl (omega arith),
      )

pub returned_placed : (l : ℕ) (w : Meanings) (env : Env) (n : ℕ) (value : Option (Exp Leaf)) → count_of_places l (returned w env n value) ≡ within l n (labels_in value)
returned_placed l w env n None = within_none l n
returned_placed l w env n (Some e) = omega (arith, count-append l (code w env n e) (i.Plain (return_code w.gives) ∷ []), code_placed l w env n e)

no_pop : (l : ℕ) (b : Bool) → count_of_places l (popped b) ≡ 0
no_pop l true = refl
no_pop l false = refl

mutual
  pub body_placed : (l : ℕ) (w : Meanings) (env : Env) (m n : ℕ) (s : Sta Leaf) → count_of_places l (body w env m n s) ≡ within l n (places s)
  body_placed l w env m n (Let mutable at name typ value) = omega (arith, count-append l (code w env n value) (i.Store m ∷ []), code_placed l w env n value)
  body_placed l w env m n (Assign at name value) = omega (arith, count-append l (code w env n value) (stored (find name env) ∷ []), code_placed l w env n value, no_store l (find name env))
  body_placed l w env m n (Return at value) = returned_placed l w env n value
  body_placed l w env m n (Eval value) = omega (arith, count-append l (code w env n value) (popped (has_value w value)), code_placed l w env n value, no_pop l (has_value w value))
  body_placed l w env m n (Print value) = omega (arith, count-append l (code w env n value) (i.Plain (print_code (is_truth w env value)) ∷ []), code_placed l w env n value)
  body_placed l w env m n (While cond inner) =
      let inside = body_all w env m (n + 2 + labels cond) inner in
      let end = i.Jump 0x28 n ∷ i.Label (n + 1 + labels cond) ∷ [] in
      omega (
        arith,
        count-append l (code w env (n + 1) cond) (i.Jump 0x29 (n + 1 + labels cond) ∷ (inside ++ end)),
        count-append l inside end,
        within_one l n,
        within_one l (n + 1 + labels cond),
        code_placed l w env (n + 1) cond,
        block_placed l w env m (n + 2 + labels cond) inner,
        within_sum l n 1 (labels cond) (n + 1) (1 + labels cond) refl refl,
        within_sum l n (1 + labels cond) 1 (n + 1 + labels cond) (2 + labels cond) (omega arith) (omega arith),
        within_sum l n (2 + labels cond) (places_all inner) (n + 2 + labels cond) (2 + labels cond + places_all inner) (omega arith) refl,
      )
  body_placed l w env m n (If arms) = if_placed l w env m n arms

  pub block_placed : (l : ℕ) (w : Meanings) (env : Env) (m n : ℕ) (ss : Stas Leaf) → count_of_places l (body_all w env m n ss) ≡ within l n (places_all ss)
  block_placed l w env m n Stas.Empty = within_none l n
  block_placed l w env m n (Stas.Of s more) =
      omega (
        arith,
        count-append l (body w env m n s) (body_all w (after w env m s) (m + lets s) (n + places s) more),
        body_placed l w env m n s,
        block_placed l w (after w env m s) (m + lets s) (n + places s) more,
        within_more l n (places s) (places_all more),
      )

  if_placed : (l : ℕ) (w : Meanings) (env : Env) (m n : ℕ) (arms : Arms Leaf) → count_of_places l (body_if w env m n arms) ≡ within l n (1 + places_arms arms)
  if_placed l w env m n Bare = within_one_zero l n
    where
      within_one_zero : (l n : ℕ) → is_place l (i.Label n) + 0 ≡ within l n (1 + 0)
      within_one_zero l n = omega (arith, within_one l n)
  if_placed l w env m n (Else inner) =
      omega (arith, count-append l (body_all w env m (n + 1) inner) (i.Label n ∷ []), block_placed l w env m (n + 1) inner, within_one l n, within_sum l n 1 (places_all inner) (n + 1) (1 + places_all inner) refl refl)
  if_placed l w env m n (Arm cond inner more) =
      let past = n + labels cond in
      let end = n + labels cond + 1 + places_all inner in
      let inside = body_all w env m (n + labels cond + 1) inner in
      let others = body_arms w env (m + lets_all inner) end (n + labels cond + 2 + places_all inner) more in
      let last = i.Label end ∷ [] in
      let middle = i.Jump 0x28 end ∷ i.Label past ∷ (others ++ last) in
      omega (
        arith,
        count-append l (code w env n cond) (i.Jump 0x29 past ∷ (inside ++ middle)),
        count-append l inside middle,
        count-append l others last,
        code_placed l w env n cond,
        block_placed l w env m (n + labels cond + 1) inner,
        arms_placed l w env (m + lets_all inner) end (n + labels cond + 2 + places_all inner) more,
        within_one l past,
        within_one l end,
        within_sum l n (labels cond) 1 past (labels cond + 1) refl refl,
        within_sum l n (labels cond + 1) (places_all inner) (n + labels cond + 1) (labels cond + 1 + places_all inner) (omega arith) refl,
        within_sum l n (labels cond + 1 + places_all inner) 1 end (labels cond + 1 + places_all inner + 1) (omega arith) refl,
        within_sum l n (labels cond + 1 + places_all inner + 1) (places_arms more) (n + labels cond + 2 + places_all inner) (1 + (1 + labels cond + places_all inner + places_arms more)) (omega arith) (omega arith),
      )

  arms_placed : (l : ℕ) (w : Meanings) (env : Env) (m e n : ℕ) (arms : Arms Leaf) → count_of_places l (body_arms w env m e n arms) ≡ within l n (places_arms arms)
  arms_placed l w env m e n Bare = within_none l n
  arms_placed l w env m e n (Else inner) = block_placed l w env m n inner
  arms_placed l w env m e n (Arm cond inner more) =
      let past = n + labels cond in
      let inside = body_all w env m (n + labels cond + 1) inner in
      let others = body_arms w env (m + lets_all inner) e (n + labels cond + 1 + places_all inner) more in
      let middle = i.Jump 0x28 e ∷ i.Label past ∷ others in
      omega (
        arith,
        count-append l (code w env n cond) (i.Jump 0x29 past ∷ (inside ++ middle)),
        count-append l inside middle,
        code_placed l w env n cond,
        block_placed l w env m (n + labels cond + 1) inner,
        arms_placed l w env (m + lets_all inner) e (n + labels cond + 1 + places_all inner) more,
        within_one l past,
        within_sum l n (labels cond) 1 past (labels cond + 1) refl refl,
        within_sum l n (labels cond + 1) (places_all inner) (n + labels cond + 1) (labels cond + 1 + places_all inner) (omega arith) refl,
        within_sum l n (labels cond + 1 + places_all inner) (places_arms more) (n + labels cond + 1 + places_all inner) (1 + labels cond + places_all inner + places_arms more) (omega arith) (omega arith),
      )
