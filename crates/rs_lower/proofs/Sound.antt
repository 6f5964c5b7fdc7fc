-- Each instruction of lowered code has a code of its kind, names labels below the count and slots below the count.
use Rattle.std.proofs.Common.{inl, inr, ℕ, ◌+◌, ◌<◌, ◌≤◌, Bool, true, false, if◌then◌else◌, ℤ, Option, None, Some, List, [], ◌∷◌, ◌++◌, length, refl, arith, pos}
use Rattle.std.specs.Str.{bytes_eq}
use Rattle.inc_wire.specs.Fits.{Each}
use Rattle.rs_forms.specs.Fits.{HasOwnCode, IsPlainCode, IsJumpCode}
use Rattle.rs_lookup.specs.Places.{place_name}
use Rattle.rs_tree.specs.declared.answers.Const.{Const}
use Rattle.rs_tree.specs.declared.answers.Const.TheVariants as c
use Rattle.rs_tree.specs.declared.answers.Found.{Found}
use Rattle.rs_tree.specs.declared.answers.Found.TheVariants as f
use Rattle.rs_tree.specs.declared.ir.Instr.{Instr}
use Rattle.rs_tree.specs.declared.ir.Instr.TheVariants as i
use Rattle.rs_tree.specs.declared.tree.ArithOp.{ArithOp}
use Rattle.rs_tree.specs.declared.tree.ArithOp.TheVariants as arith_op
use Rattle.rs_tree.specs.declared.tree.CmpOp.{CmpOp}
use Rattle.rs_tree.specs.declared.tree.CmpOp.TheVariants as cmp
use Rattle.rs_tree.specs.declared.tree.Param.{Param}
use Rattle.rs_tree.specs.declared.tree.Path as path
use Rattle.rs_tree.specs.declared.tree.UnaryOp.{UnaryOp}
use Rattle.rs_tree.specs.declared.tree.UnaryOp.TheVariants as unary
use Rattle.rs_tree.specs.Plain.{Exp, Exps, Operands, Number, Truth, Path, Call, Group, Unary, Arith, Compare, And, Or, Done, By}
use Rattle.rs_tree.specs.Plain.{Sta, Stas, Arms, Let, Assign, Return, Eval, While, If, Print, Bare, Else, Arm}
use Rattle.rs_lower.specs.Code.{code, code_all, code_by, code_chain, code_parts, path_code, loaded, stored, pushed, unary_code, arith_code, compare_code, print_code, return_code, returned, popped, has_value, is_truth, body, body_all, body_if, body_arms, after, after_all}
use Rattle.rs_lower.specs.Counts.{labels, labels_all, labels_by, labels_in, places, places_all, places_arms, lets, lets_all, lets_arms}
use Rattle.rs_lower.specs.Laws.{HasSlot}
use Rattle.rs_lower.specs.Locals.{Local, Env, find, with_params}
use Rattle.rs_lower.specs.Meanings.{Leaf, Meanings, const_at}

-- an instruction names labels below n and slots below m
abbrev pub IsSound : ℕ → ℕ → Instr → Type 0
IsSound n m (i.Push value) = Unit {0}
IsSound n m (i.Load slot) = slot < m
IsSound n m (i.Store slot) = slot < m
IsSound n m (i.Plain c) = IsPlainCode c
IsSound n m (i.Jump c label) = IsJumpCode c × (label < n)
IsSound n m (i.Label label) = Unit {0}
IsSound n m (i.Call inline place) = Unit {0}

pub each_append : {X : Type 0} (P : X → Type 0) (xs ys : List X) → Each P xs → Each P ys → Each P (xs ++ ys)
each_append P [] ys first second = second
each_append P (x ∷ xs) ys first second = (first.0, each_append P xs ys first.1 second)

pub each_weaker : {X : Type 0} (P Q : X → Type 0) → ((x : X) → P x → Q x) → (xs : List X) → Each P xs → Each Q xs
each_weaker P Q f [] all = tt
each_weaker P Q f (x ∷ xs) all = (f x all.0, each_weaker P Q f xs all.1)

-- the slots of the locals in scope are below m
abbrev pub Below : ℕ → Env → Type 0
Below m env = Each (λ (l : Local). l.slot < m) env

loaded_sound : (n m : ℕ) (name : List ℕ) (env : Env) → Below m env → IsSound n m (loaded (find name env))
loaded_sound n m name [] below = tt
loaded_sound n m name (l ∷ env) below = by (bytes_eq name l.name) (loaded_sound n m name env below.1)
  where
    by : (b : Bool) → IsSound n m (loaded (find name env)) → IsSound n m (loaded (if b then Some l else find name env))
    by true rest = below.0
    by false rest = rest

pub pop_plain : IsPlainCode 0x04
pop_plain = inl refl

operator_plain : (k : ℕ) → 16 ≤ k → k ≤ 28 → IsPlainCode k
operator_plain k low high = inr (inl (low, high))

stored_sound : (n m : ℕ) (name : List ℕ) (env : Env) → Below m env → IsSound n m (stored (find name env))
stored_sound n m name [] below = pop_plain
stored_sound n m name (l ∷ env) below = by (bytes_eq name l.name) (stored_sound n m name env below.1)
  where
    by : (b : Bool) → IsSound n m (stored (find name env)) → IsSound n m (stored (if b then Some l else find name env))
    by true rest = below.0
    by false rest = rest

pushed_sound : (n m : ℕ) (value : Option Const) → IsSound n m (pushed value)
pushed_sound n m None = tt
pushed_sound n m (Some (c.Int v)) = tt
pushed_sound n m (Some (c.Bool b)) = tt
pushed_sound n m (Some c.Cycle) = tt
pushed_sound n m (Some c.Overflow) = tt
pushed_sound n m (Some c.DivZero) = tt
pushed_sound n m (Some c.Bad) = tt

path_sound : (w : Meanings) (env : Env) (n m : ℕ) (p : path.Path) (found : Found) → Below m env → IsSound n m (path_code w env (p, found))
path_sound w env n m p f.Local below = loaded_sound n m p.name env below
path_sound w env n m p (f.Item place) below = pushed_sound n m (const_at (place_name place) w.consts)
path_sound w env n m p f.Private below = tt
path_sound w env n m p f.Absent below = tt

unary_plain : (op : UnaryOp) → IsPlainCode (unary_code op)
unary_plain unary.Negate = operator_plain 0x15 (omega arith) (omega arith)
unary_plain unary.Not = operator_plain 0x16 (omega arith) (omega arith)

arith_plain : (op : ArithOp) → IsPlainCode (arith_code op)
arith_plain arith_op.Add = operator_plain 0x10 (omega arith) (omega arith)
arith_plain arith_op.Sub = operator_plain 0x11 (omega arith) (omega arith)
arith_plain arith_op.Mul = operator_plain 0x12 (omega arith) (omega arith)
arith_plain arith_op.Div = operator_plain 0x13 (omega arith) (omega arith)
arith_plain arith_op.Rem = operator_plain 0x14 (omega arith) (omega arith)

compare_plain : (op : CmpOp) → IsPlainCode (compare_code op)
compare_plain cmp.Equal = operator_plain 0x17 (omega arith) (omega arith)
compare_plain cmp.NotEqual = operator_plain 0x18 (omega arith) (omega arith)
compare_plain cmp.Less = operator_plain 0x19 (omega arith) (omega arith)
compare_plain cmp.Greater = operator_plain 0x1a (omega arith) (omega arith)
compare_plain cmp.AtMost = operator_plain 0x1b (omega arith) (omega arith)
compare_plain cmp.AtLeast = operator_plain 0x1c (omega arith) (omega arith)

print_plain : (b : Bool) → IsPlainCode (print_code b)
print_plain true = inr (inr (inr (inl refl)))
print_plain false = inr (inr (inl refl))

pub return_plain : (b : Bool) → IsPlainCode (return_code b)
return_plain true = inr (inr (inr (inr (inr refl))))
return_plain false = inr (inr (inr (inr (inl refl))))

always : IsJumpCode 0x28
always = inl refl

where_false : IsJumpCode 0x29
where_false = inr (inl refl)

where_true : IsJumpCode 0x2a
where_true = inr (inr refl)

mutual
  pub code_sound : (w : Meanings) (env : Env) (n m k : ℕ) (e : Exp Leaf) → Below m env → k + labels e ≤ n → Each (IsSound n m) (code w env k e)
  code_sound w env n m k (Number at v) below few = (tt, tt)
  code_sound w env n m k (Truth at b) below few = (tt, tt)
  code_sound w env n m k (Path at p) below few = (path_sound w env n m p.0 p.1 below, tt)
  code_sound w env n m k (Call at p args) below few = each_append (IsSound n m) (code_all w env k args) _ (code_all_sound w env n m k args below few) (tt, tt)
  code_sound w env n m k (Group at e) below few = code_sound w env n m k e below few
  code_sound w env n m k (Unary at op e) below few = each_append (IsSound n m) (code w env k e) _ (code_sound w env n m k e below few) (unary_plain op, tt)
  code_sound w env n m k (Arith at a more) below few =
      each_append (IsSound n m) (code w env k a) _ (code_sound w env n m k a below (omega (arith, few))) (code_by_sound w env n m (k + labels a) more below (omega (arith, few)))
  code_sound w env n m k (Compare at op a b) below few =
      each_append (IsSound n m) (code w env k a) _ (code_sound w env n m k a below (omega (arith, few)))
      (each_append (IsSound n m) (code w env (k + labels a) b) _ (code_sound w env n m (k + labels a) b below (omega (arith, few))) (compare_plain op, tt))
  code_sound w env n m k (And at parts) below few = code_chain_sound w env n m 0x29 (pos 0) k parts below where_false few
  code_sound w env n m k (Or at parts) below few = code_chain_sound w env n m 0x2a (pos 1) k parts below where_true few

  code_all_sound : (w : Meanings) (env : Env) (n m k : ℕ) (es : Exps Leaf) → Below m env → k + labels_all es ≤ n → Each (IsSound n m) (code_all w env k es)
  code_all_sound w env n m k Exps.Empty below few = tt
  code_all_sound w env n m k (Exps.Of e more) below few =
      each_append (IsSound n m) (code w env k e) _ (code_sound w env n m k e below (omega (arith, few))) (code_all_sound w env n m (k + labels e) more below (omega (arith, few)))

  code_by_sound : (w : Meanings) (env : Env) (n m k : ℕ) (os : Operands Leaf) → Below m env → k + labels_by os ≤ n → Each (IsSound n m) (code_by w env k os)
  code_by_sound w env n m k Done below few = tt
  code_by_sound w env n m k (By op e more) below few =
      each_append (IsSound n m) (code w env k e) _ (code_sound w env n m k e below (omega (arith, few))) (arith_plain op, code_by_sound w env n m (k + labels e) more below (omega (arith, few)))

  code_chain_sound : (w : Meanings) (env : Env) (n m jump : ℕ) (v : ℤ) (k : ℕ) (es : Exps Leaf) → Below m env → IsJumpCode jump → k + (2 + labels_all es) ≤ n → Each (IsSound n m) (code_chain w env jump v k es)
  code_chain_sound w env n m jump v k Exps.Empty below jumps few = ((always, omega (arith, few)), (tt, (tt, (tt, tt))))
  code_chain_sound w env n m jump v k (Exps.Of e more) below jumps few =
      each_append (IsSound n m) (code w env k e) _ (code_sound w env n m k e below (omega (arith, few))) (code_parts_sound w env n m jump v (k + labels e) (k + labels e + 1) more below jumps (omega (arith, few)) (omega (arith, few)))

  code_parts_sound : (w : Meanings) (env : Env) (n m jump : ℕ) (v : ℤ) (d k : ℕ) (es : Exps Leaf) → Below m env → IsJumpCode jump → d < n → k + (1 + labels_all es) ≤ n → Each (IsSound n m) (code_parts w env jump v d k es)
  code_parts_sound w env n m jump v d k Exps.Empty below jumps less few = ((always, omega (arith, few)), (tt, (tt, (tt, tt))))
  code_parts_sound w env n m jump v d k (Exps.Of e more) below jumps less few =
      ((jumps, less), each_append (IsSound n m) (code w env k e) _ (code_sound w env n m k e below (omega (arith, few))) (code_parts_sound w env n m jump v d (k + labels e) more below jumps less (omega (arith, few))))

pub returned_sound : (w : Meanings) (env : Env) (n m k : ℕ) (value : Option (Exp Leaf)) → Below m env → k + labels_in value ≤ n → Each (IsSound n m) (returned w env k value)
returned_sound w env n m k None below few = (return_plain false, tt)
returned_sound w env n m k (Some e) below few = each_append (IsSound n m) (code w env k e) _ (code_sound w env n m k e below few) (return_plain w.gives, tt)

popped_sound : (n m : ℕ) (b : Bool) → Each (IsSound n m) (popped b)
popped_sound n m true = (pop_plain, tt)
popped_sound n m false = tt

pub after_below : (w : Meanings) (env : Env) (m s : ℕ) (t : Sta Leaf) → Below m env → s + lets t ≤ m → Below m (after w env s t)
after_below w env m s (Let mutable at name typ value) below few = (omega (arith, few), below)
after_below w env m s (Assign at name value) below few = below
after_below w env m s (Return at value) below few = below
after_below w env m s (Eval value) below few = below
after_below w env m s (While cond inner) below few = below
after_below w env m s (If arms) below few = below
after_below w env m s (Print value) below few = below

pub after_all_below : (w : Meanings) (env : Env) (m s : ℕ) (ts : Stas Leaf) → Below m env → s + lets_all ts ≤ m → Below m (after_all w env s ts)
after_all_below w env m s Stas.Empty below few = below
after_all_below w env m s (Stas.Of t more) below few = after_all_below w (after w env s t) m (s + lets t) more (after_below w env m s t below (omega (arith, few))) (omega (arith, few))

mutual
  pub body_sound : (w : Meanings) (env : Env) (n m s k : ℕ) (t : Sta Leaf) → Below m env → s + lets t ≤ m → k + places t ≤ n → Each (IsSound n m) (body w env s k t)
  body_sound w env n m s k (Let mutable at name typ value) below slots few = each_append (IsSound n m) (code w env k value) _ (code_sound w env n m k value below few) (omega (arith, slots), tt)
  body_sound w env n m s k (Assign at name value) below slots few = each_append (IsSound n m) (code w env k value) _ (code_sound w env n m k value below few) (stored_sound n m name env below, tt)
  body_sound w env n m s k (Return at value) below slots few = returned_sound w env n m k value below few
  body_sound w env n m s k (Eval value) below slots few = each_append (IsSound n m) (code w env k value) _ (code_sound w env n m k value below few) (popped_sound n m (has_value w value))
  body_sound w env n m s k (Print value) below slots few = each_append (IsSound n m) (code w env k value) _ (code_sound w env n m k value below few) (print_plain (is_truth w env value), tt)
  body_sound w env n m s k (While cond inner) below slots few = (
    tt,
    each_append (IsSound n m) (code w env (k + 1) cond) _ (code_sound w env n m (k + 1) cond below (omega (arith, few))) (
      (where_false, omega (arith, few)),
      each_append (IsSound n m) (body_all w env s (k + 2 + labels cond) inner) _ (body_all_sound w env n m s (k + 2 + labels cond) inner below slots (omega (arith, few))) ((always, omega (arith, few)), (tt, tt)),
    ),
  )
  body_sound w env n m s k (If arms) below slots few = body_if_sound w env n m s k arms below slots few

  pub body_all_sound : (w : Meanings) (env : Env) (n m s k : ℕ) (ts : Stas Leaf) → Below m env → s + lets_all ts ≤ m → k + places_all ts ≤ n → Each (IsSound n m) (body_all w env s k ts)
  body_all_sound w env n m s k Stas.Empty below slots few = tt
  body_all_sound w env n m s k (Stas.Of t more) below slots few =
      each_append (IsSound n m) (body w env s k t) _ (body_sound w env n m s k t below (omega (arith, slots)) (omega (arith, few)))
      (body_all_sound w (after w env s t) n m (s + lets t) (k + places t) more (after_below w env m s t below (omega (arith, slots))) (omega (arith, slots)) (omega (arith, few)))

  body_if_sound : (w : Meanings) (env : Env) (n m s k : ℕ) (arms : Arms Leaf) → Below m env → s + lets_arms arms ≤ m → k + (1 + places_arms arms) ≤ n → Each (IsSound n m) (body_if w env s k arms)
  body_if_sound w env n m s k Bare below slots few = (tt, tt)
  body_if_sound w env n m s k (Else inner) below slots few = each_append (IsSound n m) (body_all w env s (k + 1) inner) _ (body_all_sound w env n m s (k + 1) inner below slots (omega (arith, few))) (tt, tt)
  body_if_sound w env n m s k (Arm cond inner more) below slots few =
      each_append (IsSound n m) (code w env k cond) _ (code_sound w env n m k cond below (omega (arith, few))) (
        (where_false, omega (arith, few)),
        each_append (IsSound n m) (body_all w env s (k + labels cond + 1) inner) _ (body_all_sound w env n m s (k + labels cond + 1) inner below (omega (arith, slots)) (omega (arith, few))) (
          (always, omega (arith, few)),
          (
            tt,
            each_append (IsSound n m) (body_arms w env (s + lets_all inner) (k + labels cond + 1 + places_all inner) (k + labels cond + 2 + places_all inner) more) _
                (body_arms_sound w env n m (s + lets_all inner) (k + labels cond + 1 + places_all inner) (k + labels cond + 2 + places_all inner) more below (omega (arith, slots)) (omega (arith, few)) (omega (arith, few))) (tt, tt),
          ),
        ),
      )

  body_arms_sound : (w : Meanings) (env : Env) (n m s e k : ℕ) (arms : Arms Leaf) → Below m env → s + lets_arms arms ≤ m → e < n → k + places_arms arms ≤ n → Each (IsSound n m) (body_arms w env s e k arms)
  body_arms_sound w env n m s e k Bare below slots less few = tt
  body_arms_sound w env n m s e k (Else inner) below slots less few = body_all_sound w env n m s k inner below slots few
  body_arms_sound w env n m s e k (Arm cond inner more) below slots less few =
      each_append (IsSound n m) (code w env k cond) _ (code_sound w env n m k cond below (omega (arith, few))) (
        (where_false, omega (arith, few)),
        each_append (IsSound n m) (body_all w env s (k + labels cond + 1) inner) _ (body_all_sound w env n m s (k + labels cond + 1) inner below (omega (arith, slots)) (omega (arith, few))) (
          (always, less),
          (
            tt,
            body_arms_sound w env n m (s + lets_all inner) e (k + labels cond + 1 + places_all inner) more below (omega (arith, slots)) less (omega (arith, few)),
          ),
        ),
      )

pub params_below : (m s : ℕ) (ps : List Param) (env : Env) → Below m env → s + length ps ≤ m → Below m (with_params s ps env)
params_below m s [] env below few = below
params_below m s (p ∷ ps) env below few = params_below m (s + 1) ps _ (omega (arith, few), below) (omega (arith, few))

pub own_code : (n m : ℕ) (x : Instr) → IsSound n m x → HasOwnCode x
own_code n m (i.Push value) sound = tt
own_code n m (i.Load slot) sound = tt
own_code n m (i.Store slot) sound = tt
own_code n m (i.Plain c) sound = sound
own_code n m (i.Jump c label) sound = sound.0
own_code n m (i.Label label) sound = tt
own_code n m (i.Call inline place) sound = tt

pub own_slot : (n m : ℕ) (x : Instr) → IsSound n m x → HasSlot m x
own_slot n m (i.Push value) sound = tt
own_slot n m (i.Load slot) sound = sound
own_slot n m (i.Store slot) sound = sound
own_slot n m (i.Plain c) sound = tt
own_slot n m (i.Jump c label) sound = tt
own_slot n m (i.Label label) sound = tt
own_slot n m (i.Call inline place) sound = tt
