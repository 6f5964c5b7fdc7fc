-- The calls of a function's form are those of its tree.
use Rattle.std.proofs.Common.{◌≡◌, ℕ, ◌+◌, ℤ, ◌==◌, Bool, true, false, cond, List, ◌++◌, length, drop, Option, Some, None, sym, subst}
use Rattle.std.specs.List.{AllByRecursion, Contains}
use Rattle.rs_tree.specs.declared.answers.Const.{Const}
use Rattle.rs_tree.specs.declared.answers.Const.TheVariants as k
use Rattle.rs_tree.specs.declared.answers.Found.{Found}
use Rattle.rs_tree.specs.declared.answers.Found.TheVariants as f
use Rattle.rs_tree.specs.declared.index.IndexItem.{IndexItem}
use Rattle.rs_tree.specs.declared.index.Sig.{Sig}
use Rattle.rs_tree.specs.declared.ir.Instr.{Instr}
use Rattle.rs_tree.specs.declared.ir.Instr.TheVariants as i
use Rattle.rs_tree.specs.declared.place.At.{At}
use Rattle.rs_tree.specs.declared.place.Place.{Place}
use Rattle.rs_tree.specs.declared.tree.Path as path
use Rattle.rs_tree.specs.Plain.{Exp, Exps, Operands, Number, Truth, Path, Call, Group, Unary, Arith, Compare, And, Or, Done, By}
use Rattle.rs_tree.specs.Plain.{Sta, Stas, Arms, Let, Assign, Return, Eval, While, If, Print, Bare, Else, Arm, Definition, Const as Constant, Func}
use Rattle.rs_tree.specs.Leaves.{filled_in, stas_filled, stas_leaves}
use Rattle.rs_lookup.specs.Places.{place_name}
use Rattle.rs_reach.specs.Calls.{called, definition_marks}
use Rattle.rs_types.specs.Types.{sig_at}
use Rattle.rs_check.specs.Items.{body_wrongs}
use Rattle.rs_lower.specs.Code.{after, body, body_all, body_arms, body_if, code, code_all, code_by, code_chain, code_parts, is_not, loaded, path_code, popped, pushed, returned, stored, has_value}
use Rattle.rs_lower.specs.Counts.{labels, places, places_all, lets, lets_all}
use Rattle.rs_lower.specs.Locals.{Env, Local, find}
use Rattle.rs_lower.specs.Lowered.{is_within, lowered_definition, meanings, no_code, reduced_code}
use Rattle.rs_lower.specs.Meanings.{Leaf, Meanings, callee, const_at, has_kind, sig_of}
use Rattle.rs_lower.specs.Reduced.{constant_of, folded, folded_or, reduced, reduced_all, reduced_by, reduced_in, sta_reduced, stas_reduced, arms_reduced}
use Rattle.link_laws.proofs.Lists.{each_append}
use Rattle.link_laws.proofs.Calls.{ExpCalls, ExpsCalls, OperandsCalls, TailCalls, StaCalls, StasCalls, ArmsCalls, Leads, Warns, function_leads}

-- ---- Reducing adds no call.

module _ (P : Leaf → Type 0) (w : Meanings) where
  constant_calls : (at : At) (truth : Bool) (v : ℤ) → ExpCalls P (constant_of at truth v)
  constant_calls at false v = tt
  constant_calls at true v = tt

  kept_or : (at : At) (truth : Bool) (o : Option ℤ) (e : Exp Leaf) → ExpCalls P e → ExpCalls P (folded_or at truth o e)
  kept_or at truth None e h = h
  kept_or at truth (Some v) e h = constant_calls at truth v

  mutual
    reduced_calls : (e : Exp Leaf) → ExpCalls P e → ExpCalls P (reduced w e)
    reduced_calls (Number at n) h = h
    reduced_calls (Truth at b) h = h
    reduced_calls (Path at p) h = h
    reduced_calls (Call at p args) h = (h.0, reduced_all_calls args h.1)
    reduced_calls (Group at e) h = reduced_calls e h
    reduced_calls (Unary at op e) h = kept_or at (is_not op) (folded w (Unary at op e)) (Unary at op (reduced w e)) (reduced_calls e h)
    reduced_calls (Arith at a more) h = kept_or at false (folded w (Arith at a more)) (Arith at (reduced w a) (reduced_by w more)) (reduced_calls a h.0, reduced_by_calls more h.1)
    reduced_calls (Compare at op a b) h = kept_or at true (folded w (Compare at op a b)) (Compare at op (reduced w a) (reduced w b)) (reduced_calls a h.0, reduced_calls b h.1)
    reduced_calls (And at parts) h = kept_or at true (folded w (And at parts)) (And at (reduced_all w parts)) (reduced_all_calls parts h)
    reduced_calls (Or at parts) h = kept_or at true (folded w (Or at parts)) (Or at (reduced_all w parts)) (reduced_all_calls parts h)

    reduced_all_calls : (es : Exps Leaf) → ExpsCalls P es → ExpsCalls P (reduced_all w es)
    reduced_all_calls Exps.Empty h = h
    reduced_all_calls (Exps.Of e more) h = (reduced_calls e h.0, reduced_all_calls more h.1)

    reduced_by_calls : (os : Operands Leaf) → OperandsCalls P os → OperandsCalls P (reduced_by w os)
    reduced_by_calls Done h = h
    reduced_by_calls (By op e more) h = (reduced_calls e h.0, reduced_by_calls more h.1)

  reduced_in_calls : (value : Option (Exp Leaf)) → TailCalls P value → TailCalls P (reduced_in w value)
  reduced_in_calls None h = h
  reduced_in_calls (Some e) h = reduced_calls e h

  mutual
    sta_reduced_calls : (s : Sta Leaf) → StaCalls P s → StaCalls P (sta_reduced w s)
    sta_reduced_calls (Let mutable at name typ value) h = reduced_calls value h
    sta_reduced_calls (Assign at name value) h = reduced_calls value h
    sta_reduced_calls (Return at value) h = reduced_in_calls value h
    sta_reduced_calls (Eval value) h = reduced_calls value h
    sta_reduced_calls (While cond body) h = (reduced_calls cond h.0, stas_reduced_calls body h.1)
    sta_reduced_calls (If arms) h = arms_reduced_calls arms h
    sta_reduced_calls (Print value) h = reduced_calls value h

    stas_reduced_calls : (ss : Stas Leaf) → StasCalls P ss → StasCalls P (stas_reduced w ss)
    stas_reduced_calls Stas.Empty h = h
    stas_reduced_calls (Stas.Of s more) h = (sta_reduced_calls s h.0, stas_reduced_calls more h.1)

    arms_reduced_calls : (arms : Arms Leaf) → ArmsCalls P arms → ArmsCalls P (arms_reduced w arms)
    arms_reduced_calls Bare h = h
    arms_reduced_calls (Else body) h = stas_reduced_calls body h
    arms_reduced_calls (Arm cond body more) h = (reduced_calls cond h.0, (stas_reduced_calls body h.1.0, arms_reduced_calls more h.1.1))

-- ---- The calls of code.

-- of a call, this of whether its function is of kind 2 and of its place
abbrev pub CallIs : (Bool → Place → Type 0) → Instr → Type 0
CallIs Q (i.Push value) = Unit {0}
CallIs Q (i.Load slot) = Unit {0}
CallIs Q (i.Store slot) = Unit {0}
CallIs Q (i.Plain code) = Unit {0}
CallIs Q (i.Jump code label) = Unit {0}
CallIs Q (i.Label label) = Unit {0}
CallIs Q (i.Call inline place) = Q inline place

abbrev pub CallsAre : (Bool → Place → Type 0) → List Instr → Type 0
CallsAre Q is = AllByRecursion (CallIs Q) is

-- a path as it is called
abbrev pub Called : (Bool → Place → Type 0) → Meanings → Leaf → Type 0
Called Q w l = Q (has_kind 2 (sig_of w l.1)) (callee l.0 l.1)

module _ (Q : Bool → Place → Type 0) where
  join : (xs ys : List Instr) → CallsAre Q xs → CallsAre Q ys → CallsAre Q (xs ++ ys)
  join xs ys g h = each_append (CallIs Q) xs ys g h

  loaded_fine : (o : Option Local) → CallIs Q (loaded o)
  loaded_fine None = tt
  loaded_fine (Some l) = tt

  stored_fine : (o : Option Local) → CallIs Q (stored o)
  stored_fine None = tt
  stored_fine (Some l) = tt

  pushed_fine : (o : Option Const) → CallIs Q (pushed o)
  pushed_fine None = tt
  pushed_fine (Some (k.Int v)) = tt
  pushed_fine (Some (k.Bool b)) = tt
  pushed_fine (Some k.Cycle) = tt
  pushed_fine (Some k.Overflow) = tt
  pushed_fine (Some k.DivZero) = tt
  pushed_fine (Some k.Bad) = tt

  popped_fine : (b : Bool) → CallsAre Q (popped b)
  popped_fine true = (tt, tt)
  popped_fine false = tt

  module _ (w : Meanings) where
    path_fine : (env : Env) (p : path.Path) (found : Found) → CallIs Q (path_code w env (p, found))
    path_fine env p f.Local = loaded_fine (find p.name env)
    path_fine env p (f.Item place) = pushed_fine (const_at (place_name place) w.consts)
    path_fine env p f.Private = tt
    path_fine env p f.Absent = tt

    mutual
      code_fine : (env : Env) (n : ℕ) (e : Exp Leaf) → ExpCalls (Called Q w) e → CallsAre Q (code w env n e)
      code_fine env n (Number at v) h = (tt, tt)
      code_fine env n (Truth at b) h = (tt, tt)
      code_fine env n (Path at p) h = (path_fine env p.0 p.1, tt)
      code_fine env n (Call at p args) h = join _ _ (all_fine env n args h.1) (h.0, tt)
      code_fine env n (Group at e) h = code_fine env n e h
      code_fine env n (Unary at op e) h = join _ _ (code_fine env n e h) (tt, tt)
      code_fine env n (Arith at a more) h = join _ _ (code_fine env n a h.0) (by_fine env (n + labels a) more h.1)
      code_fine env n (Compare at op a b) h = join _ _ (code_fine env n a h.0) (join _ _ (code_fine env (n + labels a) b h.1) (tt, tt))
      code_fine env n (And at parts) h = chain_fine env _ _ n parts h
      code_fine env n (Or at parts) h = chain_fine env _ _ n parts h

      all_fine : (env : Env) (n : ℕ) (es : Exps Leaf) → ExpsCalls (Called Q w) es → CallsAre Q (code_all w env n es)
      all_fine env n Exps.Empty h = tt
      all_fine env n (Exps.Of e more) h = join _ _ (code_fine env n e h.0) (all_fine env (n + labels e) more h.1)

      by_fine : (env : Env) (n : ℕ) (os : Operands Leaf) → OperandsCalls (Called Q w) os → CallsAre Q (code_by w env n os)
      by_fine env n Done h = tt
      by_fine env n (By op e more) h = join _ _ (code_fine env n e h.0) (tt, by_fine env (n + labels e) more h.1)

      chain_fine : (env : Env) (jump : ℕ) (v : ℤ) (n : ℕ) (es : Exps Leaf) → ExpsCalls (Called Q w) es → CallsAre Q (code_chain w env jump v n es)
      chain_fine env jump v n Exps.Empty h = (tt, (tt, (tt, (tt, tt))))
      chain_fine env jump v n (Exps.Of e more) h = join _ _ (code_fine env n e h.0) (parts_fine env jump v (n + labels e) (n + labels e + 1) more h.1)

      parts_fine : (env : Env) (jump : ℕ) (v : ℤ) (l n : ℕ) (es : Exps Leaf) → ExpsCalls (Called Q w) es → CallsAre Q (code_parts w env jump v l n es)
      parts_fine env jump v l n Exps.Empty h = (tt, (tt, (tt, (tt, tt))))
      parts_fine env jump v l n (Exps.Of e more) h = (tt, join _ _ (code_fine env n e h.0) (parts_fine env jump v l (n + labels e) more h.1))

    returned_fine : (env : Env) (n : ℕ) (value : Option (Exp Leaf)) → TailCalls (Called Q w) value → CallsAre Q (returned w env n value)
    returned_fine env n None h = (tt, tt)
    returned_fine env n (Some e) h = join _ _ (code_fine env n e h) (tt, tt)

    mutual
      body_fine : (env : Env) (m n : ℕ) (s : Sta Leaf) → StaCalls (Called Q w) s → CallsAre Q (body w env m n s)
      body_fine env m n (Let mutable at name typ value) h = join _ _ (code_fine env n value h) (tt, tt)
      body_fine env m n (Assign at name value) h = join _ _ (code_fine env n value h) (stored_fine (find name env), tt)
      body_fine env m n (Return at value) h = returned_fine env n value h
      body_fine env m n (Eval value) h = join _ _ (code_fine env n value h) (popped_fine (has_value w value))
      body_fine env m n (Print value) h = join _ _ (code_fine env n value h) (tt, tt)
      body_fine env m n (While cond inner) h =
          (tt, join _ _ (code_fine env (n + 1) cond h.0) (tt, join _ _ (body_all_fine env m (n + 2 + labels cond) inner h.1) (tt, (tt, tt))))
      body_fine env m n (If arms) h = body_if_fine env m n arms h

      body_all_fine : (env : Env) (m n : ℕ) (ss : Stas Leaf) → StasCalls (Called Q w) ss → CallsAre Q (body_all w env m n ss)
      body_all_fine env m n Stas.Empty h = tt
      body_all_fine env m n (Stas.Of s more) h = join _ _ (body_fine env m n s h.0) (body_all_fine (after w env m s) (m + lets s) (n + places s) more h.1)

      body_if_fine : (env : Env) (m n : ℕ) (arms : Arms Leaf) → ArmsCalls (Called Q w) arms → CallsAre Q (body_if w env m n arms)
      body_if_fine env m n Bare h = (tt, tt)
      body_if_fine env m n (Else inner) h = join _ _ (body_all_fine env m (n + 1) inner h) (tt, tt)
      body_if_fine env m n (Arm cond inner more) h =
          join _ _ (code_fine env n cond h.0) (
            tt,
            join _ _ (body_all_fine env m (n + labels cond + 1) inner h.1.0)
                (tt, (tt, join _ _ (body_arms_fine env (m + lets_all inner) (n + labels cond + 1 + places_all inner) (n + labels cond + 2 + places_all inner) more h.1.1) (tt, tt))),
          )

      body_arms_fine : (env : Env) (m e n : ℕ) (arms : Arms Leaf) → ArmsCalls (Called Q w) arms → CallsAre Q (body_arms w env m e n arms)
      body_arms_fine env m e n Bare h = tt
      body_arms_fine env m e n (Else inner) h = body_all_fine env m n inner h
      body_arms_fine env m e n (Arm cond inner more) h =
          join _ _ (code_fine env n cond h.0) (
            tt,
            join _ _ (body_all_fine env m (n + labels cond + 1) inner h.1.0)
                (tt, (tt, body_arms_fine env (m + lets_all inner) e (n + labels cond + 1 + places_all inner) more h.1.1)),
          )

-- ---- Functions.

-- what leads to a function is called as such
lead_called : (Q : Bool → Place → Type 0) (w : Meanings) (T : Place → Type 0)
    → ((q : Place) (s : Sig) → T q → sig_at (place_name q) w.sigs ≡ Some s → (s.kind == 0) ≡ false → Q (s.kind == 2) q)
    → (l : Leaf) → Leads w.sigs T l → Called Q w l
lead_called Q w T each l h =
    subst (λ (found : Found). Q (has_kind 2 (sig_of w found)) (callee l.0 found)) (sym h.is)
    (subst (λ (o : Option Sig). Q (has_kind 2 o) h.place) (sym h.known) (each h.place h.sig h.told h.known h.function))

-- each call in the form of an item in which nothing is wrong is one of a function that the item calls
pub lowered_calls : (Q : Bool → Place → Type 0) (items : List IndexItem) (level : ℕ) (sigs : List (Place × Sig)) (consts : List (Place × Const)) (home : List ℕ) (fs : List Found) (value : Option Const) (at : At) (name : List ℕ) (d : Definition path.Path)
    → Warns (body_wrongs items sigs home fs value at name d)
    → ((q : Place) (s : Sig) → Contains (called (definition_marks d) fs) q → sig_at (place_name q) sigs ≡ Some s → (s.kind == 0) ≡ false → Q (s.kind == 2) q)
    → CallsAre Q (lowered_definition level fs sigs consts d).code
lowered_calls Q items level sigs consts home fs value at name (Constant typ e) warns each = (tt, tt)
lowered_calls Q items level sigs consts home fs value at name (Func inlined params gives stmts tail) warns each = by (is_within params stmts tail)
  where
    calls : StasCalls (Called Q (meanings level sigs consts gives)) (stas_filled f.Absent fs stmts) × TailCalls (Called Q (meanings level sigs consts gives)) (filled_in f.Absent (drop (length (stas_leaves stmts)) fs) tail)
    calls = function_leads items sigs home fs value at name inlined params gives stmts tail (Called Q (meanings level sigs consts gives)) (lead_called Q (meanings level sigs consts gives) (Contains (called (definition_marks (Func inlined params gives stmts tail)) fs)) each) warns

    by : (b : Bool) → CallsAre Q (cond b (reduced_code (meanings level sigs consts gives) inlined params (stas_filled f.Absent fs stmts) (filled_in f.Absent (drop (length (stas_leaves stmts)) fs) tail)) (no_code inlined)).code
    by false = (tt, tt)
    by true =
        join Q _ _
        (body_all_fine Q (meanings level sigs consts gives) _ _ _ (stas_reduced (meanings level sigs consts gives) (stas_filled f.Absent fs stmts)) (stas_reduced_calls (Called Q (meanings level sigs consts gives)) (meanings level sigs consts gives) (stas_filled f.Absent fs stmts) calls.0))
        (returned_fine Q (meanings level sigs consts gives) _ _ (reduced_in (meanings level sigs consts gives) (filled_in f.Absent (drop (length (stas_leaves stmts)) fs) tail)) (reduced_in_calls (Called Q (meanings level sigs consts gives)) (meanings level sigs consts gives) (filled_in f.Absent (drop (length (stas_leaves stmts)) fs) tail) calls.1))
