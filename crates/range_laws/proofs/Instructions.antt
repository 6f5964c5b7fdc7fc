-- What instructions hold: pushed values are numbers of 64 bits, labels are below the number of labels, and P holds of called places.
use Rattle.std.proofs.Common.{ℕ, ◌+◌, ◌≤◌, ◌<◌, ℤ, Bool, true, false, List, ◌++◌, Option, Some, None, arith}
use Rattle.std.specs.Prelude.{FitsSigned}
use Rattle.std.specs.Int.{w64}
use Rattle.inc_wire.specs.Fits.{Each}
use Rattle.rs_tree.specs.declared.answers.Const.{Const}
use Rattle.rs_tree.specs.declared.answers.Const.TheVariants as c
use Rattle.rs_tree.specs.declared.answers.Found.{Found}
use Rattle.rs_tree.specs.declared.answers.Found.TheVariants as f
use Rattle.rs_tree.specs.declared.ir.Instr.{Instr}
use Rattle.rs_tree.specs.declared.ir.Instr.TheVariants as i
use Rattle.rs_tree.specs.declared.place.Place.{Place}
use Rattle.rs_tree.specs.declared.tree.Path as path
use Rattle.rs_tree.specs.Plain.{Exp, Exps, Operands, Number, Truth, Path, Call, Group, Unary, Arith, Compare, And, Or, Done, By}
use Rattle.rs_tree.specs.Plain.{Sta, Stas, Arms, Let, Assign, Return, Eval, While, If, Print, Bare, Else, Arm}
use Rattle.rs_answers.specs.Fits.{FitsConst}
use Rattle.rs_lookup.specs.Places.{place_name}
use Rattle.rs_value.specs.Value.{number_of}
use Rattle.rs_lower.specs.Code.{after, body, body_all, body_arms, body_if, code, code_all, code_by, code_chain, code_parts, has_value, jump_code, loaded, path_code, popped, pushed, returned, stored}
use Rattle.rs_lower.specs.Counts.{labels, labels_all, labels_by, labels_in, lets, lets_all, places, places_all, places_arms}
use Rattle.rs_lower.specs.Locals.{Env, Local, find}
use Rattle.rs_lower.specs.Meanings.{Leaf, Meanings, callee, const_at}
use Rattle.rs_lower.proofs.Sound.{each_append}
use Rattle.range_laws.proofs.Consts.{truth_fits}
use Rattle.range_laws.proofs.Worth.{Worded, WordedAll, WordedBy}

abbrev pub IsFine : ℕ → (Place → Type 0) → Instr → Type 0
IsFine n P (i.Push value) = FitsSigned w64 value
IsFine n P (i.Load slot) = Unit {0}
IsFine n P (i.Store slot) = Unit {0}
IsFine n P (i.Plain code) = Unit {0}
IsFine n P (i.Jump code label) = Unit {0}
IsFine n P (i.Label label) = label < n
IsFine n P (i.Call inline place) = P place

abbrev pub FitsConstIn : Option Const → Type 0
FitsConstIn None = Unit {0}
FitsConstIn (Some k) = FitsConst k

module _ (P : Place → Type 0) where
  -- of a path that is called, P holds of the place that the call goes to
  abbrev pub Calls : Leaf → Type 0
  Calls l = P (callee l.0 l.1)

  abbrev pub WordedIn : Option (Exp Leaf) → Type 0
  WordedIn None = Unit {0}
  WordedIn (Some e) = Worded Calls e

  abbrev mutual
    pub WordedSta : Sta Leaf → Type 0
    WordedSta (Let mutable at name typ value) = Worded Calls value
    WordedSta (Assign at name value) = Worded Calls value
    WordedSta (Return at value) = WordedIn value
    WordedSta (Eval value) = Worded Calls value
    WordedSta (While cond body) = Worded Calls cond × WordedStas body
    WordedSta (If arms) = WordedArms arms
    WordedSta (Print value) = Worded Calls value

    pub WordedStas : Stas Leaf → Type 0
    WordedStas Stas.Empty = Unit {0}
    WordedStas (Stas.Of s more) = WordedSta s × WordedStas more

    pub WordedArms : Arms Leaf → Type 0
    WordedArms Bare = Unit {0}
    WordedArms (Else body) = WordedStas body
    WordedArms (Arm cond body more) = Worded Calls cond × (WordedStas body × WordedArms more)

  module _ (n : ℕ) where
    abbrev AreFine : List Instr → Type 0
    AreFine xs = Each (IsFine n P) xs

    join : (xs ys : List Instr) → AreFine xs → AreFine ys → AreFine (xs ++ ys)
    join xs ys g h = each_append (IsFine n P) xs ys g h

    zero_fits : FitsSigned w64 (number_of false)
    zero_fits = truth_fits false

    loaded_fine : (o : Option Local) → IsFine n P (loaded o)
    loaded_fine None = zero_fits
    loaded_fine (Some l) = tt

    stored_fine : (o : Option Local) → IsFine n P (stored o)
    stored_fine None = tt
    stored_fine (Some l) = tt

    pushed_fine : (o : Option Const) → FitsConstIn o → IsFine n P (pushed o)
    pushed_fine None h = zero_fits
    pushed_fine (Some (c.Int v)) h = h
    pushed_fine (Some (c.Bool b)) h = truth_fits b
    pushed_fine (Some c.Cycle) h = zero_fits
    pushed_fine (Some c.Overflow) h = zero_fits
    pushed_fine (Some c.DivZero) h = zero_fits
    pushed_fine (Some c.Bad) h = zero_fits

    popped_fine : (b : Bool) → AreFine (popped b)
    popped_fine true = (tt, tt)
    popped_fine false = tt

    module _ (w : Meanings) (known : (q : Place) → FitsConstIn (const_at (place_name q) w.consts)) where
      path_fine : (env : Env) (p : path.Path) (found : Found) → IsFine n P (path_code w env (p, found))
      path_fine env p f.Local = loaded_fine (find p.name env)
      path_fine env p (f.Item place) = pushed_fine (const_at (place_name place) w.consts) (known place)
      path_fine env p f.Private = zero_fits
      path_fine env p f.Absent = zero_fits

      mutual
        code_fine : (env : Env) (k : ℕ) (e : Exp Leaf) → Worded Calls e → k + labels e ≤ n → AreFine (code w env k e)
        code_fine env k (Number at v) h few = (h, tt)
        code_fine env k (Truth at b) h few = (truth_fits b, tt)
        code_fine env k (Path at p) h few = (path_fine env p.0 p.1, tt)
        code_fine env k (Call at p args) h few = join (code_all w env k args) _ (all_fine env k args h.1 few) (h.0, tt)
        code_fine env k (Group at e) h few = code_fine env k e h few
        code_fine env k (Unary at op e) h few = join (code w env k e) _ (code_fine env k e h few) (tt, tt)
        code_fine env k (Arith at a more) h few = join (code w env k a) _ (code_fine env k a h.0 (omega (arith, few))) (by_fine env (k + labels a) more h.1 (omega (arith, few)))
        code_fine env k (Compare at op a b) h few =
            join (code w env k a) _ (code_fine env k a h.0 (omega (arith, few))) (join (code w env (k + labels a) b) _ (code_fine env (k + labels a) b h.1 (omega (arith, few))) (tt, tt))
        code_fine env k (And at parts) h few = chain_fine env (jump_code false) (number_of false) k parts (truth_fits false) h few
        code_fine env k (Or at parts) h few = chain_fine env (jump_code true) (number_of true) k parts (truth_fits true) h few

        all_fine : (env : Env) (k : ℕ) (es : Exps Leaf) → WordedAll Calls es → k + labels_all es ≤ n → AreFine (code_all w env k es)
        all_fine env k Exps.Empty h few = tt
        all_fine env k (Exps.Of e more) h few = join (code w env k e) _ (code_fine env k e h.0 (omega (arith, few))) (all_fine env (k + labels e) more h.1 (omega (arith, few)))

        by_fine : (env : Env) (k : ℕ) (os : Operands Leaf) → WordedBy Calls os → k + labels_by os ≤ n → AreFine (code_by w env k os)
        by_fine env k Done h few = tt
        by_fine env k (By op e more) h few = join (code w env k e) _ (code_fine env k e h.0 (omega (arith, few))) (tt, by_fine env (k + labels e) more h.1 (omega (arith, few)))

        chain_fine : (env : Env) (jump : ℕ) (v : ℤ) (k : ℕ) (es : Exps Leaf) → FitsSigned w64 v → WordedAll Calls es → k + (2 + labels_all es) ≤ n → AreFine (code_chain w env jump v k es)
        chain_fine env jump v k Exps.Empty fits h few = (tt, (omega (arith, few), (fits, (omega (arith, few), tt))))
        chain_fine env jump v k (Exps.Of e more) fits h few =
            join (code w env k e) _ (code_fine env k e h.0 (omega (arith, few))) (parts_fine env jump v (k + labels e) (k + labels e + 1) more fits h.1 (omega (arith, few)) (omega (arith, few)))

        parts_fine : (env : Env) (jump : ℕ) (v : ℤ) (d k : ℕ) (es : Exps Leaf) → FitsSigned w64 v → WordedAll Calls es → d < n → k + (1 + labels_all es) ≤ n → AreFine (code_parts w env jump v d k es)
        parts_fine env jump v d k Exps.Empty fits h less few = (tt, (less, (fits, (omega (arith, few), tt))))
        parts_fine env jump v d k (Exps.Of e more) fits h less few =
            (tt, join (code w env k e) _ (code_fine env k e h.0 (omega (arith, few))) (parts_fine env jump v d (k + labels e) more fits h.1 less (omega (arith, few))))

      pub returned_fine : (env : Env) (k : ℕ) (value : Option (Exp Leaf)) → WordedIn value → k + labels_in value ≤ n → AreFine (returned w env k value)
      returned_fine env k None h few = (tt, tt)
      returned_fine env k (Some e) h few = join (code w env k e) _ (code_fine env k e h few) (tt, tt)

      mutual
        body_fine : (env : Env) (m k : ℕ) (s : Sta Leaf) → WordedSta s → k + places s ≤ n → AreFine (body w env m k s)
        body_fine env m k (Let mutable at name typ value) h few = join (code w env k value) _ (code_fine env k value h few) (tt, tt)
        body_fine env m k (Assign at name value) h few = join (code w env k value) _ (code_fine env k value h few) (stored_fine (find name env), tt)
        body_fine env m k (Return at value) h few = returned_fine env k value h few
        body_fine env m k (Eval value) h few = join (code w env k value) _ (code_fine env k value h few) (popped_fine (has_value w value))
        body_fine env m k (Print value) h few = join (code w env k value) _ (code_fine env k value h few) (tt, tt)
        body_fine env m k (While cond inner) h few = (
          omega (arith, few),
          join (code w env (k + 1) cond) _ (code_fine env (k + 1) cond h.0 (omega (arith, few)))
              (tt, join (body_all w env m (k + 2 + labels cond) inner) _ (body_all_fine env m (k + 2 + labels cond) inner h.1 (omega (arith, few))) (tt, (omega (arith, few), tt))),
        )
        body_fine env m k (If arms) h few = body_if_fine env m k arms h few

        pub body_all_fine : (env : Env) (m k : ℕ) (ss : Stas Leaf) → WordedStas ss → k + places_all ss ≤ n → AreFine (body_all w env m k ss)
        body_all_fine env m k Stas.Empty h few = tt
        body_all_fine env m k (Stas.Of s more) h few =
            join (body w env m k s) _ (body_fine env m k s h.0 (omega (arith, few))) (body_all_fine (after w env m s) (m + lets s) (k + places s) more h.1 (omega (arith, few)))

        body_if_fine : (env : Env) (m k : ℕ) (arms : Arms Leaf) → WordedArms arms → k + (1 + places_arms arms) ≤ n → AreFine (body_if w env m k arms)
        body_if_fine env m k Bare h few = (omega (arith, few), tt)
        body_if_fine env m k (Else inner) h few = join (body_all w env m (k + 1) inner) _ (body_all_fine env m (k + 1) inner h (omega (arith, few))) (omega (arith, few), tt)
        body_if_fine env m k (Arm cond inner more) h few =
            join (code w env k cond) _ (code_fine env k cond h.0 (omega (arith, few))) (
              tt,
              join (body_all w env m (k + labels cond + 1) inner) _ (body_all_fine env m (k + labels cond + 1) inner h.1.0 (omega (arith, few))) (
                tt,
                (
                  omega (arith, few),
                  join (body_arms w env (m + lets_all inner) (k + labels cond + 1 + places_all inner) (k + labels cond + 2 + places_all inner) more) _
                      (body_arms_fine env (m + lets_all inner) (k + labels cond + 1 + places_all inner) (k + labels cond + 2 + places_all inner) more h.1.1 (omega (arith, few))) (omega (arith, few), tt),
                ),
              ),
            )

        body_arms_fine : (env : Env) (m e k : ℕ) (arms : Arms Leaf) → WordedArms arms → k + places_arms arms ≤ n → AreFine (body_arms w env m e k arms)
        body_arms_fine env m e k Bare h few = tt
        body_arms_fine env m e k (Else inner) h few = body_all_fine env m k inner h few
        body_arms_fine env m e k (Arm cond inner more) h few =
            join (code w env k cond) _ (code_fine env k cond h.0 (omega (arith, few))) (
              tt,
              join (body_all w env m (k + labels cond + 1) inner) _ (body_all_fine env m (k + labels cond + 1) inner h.1.0 (omega (arith, few)))
                  (tt, (omega (arith, few), body_arms_fine env (m + lets_all inner) e (k + labels cond + 1 + places_all inner) more h.1.1 (omega (arith, few)))),
            )
