-- The tree of a bounded item, answered by short places: its numbers are ones of 64 bits, and the places of its calls are short.
use Rattle.std.proofs.Common.{ℕ, zero, suc, List, [], ◌∷◌, length, drop, Option, Some, None, arith}
use Rattle.std.specs.List.{AllByRecursion}
use Rattle.rs_tree.specs.declared.answers.Const.{Const}
use Rattle.rs_tree.specs.declared.answers.Const.TheVariants as c
use Rattle.rs_tree.specs.declared.answers.Found.{Found}
use Rattle.rs_tree.specs.declared.answers.Found.TheVariants as f
use Rattle.rs_tree.specs.declared.place.Place.{Place}
use Rattle.rs_tree.specs.declared.tree.Path as path
use Rattle.rs_tree.specs.Plain.{Exp, Exps, Operands, Number, Truth, Path, Call, Group, Unary, Arith, Compare, And, Or, Done, By}
use Rattle.rs_tree.specs.Plain.{Sta, Stas, Arms, Let, Assign, Return, Eval, While, If, Print, Bare, Else, Arm}
use Rattle.rs_tree.specs.Leaves.{answer, filled, filled_all, filled_by, filled_in, sta_filled, stas_filled, arms_filled, leaves, sta_leaves, stas_leaves}
use Rattle.rs_lookup.specs.Places.{place_name}
use Rattle.rs_lower.specs.Meanings.{Leaf, Meanings, callee, const_at}
use Rattle.rs_lower.specs.Reduced.{leaf_value, number_in}
use Rattle.range_laws.specs.Bounded.{BoundedAll, BoundedArms, BoundedBy, BoundedExp, BoundedIn, BoundedPath, BoundedSta, BoundedStas, IsShort}
use Rattle.range_laws.proofs.Instructions.{Calls, FitsConstIn, WordedArms, WordedIn, WordedSta, WordedStas}
use Rattle.range_laws.proofs.Consts.{Gives, truth_fits}
use Rattle.range_laws.proofs.Named.{IsShortFound, IsShortPlace}
use Rattle.range_laws.proofs.Worth.{Worded, WordedAll, WordedBy}

name_short : (name : List ℕ) → IsShort name → IsShortPlace (record { «module» = []; name = name })
name_short name h = record { «module» = omega arith; name = h }

callee_short : (p : path.Path) (found : Found) → BoundedPath p → IsShortFound found → IsShortPlace (callee p found)
callee_short p f.Local b h = name_short p.name b.name
callee_short p (f.Item place) b h = h
callee_short p f.Private b h = name_short p.name b.name
callee_short p f.Absent b h = name_short p.name b.name

answer_short : (bs : List Found) → AllByRecursion IsShortFound bs → IsShortFound (answer f.Absent bs)
answer_short [] h = tt
answer_short (b ∷ bs) h = h.0

pub dropped : (n : ℕ) (bs : List Found) → AllByRecursion IsShortFound bs → AllByRecursion IsShortFound (drop n bs)
dropped zero bs h = h
dropped (suc n) [] h = tt
dropped (suc n) (b ∷ bs) h = dropped n bs h.1

mutual
  exp_worded : (bs : List Found) (e : Exp path.Path) → BoundedExp e → AllByRecursion IsShortFound bs → Worded (Calls IsShortPlace) (filled f.Absent bs e)
  exp_worded bs (Number at n) b h = b.1
  exp_worded bs (Truth at v) b h = tt
  exp_worded bs (Path at p) b h = tt
  exp_worded bs (Call at p args) b h = (callee_short p (answer f.Absent bs) b.1 (answer_short bs h), all_worded (drop 1 bs) args b.2 (dropped 1 bs h))
  exp_worded bs (Group at e) b h = exp_worded bs e b.1 h
  exp_worded bs (Unary at op e) b h = exp_worded bs e b.1 h
  exp_worded bs (Arith at a more) b h = (exp_worded bs a b.1 h, by_worded (drop (length (leaves a)) bs) more b.2 (dropped (length (leaves a)) bs h))
  exp_worded bs (Compare at op a e) b h = (exp_worded bs a b.1 h, exp_worded (drop (length (leaves a)) bs) e b.2 (dropped (length (leaves a)) bs h))
  exp_worded bs (And at parts) b h = all_worded bs parts b.1 h
  exp_worded bs (Or at parts) b h = all_worded bs parts b.1 h

  all_worded : (bs : List Found) (es : Exps path.Path) → BoundedAll es → AllByRecursion IsShortFound bs → WordedAll (Calls IsShortPlace) (filled_all f.Absent bs es)
  all_worded bs Exps.Empty b h = tt
  all_worded bs (Exps.Of e more) b h = (exp_worded bs e b.0 h, all_worded (drop (length (leaves e)) bs) more b.1 (dropped (length (leaves e)) bs h))

  by_worded : (bs : List Found) (os : Operands path.Path) → BoundedBy os → AllByRecursion IsShortFound bs → WordedBy (Calls IsShortPlace) (filled_by f.Absent bs os)
  by_worded bs Done b h = tt
  by_worded bs (By op e more) b h = (exp_worded bs e b.0 h, by_worded (drop (length (leaves e)) bs) more b.1 (dropped (length (leaves e)) bs h))

pub in_worded : (bs : List Found) (value : Option (Exp path.Path)) → BoundedIn value → AllByRecursion IsShortFound bs → WordedIn IsShortPlace (filled_in f.Absent bs value)
in_worded bs None b h = tt
in_worded bs (Some e) b h = exp_worded bs e b h

mutual
  sta_worded : (bs : List Found) (s : Sta path.Path) → BoundedSta s → AllByRecursion IsShortFound bs → WordedSta IsShortPlace (sta_filled f.Absent bs s)
  sta_worded bs (Let mutable at name typ value) b h = exp_worded bs value b.2 h
  sta_worded bs (Assign at name value) b h = exp_worded bs value b.2 h
  sta_worded bs (Return at value) b h = in_worded bs value b.1 h
  sta_worded bs (Eval value) b h = exp_worded bs value b h
  sta_worded bs (While cond body) b h = (exp_worded bs cond b.0 h, stas_worded (drop (length (leaves cond)) bs) body b.1 (dropped (length (leaves cond)) bs h))
  sta_worded bs (If arms) b h = arms_worded bs arms b h
  sta_worded bs (Print value) b h = exp_worded bs value b h

  pub stas_worded : (bs : List Found) (ss : Stas path.Path) → BoundedStas ss → AllByRecursion IsShortFound bs → WordedStas IsShortPlace (stas_filled f.Absent bs ss)
  stas_worded bs Stas.Empty b h = tt
  stas_worded bs (Stas.Of s more) b h = (sta_worded bs s b.0 h, stas_worded (drop (length (sta_leaves s)) bs) more b.1 (dropped (length (sta_leaves s)) bs h))

  arms_worded : (bs : List Found) (arms : Arms path.Path) → BoundedArms arms → AllByRecursion IsShortFound bs → WordedArms IsShortPlace (arms_filled f.Absent bs arms)
  arms_worded bs Bare b h = tt
  arms_worded bs (Else body) b h = stas_worded bs body b h
  arms_worded bs (Arm cond body more) b h =
      let here = dropped (length (leaves cond)) bs h in
      (exp_worded bs cond b.0 h, (stas_worded (drop (length (leaves cond)) bs) body b.1 here, arms_worded (drop (length (stas_leaves body)) (drop (length (leaves cond)) bs)) more b.2 (dropped (length (stas_leaves body)) (drop (length (leaves cond)) bs) here)))

-- ---- Values of constants.

number_fits : (o : Option Const) → FitsConstIn o → Gives (number_in o)
number_fits None h = tt
number_fits (Some (c.Int v)) h = h
number_fits (Some (c.Bool b)) h = truth_fits b
number_fits (Some c.Cycle) h = tt
number_fits (Some c.Overflow) h = tt
number_fits (Some c.DivZero) h = tt
number_fits (Some c.Bad) h = tt

leaf_fits : (w : Meanings) → ((q : Place) → FitsConstIn (const_at (place_name q) w.consts)) → (p : path.Path) (found : Found) → Gives (leaf_value w (p, found))
leaf_fits w known p f.Local = tt
leaf_fits w known p (f.Item place) = number_fits (const_at (place_name place) w.consts) (known place)
leaf_fits w known p f.Private = tt
leaf_fits w known p f.Absent = tt

pub leaves_fit : (w : Meanings) → ((q : Place) → FitsConstIn (const_at (place_name q) w.consts)) → (l : Leaf) → Gives (leaf_value w l)
leaves_fit w known l = leaf_fits w known l.0 l.1
