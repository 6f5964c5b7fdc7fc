-- What the paths of a bounded item lead to are short places, and the values of constants that are sought fit.
use Rattle.std.proofs.Common.{ℕ, zero, suc, Bool, true, false, List, [], ◌∷◌, ◌++◌, map, Option, Some, None, arith}
use Rattle.std.specs.Prelude.{if◌then◌else◌, option_and_then, slice_get, unwrap_or}
use Rattle.std.specs.List.{AllByRecursion, list_any}
use Rattle.std.specs.Option.{option_map}
use Rattle.std.specs.Str.{bytes_eq}
use Rattle.rs_tree.specs.declared.answers.Const.{Const}
use Rattle.rs_tree.specs.declared.answers.Const.TheVariants.{Bad}
use Rattle.rs_tree.specs.declared.answers.Found.{Found}
use Rattle.rs_tree.specs.declared.answers.Found.TheVariants as f
use Rattle.rs_tree.specs.declared.index.IndexItem.{IndexItem}
use Rattle.rs_tree.specs.declared.place.Place.{Place}
use Rattle.rs_tree.specs.declared.tree.Path as path
use Rattle.rs_tree.specs.Plain.{Exp, Exps, Operands, Number, Truth, Path, Call, Group, Unary, Arith, Compare, And, Or, Done, By}
use Rattle.rs_tree.specs.Plain.{Sta, Stas, Arms, Let, Assign, Return, Eval, While, If, Print, Bare, Else, Arm, Definition, Const as constant, Func}
use Rattle.rs_tree.specs.Leaves.{leaves, leaves_all, leaves_by, leaves_in}
use Rattle.rs_lookup.specs.Places.{Name, place_from, place_name}
use Rattle.rs_names.specs.Resolved.{Locals, after, after_all, answer_by, answers_of, arms_answers, is_visible, item_answer, item_at, leads_to, module_answer, path_answer, sta_answers, stas_answers, with_params}
use Rattle.rs_const.specs.Constants.{Entry, names}
use Rattle.rs_lower.specs.Meanings.{const_at, const_places}
use Rattle.rs_queries.specs.Built.{const_by, consts_of}
use Rattle.rs_answers.specs.Fits.{FitsConst}
use Rattle.link_laws.proofs.Lists.{each_append}
use Rattle.range_laws.specs.Bounded.{BoundedAll, BoundedArms, BoundedBy, BoundedDefinition, BoundedExp, BoundedIn, BoundedPath, BoundedSta, BoundedStas, IsShort, IsShortIn}
use Rattle.range_laws.proofs.Instructions.{FitsConstIn}
use Rattle.range_laws.proofs.Named.{IsShortFound}

-- ---- Paths.

pub none_short : IsShort []
none_short = omega arith

module _ (items : List IndexItem) (m : List ℕ) (home : IsShort m) where
  item_short : (at : List ℕ) (q : Name) → IsShort q.0 → IsShort q.1 → IsShortFound (item_answer items at q)
  item_short at q a b = by (item_at q items)
    where
      by : (o : Option IndexItem) → IsShortFound (leads_to at q o)
      by None = tt
      by (Some x) = seen (is_visible at q.0 x)
        where
          seen : (v : Bool) → IsShortFound (if v then f.Item (record { «module» = q.0; name = q.1 }) else f.Private)
          seen true = record { «module» = a; name = b }
          seen false = tt

  module_short : (at : List ℕ) (q : Name) → IsShort q.0 → IsShort q.1 → IsShortFound (module_answer items at q)
  module_short [] q a b = item_short [] q a b
  module_short (c ∷ at) q a b = tt

  by_short : (locals : Locals) (rooted : Bool) (of : Option (List ℕ)) (name : List ℕ) → IsShortIn of → IsShort name → IsShortFound (answer_by items m locals rooted of name)
  by_short locals true None name a b = item_short m ([], name) none_short b
  by_short locals true (Some of) name a b = item_short m (of, name) a b
  by_short locals false (Some of) name a b = module_short m (of, name) a b
  by_short locals false None name a b = by (list_any (bytes_eq name) locals)
    where
      by : (v : Bool) → IsShortFound (if v then f.Local else item_answer items m (m, name))
      by true = tt
      by false = item_short m (m, name) home b

  path_short : (locals : Locals) (p : path.Path) → BoundedPath p → IsShortFound (path_answer items m locals p)
  path_short locals p h = by_short locals p.rooted p.module p.name h.module h.name

  -- ---- Trees.

  abbrev AllNear : List path.Path → Type 0
  AllNear ps = AllByRecursion BoundedPath ps

  mutual
    near : (e : Exp path.Path) → BoundedExp e → AllNear (leaves e)
    near (Number at n) h = tt
    near (Truth at b) h = tt
    near (Path at p) h = (h.1, tt)
    near (Call at p args) h = (h.1, near_all args h.2)
    near (Group at e) h = near e h.1
    near (Unary at op e) h = near e h.1
    near (Arith at a more) h = each_append BoundedPath (leaves a) (leaves_by more) (near a h.1) (near_by more h.2)
    near (Compare at op a b) h = each_append BoundedPath (leaves a) (leaves b) (near a h.1) (near b h.2)
    near (And at parts) h = near_all parts h.1
    near (Or at parts) h = near_all parts h.1

    near_all : (es : Exps path.Path) → BoundedAll es → AllNear (leaves_all es)
    near_all Exps.Empty h = tt
    near_all (Exps.Of e more) h = each_append BoundedPath (leaves e) (leaves_all more) (near e h.0) (near_all more h.1)

    near_by : (os : Operands path.Path) → BoundedBy os → AllNear (leaves_by os)
    near_by Done h = tt
    near_by (By op e more) h = each_append BoundedPath (leaves e) (leaves_by more) (near e h.0) (near_by more h.1)

  abbrev look : Locals → path.Path → Found
  look = path_answer items m

  looked : (locals : Locals) (ps : List path.Path) → AllNear ps → AllByRecursion IsShortFound (map (look locals) ps)
  looked locals [] h = tt
  looked locals (p ∷ ps) h = (path_short locals p h.0, looked locals ps h.1)

  exp_short : (locals : Locals) (e : Exp path.Path) → BoundedExp e → AllByRecursion IsShortFound (map (look locals) (leaves e))
  exp_short locals e h = looked locals (leaves e) (near e h)

  in_short : (locals : Locals) (value : Option (Exp path.Path)) → BoundedIn value → AllByRecursion IsShortFound (map (look locals) (leaves_in value))
  in_short locals None h = tt
  in_short locals (Some e) h = exp_short locals e h

  mutual
    sta_short : (s : Sta path.Path) (locals : Locals) → BoundedSta s → AllByRecursion IsShortFound (sta_answers look s locals)
    sta_short (Let mutable at name typ value) locals h = exp_short locals value h.2
    sta_short (Assign at name value) locals h = exp_short locals value h.2
    sta_short (Return at value) locals h = in_short locals value h.1
    sta_short (Eval value) locals h = exp_short locals value h
    sta_short (While cond body) locals h = each_append IsShortFound (map (look locals) (leaves cond)) (stas_answers look body locals) (exp_short locals cond h.0) (stas_short body locals h.1)
    sta_short (If arms) locals h = arms_short arms locals h
    sta_short (Print value) locals h = exp_short locals value h

    stas_short : (ss : Stas path.Path) (locals : Locals) → BoundedStas ss → AllByRecursion IsShortFound (stas_answers look ss locals)
    stas_short Stas.Empty locals h = tt
    stas_short (Stas.Of s more) locals h = each_append IsShortFound (sta_answers look s locals) (stas_answers look more (after s locals)) (sta_short s locals h.0) (stas_short more (after s locals) h.1)

    arms_short : (arms : Arms path.Path) (locals : Locals) → BoundedArms arms → AllByRecursion IsShortFound (arms_answers look arms locals)
    arms_short Bare locals h = tt
    arms_short (Else body) locals h = stas_short body locals h
    arms_short (Arm cond body more) locals h =
        each_append IsShortFound (map (look locals) (leaves cond)) (stas_answers look body locals ++ arms_answers look more locals) (exp_short locals cond h.0)
        (each_append IsShortFound (stas_answers look body locals) (arms_answers look more locals) (stas_short body locals h.1) (arms_short more locals h.2))

  pub answers_short : (d : Definition path.Path) → BoundedDefinition d → AllByRecursion IsShortFound (answers_of items m d)
  answers_short (constant typ value) h = exp_short [] value h
  answers_short (Func inlined params gives stmts tail) h =
      each_append IsShortFound (stas_answers look stmts (with_params params [])) (map (look (after_all stmts (with_params params []))) (leaves_in tail)) (stas_short stmts (with_params params []) h.1)
      (in_short (after_all stmts (with_params params [])) tail h.2)

-- ---- Values of constants.

got_fits : (values : List Const) → AllByRecursion FitsConst values → (i : ℕ) → FitsConstIn (slice_get values i)
got_fits [] h i = tt
got_fits (v ∷ values) h zero = h.0
got_fits (v ∷ values) h (suc i) = got_fits values h.1 i

value_fits : (values : List Const) → AllByRecursion FitsConst values → (o : Option ℕ) → FitsConst (unwrap_or (option_and_then (slice_get values) o) Bad)
value_fits values h None = tt
value_fits values h (Some i) = by (slice_get values i) (got_fits values h i)
  where
    by : (o : Option Const) → FitsConstIn o → FitsConst (unwrap_or o Bad)
    by None k = tt
    by (Some v) k = k

entry_fits : (ns : List Name) (values : List Const) → AllByRecursion FitsConst values → (entries : List Entry) (i : ℕ) → FitsConstIn (option_map (λ (e : Place × Const). e.1) (slice_get (map (const_by ns values) entries) i))
entry_fits ns values h [] i = tt
entry_fits ns values h (e ∷ entries) zero = value_fits values h (place_from (place_name e.0) 0 ns)
entry_fits ns values h (e ∷ entries) (suc i) = entry_fits ns values h entries i

pub consts_fit : (entries : List Entry) (values : List Const) → AllByRecursion FitsConst values → (q : Place) → FitsConstIn (const_at (place_name q) (consts_of entries values))
consts_fit entries values h q = by (place_from (place_name q) 0 (const_places (consts_of entries values)))
  where
    by : (o : Option ℕ) → FitsConstIn (option_map (λ (e : Place × Const). e.1) (option_and_then (slice_get (consts_of entries values)) o))
    by None = tt
    by (Some i) = entry_fits (names entries) values h entries i
