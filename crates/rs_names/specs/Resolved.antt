-- What the paths of an item lead to (docs/LANGUAGE.md, "Names").
use Rattle.std.specs.Prelude.{ℕ, ◌||◌, Bool, true, false, List, [], ◌∷◌, ◌++◌, map, if◌then◌else◌, Option, Some, None}
use Rattle.std.specs.List.{list_any}
use Rattle.std.specs.Str.{bytes_eq}
use Rattle.rs_tree.specs.declared.answers.Found.{Found}
use Rattle.rs_tree.specs.declared.answers.Found.TheVariants.{Local, Item, Private, Absent}
use Rattle.rs_tree.specs.declared.index.IndexItem.{IndexItem}
use Rattle.rs_tree.specs.declared.tree.Param.{Param}
use Rattle.rs_tree.specs.declared.tree.Path as path
use Rattle.rs_tree.specs.Plain.{Sta, Stas, Arms, Let, Assign, Return, Eval, While, If, Print, Bare, Else, Arm, Definition, Const, Func}
use Rattle.rs_tree.specs.Leaves.{leaves, leaves_in}
use Rattle.rs_lookup.specs.Places.{Name, same, item_name}

-- the item of a module and a name: of equal entries of the index the first counts
abbrev pub item_at : Name → List IndexItem → Option IndexItem
item_at q [] = None
item_at q (x ∷ more) = if same q (item_name x) then Some x else item_at q more

-- An item may be used where it is public, where it is the root's, and in its own module; m is the path's module.
abbrev pub is_visible : List ℕ → List ℕ → IndexItem → Bool
is_visible m of x = x.public || bytes_eq of [] || bytes_eq of m

-- what a path leads to that stands in module m and names the item q
abbrev pub leads_to : List ℕ → Name → Option IndexItem → Found
leads_to m q None = Absent
leads_to m q (Some x) = if is_visible m q.0 x then Item (record { «module» = q.0; name = q.1 }) else Private

abbrev pub item_answer : List IndexItem → List ℕ → Name → Found
item_answer items m q = leads_to m q (item_at q items)

-- the names of the locals in scope, the innermost first
abbrev pub Locals : Type 0
Locals = List (List ℕ)

-- `m::n` is the item of module m where the path stands in the root, and leads nowhere in a module
abbrev pub module_answer : List IndexItem → List ℕ → Name → Found
module_answer items [] q = item_answer items [] q
module_answer items (b ∷ m) q = Absent

-- `crate::n` is the root's item, `crate::m::n` that of module m, and n a local of that name, else the item of the own
-- module
abbrev pub answer_by : List IndexItem → List ℕ → Locals → Bool → Option (List ℕ) → List ℕ → Found
answer_by items m locals true None name = item_answer items m ([], name)
answer_by items m locals true (Some of) name = item_answer items m (of, name)
answer_by items m locals false (Some of) name = module_answer items m (of, name)
answer_by items m locals false None name = if list_any (bytes_eq name) locals then Local else item_answer items m (m, name)

-- what a path leads to in module m, where these locals are in scope
abbrev pub path_answer : List IndexItem → List ℕ → Locals → path.Path → Found
path_answer items m locals p = answer_by items m locals p.rooted p.module p.name

-- A variable is in scope after its `let`, to the end of its block; its own value doesn't see it.
abbrev pub after : {A : Type 0} → Sta A → Locals → Locals
after (Let mutable at name typ value) locals = name ∷ locals
after (Assign at name value) locals = locals
after (Return at value) locals = locals
after (Eval value) locals = locals
after (While cond body) locals = locals
after (If arms) locals = locals
after (Print value) locals = locals

abbrev pub after_all : {A : Type 0} → Stas A → Locals → Locals
after_all Stas.Empty locals = locals
after_all (Stas.Of s more) locals = after_all more (after s locals)

-- parameters are in scope in the whole body, a later one before an earlier one
abbrev pub with_params : List Param → Locals → Locals
with_params [] locals = locals
with_params (p ∷ more) locals = with_params more (p.name ∷ locals)

-- the answers of the paths in statements, in the order of the text; look says what a path leads to
abbrev mutual
  pub sta_answers : (Locals → path.Path → Found) → Sta path.Path → Locals → List Found
  sta_answers look (Let mutable at name typ value) locals = map (look locals) (leaves value)
  sta_answers look (Assign at name value) locals = map (look locals) (leaves value)
  sta_answers look (Return at value) locals = map (look locals) (leaves_in value)
  sta_answers look (Eval value) locals = map (look locals) (leaves value)
  sta_answers look (While cond body) locals = map (look locals) (leaves cond) ++ stas_answers look body locals
  sta_answers look (If arms) locals = arms_answers look arms locals
  sta_answers look (Print value) locals = map (look locals) (leaves value)

  pub stas_answers : (Locals → path.Path → Found) → Stas path.Path → Locals → List Found
  stas_answers look Stas.Empty locals = []
  stas_answers look (Stas.Of s more) locals = sta_answers look s locals ++ stas_answers look more (after s locals)

  pub arms_answers : (Locals → path.Path → Found) → Arms path.Path → Locals → List Found
  arms_answers look Bare locals = []
  arms_answers look (Else body) locals = stas_answers look body locals
  arms_answers look (Arm cond body more) locals = map (look locals) (leaves cond) ++ (stas_answers look body locals ++ arms_answers look more locals)

abbrev pub definition_answers : (Locals → path.Path → Found) → Definition path.Path → List Found
definition_answers look (Const typ value) = map (look []) (leaves value)
definition_answers look (Func inlined params gives stmts tail) =
    stas_answers look stmts (with_params params []) ++ map (look (after_all stmts (with_params params []))) (leaves_in tail)

-- the answers of an item of module m, one for each of its paths in the order of the text
abbrev pub answers_of : List IndexItem → List ℕ → Definition path.Path → List Found
answers_of items m d = definition_answers (path_answer items m) d
