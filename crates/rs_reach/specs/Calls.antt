-- The functions that an item calls (docs/LANGUAGE.md, "Functions that are never used").
use Rattle.std.specs.Prelude.{ℕ, Bool, true, false, List, [], ◌∷◌, ◌++◌, map, Option, Some, None, if◌then◌else◌, slice_get}
use Rattle.std.specs.Option.{option_map, option_to_list}
use Rattle.rs_tree.specs.declared.answers.Found.{Found}
use Rattle.rs_tree.specs.declared.answers.Found.TheVariants.{Local, Item, Private, Absent}
use Rattle.rs_tree.specs.declared.index.IndexItem.{IndexItem}
use Rattle.rs_tree.specs.declared.place.Place.{Place}
use Rattle.rs_tree.specs.Plain.{Exp, Exps, Operands, Number, Truth, Path, Call, Group, Unary, Arith, Compare, And, Or, Done, By}
use Rattle.rs_tree.specs.Plain.{Sta, Stas, Arms, Let, Assign, Return, Eval, While, If, Print, Bare, Else, Arm, Definition, Const, Func}
use Rattle.rs_lookup.specs.Places.{item_name}
use Rattle.rs_reach.specs.Search.{added}
use Rattle.rs_reach.specs.Places.{numbers}
use Rattle.rs_reach.specs.Dead.{is_function, place_of}

-- of each path, in the order of the text, whether it is called
abbrev mutual
  pub marks : {A : Type 0} → Exp A → List Bool
  marks (Number at n) = []
  marks (Truth at b) = []
  marks (Path at p) = false ∷ []
  marks (Call at p args) = true ∷ marks_all args
  marks (Group at e) = marks e
  marks (Unary at op e) = marks e
  marks (Arith at first more) = marks first ++ marks_by more
  marks (Compare at op a b) = marks a ++ marks b
  marks (And at parts) = marks_all parts
  marks (Or at parts) = marks_all parts

  pub marks_all : {A : Type 0} → Exps A → List Bool
  marks_all Exps.Empty = []
  marks_all (Exps.Of e more) = marks e ++ marks_all more

  pub marks_by : {A : Type 0} → Operands A → List Bool
  marks_by Done = []
  marks_by (By op e more) = marks e ++ marks_by more

abbrev pub marks_in : {A : Type 0} → Option (Exp A) → List Bool
marks_in None = []
marks_in (Some e) = marks e

abbrev mutual
  pub sta_marks : {A : Type 0} → Sta A → List Bool
  sta_marks (Let mutable at name typ value) = marks value
  sta_marks (Assign at name value) = marks value
  sta_marks (Return at value) = marks_in value
  sta_marks (Eval value) = marks value
  sta_marks (While cond body) = marks cond ++ stas_marks body
  sta_marks (If arms) = arms_marks arms
  sta_marks (Print value) = marks value

  pub stas_marks : {A : Type 0} → Stas A → List Bool
  stas_marks Stas.Empty = []
  stas_marks (Stas.Of s more) = sta_marks s ++ stas_marks more

  pub arms_marks : {A : Type 0} → Arms A → List Bool
  arms_marks Bare = []
  arms_marks (Else body) = stas_marks body
  arms_marks (Arm cond body more) = marks cond ++ (stas_marks body ++ arms_marks more)

abbrev pub definition_marks : {A : Type 0} → Definition A → List Bool
definition_marks (Const typ value) = marks value
definition_marks (Func inlined params gives stmts tail) = stas_marks stmts ++ marks_in tail

-- the item that an answer leads to, before others
abbrev pub with_item : Found → List Place → List Place
with_item Local more = more
with_item (Item p) more = p ∷ more
with_item Private more = more
with_item Absent more = more

-- the items that called paths lead to
abbrev pub called : List Bool → List Found → List Place
called [] fs = []
called (m ∷ ms) [] = []
called (m ∷ ms) (f ∷ fs) = if m then with_item f (called ms fs) else called ms fs

-- the places of items by their numbers
abbrev pub places_at : List IndexItem → List ℕ → List Place
places_at items [] = []
places_at items (n ∷ ns) = option_to_list (option_map place_of (slice_get items n)) ++ places_at items ns

-- the functions called, in the order of the text, each the first time only; what is no function of the index is
-- passed over
abbrev pub calls_in : {A : Type 0} → List IndexItem → Definition A → List Found → List Place
calls_in items d fs = places_at items (added (map is_function items) [] (numbers (map item_name items) (called (definition_marks d) fs)))
