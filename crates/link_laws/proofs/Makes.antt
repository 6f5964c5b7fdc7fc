-- What is built of a text, said of its tree.
use Rattle.std.proofs.Common.{◌≡◌, ℕ, Bool, true, false, cond, List, map, Some, None, Ok, Err, refl, sym, ◌∙◌, subst}
use Rattle.std.specs.Prelude.{Result}
use Rattle.rs_tree.specs.declared.answers.Const.{Const}
use Rattle.rs_tree.specs.declared.ir.Ir.{Ir}
use Rattle.rs_tree.specs.declared.place.Place.{Place}
use Rattle.rs_tree.specs.declared.tree.Crate.{Crate}
use Rattle.rs_grammar.specs.Tidy.{IsTidyCrate, TreesAreTidy}
use Rattle.rs_lines.specs.Lines.{has_error}
use Rattle.rs_text.specs.Laws.{TextIs}
use Rattle.rs_text.specs.Text.{IsTextAs, text_of}
use Rattle.rs_text.specs.declared.fault.TextFault.{TextFault}
use Rattle.rs_object.specs.declared.object.Object.{Object}
use Rattle.rs_queries.specs.declared.compiled.Built.{Built}
use Rattle.rs_queries.specs.declared.compiled.Compiled.{Compiled}
use Rattle.rs_units.specs.Units.{units_of}
use Rattle.rs_emit.specs.Objects.{object_of}
use Rattle.rs_queries.specs.Built.{IsCompiled, consts_of, form_of, members_in, output_of, tree_index}
use Rattle.rs_queries.specs.Diagnosed.{calls_of, own_lines}
use Rattle.rs_queries.specs.Known.{all_answered, constants_of, items_of, sigs_of}

-- a line of a tree's items is an error's
abbrev pub is_wrong : Crate → List Const → Bool
is_wrong krate values = has_error (own_lines (items_of krate) (sigs_of krate) (constants_of krate) values (all_answered krate))

-- the calls of its items, and their forms
abbrev pub calls : Crate → List (Place × List Place)
calls krate = map (calls_of (items_of krate)) (all_answered krate)

abbrev pub forms : Crate → ℕ → List Const → List (Place × Ir)
forms krate level values = map (form_of level (sigs_of krate) (consts_of (constants_of krate) values)) (all_answered krate)

-- the object of a unit, and those of all
abbrev pub unit_object : Crate → ℕ → List Const → List ℕ → Object
unit_object krate level values u = object_of u (members_in (items_of krate) (calls krate) (forms krate level values) u)

abbrev pub objects : Crate → ℕ → List Const → List Object
objects krate level values = map (unit_object krate level values) (units_of (tree_index krate))

-- a tidy tree without an error, of whose objects this is the output
pub record Makes (level : ℕ) (b : Built) : Type 0 where
  pub krate : Crate
  pub tidy : IsTidyCrate krate
  pub values : List Const
  pub right : is_wrong krate values ≡ false
  pub output : b ≡ output_of (objects krate level values)

chosen : (wrong : Bool) (b o : Built) → cond wrong None (Some o) ≡ Some b → (wrong ≡ false) × (b ≡ o)
chosen true b o e = absurd (let none : None ≡ Some b = e in cc)
chosen false b o e = (let both : Some o ≡ Some b = e in (refl, cc))

-- where something is built of a text, it is that of its tree
pub built_makes : TextIs → TreesAreTidy → (bytes : List ℕ) (level : ℕ) (c : Compiled) (b : Built) → IsCompiled bytes level c → c.built ≡ Some b → Makes level b
built_makes texts tidy bytes level c b h e = by (text_of bytes) refl
  where
    by : (r : Result Crate TextFault) → text_of bytes ≡ r → Makes level b
    by (Err f) is = absurd (let none : None ≡ Some b = sym (h.fault f is).built ∙ e in cc)
    by (Ok krate) is =
        (let tree = h.tree krate is in
        let read : IsTextAs bytes (Ok krate) = subst (IsTextAs bytes) is (texts.is bytes) in
        let made = chosen (is_wrong krate tree.values) b (output_of (objects krate level tree.values)) (sym tree.built ∙ e) in
        record { krate = krate; tidy = tidy read.tokens krate read.holds; values = tree.values; right = made.0; output = made.1 })
