-- The forms of a bounded tree's functions are in the ranges of their types.
use Rattle.std.proofs.Common.{ℕ, List, [], ◌∷◌, map}
use Rattle.std.specs.List.{AllByRecursion}
use Rattle.rs_tree.specs.declared.answers.Const.{Const}
use Rattle.rs_tree.specs.declared.index.IndexItem.{IndexItem}
use Rattle.rs_tree.specs.declared.index.Sig.{Sig}
use Rattle.rs_tree.specs.declared.ir.Ir.{Ir}
use Rattle.rs_tree.specs.declared.place.Place.{Place}
use Rattle.rs_tree.specs.declared.tree.Crate.{Crate}
use Rattle.rs_tree.specs.declared.tree.Placed.{Placed}
use Rattle.rs_tree.specs.Plain.{definition}
use Rattle.rs_answers.specs.Fits.{FitsConst}
use Rattle.rs_lookup.specs.Places.{place_name}
use Rattle.rs_names.specs.Resolved.{answers_of}
use Rattle.rs_lower.specs.Meanings.{const_at}
use Rattle.rs_queries.specs.Built.{consts_of, form_of}
use Rattle.rs_queries.specs.Known.{answered, constants_of, items_of, sigs_of}
use Rattle.link_laws.proofs.Lists.{each_weaker}
use Rattle.plan_laws.specs.Roots.{FitsForm}
use Rattle.range_laws.specs.Bounded.{BoundedCrate, BoundedItem}
use Rattle.range_laws.proofs.Founds.{answers_short, consts_fit}
use Rattle.range_laws.proofs.Instructions.{FitsConstIn}
use Rattle.range_laws.proofs.Lowers.{definition_bounded}
use Rattle.range_laws.proofs.Named.{IsShortPlace}
use Rattle.range_laws.proofs.Slots.{IsBoundedIr}

-- a form at a short place
pub record IsBoundedForm (m : Place × Ir) : Type 0 where
  pub place : IsShortPlace m.0
  pub ir : IsBoundedIr m.1

module _ (level : ℕ) (items : List IndexItem) (sigs : List (Place × Sig)) (consts : List (Place × Const)) (known : (q : Place) → FitsConstIn (const_at (place_name q) consts)) where
  form_bounded : (p : Placed) → BoundedItem p → IsBoundedForm (form_of level sigs consts (answered items p))
  form_bounded p b = record {
    place = record { «module» = b.module; name = b.name };
    ir = definition_bounded level (answers_of items p.module (definition p.item.body)) sigs consts (definition p.item.body) b.inside b.small (answers_short items p.module b.module (definition p.item.body) b.inside) known;
  }

  pub forms_bounded : (ps : List Placed) → AllByRecursion BoundedItem ps → AllByRecursion IsBoundedForm (map (form_of level sigs consts) (map (answered items) ps))
  forms_bounded [] h = tt
  forms_bounded (p ∷ ps) h = (form_bounded p h.0, forms_bounded ps h.1)

pub each_form : (krate : Crate) (level : ℕ) (values : List Const) → BoundedCrate krate → AllByRecursion FitsConst values → AllByRecursion (FitsForm krate level values) krate.items
each_form krate level values bounded fits =
    each_weaker BoundedItem (FitsForm krate level values) krate.items
    (λ p b other. (form_bounded level (items_of krate) (sigs_of krate) (consts_of (constants_of krate) values) (consts_fit (constants_of krate) values fits) p b).ir.fits) bounded.items
