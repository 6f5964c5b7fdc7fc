-- What a bounded item is lowered to is in the ranges of its types, and its code is short.
use Rattle.std.proofs.Common.{◌≡◌, ℕ, ◌+◌, ◌≤◌, Bool, true, false, cond, List, length, drop, Option, Some, None, refl, arith}
use Rattle.std.specs.Prelude.{nat_le}
use Rattle.std.specs.List.{AllByRecursion}
use Rattle.std.proofs.lemmas.Bool.{leb-true}
use Rattle.rs_tree.proofs.Both.{left_of, right_of}
use Rattle.rs_tree.specs.declared.answers.Const.{Const}
use Rattle.rs_tree.specs.declared.answers.Found.{Found}
use Rattle.rs_tree.specs.declared.answers.Found.TheVariants.{Absent}
use Rattle.rs_tree.specs.declared.index.Sig.{Sig}
use Rattle.rs_tree.specs.declared.place.Place.{Place}
use Rattle.rs_tree.specs.declared.tree.Path as path
use Rattle.rs_tree.specs.Plain.{Exp, Definition, Const as constant, Func}
use Rattle.rs_tree.specs.Leaves.{filled_in, stas_filled, stas_leaves}
use Rattle.rs_lookup.specs.Places.{place_name}
use Rattle.rs_lower.specs.Counts.{labels_in, lets_all, places_all}
use Rattle.rs_lower.specs.Lowered.{is_within, lowered_definition, meanings, no_code, reduced_code}
use Rattle.rs_lower.specs.Meanings.{Meanings, const_at}
use Rattle.rs_lower.specs.Reduced.{reduced_in, stas_reduced}
use Rattle.rs_lower.proofs.Reducing.{fewer, fewer_places_all, same_lets_all}
use Rattle.range_laws.specs.Bounded.{BoundedDefinition, most}
use Rattle.range_laws.specs.Sizes.{definition_size}
use Rattle.range_laws.proofs.Bodies.{dropped, in_worded, leaves_fit, stas_worded}
use Rattle.range_laws.proofs.Instructions.{FitsConstIn}
use Rattle.range_laws.proofs.Folded.{reduced_in_worded, stas_reduced_worded}
use Rattle.range_laws.proofs.Named.{IsShortFound, IsShortPlace}
use Rattle.range_laws.proofs.Shrunk.{size_in_filled, size_in_reduced, stas_size_filled, stas_size_reduced}
use Rattle.range_laws.proofs.Slots.{IsBoundedIr, function_bounded, no_code_bounded}

fewer_in : (w : Meanings) (bs : List Found) (tail : Option (Exp path.Path)) → labels_in (reduced_in w (filled_in Absent bs tail)) ≤ labels_in tail
fewer_in w bs None = omega arith
fewer_in w bs (Some e) = fewer w bs e

pub definition_bounded : (level : ℕ) (fs : List Found) (sigs : List (Place × Sig)) (consts : List (Place × Const)) (d : Definition path.Path)
    → BoundedDefinition d → definition_size d ≤ most → AllByRecursion IsShortFound fs → ((q : Place) → FitsConstIn (const_at (place_name q) consts)) → IsBoundedIr (lowered_definition level fs sigs consts d)
definition_bounded level fs sigs consts (constant typ value) bounded small found known = no_code_bounded false
definition_bounded level fs sigs consts (Func inlined ps gives stmts tail) bounded small found known = by (is_within ps stmts tail) refl
  where
    w : Meanings
    w = meanings level sigs consts gives

    rest : List Found
    rest = drop (length (stas_leaves stmts)) fs

    by : (b : Bool) → is_within ps stmts tail ≡ b → IsBoundedIr (cond b (reduced_code w inlined ps (stas_filled Absent fs stmts) (filled_in Absent rest tail)) (no_code inlined))
    by false h = no_code_bounded inlined
    by true h =
        let slots = leb-true (length ps + lets_all stmts) 65535 (left_of (nat_le (length ps + lets_all stmts) 65535) (nat_le (places_all stmts + labels_in tail) 65535) h) in
        let few = leb-true (places_all stmts + labels_in tail) 65535 (right_of (nat_le (length ps + lets_all stmts) 65535) (nat_le (places_all stmts + labels_in tail) 65535) h) in
        function_bounded w inlined ps (stas_reduced w (stas_filled Absent fs stmts)) (reduced_in w (filled_in Absent rest tail))
        (omega (arith, slots, same_lets_all w fs stmts))
        (omega (arith, few, fewer_places_all w fs stmts, fewer_in w rest tail))
        (omega (arith, small, stas_size_reduced w (stas_filled Absent fs stmts), stas_size_filled Absent fs stmts, size_in_reduced w (filled_in Absent rest tail), size_in_filled Absent rest tail))
        known
        (stas_reduced_worded IsShortPlace w (leaves_fit w known) (stas_filled Absent fs stmts) (stas_worded fs stmts bounded.1 found))
        (reduced_in_worded IsShortPlace w (leaves_fit w known) (filled_in Absent rest tail) (in_worded rest tail bounded.2 (dropped (length (stas_leaves stmts)) fs found)))
