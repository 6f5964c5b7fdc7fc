-- The form of a function is in the ranges of its types, and its code is short.
use Rattle.std.proofs.Common.{ℕ, ◌+◌, ◌*◌, ◌≤◌, Bool, false, List, [], ◌∷◌, ◌++◌, length, Option, arith}
use Rattle.std.proofs.lemmas.List.{length-append}
use Rattle.inc_wire.specs.Fits.{Each}
use Rattle.rs_tree.specs.declared.ir.Instr.{Instr}
use Rattle.rs_tree.specs.declared.ir.Instr.TheVariants as i
use Rattle.rs_tree.specs.declared.ir.Ir.{Ir}
use Rattle.rs_tree.specs.declared.place.Place.{Place}
use Rattle.rs_tree.specs.declared.tree.Param.{Param}
use Rattle.rs_tree.specs.Plain.{Exp, Stas}
use Rattle.rs_forms.specs.Fits.{FitsInstr, FitsIr}
use Rattle.rs_lookup.specs.Places.{place_name}
use Rattle.rs_lower.specs.Code.{after_all, body_all, returned}
use Rattle.rs_lower.specs.Counts.{labels_in, lets_all, places_all}
use Rattle.rs_lower.specs.Locals.{with_params}
use Rattle.rs_lower.specs.Lowered.{function_code, no_code}
use Rattle.rs_lower.specs.Meanings.{Leaf, Meanings, const_at}
use Rattle.rs_lower.proofs.Sound.{Below, IsSound, after_all_below, body_all_sound, each_append, params_below, return_plain, returned_sound}
use Rattle.range_laws.specs.Bounded.{most}
use Rattle.range_laws.specs.Sizes.{size_in, stas_size}
use Rattle.range_laws.proofs.Coded.{body_all_short, returned_short}
use Rattle.range_laws.proofs.Instructions.{FitsConstIn, IsFine, WordedIn, WordedStas, body_all_fine, returned_fine}
use Rattle.range_laws.proofs.Named.{IsShortPlace, place_fits}

-- a form in the ranges of its types, with few instructions and calls of short places
pub record IsBoundedIr (ir : Ir) : Type 0 where
  pub fits : FitsIr ir
  pub short : length ir.code ≤ 6 * most
  pub labels : ℕ
  pub fine : Each (IsFine labels IsShortPlace) ir.code

instr_fits : (n m : ℕ) → n ≤ 65535 → m ≤ 65535 → (x : Instr) → IsSound n m x → IsFine n IsShortPlace x → FitsInstr x
instr_fits n m a b (i.Push value) sound fine = fine
instr_fits n m a b (i.Load slot) sound fine = omega (arith, sound, b)
instr_fits n m a b (i.Store slot) sound fine = omega (arith, sound, b)
instr_fits n m a b (i.Plain code) sound fine = sound
instr_fits n m a b (i.Jump code label) sound fine = (sound.0, (let less = sound.1 in omega (arith, less, a)))
instr_fits n m a b (i.Label label) sound fine = omega (arith, fine, a)
instr_fits n m a b (i.Call inline place) sound fine = place_fits place fine

each_fits : (n m : ℕ) → n ≤ 65535 → m ≤ 65535 → (xs : List Instr) → Each (IsSound n m) xs → Each (IsFine n IsShortPlace) xs → Each FitsInstr xs
each_fits n m a b [] sound fine = tt
each_fits n m a b (x ∷ xs) sound fine = (instr_fits n m a b x sound.0 fine.0, each_fits n m a b xs sound.1 fine.1)

pub no_code_bounded : (inlined : Bool) → IsBoundedIr (no_code inlined)
no_code_bounded inlined = record { fits = record { params = omega arith; slots = omega arith; code = record { few = omega arith; each = (return_plain false, tt) } }; short = omega arith; labels = 0; fine = (tt, tt) }

pub function_bounded : (w : Meanings) (inlined : Bool) (ps : List Param) (ts : Stas Leaf) (tail : Option (Exp Leaf)) → length ps + lets_all ts ≤ 65535 → places_all ts + labels_in tail ≤ 65535 → stas_size ts + size_in tail ≤ most
    → ((q : Place) → FitsConstIn (const_at (place_name q) w.consts)) → WordedStas IsShortPlace ts → WordedIn IsShortPlace tail → IsBoundedIr (function_code w inlined ps ts tail)
function_bounded w inlined ps ts tail slots few small known worded end_worded =
    let env = with_params 0 ps [] in
    let m = length ps + lets_all ts in
    let n = places_all ts + labels_in tail in
    let last = after_all w env (length ps) ts in
    let first = body_all w env (length ps) 0 ts in
    let end = returned w last (places_all ts) tail in
    let below : Below m env = params_below m 0 ps [] tt (omega arith) in
    let sound : Each (IsSound n m) (first ++ end) =
    each_append (IsSound n m) first end (body_all_sound w env n m (length ps) 0 ts below (omega arith) (omega arith)) (returned_sound w last n m (places_all ts) tail (after_all_below w env m (length ps) ts below (omega arith)) (omega arith)) in
    let fine : Each (IsFine n IsShortPlace) (first ++ end) =
    each_append (IsFine n IsShortPlace) first end (body_all_fine IsShortPlace n w known env (length ps) 0 ts worded (omega arith)) (returned_fine IsShortPlace n w known last (places_all ts) tail end_worded (omega arith)) in
    let short : length (first ++ end) ≤ 6 * most =
    omega (arith, length-append first end, body_all_short w env (length ps) 0 ts, returned_short w last (places_all ts) tail, small, few) in
    record {
      fits = record { params = omega (arith, slots); slots = omega (arith, slots); code = record { few = omega (arith, short); each = each_fits n m few slots (first ++ end) sound fine } };
      short = short;
      labels = n;
      fine = fine;
    }
