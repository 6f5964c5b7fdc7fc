-- Functions and objects are seen from the bytes that they begin.
use Rattle.std.proofs.Common.{ℕ, ◌^◌, ◌<◌, List, [], ◌∷◌, ◌++◌, All, refl}
use Rattle.std.proofs.lemmas.List.Elements.{All-head, All-tail, All-nil, All-cons}
use Rattle.inc_wire.specs.Forms.{number_form, text_form, list_form}
use Rattle.inc_wire.specs.Fits.{Each, FitsList, FitsText}
use Rattle.inc_wire.specs.Fronts.{HasFronts, number_fronts, text_fronts, pair_fronts, list_fronts, marked_fronts, made_fronts}
use Rattle.rs_object.specs.declared.object.Func.{Func}
use Rattle.rs_object.specs.declared.object.Object.{Object}
use Rattle.rs_object.specs.Fits.{FitsReloc, FitsFields, FitsFunc, FitsObject, Parts, parts_of, of_parts}
use Rattle.rs_object.specs.Forms.{reloc_form, func_form, object_form, object_mark}
use Rattle.rs_object.specs.Grammar.{HasRelocs, InGrammar}

abbrev pub PartsFit : Parts → Type 0
PartsFit p = FitsText p.0 × ((p.1.0 < 2 ^ 16) × ((p.1.1.0 < 2 ^ 16) × (FitsText p.1.1.1.0 × FitsList FitsReloc p.1.1.1.1)))

abbrev pub parts_form : Parts → List ℕ
parts_form p = text_form p.0 ++ (number_form 2 p.1.0 ++ (number_form 2 p.1.1.0 ++ (text_form p.1.1.1.0 ++ list_form reloc_form p.1.1.1.1)))

pub parts_fit : (f : Func) → FitsFields f → PartsFit (parts_of f)
parts_fit f h = (h.symbol, (h.params, (h.slots, (h.code, h.relocs))))

reloc_fronts : HasFronts FitsReloc reloc_form
reloc_fronts = pair_fronts (number_fronts 4) text_fronts

parts_fronts : HasFronts PartsFit parts_form
parts_fronts = pair_fronts text_fronts (pair_fronts (number_fronts 2) (pair_fronts (number_fronts 2) (pair_fronts text_fronts (list_fronts reloc_fronts))))

func_fronts : HasFronts FitsFunc func_form
func_fronts = made_fronts of_parts parts_of parts_fronts (λ f h. parts_fit f h.fits) (λ f. refl) (λ f. refl)

abbrev pair_of : Object → List ℕ × List Func
pair_of o = (o.unit, o.funcs)

abbrev of_pair : List ℕ × List Func → Object
of_pair p = record { unit = p.0; funcs = p.1 }

pub object_fronts : HasFronts FitsObject object_form
object_fronts = made_fronts of_pair pair_of (marked_fronts (number_form 4 object_mark) (marked_fronts (number_form 2 1) (pair_fronts text_fronts (list_fronts func_fronts)))) (λ o h. (h.unit, h.funcs)) (λ o. refl) (λ o. refl)

each_in_grammar : (fs : List Func) → Each FitsFunc fs → All HasRelocs fs
each_in_grammar [] each = All-nil HasRelocs
each_in_grammar (f ∷ fs) each = All-cons HasRelocs f fs each.0.more (each_in_grammar fs each.1)

-- an object that is read is in the grammar
pub fits_in_grammar : (o : Object) → FitsObject o → InGrammar o
fits_in_grammar o fits = each_in_grammar o.funcs fits.funcs.each

each_fits : (fs : List Func) → Each FitsFields fs → All HasRelocs fs → Each FitsFunc fs
each_fits [] each all = tt
each_fits (f ∷ fs) each all = (record { fits = each.0; more = All-head HasRelocs f fs all }, each_fits fs each.1 (All-tail HasRelocs f fs all))

-- and one that is written, and in the grammar, can be read
pub funcs_fit : (fs : List Func) → FitsList FitsFields fs → All HasRelocs fs → FitsList FitsFunc fs
funcs_fit fs fits all = record { few = fits.few; each = each_fits fs fits.each all }
