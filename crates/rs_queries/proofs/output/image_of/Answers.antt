use Rattle.std.proofs.Common.{◌≡◌, ℕ, List, ap, sym, subst}
use Rattle.std.specs.Prelude.{None, Err}
use Rattle.rs_object.specs.declared.object.Func.{Func}
use Rattle.rs_link.specs.Linked.{Links, linked}
use Rattle.rs_link.specs.Symbols.{funcs_of}
use Rattle.rs_link.specs.declared.fault.LinkFault.{LinkFault}
use Rattle.rs_link.specs.declared.fault.LinkFault.TheVariants.{Undefined, Twice}
use Rattle.rs_queries.specs.Built.{image_by}
use Rattle.rs_queries.proofs.output.image_of.Goals as goal

undefined_none : (fs : List Func) (f : LinkFault) (s : List ℕ) → f ≡ Undefined s → Links fs (Err f) → None ≡ image_by (linked fs)
undefined_none fs f s is h = ap image_by (sym (subst (λ (g : LinkFault). Links fs (Err g)) is h))

twice_none : (fs : List Func) (f : LinkFault) (s : List ℕ) → f ≡ Twice s → Links fs (Err f) → None ≡ image_by (linked fs)
twice_none fs f s is h = ap image_by (sym (subst (λ (g : LinkFault). Links fs (Err g)) is h))

pub returns-in-Ok : goal.returns-in-Ok
returns-in-Ok c = ap image_by (sym c.in-Ok.ensures)

pub returns-in-Err-Undefined : goal.returns-in-Err-Undefined
returns-in-Err-Undefined c = undefined_none (funcs_of c.args.objects.now) c.in-Err-Undefined.field-0 c.in-Err-Undefined.symbol c.in-Err-Undefined.field-0-is c.in-Err-Undefined.ensures

pub returns-in-Err-Twice : goal.returns-in-Err-Twice
returns-in-Err-Twice c = twice_none (funcs_of c.args.objects.now) c.in-Err-Twice.field-0 c.in-Err-Twice.symbol c.in-Err-Twice.field-0-is c.in-Err-Twice.ensures
