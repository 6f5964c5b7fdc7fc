use Rattle.std.proofs.Common.{◌+◌, ◌∷◌, sym, subst}
use Rattle.inc_laws.specs.Places.{later_found, IsSought}
use Rattle.inc_laws.proofs.Sought.{sought_next}
use Rattle.inc_laws.proofs.loads.note_step.Goals as goal

pub returns : goal.returns
returns c = λ before coming at end count s is fresh.
    let krate = c.args.krate.now in
    let step = c.args.step.now in
    subst (IsSought krate (step ∷ before) coming (at + 1) c.note_opened.new.opened c.note_until.new.until) (sym c.later_found-search.ensures)
    (subst (λ o. IsSought krate (step ∷ before) coming (at + 1) o c.note_until.new.until (later_found c.in_ok-found.found c.args.search.now.found)) (sym c.in_ok-note_opened.ensures)
    (sought_next krate before coming at end count step c.args.far c.args.search.now.opened c.args.search.now.until c.note_until.new.until c.args.search.now.found c.in_ok-found.found s is fresh
    c.in_ok-found.ensures c.in_ok-note_until.ensures))
