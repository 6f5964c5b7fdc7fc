use Rattle.std.proofs.Common.{◌≡◌, true}
use Rattle.inc_wire.specs.Narrow.{narrow_kept, narrow_none, narrow_refused}
use Rattle.inc_wire.proofs.laws.narrowing_is_exact.Goals as goal

pub returns-clause-kept : goal.returns-clause-kept
returns-clause-kept g c = λ test before after x took passes. narrow_kept g.T.Read.fits (λ y. test y ≡ true) g.T.Read.form before after x took passes

pub returns-clause-refused : goal.returns-clause-refused
returns-clause-refused g c = λ test before after x took fails. narrow_refused g.T.Read.fits (λ y. test y ≡ true) g.T.Read.form before after x took fails

pub returns-clause-none : goal.returns-clause-none
returns-clause-none g c = λ test before none. narrow_none g.T.Read.fits (λ y. test y ≡ true) g.T.Read.form before none
