use Rattle.std.proofs.Common.{[], ◌∙◌}
use Rattle.rs_lex.proofs.PlaceSteps.{place_after_is}
use Rattle.rs_lex.proofs.place.end_of.Goals as goal

pub returns : goal.returns
returns c = c.place_after.ensures ∙ place_after_is [] c.args.text.now
