use Rattle.std.proofs.Common.{◌∙◌, sym}
use Rattle.inc_proto.specs.EventLaws.{running_begun}
use Rattle.proto_rows.proofs.run.loaded.Goals as goal

pub loaded_is_whole-requires : goal.loaded_is_whole-requires
loaded_is_whole-requires c = running_begun c.in-Ok.who c.args.ground.now.history c.args.ground.now.state c.legal.ensures.leads (sym c.runs.ensures ∙ c.if-not-runs.false)
