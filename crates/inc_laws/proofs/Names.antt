-- A session's latest name, by its draws and by its steps.
use Rattle.std.specs.Prelude.{◌≡◌, List, [], ◌∷◌, refl}
use Rattle.std.proofs.Common.{ap, ◌∙◌}
use Rattle.inc_fs.specs.declared.op.Op.{Op}
use Rattle.inc_fs.specs.declared.op.Op.TheVariants.{Draw}
use Rattle.inc_fs.specs.declared.op.Reply.{Reply}
use Rattle.inc_fs.specs.declared.op.Reply.TheVariants.{Drawn}
use Rattle.inc_names.specs.declared.session.SessionName.{SessionName}
use Rattle.inc_proto.specs.Events.{Steps}
use Rattle.inc_proto.specs.Views.{name, name_after}
use Rattle.inc_laws.specs.Readings.{draws, draws_after, head_of}

head_after : (op : Op) (reply : Reply) (names : List SessionName) → head_of (draws_after (op, reply) names) ≡ name_after (op, reply) (head_of names)
head_after Draw (Drawn moment random) names = refl
head_after op reply names = refl

pub name_is : (steps : Steps) → head_of (draws steps) ≡ name steps
name_is [] = refl
name_is ((op, reply) ∷ steps) = head_after op reply (draws steps) ∙ ap (name_after (op, reply)) (name_is steps)
