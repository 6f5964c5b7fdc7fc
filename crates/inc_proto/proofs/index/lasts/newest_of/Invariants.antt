use Rattle.std.proofs.Common.{◌↔◌, ◌⊎◌, take}
use Rattle.inc_names.specs.declared.session.SessionName.{SessionName}
use Rattle.inc_proto.specs.Indexes.{IsNewerOf, ListsNewer}
use Rattle.inc_proto.proofs.index.lasts.newest_of.Given as goal

abbrev pub invariant-loop-name : goal.invariant-loop-name
invariant-loop-name l = (n : SessionName) → IsNewerOf l.newest n ↔ (IsNewerOf l.fn.before n ⊎ ListsNewer (take l.name-index l.names) n)
