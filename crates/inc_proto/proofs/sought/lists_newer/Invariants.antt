use Rattle.std.proofs.Common.{take, ℕ}
use Rattle.inc_fs.specs.Lists.{IsIn}
use Rattle.inc_names.specs.declared.session.SessionName.{SessionName}
use Rattle.inc_names.specs.Entries.{final_text, IsSessionName, IsNewer}
use Rattle.inc_proto.specs.Permits.{IsHash}
use Rattle.inc_proto.proofs.sought.lists_newer.Given as goal

abbrev pub invariant-loop-name : goal.invariant-loop-name
invariant-loop-name l =
    (m : SessionName) (hash : ℕ) → IsSessionName m → IsHash hash → IsNewer m l.n → ¬ IsIn (take l.name-index l.names) (final_text m hash)
