use Rattle.inc_names.specs.Entries.{IsSessionName}
use Rattle.inc_names.specs.declared.entry.Entry.{Entry}
use Rattle.inc_names.specs.declared.entry.Entry.TheVariants.{Working, Final}
use Rattle.inc_names.specs.declared.session.SessionName.{SessionName}
use Rattle.inc_names.specs.Entries.{entry_text, IsEntry}
use Rattle.inc_fs.specs.Paths.{Text}
use Rattle.inc_proto.specs.Lefts.{IsDirOf}
use Rattle.std.proofs.Common.{◌≢◌, inl, inr}
use Rattle.inc_proto.proofs.index.remains.session_of.Goals as goal

no_dir : (t : Text) → ((e : Entry) → IsEntry e → t ≢ entry_text e) → (n : SessionName) → IsSessionName n → IsDirOf n t → ⊥
no_dir t none n named (inl is) = none (Working n) named is
no_dir t none n named (inr w) = none (Final n w.0) (named, w.1) w.2

pub returns-in-None-clause-none : goal.returns-in-None-clause-none
returns-in-None-clause-none c = no_dir c.args.dir.now c.in-None.ensures.none
