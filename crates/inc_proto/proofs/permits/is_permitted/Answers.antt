use Rattle.std.proofs.Common.{refl, reverse}
use Rattle.inc_fs.specs.declared.op.Op.TheVariants.{MakeLock, MakeDir, Link, Unlink, UnlinkLock, RemoveDir, Rename}
use Rattle.inc_proto.proofs.Mays.{permitted_as}
use Rattle.inc_proto.proofs.permits.is_permitted.Goals as goal

pub returns-in-MakeLock : goal.returns-in-MakeLock
returns-in-MakeLock g c =
    permitted_as g.C.Content.files c.args.view.now.job c.job-job.result.now c.args.view.now.steps (reverse c.steps-steps.result.now) c.args.op.now
    (MakeLock c.in-MakeLock.krate c.in-MakeLock.entry) c.may_make_lock.result c.job-job.ensures c.steps-steps.ensures c.in-MakeLock.is c.may_make_lock.ensures

pub returns-in-MakeDir : goal.returns-in-MakeDir
returns-in-MakeDir g c =
    permitted_as g.C.Content.files c.args.view.now.job c.job-job.result.now c.args.view.now.steps (reverse c.steps-steps.result.now) c.args.op.now
    (MakeDir c.in-MakeDir.krate c.in-MakeDir.entry) c.may_make_dir.result c.job-job.ensures c.steps-steps.ensures c.in-MakeDir.is c.may_make_dir.ensures

pub returns-in-Link : goal.returns-in-Link
returns-in-Link g c =
    permitted_as g.C.Content.files c.args.view.now.job c.job-job.result.now c.args.view.now.steps (reverse c.steps-steps.result.now) c.args.op.now
    (Link c.in-Link.krate c.in-Link.from c.in-Link.to c.in-Link.file) c.may_link.result c.job-job.ensures c.steps-steps.ensures c.in-Link.is c.may_link.ensures

pub returns-in-Unlink : goal.returns-in-Unlink
returns-in-Unlink g c =
    permitted_as g.C.Content.files c.args.view.now.job c.job-job.result.now c.args.view.now.steps (reverse c.steps-steps.result.now) c.args.op.now
    (Unlink c.in-Unlink.krate c.in-Unlink.entry c.in-Unlink.file) c.may_clear.result c.job-job.ensures c.steps-steps.ensures c.in-Unlink.is c.may_clear.ensures

pub returns-in-UnlinkLock : goal.returns-in-UnlinkLock
returns-in-UnlinkLock g c =
    permitted_as g.C.Content.files c.args.view.now.job c.job-job.result.now c.args.view.now.steps (reverse c.steps-steps.result.now) c.args.op.now
    (UnlinkLock c.in-UnlinkLock.krate c.in-UnlinkLock.entry) c.may_remove_lock.result c.job-job.ensures c.steps-steps.ensures c.in-UnlinkLock.is c.may_remove_lock.ensures

pub returns-in-RemoveDir : goal.returns-in-RemoveDir
returns-in-RemoveDir g c =
    permitted_as g.C.Content.files c.args.view.now.job c.job-job.result.now c.args.view.now.steps (reverse c.steps-steps.result.now) c.args.op.now
    (RemoveDir c.in-RemoveDir.krate c.in-RemoveDir.entry) c.may_clear-in-RemoveDir.result c.job-job.ensures c.steps-steps.ensures c.in-RemoveDir.is c.may_clear-in-RemoveDir.ensures

pub returns-in-Rename : goal.returns-in-Rename
returns-in-Rename g c =
    permitted_as g.C.Content.files c.args.view.now.job c.args.view.now.job c.args.view.now.steps c.args.view.now.steps c.args.op.now
    (Rename c.in-Rename.krate c.in-Rename.from c.in-Rename.to) c.may_rename.result refl refl c.in-Rename.is c.may_rename.ensures
