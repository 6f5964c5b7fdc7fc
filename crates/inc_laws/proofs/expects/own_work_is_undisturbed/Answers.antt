use Rattle.inc_laws.proofs.Undisturbed.{dir_made, linked, created, created_there, appended, read_there, removed_there, removed_empty, published, published_there}
use Rattle.inc_laws.proofs.expects.own_work_is_undisturbed.Goals as goal

pub returns-clause-directory : goal.returns-clause-directory
returns-clause-directory c = dir_made

pub returns-clause-link : goal.returns-clause-link
returns-clause-link c = linked

pub returns-clause-create : goal.returns-clause-create
returns-clause-create c = created

pub returns-clause-create_there : goal.returns-clause-create_there
returns-clause-create_there c = created_there

pub returns-clause-append : goal.returns-clause-append
returns-clause-append c = appended

pub returns-clause-read : goal.returns-clause-read
returns-clause-read c = read_there

pub returns-clause-remove : goal.returns-clause-remove
returns-clause-remove c = removed_there

pub returns-clause-remove_all : goal.returns-clause-remove_all
returns-clause-remove_all c = removed_empty

pub returns-clause-publish : goal.returns-clause-publish
returns-clause-publish c = published

pub returns-clause-publish_there : goal.returns-clause-publish_there
returns-clause-publish_there c = published_there
