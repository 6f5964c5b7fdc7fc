use Rattle.rs_parse.proofs.Reached.{has_sections, refused_left, fault_here}
use Rattle.rs_parse.proofs.parser.read_all.Goals as goal

pub returns-in-Err-Syntax-clause-fault : goal.returns-in-Err-Syntax-clause-fault
returns-in-Err-Syntax-clause-fault c = fault_here c.args.tokens.now _ _ c.new-rest.ensures _ _ c.args.end _ c.requires.shallow c.fault_at.ensures c.in-Err-Syntax.field-0 c.in-Err-Syntax.field-0-is c.in-Err-Syntax.ensures

pub returns-in-Err-clause-fault : goal.returns-in-Err-clause-fault
returns-in-Err-clause-fault c = refused_left c.args.tokens.now _ _ c.new-rest.ensures _ _ c.args.end c.in-Err.fault c.requires.shallow c.in-Err.ensures c.in-Ok.ensures

pub returns-in-Ok-finish-clause-found : goal.returns-in-Ok-finish-clause-found
returns-in-Ok-finish-clause-found c = has_sections c.args.tokens.now _ _ c.new-rest.ensures _ _ c.new-found.ensures c.in-Ok-finish.ensures c.in-Ok.ensures
