use Rattle.inc_wire.specs.FormLaws.{same_number_front, same_text_front, same_header_front}
use Rattle.inc_wire.proofs.laws.forms_differ.Goals as goal

pub returns : goal.returns
returns c = record { number = same_number_front; text = same_text_front; header = same_header_front }
