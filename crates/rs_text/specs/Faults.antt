-- The fault of a text whose tokens have a fault.
use Rattle.rs_grammar.specs.declared.fault.SyntaxFault.{SyntaxFault}
use Rattle.rs_grammar.specs.declared.fault.SyntaxFault.TheVariants as syntax
use Rattle.rs_text.specs.declared.fault.TextFault.{TextFault}
use Rattle.rs_text.specs.declared.fault.TextFault.TheVariants as text

abbrev pub fault_of : SyntaxFault → TextFault
fault_of (syntax.Nesting at) = text.Nesting at
fault_of (syntax.Syntax at) = text.Syntax at
fault_of (syntax.Twice at name) = text.Twice at name
fault_of syntax.Memory = text.Memory
