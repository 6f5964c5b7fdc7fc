use Rattle.std.proofs.Common.{◌≡◌, drop}
use Rattle.rs_object.specs.Grammar.{are_relocs}
use Rattle.rs_object.proofs.grammar.are_relocs.Given as goal

-- the test of the rest is the test of all
abbrev pub invariant-loop-reloc : goal.invariant-loop-reloc
invariant-loop-reloc l = are_relocs l.from l.code (drop l.reloc-index l.relocs) ≡ are_relocs 0 l.code l.relocs
