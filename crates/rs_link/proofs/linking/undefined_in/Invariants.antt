use Rattle.std.proofs.Common.{◌≡◌, ℕ, List, drop, nat_cmp}
use Rattle.std.specs.BTreeMap.{get_by}
use Rattle.std.specs.Cmp.Lexicographic.{slice_cmp}
use Rattle.rs_object.specs.declared.object.Func.{Func}
use Rattle.rs_link.specs.Symbols.{number_of, undefined_in}
use Rattle.rs_link.proofs.linking.undefined_in.Given as goal

abbrev pub invariant-loop-reloc : goal.invariant-loop-reloc
invariant-loop-reloc l = (all : List Func) → ((q : List ℕ) → get_by (λ k. slice_cmp nat_cmp q k.now) l.numbers ≡ number_of all q) → undefined_in all (drop l.reloc-index l.relocs) ≡ undefined_in all l.relocs
