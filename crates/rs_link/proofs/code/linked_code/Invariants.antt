use Rattle.std.proofs.Common.{◌≡◌, ℕ, ◌<◌, ◌≤◌, ◌^◌, ◌++◌, List, length, take, drop, nat_cmp}
use Rattle.std.specs.BTreeMap.{get_by}
use Rattle.std.specs.Cmp.Lexicographic.{slice_cmp}
use Rattle.rs_object.specs.Grammar.{AreRelocs}
use Rattle.rs_object.specs.declared.object.Func.{Func}
use Rattle.rs_link.specs.Symbols.{number_of}
use Rattle.rs_link.specs.Image.{linked_code}
use Rattle.rs_link.proofs.code.linked_code.Given as goal

abbrev pub invariant-loop-reloc : goal.invariant-loop-reloc
invariant-loop-reloc l = record {
  within : l.from ≤ length l.code;
  rest : AreRelocs l.from l.code (drop l.reloc-index l.relocs);
  long : length l.linked ≡ l.from;
  so_far : (all : List Func) → length all < 2 ^ 32 → ((q : List ℕ) → get_by (λ k. slice_cmp nat_cmp q k.now) l.numbers ≡ number_of all q) → l.linked ++ drop l.from l.code ≡ linked_code all l.code (take l.reloc-index l.relocs);
}
