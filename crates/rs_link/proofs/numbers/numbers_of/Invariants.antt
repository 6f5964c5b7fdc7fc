use Rattle.std.proofs.Common.{◌≡◌, ℕ, List, map, drop, nat_cmp}
use Rattle.std.specs.BTreeMap.{get_by}
use Rattle.std.specs.Cmp.Lexicographic.{slice_cmp}
use Rattle.std.specs.Option.{option_copied}
use Rattle.rs_link.specs.Symbols.{number_from, first_twice}
use Rattle.rs_link.proofs.numbers.numbers_of.Given as goal

abbrev pub invariant-loop-i : goal.invariant-loop-i
invariant-loop-i l = record {
  numbers : (q : List ℕ) → get_by (λ k. slice_cmp nat_cmp q k.now) l.map ≡ number_from q l.i (map (λ f. f.now) (drop l.i l.funcs));
  twice : option_copied l.twice ≡ first_twice (map (λ f. f.now) (drop l.i l.funcs));
}
