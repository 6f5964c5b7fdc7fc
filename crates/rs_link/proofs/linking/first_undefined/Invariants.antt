use Rattle.std.proofs.Common.{◌≡◌, ℕ, List, drop, map, nat_cmp}
use Rattle.std.specs.BTreeMap.{get_by}
use Rattle.std.specs.Cmp.Lexicographic.{slice_cmp}
use Rattle.rs_object.specs.declared.object.Func.{Func}
use Rattle.rs_link.specs.Symbols.{number_of, first_undefined}
use Rattle.rs_link.proofs.linking.first_undefined.Given as goal

abbrev pub invariant-loop-func : goal.invariant-loop-func
invariant-loop-func l = (all : List Func) → ((q : List ℕ) → get_by (λ k. slice_cmp nat_cmp q k.now) l.numbers ≡ number_of all q) → first_undefined all (map (λ f. f.now) (drop l.func-index l.funcs)) ≡ first_undefined all (map (λ f. f.now) l.funcs)
