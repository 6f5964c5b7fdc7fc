use Rattle.std.proofs.Common.{◌≡◌, ◌<◌, ◌^◌, ◌++◌, map, take, length}
use Rattle.rs_link.proofs.numbers.push_all.Given as goal

abbrev pub invariant-loop-func : goal.invariant-loop-func
invariant-loop-func l = record {
  all : map (λ f. f.now) l.to.items ≡ map (λ f. f.now) l.initial.to.items ++ take l.func-index l.funcs;
  few : length l.to.items < 2 ^ 32;
}
