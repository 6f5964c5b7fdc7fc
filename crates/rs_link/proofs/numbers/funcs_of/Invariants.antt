use Rattle.std.proofs.Common.{◌≡◌, ◌<◌, ◌^◌, map, take, length}
use Rattle.rs_link.specs.Symbols.{funcs_of}
use Rattle.rs_link.proofs.numbers.funcs_of.Given as goal

abbrev pub invariant-loop-object : goal.invariant-loop-object
invariant-loop-object l = record {
  all : map (λ f. f.now) l.funcs.items ≡ funcs_of (take l.object-index l.objects);
  few : length l.funcs.items < 2 ^ 32;
}
