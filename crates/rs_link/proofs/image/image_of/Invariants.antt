use Rattle.std.proofs.Common.{◌≡◌, ◌++◌, map, take}
use Rattle.std.specs.List.{flat_map}
use Rattle.rs_link.specs.Image.{body_form}
use Rattle.rs_link.proofs.image.image_of.Given as goal

abbrev pub invariant-loop-func : goal.invariant-loop-func
invariant-loop-func l = l.image ≡ l.initial.image ++ flat_map (body_form (map (λ f. f.now) l.funcs)) (take l.func-index (map (λ f. f.now) l.funcs))
