use Rattle.std.proofs.Common.{ℕ, Bool, List, refl}
use Rattle.rs_reach.specs.Places.{IsLeft}
use Rattle.rs_provider.proofs.Further.{begins}
use Rattle.rs_provider.proofs.Together.{together}
use Rattle.rs_provider.proofs.walk.Walk.new.Goals as goal

pub returns : goal.returns
returns c = λ names named.
    begins names c.args.may.now c.args.roots.items _ named c.in_ok-known.ensures refl
    (together (λ (m : List Bool) (l : List Bool) (f : List ℕ). IsLeft m l f) refl refl c.deref.ensures.value c.in_ok-left.ensures)
