use Rattle.std.proofs.Common.{ℕ, List, subst, sym}
use Rattle.std.proofs.Math.Logic.{∥∥₁_map}
use Rattle.rs_tree.specs.declared.index.Index.{Index}
use Rattle.rs_tree.specs.declared.place.Place.{Place}
use Rattle.rs_provider.specs.Searches.{IsAsking, IsThere}
use Rattle.rs_provider.proofs.Together.{together}
use Rattle.rs_provider.proofs.state.Calling.with.Goals as goal

pub searching-requires : goal.searching-requires
searching-requires c =
    let self = c.args.self in
    let same = c.as_ref.ensures in
    let more = (c.in-Ok-push.ensures {u = tt}).ok in
    ∥∥₁_map self.is (λ asking.
    (let before = subst (λ (i : Index). IsAsking self.search i self.calls self.walk self.wanted) (sym same) asking in
    let there = c.in-Ok.ensures {u = tt} self.search self.calls self.wanted before in
    together (λ (i : Index) (cs : List (Place × List Place)) (left : ℕ). IsThere self.search i.items cs c.in-Ok.walk) same (sym more) (λ j. self.left) there))
