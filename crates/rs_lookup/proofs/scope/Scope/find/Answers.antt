use Rattle.std.proofs.Common.{◌≡◌, ◌<◌, length, None, Some, sym, ◌∙◌}
use Rattle.std.specs.BTreeMap.{get}
use Rattle.rs_lookup.specs.Env.{find}
use Rattle.rs_lookup.specs.Tracks.{name_cmp}
use Rattle.rs_lookup.proofs.ScopeLemmas.{found_none, found_at, found_below}
use Rattle.rs_lookup.proofs.scope.Scope.find.Goals as goal

pub index-requires : goal.index-requires
index-requires c =
    let got : get name_cmp c.self.inside.newest c.args.name ≡ Some c.in-Some.at.now = sym ((c.in-Some.ensures {u = tt}).value) in
    let below : c.in-Some.at.now < length c.self.inside.entries.items = found_below c.self.inside.newest c.self.inside.entries.items c.args.name c.in-Some.at.now c.self.invariant got in
    rw c.self.inside.entries.ok.0 below

pub returns-in-None : goal.returns-in-None
returns-in-None c =
    let got : get name_cmp c.self.inside.newest c.args.name ≡ None = sym ((c.in-None.ensures {u = tt}).value) in
    let none = found_none c.self.inside.newest c.self.inside.entries.items c.args.name c.self.invariant got in
    sym none ∙ (λ i. find c.args.name.now (c.self.view_is i))

pub returns-in-Some : goal.returns-in-Some
returns-in-Some c =
    let got : get name_cmp c.self.inside.newest c.args.name ≡ Some c.in-Some.at.now = sym ((c.in-Some.ensures {u = tt}).value) in
    let e = c.index.result.now in
    let found = found_at c.self.inside.newest c.self.inside.entries.items c.args.name c.in-Some.at.now e c.self.invariant got in
    (λ i. Some (c.index.ensures i).number) ∙ sym found.1 ∙ (λ i. find c.args.name.now (c.self.view_is i))
