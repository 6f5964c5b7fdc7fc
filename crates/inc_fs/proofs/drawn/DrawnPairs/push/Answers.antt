use Rattle.std.proofs.Common.{rules, ◌≡◌, ◌∷◌, [], ◌++◌, ◌∙◌, ap, reverse}
use Rattle.std.proofs.lemmas.List.{reverse-append}
use Rattle.inc_fs.proofs.Skips.{skips_pushed}
use Rattle.inc_fs.proofs.drawn.DrawnPairs.push.Goals as goal

pub invariant_of-self-2 : goal.invariant_of-self-2
invariant_of-self-2 c =
    let items : c.push.new.self.items ≡ c.self.inside.in_order.items ++ (c.args.moment, c.args.random) ∷ [] = search rules in
    let listed : reverse c.push.new.self.items ≡ (c.args.moment, c.args.random) ∷ reverse c.self.inside.in_order.items = ap reverse items ∙ reverse-append c.self.inside.in_order.items ((c.args.moment, c.args.random) ∷ []) in
    rw (listed, c.in_ok-insert.ensures.ok) (skips_pushed (reverse c.self.inside.in_order.items) c.self.inside.skips c.args.moment c.args.random c.ranges.random.fits c.self.invariant)
