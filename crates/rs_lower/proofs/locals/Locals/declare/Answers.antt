use Rattle.std.proofs.Common.{◌≡◌, [], ◌∷◌, ◌++◌, length, map, ap, ◌∙◌}
use Rattle.rs_lower.specs.Held.{local_of, shown}
use Rattle.rs_lower.proofs.HeldLemmas.{declared}
use Rattle.rs_lower.proofs.locals.Locals.declare.Goals as goal

pub returns-in-Ok : goal.returns-in-Ok
returns-in-Ok c =
    let hs = c.self.inside.held.items in
    let es = c.self.inside.scope in
    let grown : c.push.new.self.items ≡ hs ++ c.args.held ∷ [] = c.in_ok-push.ensures.items in
    let number : c.len-number.result ≡ length hs = c.len-number.ensures ∙ c.self.inside.held.ok.0 in
    let more : c.declare.new.self ≡ (c.args.name.now, length hs) ∷ es = c.in-Ok.ensures.ok ∙ (λ j. (c.args.name.now, number j) ∷ es) in
    let both : map (shown c.push.new.self.items) c.declare.new.self ≡ map (shown (hs ++ c.args.held ∷ [])) ((c.args.name.now, length hs) ∷ es) = (λ j. map (shown (grown j)) (more j)) in
    both ∙ declared hs c.args.held c.args.name.now es c.self.invariant ∙ ap (λ z. local_of c.args.name.now c.args.held ∷ z) c.self.view_is
