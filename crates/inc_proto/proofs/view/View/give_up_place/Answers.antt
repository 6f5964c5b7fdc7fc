use Rattle.std.proofs.Common.{◌≡◌, ◌∷◌, reverse, ap, sym, ◌∙◌, subst}
use Rattle.std.proofs.lemmas.List.{reverse-reverse}
use Rattle.inc_fs.specs.declared.op.Op.TheVariants.{Draw}
use Rattle.inc_fs.specs.declared.op.Reply.TheVariants.{Fault}
use Rattle.inc_proto.specs.Events.{Steps}
use Rattle.inc_proto.specs.Seen.{Seen, AreOf}
use Rattle.inc_proto.proofs.Brought.{without_place}
use Rattle.inc_proto.proofs.Turned.{first_is_last}
use Rattle.inc_proto.proofs.view.View.give_up_place.Goals as goal

pub invariant_of-self : goal.invariant_of-self
invariant_of-self c =
    let inside = c.self.inside in
    let rest = c.requires.0 in
    let was : reverse inside.steps ≡ (Draw, Fault) ∷ rest = ap (λ v. v.steps) c.self.view_is ∙ c.requires.1 in
    let now = c.drop_last.ensures.last (reverse rest) (Draw, Fault) (first_is_last inside.steps (Draw, Fault) rest was) in
    let P : Steps → Type 0 = λ s. AreOf s inside.drawn inside.lock inside.kept inside.index in
    subst P (sym (ap reverse now ∙ reverse-reverse rest)) (without_place (subst P was c.self.invariant))

pub returns : goal.returns
returns c = λ steps is.
    let inside = c.self.inside in
    let was : reverse inside.steps ≡ (Draw, Fault) ∷ steps = ap (λ v. v.steps) c.self.view_is ∙ is in
    let now = c.drop_last.ensures.last (reverse steps) (Draw, Fault) (first_is_last inside.steps (Draw, Fault) steps was) in
    let with_steps : Steps → Seen = λ s. record { number = inside.who; job = inside.job; steps = s } in
    rw (← c.self.view_is) (ap with_steps (ap reverse now ∙ reverse-reverse steps))
