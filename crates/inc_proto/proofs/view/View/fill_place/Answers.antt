use Rattle.std.proofs.Common.{◌≡◌, ◌∷◌, ◌-◌, ℕ, suc, length, reverse, ap, sym, ◌∙◌, subst, arith}
use Rattle.std.proofs.lemmas.List.{reverse-reverse, length-reverse}
use Rattle.inc_fs.specs.declared.op.Op.{Op}
use Rattle.inc_fs.specs.declared.op.Op.TheVariants.{Draw}
use Rattle.inc_fs.specs.declared.op.Reply.{Reply}
use Rattle.inc_fs.specs.declared.op.Reply.TheVariants.{Fault}
use Rattle.inc_proto.specs.Events.{Steps}
use Rattle.inc_proto.specs.Seen.{Seen, AreOf}
use Rattle.inc_proto.proofs.Brought.{brought}
use Rattle.inc_proto.proofs.Turned.{first_is_last, last_is_first}
use Rattle.inc_proto.proofs.view.View.fill_place.Goals as goal

pub invariant_of-self : goal.invariant_of-self
invariant_of-self c =
    let inside = c.self.inside in
    let rest = c.requires.0 in
    let step : Op × Reply = (c.args.op, c.args.reply) in
    let was : reverse inside.steps ≡ (Draw, Fault) ∷ rest = ap (λ v. v.steps) c.self.view_is ∙ c.requires.1 in
    let now = c.set_last.ensures (reverse rest) (Draw, Fault) (first_is_last inside.steps (Draw, Fault) rest was) in
    let P : Steps → Type 0 = λ s. AreOf s inside.drawn inside.lock inside.kept inside.index in
    let before = subst (λ k. AreOf ((Draw, Fault) ∷ rest) inside.drawn inside.lock k inside.index) (sym c.replace-kept.ensures.value) (subst P was c.self.invariant) in
    let at_is : c.len.result - 1 ≡ length rest = less_one (c.len.ensures.value ∙ sym (length-reverse inside.steps) ∙ ap length was) in
    let steps_are = ap reverse now ∙ last_is_first (reverse rest) step ∙ ap (λ s. step ∷ s) (reverse-reverse rest) in
    subst (λ k. AreOf (reverse c.set_last.new.self) c.name_after-self-inside.result c.own_after-self-inside.result k c.bring_index.new.kept) (sym c.replace.ensures.after)
    (subst (λ s. AreOf s c.name_after-self-inside.result c.own_after-self-inside.result c.kept_after-next.result c.bring_index.new.kept) (sym steps_are)
    (brought step before c.name_after-self-inside.ensures c.own_after-self-inside.ensures c.kept_after-next.ensures at_is c.bring_index.ensures))
  where
    less_one : {n m : ℕ} → n ≡ suc m → n - 1 ≡ m
    less_one same = omega arith

pub returns : goal.returns
returns c = λ steps is.
    let inside = c.self.inside in
    let filled : Op × Reply = (c.args.op, c.args.reply) in
    let was : reverse inside.steps ≡ (Draw, Fault) ∷ steps = ap (λ v. v.steps) c.self.view_is ∙ is in
    let now = c.set_last.ensures (reverse steps) (Draw, Fault) (first_is_last inside.steps (Draw, Fault) steps was) in
    let with_steps : Steps → Seen = λ s. record { number = inside.who; job = inside.job; steps = s } in
    rw (← c.self.view_is) (ap with_steps (ap reverse now ∙ last_is_first (reverse steps) filled ∙ ap (λ s. filled ∷ s) (reverse-reverse steps)))
