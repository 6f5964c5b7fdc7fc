-- What a step does to a reading of each session's own steps.
use Rattle.std.specs.Prelude.{◌≡◌, ◌==◌, ℕ, Bool, true, false, cond, List, ◌∷◌, refl}
use Rattle.std.proofs.Common.{ap, sym, subst}
use Rattle.std.proofs.lemmas.Bool.{eqb-true}
use Rattle.inc_fs.specs.Points.{with_at}
use Rattle.inc_fs.specs.declared.op.Op.{Op}
use Rattle.inc_fs.specs.declared.op.Reply.{Reply}
use Rattle.inc_proto.specs.declared.event.Event.{Event}
use Rattle.inc_proto.specs.declared.event.Event.TheVariants.{Did}
use Rattle.inc_proto.specs.Events.{Steps, own_steps}

-- it changes at the session that made the step, or not at all
module _ {X : Type 0} (f : Steps → X) (who : ℕ) (op : Op) (reply : Reply) (H : List Event) where
  pub at_step : (λ w. f (own_steps w (Did who op reply ∷ H))) ≡ with_at (λ w. f (own_steps w H)) who (f ((op, reply) ∷ own_steps who H))
  at_step = λ i w. go (who == w) w refl i
    where
      go : (b : Bool) (w : ℕ) → who == w ≡ b → f (cond b ((op, reply) ∷ own_steps w H) (own_steps w H)) ≡ cond b (f ((op, reply) ∷ own_steps who H)) (f (own_steps w H))
      go true w is = ap (λ v. f ((op, reply) ∷ own_steps v H)) (sym (eqb-true who w is))
      go false w is = refl

  pub no_step : f ((op, reply) ∷ own_steps who H) ≡ f (own_steps who H) → ◌≡◌ {A = ℕ → X} (λ w. f (own_steps w (Did who op reply ∷ H))) (λ w. f (own_steps w H))
  no_step e = λ i w. go (who == w) w refl i
    where
      go : (b : Bool) (w : ℕ) → who == w ≡ b → f (cond b ((op, reply) ∷ own_steps w H) (own_steps w H)) ≡ f (own_steps w H)
      go true w is = subst (λ v. f ((op, reply) ∷ own_steps v H) ≡ f (own_steps v H)) (eqb-true who w is) e
      go false w is = refl
