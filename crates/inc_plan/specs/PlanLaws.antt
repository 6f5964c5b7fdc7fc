-- Laws of plans.
use Rattle.std.specs.Prelude.{◌≡◌, [], ◌∷◌, ◌++◌, Some, refl, ◌⊎◌}
use Rattle.std.proofs.Common.{ap, ◌∙◌, sym, subst, inl, inr}
use Rattle.inc_fs.specs.declared.op.Op.{Op}
use Rattle.inc_fs.specs.declared.op.Reply.{Reply}
use Rattle.inc_proto.specs.Events.{Steps}
use Rattle.inc_plan.specs.Plan.{Plan, then, asks, fed, after, Follows, Ends, Judge, Safe, IsClosed}
use Rattle.inc_plan.specs.Plan.Plan.{Give, Ask}

-- Two parts. Either the steps are of the first alone, or they are all of the first and then of the second.
pub record Within {V W : Type 0} (first : Plan V) (next : V → Plan W) (steps : Steps) : Type 0 where
  pub follows : Follows first steps
  pub left : after (then first next) steps ≡ then (after first steps) next

pub record Past {V W : Type 0} (first : Plan V) (next : V → Plan W) (steps : Steps) : Type 0 where
  pub value : V
  pub before : Steps
  pub since : Steps
  pub is : steps ≡ since ++ before
  pub whole : Ends first before value
  pub follows : Follows (next value) since
  pub left : after (then first next) steps ≡ after (next value) since

-- one more step
within_more : {V W : Type 0} (first : Plan V) (next : V → Plan W) (op : Op) (reply : Reply) (steps : Steps) (now : Plan V)
    → after first steps ≡ now → Within first next steps → asks (then now next) ≡ Some op
    → Within first next ((op, reply) ∷ steps) ⊎ Past first next ((op, reply) ∷ steps)
within_more first next op reply steps (Give v) is w asked = inr (record {
  value = v;
  before = steps;
  since = (op, reply) ∷ [];
  is = refl;
  whole = record { follows = w.follows; ended = is };
  follows = (tt, asked);
  left = ap (λ plan. fed plan reply) (w.left ∙ ap (λ plan. then plan next) is);
})
within_more first next op reply steps (Ask o by) is w asked = inl (record {
  follows = (w.follows, ap asks is ∙ asked);
  left = ap (λ plan. fed plan reply) (w.left ∙ ap (λ plan. then plan next) is) ∙ sym (ap (λ plan. then (fed plan reply) next) is);
})

-- the steps of two parts are those of each
pub splits : {V W : Type 0} (first : Plan V) (next : V → Plan W) (steps : Steps) → Follows (then first next) steps → Within first next steps ⊎ Past first next steps
splits first next [] follows = inl (record { follows = tt; left = refl })
splits first next ((op, reply) ∷ steps) follows = elim (splits first next steps follows.0) [
  | inl w ↦ within_more first next op reply steps (after first steps) refl w (sym (ap asks w.left) ∙ follows.1)
  | inr p ↦ inr (record {
    value = p.value;
    before = p.before;
    since = (op, reply) ∷ p.since;
    is = ap (λ steps. (op, reply) ∷ steps) p.is;
    whole = p.whole;
    follows = (p.follows, sym (ap asks p.left) ∙ follows.1);
    left = ap (λ plan. fed plan reply) p.left;
  })
]

-- two parts are safe where each is, the second wherever the first ends
pub safe_then : {V W : Type 0} (judge : Judge) (Mid : V → Steps → Type 0) (Fits : W → Steps → Type 0) (first : Plan V) (next : V → Plan W) (steps : Steps)
    → Safe judge Mid first steps → ((v : V) (later : Steps) → Mid v later → Safe judge Fits (next v) later) → Safe judge Fits (then first next) steps
safe_then judge Mid Fits (Give v) next steps safe on = on v steps safe
safe_then judge Mid Fits (Ask op by) next steps safe on =
    (safe.0, λ reply can. safe_then judge Mid Fits (by reply) next ((op, reply) ∷ steps) (safe.1 reply can) on)

-- what a safe plan asks for is permitted
pub permitted : {V : Type 0} (judge : Judge) (Fits : V → Steps → Type 0) (plan : Plan V) (steps : Steps) (op : Op) → Safe judge Fits plan steps → asks plan ≡ Some op → judge.May steps op
permitted judge Fits (Give v) steps op safe asked = absurd (cc)
permitted judge Fits (Ask o by) steps op safe asked = subst (judge.May steps) (cc) safe.0

-- and it is safe after a reply
pub safe_fed : {V : Type 0} (judge : Judge) (Fits : V → Steps → Type 0) (plan : Plan V) (steps : Steps) (op : Op) (reply : Reply) → Safe judge Fits plan steps → asks plan ≡ Some op
    → judge.CanBe ((op, reply) ∷ steps) → Safe judge Fits (fed plan reply) ((op, reply) ∷ steps)
safe_fed judge Fits (Give v) steps op reply safe asked can = absurd (cc)
safe_fed judge Fits (Ask o by) steps op reply safe asked can =
    let same : o ≡ op = cc in
    subst (λ op. Safe judge Fits (by reply) ((op, reply) ∷ steps)) same (safe.1 reply (subst (λ op. judge.CanBe ((op, reply) ∷ steps)) (sym same) can))

-- so it is after all the steps by which it was followed
pub safe_after : {V : Type 0} (judge : Judge) (closed : IsClosed judge) (Fits : V → Steps → Type 0) (plan : Plan V) (steps : Steps) → Safe judge Fits plan [] → Follows plan steps
    → judge.CanBe steps → Safe judge Fits (after plan steps) steps
safe_after judge closed Fits plan [] safe follows can = safe
safe_after judge closed Fits plan ((op, reply) ∷ steps) safe follows can =
    safe_fed judge Fits (after plan steps) steps op reply (safe_after judge closed Fits plan steps safe follows.0 (closed (op, reply) steps can)) follows.1 can

-- The first of the steps by which a plan is followed, and the later ones.
pub record First {V : Type 0} (op : Op) (by : Reply → Plan V) (steps : Steps) : Type 0 where
  pub reply : Reply
  pub later : Steps
  pub is : steps ≡ later ++ (op, reply) ∷ []
  pub follows : Follows (by reply) later
  pub left : after (Ask op by) steps ≡ after (by reply) later

first_one : {V : Type 0} (op : Op) (by : Reply → Plan V) (o : Op) (reply : Reply) (steps : Steps) → steps ≡ [] → op ≡ o → First op by ((o, reply) ∷ steps)
first_one op by o reply steps none same = record {
  reply = reply;
  later = [];
  is = λ i. (sym same i, reply) ∷ none i;
  follows = tt;
  left = ap (λ steps. fed (after (Ask op by) steps) reply) none;
}

pub first_step : {V : Type 0} (op : Op) (by : Reply → Plan V) (steps : Steps) → Follows (Ask op by) steps → (steps ≡ []) ⊎ First op by steps
first_step op by [] follows = inl refl
first_step op by ((o, reply) ∷ steps) follows = elim (first_step op by steps follows.0) [
  | inl none ↦ inr (first_one op by o reply steps none (let here : Some op ≡ Some o = sym (ap (λ steps. asks (after (Ask op by) steps)) none) ∙ follows.1 in cc))
  | inr f ↦ inr (record {
    reply = f.reply;
    later = (o, reply) ∷ f.later;
    is = ap (λ steps. (o, reply) ∷ steps) f.is;
    follows = (f.follows, sym (ap asks f.left) ∙ follows.1);
    left = ap (λ plan. fed plan reply) f.left;
  })
]
