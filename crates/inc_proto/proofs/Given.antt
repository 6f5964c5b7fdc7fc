-- From the hold of a name to the step that gave its handle.
use Rattle.std.specs.Prelude.{◌≡◌, ◌≢◌, ◌⊎◌, ◌==◌, ℕ, Bool, true, false, cond, refl, [], ◌∷◌, Option, Some, None, IsTrue, IsFalse, IfOk, Ok, Err, ◌↔◌, unwrap_or}
use Rattle.std.proofs.Common.{ap, sym, ◌∙◌, subst, inl, inr}
use Rattle.std.proofs.lemmas.Bool.{false≢true}
use Rattle.std.proofs.lemmas.Bool.Decides.{eqb_tells}
use Rattle.inc_fs.specs.Paths.{Text}
use Rattle.inc_fs.specs.declared.op.Op.{Op}
use Rattle.inc_fs.specs.declared.op.Op.TheVariants.{MakeLock, OpenLock, Close}
use Rattle.inc_fs.specs.declared.op.Reply.{Reply}
use Rattle.inc_fs.specs.declared.op.Reply.TheVariants.{Handle, Done}
use Rattle.inc_names.specs.declared.session.SessionName.{SessionName}
use Rattle.inc_names.specs.Entries.{lock_text}
use Rattle.inc_proto.specs.Events.{Steps}
use Rattle.inc_proto.specs.Views.{Opening, opening, HasAny}
use Rattle.inc_proto.specs.Views.Opening.{Made, Opened}
use Rattle.inc_proto.specs.Sought.{IsOnBy, IsGiven, Holds, held, Answers}
use Rattle.inc_proto.specs.declared.holds.Way.{Way}
use Rattle.inc_proto.specs.declared.holds.Way.TheVariants.{Alone, ByOpening}
use Rattle.inc_proto.specs.declared.holds.Question.{Question}
use Rattle.std.specs.declared.result.Result.{Result}
use Rattle.inc_base.specs.declared.memory.Memory.{Memory}

same_if : (n m : ℕ) → n == m ≡ true → n ≡ m
same_if n m is = go (eqb_tells n m)
  where
    go : ((n == m ≡ true) × (n ≡ m)) ⊎ ((n == m ≡ false) × (n ≢ m)) → n ≡ m
    go (inl both) = both.1
    go (inr both) = absurd (false≢true (sym both.0 ∙ is))

made_given : (way : Way) (k e krate entry : Text) (handle h : ℕ) (before : Option Opening) (b : Bool) → (b ≡ true → handle ≡ h)
    → IsOnBy way krate entry (cond b (Some (Made k e)) before) → ((k ≡ krate) × (e ≡ entry) × (handle ≡ h)) ⊎ IsOnBy way krate entry before
made_given Alone k e krate entry handle h before true same on = inl (on.0, on.1, same refl)
made_given ByOpening k e krate entry handle h before true same on = absurd on
made_given way k e krate entry handle h before false same on = inr on

opened_given : (way : Way) (k e krate entry : Text) (handle h : ℕ) (before : Option Opening) (b : Bool) → (b ≡ true → handle ≡ h)
    → IsOnBy way krate entry (cond b (Some (Opened k e)) before) → ((k ≡ krate) × (e ≡ entry) × (handle ≡ h)) ⊎ IsOnBy way krate entry before
opened_given Alone k e krate entry handle h before true same on = inl (on.0, on.1, same refl)
opened_given ByOpening k e krate entry handle h before true same on = inl (on.0, on.1, same refl)
opened_given way k e krate entry handle h before false same on = inr on

closed_given : (way : Way) (krate entry : Text) (before : Option Opening) (b : Bool) → IsOnBy way krate entry (cond b None before) → IsOnBy way krate entry before
closed_given Alone krate entry before true on = absurd on
closed_given ByOpening krate entry before true on = absurd on
closed_given way krate entry before false on = on

either : {A B C : Type 0} → A ⊎ B → (B → C) → A ⊎ C
either (inl a) f = inl a
either (inr b) f = inr (f b)

-- a handle that is open on a lock file was given on it
pub on_given : (way : Way) (krate entry : Text) (h : ℕ) (steps : Steps) → IsOnBy way krate entry (opening h steps) → HasAny (IsGiven krate entry h) steps
on_given Alone krate entry h [] on = absurd on
on_given ByOpening krate entry h [] on = absurd on
on_given way krate entry h ((MakeLock k e, Handle handle) ∷ steps) on =
    either (made_given way k e krate entry handle h (opening h steps) (handle == h) (same_if handle h) on) (on_given way krate entry h steps)
on_given way krate entry h ((OpenLock k e, Handle handle) ∷ steps) on =
    either (opened_given way k e krate entry handle h (opening h steps) (handle == h) (same_if handle h) on) (on_given way krate entry h steps)
on_given way krate entry h ((Close handle, Done) ∷ steps) on =
    inr (on_given way krate entry h steps (closed_given way krate entry (opening h steps) (handle == h) on))
on_given way krate entry h (step ∷ steps) on = inr (on_given way krate entry h steps on)

-- what the steps since a hold answer
pub held_answers : (way : Way) (krate : Text) (n : SessionName) (steps : Steps) (h : ℕ) (question : Question) (tail : Steps)
    → IsOnBy way krate (lock_text n) (opening h steps) → held way h steps ≡ Some tail
    → (r : Result Bool Memory) → IfOk r (λ yes. IsTrue yes ↔ Answers question tail)
    → IfOk r (λ yes. IsTrue yes ↔ ((after : Steps) × Holds way krate n steps h after × Answers question after))
held_answers way krate n steps h question tail on is (Ok b) f =
    (λ t. (tail, (on, is), f.0 t), λ w. f.1 (subst (Answers question) (ap (λ o. unwrap_or o tail) (sym w.1.1 ∙ is)) w.2))
held_answers way krate n steps h question tail on is (Err e) f = f

-- and where there is no hold
pub not_held : (way : Way) (krate : Text) (n : SessionName) (steps : Steps) (h : ℕ) (question : Question) → held way h steps ≡ None
    → IsTrue false ↔ ((after : Steps) × Holds way krate n steps h after × Answers question after)
not_held way krate n steps h question is =
    (λ t. absurd (false≢true t), λ w. absurd (no_some (sym is ∙ w.1.1)))
  where
    no_some : {x : Steps} → None ≡ Some x → ⊥
    no_some e = cc

-- what a handle answers, a step that gave it answers
pub yes_given : (way : Way) (krate : Text) (n : SessionName) (steps : Steps) (h : ℕ) (question : Question)
    → (r : Result Bool Memory) → IfOk r (λ yes. IsTrue yes ↔ ((after : Steps) × Holds way krate n steps h after × Answers question after))
    → IfOk r (λ yes. IsTrue yes → ((h : ℕ) × (after : Steps) × Holds way krate n steps h after × Answers question after))
yes_given way krate n steps h question (Ok b) f = λ t. let w = f.0 t in (h, w.0, w.1, w.2)
yes_given way krate n steps h question (Err e) f = f

pub no_given : (way : Way) (krate : Text) (n : SessionName) (steps : Steps) (at : ℕ) (question : Question) (step : Op × Reply)
    → ((h : ℕ) → IsGiven krate (lock_text n) h step → Some at ≡ Some h)
    → (r : Result Bool Memory) → IfOk r (λ yes. IsTrue yes ↔ ((after : Steps) × Holds way krate n steps at after × Answers question after))
    → IfOk r (λ yes. IsFalse yes → (h : ℕ) (after : Steps) → IsGiven krate (lock_text n) h step → Holds way krate n steps h after → Answers question after → ⊥)
no_given way krate n steps at question step given (Ok b) f = λ no h after is holds answers.
    false≢true (sym no ∙ f.1 (after, subst (λ k. Holds way krate n steps k after) (sym (ap (λ o. unwrap_or o at) (given h is))) holds, answers))
no_given way krate n steps at question step given (Err e) f = f
