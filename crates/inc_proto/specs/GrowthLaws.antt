-- What a session's own events are in a history that grew by them: laws of `Growth`.
use Rattle.std.specs.Prelude.{◌≡◌, ◌≢◌, ℕ, ◌==◌, ◌++◌, cond, List, [], ◌∷◌, Option, Some, None, refl}
use Rattle.std.specs.List.{AllByRecursion}
use Rattle.std.proofs.Common.{ap, ◌∙◌, eq-eqb, sym, subst, append_assoc, inl}
use Rattle.std.proofs.lemmas.Bool.{ne_eqb}
use Rattle.inc_base.specs.declared.job.Job.{Job}
use Rattle.inc_fs.specs.State.{IsIn}
use Rattle.inc_fs.specs.declared.op.Op.{Op}
use Rattle.inc_fs.specs.declared.op.Reply.{Reply}
use Rattle.inc_proto.specs.declared.event.Event.{Event}
use Rattle.inc_proto.specs.declared.event.Event.TheVariants.{Begin, Did, Left}
use Rattle.inc_proto.specs.Events.{own_steps, did, latest, Steps}
use Rattle.inc_proto.specs.Growth.{IsOfOther, IsOfOthers, IsNumbered, Grows, GrowsBy, TellsOn, TellsBy}

other : {A : Type 0} (number who : ℕ) (x y : A) → number ≢ who → cond (number == who) x y ≡ y
other number who x y apart = ap (λ b. cond b x y) (ne_eqb number who apart)

itself : {A : Type 0} (who : ℕ) (x y : A) → cond (who == who) x y ≡ x
itself who x y = ap (λ b. cond b x y) (eq-eqb who who refl)

-- others' events leave a session's own steps alone
pub others_keep_steps : (who : ℕ) (others old : List Event) → AllByRecursion (IsOfOther who) others → own_steps who (others ++ old) ≡ own_steps who old
others_keep_steps who [] old h = refl
others_keep_steps who (Begin number job ∷ others) old h = other number who _ _ h.0 ∙ others_keep_steps who others old h.1
others_keep_steps who (Did number op reply ∷ others) old h = other number who _ _ h.0 ∙ others_keep_steps who others old h.1
others_keep_steps who (Left number op cut ∷ others) old h = others_keep_steps who others old h.1

-- events of none of these sessions are of another than each of them
pub of_other : (own : List ℕ) (who : ℕ) → IsIn own who → (others : List Event) → AllByRecursion (IsOfOthers own) others → AllByRecursion (IsOfOther who) others
of_other own who its [] h = tt
of_other own who its (event ∷ others) h = ((λ same. h.0 (subst (IsIn own) (sym same) its)), of_other own who its others h.1)

-- the number that was put before the others is among them
pub latest_own : (old new : List ℕ) → new ≡ latest new ∷ old → IsIn new (latest new)
latest_own old [] is = absurd (cc)
latest_own old (number ∷ numbers) is = inl refl

all_both : (own : List ℕ) (xs ys : List Event) → AllByRecursion (IsOfOthers own) xs → AllByRecursion (IsOfOthers own) ys → AllByRecursion (IsOfOthers own) (xs ++ ys)
all_both own [] ys h k = k
all_both own (x ∷ xs) ys h k = (h.0, all_both own xs ys h.1 k)

-- Whatever could have happened.
module _ (could : List Event → Type 0) where
  pub steps_begun : (own : List ℕ) (who : ℕ) (job : Job) (old new : List Event) → Grows could own old new (Begin who job ∷ []) → own_steps who new ≡ []
  steps_begun own who job old new g = ap (own_steps who) g.is ∙ itself who _ _

  pub steps_done : (own : List ℕ) (who : ℕ) → IsIn own who → (op : Op) (reply : Reply) (old new : List Event) → Grows could own old new (Did who op reply ∷ [])
      → own_steps who new ≡ (op, reply) ∷ own_steps who old
  steps_done own who its op reply old new g =
      ap (own_steps who) g.is ∙ itself who _ _ ∙ ap (λ steps. (op, reply) ∷ steps) (others_keep_steps who g.others old (of_other own who its g.others g.by_others))

  pub steps_left : (own : List ℕ) (who : ℕ) → IsIn own who → (during : Option Op) (cut : ℕ) (old new : List Event) → Grows could own old new (Left who during cut ∷ [])
      → own_steps who new ≡ own_steps who old
  steps_left own who its during cut old new g = ap (own_steps who) g.is ∙ others_keep_steps who g.others old (of_other own who its g.others g.by_others)

  -- a session that began and made these steps has them as its own
  pub steps_of_run : (own : List ℕ) (who : ℕ) → IsIn own who → (job : Job) (steps : Steps) (old new : List Event) → GrowsBy could own old new (did who steps ++ Begin who job ∷ [])
      → own_steps who new ≡ steps
  steps_of_run own who its job [] old new (mid, before, g) = steps_begun own who job mid new g
  steps_of_run own who its job (step ∷ steps) old new (mid, before, g) =
      steps_done own who its step.0 step.1 mid new g ∙ ap (λ steps. step ∷ steps) (steps_of_run own who its job steps old mid before)

  -- and so has one that left then
  pub steps_of_whole : (own : List ℕ) (who : ℕ) → IsIn own who → (job : Job) (steps : Steps) (old new : List Event)
      → GrowsBy could own old new (Left who None 0 ∷ (did who steps ++ Begin who job ∷ [])) → own_steps who new ≡ steps
  steps_of_whole own who its job steps old new (mid, before, g) = steps_left own who its None 0 mid new g ∙ steps_of_run own who its job steps old mid before

  -- what could have happened before could have happened after
  pub possible_after : (own : List ℕ) (events old new : List Event) → GrowsBy could own old new events → could old → could new
  possible_after own [] old new g p = subst could (sym g) p
  possible_after own (event ∷ events) old new (mid, before, g) p = g.possible (possible_after own events old mid before p)

  -- others' events before a growth belong to it
  pub grows_later : (own : List ℕ) (old mid new last : List Event) → Grows could own old mid [] → Grows could own mid new last → Grows could own old new last
  grows_later own old mid new last a b =
      let joined : b.others ++ mid ≡ (b.others ++ a.others) ++ old = ap (λ events. b.others ++ events) a.is ∙ sym (append_assoc b.others a.others old) in
      record {
        others = b.others ++ a.others;
        is = b.is ∙ ap (λ events. last ++ events) joined;
        by_others = all_both own b.others a.others b.by_others a.by_others;
        numbered = subst (λ events. IsNumbered events last) joined b.numbered;
        possible = λ p. b.possible (a.possible p);
      }

  -- The same laws for a history that is told or not.
  pub tells_nothing : (own : List ℕ) (old : Option (List Event)) → TellsBy could own old old []
  tells_nothing own None = refl
  tells_nothing own (Some old) = refl

  told_not_on : (own : List ℕ) (mid new : Option (List Event)) (last : List Event) → mid ≡ None → TellsOn could own mid new last → new ≡ None
  told_not_on own None new last b t = t
  told_not_on own (Some mid) new last b t = absurd (cc)

  pub tells_then : (own : List ℕ) (old mid new : Option (List Event)) (event : Event) (events : List Event)
      → TellsBy could own old mid events → TellsOn could own mid new (event ∷ []) → TellsBy could own old new (event ∷ events)
  tells_then own None mid new event events b t = told_not_on own mid new (event ∷ []) b t
  tells_then own (Some old) None new event events b t = absurd b
  tells_then own (Some old) (Some mid) None event events b t = absurd t
  tells_then own (Some old) (Some mid) (Some new) event events b t = (mid, b, t)

  pub tells_later : (own : List ℕ) (old mid new : Option (List Event)) (last : List Event)
      → TellsOn could own old mid [] → TellsOn could own mid new last → TellsOn could own old new last
  tells_later own None mid new last a b = told_not_on own mid new last a b
  tells_later own (Some old) None new last a b = absurd a
  tells_later own (Some old) (Some mid) None last a b = absurd b
  tells_later own (Some old) (Some mid) (Some new) last a b = grows_later own old mid new last a b

  grows_not : (own : List ℕ) (history : List Event) → Grows could own history history []
  grows_not own history = record { others = []; is = refl; by_others = tt; numbered = tt; possible = λ p. p }

  -- a history that stays as it was
  pub tells_same : (own : List ℕ) (told : Option (List Event)) → TellsOn could own told told []
  tells_same own None = refl
  tells_same own (Some history) = grows_not own history

  grows_both : (own : List ℕ) (old mid new first later : List Event) → GrowsBy could own old mid first → GrowsBy could own mid new later → GrowsBy could own old new (later ++ first)
  grows_both own old mid new first [] a b = subst (λ events. GrowsBy could own old events first) (sym b) a
  grows_both own old mid new first (event ∷ later) a (between, b, g) = (between, grows_both own old mid between first later a b, g)

  told_not_by : (own : List ℕ) (mid new : Option (List Event)) (later : List Event) → mid ≡ None → TellsBy could own mid new later → new ≡ None
  told_not_by own None new later a b = b
  told_not_by own (Some mid) new later a b = absurd (cc)

  -- one growth after another
  pub tells_both : (own : List ℕ) (old mid new : Option (List Event)) (first later : List Event)
      → TellsBy could own old mid first → TellsBy could own mid new later → TellsBy could own old new (later ++ first)
  tells_both own None mid new first later a b = told_not_by own mid new later a b
  tells_both own (Some old) None new first later a b = absurd a
  tells_both own (Some old) (Some mid) None first later a b = absurd b
  tells_both own (Some old) (Some mid) (Some new) first later a b = grows_both own old mid new first later a b

  -- a history grows by one event, after which it could have happened
  pub grows_alone : (own : List ℕ) (old : List Event) (event : Event) → IsNumbered old (event ∷ []) → could (event ∷ old) → Grows could own old (event ∷ old) (event ∷ [])
  grows_alone own old event numbered after =
      record { others = []; is = refl; by_others = tt; numbered = numbered; possible = λ _. after }
