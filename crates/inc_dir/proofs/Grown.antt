-- Histories that grow by others' steps and own ones.
use Rattle.std.proofs.Common.{◌≡◌, ◌⊎◌, inl, inr, ℕ, zero, suc, List, [], ◌∷◌, ◌++◌, reverse, subst, sym, ap, ◌∙◌, drop, length, ◌+◌, ◌<◌, Contains, Option, Some, None, IsSome, refl, Bool, true, false, cond, slice_get, slice_index_or, arith, append_assoc, append-nil, eq-eqb}
use Rattle.std.specs.List.{AllByRecursion}
use Rattle.std.proofs.lemmas.List.{drop-drop, reverse-append}
use Rattle.std.proofs.lemmas.List.Elements.{filter-append}
use Rattle.std.proofs.Math.Seq.{drop-length}
use Rattle.inc_base.specs.declared.job.Job.{Job}
use Rattle.inc_fs.specs.State.{IsIn}
use Rattle.inc_fs.specs.declared.op.Op.{Op}
use Rattle.inc_fs.specs.declared.op.Op.TheVariants.{Rename}
use Rattle.inc_fs.specs.declared.op.Reply.{Reply}
use Rattle.inc_proto.specs.declared.event.Event.{Event}
use Rattle.inc_proto.specs.declared.event.Event.TheVariants.{Did}
use Rattle.inc_proto.specs.Events.{latest}
use Rattle.inc_proto.specs.Files.{Files}
use Rattle.inc_proto.specs.Growth.{Grows, IsNumbered, IsOfOthers}
use Rattle.inc_proto.specs.GrowthLaws.{of_other}
use Rattle.inc_proto.specs.Legal.{World, IsLegal, MayDo, view_of}
use Rattle.inc_proto.specs.LegalLaws.{others_keep_may, others_keep_view}
use Rattle.inc_proto.proofs.Anys.{in_at, in_end, in_last, in_left}
use Rattle.inc_dir.specs.Promises.{IsOwed, IsPublishing, IsRename, TellsStep}
use Rattle.inc_dir.specs.Memories.{Remembering, AreMade, IsMade, HasLooked, HasActed, HasAnswered, due_of, is_due, session_of}
use Rattle.inc_dir.specs.Kept.{IsKept}
use Rattle.inc_dir.specs.declared.foreign.Foreign.{Foreign}

-- what is left once one more is used up, if there is one
pub used_up : {A : Type 0} (xs : List A) (at next : ℕ) → (at < length xs) × (next ≡ at + 1) ⊎ (at ≡ length xs) × (next ≡ length xs) → drop next xs ≡ drop 1 (drop at xs)
used_up xs at next (inl (more, is)) = ap (λ n. drop n xs) is ∙ sym (drop-drop 1 at xs)
used_up xs at next (inr (all, is)) =
    ap (λ n. drop n xs) is ∙ drop-length xs ∙ sym (ap (λ n. drop 1 (drop n xs)) all ∙ ap (λ l. drop 1 l) (drop-length xs))

-- ---- Others' steps, one after another.

drop_one : {A : Type 0} (xs : List A) (at : ℕ) (x : A) → slice_get xs at ≡ Some x → drop at xs ≡ x ∷ drop (at + 1) xs
drop_one [] at x is = absurd (cc)
drop_one (y ∷ xs) zero x is = cc
drop_one (y ∷ xs) (suc at) x is = let next : suc (at + 1) ≡ suc at + 1 = omega arith in drop_one xs at x is ∙ ap (λ n. x ∷ drop n (y ∷ xs)) next

made_more : (files : Files) (own : List ℕ) (steps : List Foreign) (step : Foreign) (old mid new : World) → AreMade files own steps old mid → IsMade files own step mid new
    → AreMade files own (steps ++ step ∷ []) old new
made_more files own [] step old mid new made one = (new, subst (λ w. IsMade files own step w new) made one, refl)
made_more files own (first ∷ steps) step old mid new (next, made, rest) one = (next, made, made_more files own steps step next mid new rest one)

due_more : (acts : ℕ) (front : List Foreign) (step : Foreign) (due : Bool) → is_due acts step ≡ due → due_of acts (front ++ step ∷ []) ≡ due_of acts front ++ cond due (step ∷ []) []
due_more acts front step due is = filter-append (is_due acts) front (step ∷ []) ∙ ap (λ b. due_of acts front ++ cond b (step ∷ []) []) is

front_more : {A : Type 0} (front : List A) (x : A) (all rest later : List A) → all ≡ front ++ rest → rest ≡ x ∷ later → all ≡ (front ++ x ∷ []) ++ later
front_more front x all rest later is more = is ∙ ap (λ l. front ++ l) more ∙ sym (append_assoc front (x ∷ []) later)

module _ (files : Files) (own : List ℕ) (acts : ℕ) (between : List Foreign) (from : ℕ) (old : World) where
  -- none was looked at yet
  pub looks_none : HasLooked files own acts between from old from old
  looks_none = record { front = []; front_is = refl; made = refl }

  -- one more was, which is due,
  pub looks_due : (to : ℕ) (mid new : World) (step : Foreign) → HasLooked files own acts between from old to mid → slice_get between to ≡ Some step
      → is_due acts step ≡ true → IsMade files own step mid new → HasLooked files own acts between from old (to + 1) new
  looks_due to mid new step looks at due made = record {
    front = looks.front ++ step ∷ [];
    front_is = front_more looks.front step (drop from between) (drop to between) (drop (to + 1) between) looks.front_is (drop_one between to step at);
    made = subst (λ steps. AreMade files own steps old new) (sym (due_more acts looks.front step true due)) (made_more files own (due_of acts looks.front) step old mid new looks.made made);
  }

  -- or isn't
  pub looks_past : (to : ℕ) (mid : World) (step : Foreign) → HasLooked files own acts between from old to mid → slice_get between to ≡ Some step
      → is_due acts step ≡ false → HasLooked files own acts between from old (to + 1) mid
  looks_past to mid step looks at due = record {
    front = looks.front ++ step ∷ [];
    front_is = front_more looks.front step (drop from between) (drop to between) (drop (to + 1) between) looks.front_is (drop_one between to step at);
    made = subst (λ steps. AreMade files own steps old mid) (sym (due_more acts looks.front step false due ∙ append-nil (due_of acts looks.front))) looks.made;
  }

-- ---- What others' steps add to a history.

pub record Adds (own : List ℕ) (old new : List Event) : Type 0 where
  pub others : List Event
  pub is : new ≡ others ++ old
  pub by_others : AllByRecursion (IsOfOthers own) others

made_add : (files : Files) (own : List ℕ) (steps : List Foreign) (base others : List Event) (old new : World) → old.history ≡ others ++ base → AllByRecursion (IsOfOthers own) others
    → AreMade files own steps old new → Adds own base new.history
made_add files own [] base others old new is by_others made = record { others = others; is = ap (λ w. w.history) made ∙ is; by_others = by_others }
made_add files own (step ∷ steps) base others old new is by_others (mid, inl (may, reply, did), rest) =
    made_add files own steps base (Did step.who step.op reply ∷ others) mid new (did.history ∙ ap (λ h. Did step.who step.op reply ∷ h) is) (may.0, by_others) rest
made_add files own (step ∷ steps) base others old new is by_others (mid, inr (not, kept), rest) =
    made_add files own steps base others mid new (ap (λ w. w.history) kept ∙ is) by_others rest

pub made_adds : (files : Files) (own : List ℕ) (steps : List Foreign) (old new : World) → AreMade files own steps old new → Adds own old.history new.history
made_adds files own steps old new made = made_add files own steps old.history [] old new refl tt made

pub looked_adds : (files : Files) (own : List ℕ) (acts : ℕ) (between : List Foreign) (from to : ℕ) (old mid : World) → HasLooked files own acts between from old to mid → Adds own old.history mid.history
looked_adds files own acts between from to old mid looks = made_adds files own (due_of acts looks.front) old mid looks.made

-- a legal history grew by others' steps and then by these events
pub grown_by : (files : Files) (own : List ℕ) (old mid new last : List Event) → Adds own old mid → new ≡ last ++ mid → IsNumbered mid last → IsLegal files new
    → Grows (IsLegal files) own old new last
grown_by files own old mid new last adds is numbered legal = record {
  others = adds.others;
  is = is ∙ ap (λ h. last ++ h) adds.is;
  by_others = adds.by_others;
  numbered = subst (λ h. IsNumbered h last) adds.is numbered;
  possible = λ _. legal;
}

-- ---- The own step.

publishing_renames : (op : Op) → IsPublishing op → IsRename op
publishing_renames (Rename krate from to) publishing = tt
publishing_renames op publishing = absurd publishing

-- a step that is owed may be made where the history is legal, and so it may after others' steps
pub owed_may : (files : Files) (clear : List Job → Type 0) (own : List ℕ) (old mid : List Event) (op : Op) → IsOwed files clear (Some old) own op → IsLegal files old → IsIn own (latest own)
    → Adds own old mid → (IsRename op → ⊥) → MayDo files mid (latest own) op
owed_may files clear own old mid op owed legal its adds other =
    let may = owed legal (λ publishing. absurd (other (publishing_renames op publishing))) in
    subst (λ h. MayDo files h (latest own) op) (sym adds.is)
    (others_keep_may files (latest own) op adds.others old (of_other own (latest own) its adds.others adds.by_others) may)

-- what is answered is told
pub answered_tells : (files : Files) (old new : Remembering) (op : Op) (reply : Reply) → HasAnswered files old op reply new → IsLegal files new.world.history
    → TellsStep files old.own (Some old.world.history) (Some new.world.history) op reply
answered_tells files old new op reply answered legal = elim answered.own [
  | inl refused ↦ inr (record {
    refusal = refused.refusal;
    others = grown_by files old.own old.world.history answered.mid.history new.world.history [] (made_adds files old.own _ old.world answered.mid answered.others)
        (ap (λ w. w.history) refused.kept) tt legal;
    unfit = λ may. refused.unfit (subst (λ w. MayDo files w.history (session_of old) op) refused.kept may);
  })
  | inr stepped ↦ inl (grown_by files old.own old.world.history answered.mid.history new.world.history (Did (session_of old) op reply ∷ []) (made_adds files old.own _ old.world answered.mid answered.others)
      stepped.history tt legal)
]

-- ---- The latest session runs on.

-- it sees something still after others' steps,
pub seen_beside : (own : List ℕ) (who : ℕ) (old new : List Event) → IsIn own who → Adds own old new → IsSome (view_of who old) → IsSome (view_of who new)
seen_beside own who old new its adds some =
    subst (λ h. IsSome (view_of who h)) (sym adds.is)
    (subst (λ sight. IsSome sight) (sym (others_keep_view who adds.others old (of_other own who its adds.others adds.by_others))) some)

-- ---- Lists that stand the other way round.

turned_in : (xs : List ℕ) (x : ℕ) → IsIn (reverse xs) x → IsIn xs x
turned_in [] x h = h
turned_in (y ∷ xs) x h = elim (in_last (reverse xs) y x (subst (λ l. IsIn l x) (reverse-append (y ∷ []) xs) h)) [
  | inl l ↦ inr (turned_in xs x l)
  | inr is ↦ inl is
]

in_turned : (xs : List ℕ) (x : ℕ) → IsIn xs x → IsIn (reverse xs) x
in_turned [] x its = absurd its
in_turned (y ∷ xs) x (inl is) = subst (λ l. IsIn l x) (sym (reverse-append (y ∷ []) xs)) (in_end (reverse xs) y x is)
in_turned (y ∷ xs) x (inr h) = subst (λ l. IsIn l x) (sym (reverse-append (y ∷ []) xs)) (in_left (reverse xs) (y ∷ []) x (in_turned xs x h))

in_contained : (xs : List ℕ) (x : ℕ) → IsIn xs x → Contains xs x
in_contained [] x its = absurd its
in_contained (y ∷ xs) x (inl is) = (zero, omega arith, is)
in_contained (y ∷ xs) x (inr h) = let found = in_contained xs x h in (suc found.0, omega (arith, found.1), found.2)

-- what isn't contained isn't in the turned list, and the other way round
pub apart_turned : (xs : List ℕ) (x : ℕ) → ¬ Contains xs x → ¬ IsIn (reverse xs) x
apart_turned xs x apart its = apart (in_contained xs x (turned_in xs x its))

pub turned_apart : (xs : List ℕ) (x : ℕ) → ¬ IsIn (reverse xs) x → ¬ Contains xs x
turned_apart xs x apart its = apart (in_turned xs x (in_at xs its.0 x x its.1 its.2))

-- ---- An act.

-- what it keeps it keeps beside others' steps
pub kept_beside : (old new : World) (own : List ℕ) (number : ℕ) (runs : Bool) → IsKept old own number runs → Adds own old.history new.history → IsKept new own number runs
kept_beside old new own number runs kept adds = record {
  number_is = kept.number_is;
  among = kept.among;
  running = λ is. seen_beside own number old.history new.history (kept.among is) adds (kept.running is);
}

-- where all of others' steps were looked at, the own answer is the act's
pub acted_answers : (files : Files) (old new : Remembering) (mid : World) (to : ℕ) (op : Op) (reply : Reply) → HasLooked files old.own old.acts old.between old.looked old.world to mid
    → drop to old.between ≡ [] → HasActed files (record old { world = mid; looked = to }) op reply new → HasAnswered files old op reply new
acted_answers files old new mid to op reply looks all acted = record {
  mid = mid;
  others = subst (λ front. AreMade files old.own (due_of old.acts front) old.world mid) (sym (looks.front_is ∙ ap (λ l. looks.front ++ l) all ∙ append-nil looks.front)) looks.made;
  own = acted.own;
  rest = acted.rest;
}
