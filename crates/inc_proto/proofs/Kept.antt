-- What a ground keeps, by each of its events.
use Rattle.std.specs.Prelude.{◌≡◌, ◌≢◌, ◌⊎◌, ◌==◌, ◌<◌, ◌≤◌, ◌+◌, ◌-◌, ◌^◌, reverse, ◌++◌, ℕ, zero, suc, List, [], ◌∷◌, length, Bool, true, false, cond, refl, Option, Some, None, IsSome, slice_get, slice_set, unwrap_or}
use Rattle.std.proofs.Common.{ap, sym, ◌∙◌, subst, inl, inr, eq-eqb, arith, length-append, get_or}
use Rattle.std.proofs.lemmas.Bool.{ne_eqb}
use Rattle.std.proofs.lemmas.Bool.Decides.{eqb_tells}
use Rattle.std.proofs.lemmas.Option.{slice_get_within, slice_get_past, unwrap_or-slice_get}
use Rattle.std.proofs.lemmas.List.Sums.{sum_by-append, sum_by-set}
use Rattle.std.proofs.lemmas.List.{length-set}
use Rattle.inc_base.specs.declared.job.Job.{Job}
use Rattle.inc_fs.specs.State.{State, end_of}
use Rattle.inc_fs.specs.Step.{Step}
use Rattle.inc_fs.specs.declared.op.Op.{Op}
use Rattle.inc_fs.specs.declared.op.Op.TheVariants.{Draw}
use Rattle.inc_fs.specs.declared.op.Reply.{Reply}
use Rattle.inc_fs.specs.declared.op.Reply.TheVariants.{Fault}
use Rattle.inc_proto.specs.declared.event.Event.{Event}
use Rattle.inc_proto.specs.declared.event.Event.TheVariants.{Begin, Did, Left}
use Rattle.inc_proto.specs.declared.enrolled.Enrolled.{Enrolled}
use Rattle.inc_proto.specs.Events.{is_running, job_of, own_steps, Steps}
use Rattle.inc_proto.specs.Files.{Files}
use Rattle.inc_proto.specs.Grounds.{Fits, IsKept}
use Rattle.inc_proto.specs.Leads.{stopped}
use Rattle.inc_proto.specs.Seen.{Seen}
use Rattle.inc_proto.proofs.Turned.{last_is_first}
use Rattle.inc_proto.specs.Legal.{Sight, sighted, sight_of, MaySee, MayDo, MayLeave}

-- ---- Elements by their places.

same_test : (n m : ℕ) → n == m ≡ suc n == suc m
same_test n m = go (eqb_tells n m)
  where
    go : ((n == m ≡ true) × (n ≡ m)) ⊎ ((n == m ≡ false) × (n ≢ m)) → n == m ≡ suc n == suc m
    go (inl (at, is)) = at ∙ sym (eq-eqb (suc n) (suc m) (ap suc is))
    go (inr (not_at, off)) = not_at ∙ sym (ne_eqb (suc n) (suc m) (λ e. off (omega arith)))

set_at : {X : Type 0} (xs : List X) (n : ℕ) (y : X) → n < length xs → (m : ℕ) → slice_get (slice_set xs n y) m ≡ cond (n == m) (Some y) (slice_get xs m)
set_at [] n y h m = absurd (omega arith)
set_at (x ∷ xs) zero y h zero = refl
set_at (x ∷ xs) zero y h (suc m) = sym (ap (λ b. cond b (Some y) (slice_get xs m)) (ne_eqb zero (suc m) (λ e. cc)))
set_at (x ∷ xs) (suc n) y h zero = sym (ap (λ b. cond b (Some y) (Some x)) (ne_eqb (suc n) zero (λ e. cc)))
set_at (x ∷ xs) (suc n) y h (suc m) = set_at xs n y (omega arith) m ∙ ap (λ b. cond b (Some y) (slice_get xs m)) (same_test n m)

push_at : {X : Type 0} (xs : List X) (y : X) (m : ℕ) → slice_get (xs ++ y ∷ []) m ≡ cond (length xs == m) (Some y) (slice_get xs m)
push_at [] y zero = refl
push_at [] y (suc m) = sym (ap (λ b. cond b (Some y) None) (ne_eqb zero (suc m) (λ e. cc)))
push_at (x ∷ xs) y zero = sym (ap (λ b. cond b (Some y) (Some x)) (ne_eqb (suc (length xs)) zero (λ e. cc)))
push_at (x ∷ xs) y (suc m) = push_at xs y m ∙ ap (λ b. cond b (Some y) (slice_get xs m)) (same_test (length xs) m)

-- ---- Sessions of other numbers.

began_other : (h : List Event) (n k : ℕ) (job : Job) (o : Option Enrolled) → n == k ≡ false → Fits h k o → Fits (Begin n job ∷ h) k o
began_other h n k job None off f = (rw off f.0, rw off f.1)
began_other h n k job (Some one) off f = (f.0, rw off f.1, rw off f.2)

did_other : (h : List Event) (n k : ℕ) (op : Op) (reply : Reply) (o : Option Enrolled) → n == k ≡ false → Fits h k o → Fits (Did n op reply ∷ h) k o
did_other h n k op reply None off f = (rw off f.0, f.1)
did_other h n k op reply (Some one) off f = (f.0, rw off f.1, f.2)

left_other : (h : List Event) (n k : ℕ) (op : Option Op) (cut : ℕ) (o : Option Enrolled) → n == k ≡ false → Fits h k o → Fits (Left n op cut ∷ h) k o
left_other h n k op cut None off f = (f.0, rw off f.1)
left_other h n k op cut (Some one) off f = (f.0, f.1, rw off f.2)

-- where a change at one number fits there, and at all others, it fits everywhere
each : (h : List Event) (n : ℕ) (new : Enrolled) (ss : List Enrolled) → Fits h n (Some new)
    → ((k : ℕ) → n == k ≡ false → Fits h k (slice_get ss k)) → (k : ℕ) → Fits h k (cond (n == k) (Some new) (slice_get ss k))
each h n new ss here there k = go (eqb_tells n k)
  where
    go : ((n == k ≡ true) × (n ≡ k)) ⊎ ((n == k ≡ false) × (n ≢ k)) → Fits h k (cond (n == k) (Some new) (slice_get ss k))
    go (inl (at, is)) = subst (λ b. Fits h k (cond b (Some new) (slice_get ss k))) (sym at) (subst (λ k. Fits h k (Some new)) is here)
    go (inr (not_at, off)) = subst (λ b. Fits h k (cond b (Some new) (slice_get ss k))) (sym not_at) (there k not_at)

-- ---- The session of a number.

runs_if : (files : Files) (b : Bool) (s : Option Sight) (op : Op) → MaySee files (cond b s None) op → b ≡ true
runs_if files true s op may = refl
runs_if files false s op may = absurd may

-- who may make a step runs
pub may_runs : (files : Files) (h : List Event) (who : ℕ) (op : Op) → MayDo files h who op → is_running who h ≡ true
may_runs files h who op may = runs_if files (is_running who h) (sight_of who h) op may

sees_if : (b : Bool) (s : Option Sight) → IsSome (cond b s None) → b ≡ true
sees_if true s may = refl
sees_if false s may = absurd (cc)

-- and so does who may leave
pub may_leave_runs : (files : Files) (h : List Event) (who : ℕ) (during : Option Op) → MayLeave files h who during → is_running who h ≡ true
may_leave_runs files h who None may = sees_if (is_running who h) (sight_of who h) may
may_leave_runs files h who (Some op) may = may_runs files h who op may.1

-- a session that runs is enrolled
pub record Enrols (ss : List Enrolled) (who : ℕ) : Type 0 where
  pub one : Enrolled
  pub is : slice_get ss who ≡ Some one
  pub runs : one.runs ≡ true

pub enrolled : {files : Files} {h : List Event} {room : ℕ} {F : State} {ss : List Enrolled} {running : ℕ} (who : ℕ)
    → IsKept files h room F ss running → is_running who h ≡ true → Enrols ss who
enrolled {h = h} {ss = ss} who kept runs = go (slice_get ss who) refl (kept.fits who)
  where
    go : (o : Option Enrolled) → slice_get ss who ≡ o → Fits h who o → Enrols ss who
    go None is f = absurd (cc)
    go (Some one) is f = record { one = one; is = is; runs = sym f.2 ∙ runs }

pub enrolled_within : {ss : List Enrolled} {who : ℕ} → Enrols ss who → who < length ss
enrolled_within {ss = ss} {who = who} e = slice_get_within ss who e.one e.is

-- its record is the one at its place
pub enrolled_at : {ss : List Enrolled} {who : ℕ} (e : Enrols ss who) (d : Enrolled) → get_or ss who d ≡ e.one
enrolled_at {ss = ss} {who = who} e d = sym (unwrap_or-slice_get ss who d) ∙ ap (λ o. unwrap_or o d) e.is

-- ---- By event.

-- a step more is seen
sighted_more : (step : Op × Reply) (job : Option Job) (steps : Steps) (its : Job) (seen : Steps)
    → sighted job steps ≡ Some (record { job = its; steps = seen }) → sighted job (step ∷ steps) ≡ Some (record { job = its; steps = step ∷ seen })
sighted_more step None steps its seen is = absurd (cc)
sighted_more step (Some job) steps its seen is = ap more is
  where
    more : Option Sight → Option Sight
    more None = None
    more (Some sight) = Some (record { job = sight.job; steps = step ∷ sight.steps })

-- a session began
pub kept_began : (files : Files) (h : List Event) (room : ℕ) (F : State) (ss : List Enrolled) (running : ℕ) (job : Job) → length ss + 1 < 2 ^ 32 → IsKept files h room F ss running
    → IsKept files (Begin (length ss) job ∷ h) (room + 1) F (ss ++ record { view = record { number = length ss; job = job; steps = [] }; runs = true } ∷ []) (running + 1)
kept_began files h room F ss running job small kept =
    let new : Enrolled = record { view = record { number = length ss; job = job; steps = [] }; runs = true } in
    let itself : length ss == length ss ≡ true = eq-eqb (length ss) (length ss) refl in
    let here : Fits (Begin (length ss) job ∷ h) (length ss) (Some new) = (refl, rw itself refl, rw itself refl) in
    record {
      leads = (F, kept.leads, (kept.numbered, refl, omega arith));
      allowed = (kept.allowed, tt);
      numbered = length-append ss (new ∷ []) ∙ ap (λ n. n + 1) kept.numbered;
      fits = λ k. subst (λ o. Fits (Begin (length ss) job ∷ h) k o) (sym (push_at ss new k))
          (each (Begin (length ss) job ∷ h) (length ss) new ss here (λ k off. began_other h (length ss) k job (slice_get ss k) off (kept.fits k)) k);
      running_is = ap (λ n. n + 1) kept.running_is;
      counted = ap (λ n. n + 1) kept.counted ∙ sym (sum_by-append (λ one. cond one.runs 1 0) ss (new ∷ []));
      room_is = ap (λ n. n + 1) kept.room_is;
      few = subst (λ n. n < 2 ^ 32) (sym (length-append ss (new ∷ []))) small;
    }

same_sum : {a b x y : ℕ} → a + x ≡ b + y → x ≡ y → b ≡ a
same_sum e is = omega arith

-- a session made a step
pub kept_did : (files : Files) (h : List Event) (room : ℕ) (F G : State) (ss : List Enrolled) (running who : ℕ) (op : Op) (reply : Reply)
    → IsKept files h room F ss running → (e : Enrols ss who) → MayDo files h who op → Step F who op reply G
    → IsKept files (Did who op reply ∷ h) room G
    (slice_set ss who (record { view = record { number = e.one.view.number; job = e.one.view.job; steps = (op, reply) ∷ e.one.view.steps }; runs = e.one.runs })) running
kept_did files h room F G ss running who op reply kept e may step =
    let new : Enrolled = record { view = record { number = e.one.view.number; job = e.one.view.job; steps = (op, reply) ∷ e.one.view.steps }; runs = e.one.runs } in
    let was : Fits h who (Some e.one) = subst (λ o. Fits h who o) e.is (kept.fits who) in
    let itself : who == who ≡ true = eq-eqb who who refl in
    let sees = sighted_more (op, reply) (job_of who h) (own_steps who h) e.one.view.job e.one.view.steps was.1 in
    let here : Fits (Did who op reply ∷ h) who (Some new) = (was.0, rw itself sees, was.2) in
    let sums = sum_by-set (λ one. cond one.runs 1 0) ss who new e.one (enrolled_within e) in
    let old : cond (get_or ss who e.one).runs 1 0 ≡ cond e.one.runs 1 0 = ap (λ one. cond one.runs 1 0) (enrolled_at e e.one) in
    record {
      leads = (F, kept.leads, step);
      allowed = (kept.allowed, may);
      numbered = length-set ss who new ∙ kept.numbered;
      fits = λ k. subst (λ o. Fits (Did who op reply ∷ h) k o) (sym (set_at ss who new (enrolled_within e) k))
          (each (Did who op reply ∷ h) who new ss here (λ k off. did_other h who k op reply (slice_get ss k) off (kept.fits k)) k);
      running_is = kept.running_is;
      counted = kept.counted ∙ same_sum sums old;
      room_is = kept.room_is;
      few = subst (λ n. n < 2 ^ 32) (sym (length-set ss who new)) kept.few;
    }

-- one session less runs
less : {a b x y r : ℕ} → a + x ≡ b + y → x ≡ 1 → y ≡ 0 → r ≡ b → (r - 1 ≡ a) × (0 < r)
less e is none counted = (omega arith, omega arith)

-- a session left
pub kept_left : (files : Files) (h : List Event) (room : ℕ) (F : State) (ss : List Enrolled) (running who : ℕ) (during : Option Op) (cut : ℕ)
    → IsKept files h room F ss running → (e : Enrols ss who) → MayLeave files h who during
    → IsKept files (Left who during cut ∷ h) (room - 1) (end_of (stopped F during cut) who)
    (slice_set ss who (record { view = e.one.view; runs = false })) (running - 1)
kept_left files h room F ss running who during cut kept e may =
    let new : Enrolled = record { view = e.one.view; runs = false } in
    let was : Fits h who (Some e.one) = subst (λ o. Fits h who o) e.is (kept.fits who) in
    let itself : who == who ≡ true = eq-eqb who who refl in
    let here : Fits (Left who during cut ∷ h) who (Some new) = (was.0, was.1, rw itself refl) in
    let sums = sum_by-set (λ one. cond one.runs 1 0) ss who new e.one (enrolled_within e) in
    let its : cond (get_or ss who e.one).runs 1 0 ≡ cond e.one.runs 1 0 = ap (λ one. cond one.runs 1 0) (enrolled_at e e.one) in
    let runs : cond e.one.runs 1 0 ≡ 1 = ap (λ b. cond b 1 0) e.runs in
    let old : cond (get_or ss who e.one).runs 1 0 ≡ 1 = its ∙ runs in
    record {
      leads = (F, kept.leads, refl);
      allowed = (kept.allowed, may);
      numbered = length-set ss who new ∙ kept.numbered;
      fits = λ k. subst (λ o. Fits (Left who during cut ∷ h) k o) (sym (set_at ss who new (enrolled_within e) k))
          (each (Left who during cut ∷ h) who new ss here (λ k off. left_other h who k during cut (slice_get ss k) off (kept.fits k)) k);
      running_is = ap (λ n. n - 1) kept.running_is;
      counted = (less sums old refl kept.counted).0;
      room_is = ap (λ n. n - 1) kept.room_is;
      few = subst (λ n. n < 2 ^ 32) (sym (length-set ss who new)) kept.few;
    }

-- there is room for the leaving of a session that runs
pub kept_room : {files : Files} {h : List Event} {room : ℕ} {F : State} {ss : List Enrolled} {running who : ℕ}
    → IsKept files h room F ss running → Enrols ss who → (0 < room) × (0 < running)
kept_room {ss = ss} {who = who} kept e =
    let new : Enrolled = record { view = e.one.view; runs = false } in
    let sums = sum_by-set (λ one. cond one.runs 1 0) ss who new e.one (enrolled_within e) in
    let its : cond (get_or ss who e.one).runs 1 0 ≡ cond e.one.runs 1 0 = ap (λ one. cond one.runs 1 0) (enrolled_at e e.one) in
    let runs : cond e.one.runs 1 0 ≡ 1 = ap (λ b. cond b 1 0) e.runs in
    let old : cond (get_or ss who e.one).runs 1 0 ≡ 1 = its ∙ runs in
    let more = (less sums old refl kept.counted).1 in
    (subst (λ n. 0 < n) (sym kept.room_is) more, more)

-- none of a number past the last one runs
pub past_rests : {files : Files} {h : List Event} {room : ℕ} {F : State} {ss : List Enrolled} {running : ℕ} (who : ℕ)
    → IsKept files h room F ss running → length ss ≤ who → is_running who h ≡ false
past_rests {h = h} {ss = ss} who kept past = (subst (λ o. Fits h who o) (slice_get_past ss who past) (kept.fits who)).1

-- ---- The same, as the code comes to it.

pub began_as : (files : Files) (h h1 : List Event) (room room1 : ℕ) (F : State) (ss ss1 : List Enrolled) (running number : ℕ) (job : Job)
    → number ≡ length ss → number + 1 < 2 ^ 32 → h1 ≡ h ++ Begin number job ∷ [] → room1 ≡ (room + 2) - 1
    → ss1 ≡ ss ++ record { view = record { number = number; job = job; steps = [] }; runs = true } ∷ []
    → IsKept files (reverse h) room F ss running → IsKept files (reverse h1) room1 F ss1 (running + 1)
began_as files h h1 room room1 F ss ss1 running number job number_is small h_is room_is ss_is kept =
    let two : (room + 2) - 1 ≡ room + 1 = omega arith in
    rw (h_is, room_is, ss_is, last_is_first h (Begin number job), two, number_is)
    (kept_began files (reverse h) room F ss running job (subst (λ n. n + 1 < 2 ^ 32) number_is small) kept)

pub did_as : (files : Files) (h h1 : List Event) (room room1 : ℕ) (F G : State) (ss : List Enrolled) (running who : ℕ) (op copy : Op) (reply seen told : Reply)
    (one : Enrolled) (view0 view1 : Seen)
    → one ≡ get_or ss who one → view0 ≡ record { number = one.view.number; job = one.view.job; steps = (Draw, Fault) ∷ one.view.steps }
    → ((steps : Steps) → view0.steps ≡ (Draw, Fault) ∷ steps → view1 ≡ record { number = view0.number; job = view0.job; steps = (copy, seen) ∷ steps })
    → copy ≡ op → seen ≡ reply → told ≡ reply
    → h1 ≡ h ++ Did who op told ∷ [] → room1 ≡ (room + 1) - 1
    → IsKept files (reverse h) room F ss running → MayDo files (reverse h) who op → Step F who op reply G
    → IsKept files (reverse h1) room1 G (slice_set ss who (record { view = view1; runs = one.runs })) running
did_as files h h1 room room1 F G ss running who op copy reply seen told one view0 view1 at placed filled copy_is seen_is told_is h_is room_is kept may step =
    let e = enrolled who kept (may_runs files (reverse h) who op may) in
    let its : one ≡ e.one = at ∙ enrolled_at e one in
    let back : (room + 1) - 1 ≡ room = omega arith in
    let full : view1 ≡ record { number = one.view.number; job = one.view.job; steps = (op, reply) ∷ one.view.steps } =
    filled one.view.steps (ap (λ v. v.steps) placed)
    ∙ ap (λ v. with_steps v.number v.job ((copy, seen) ∷ one.view.steps)) placed
    ∙ ap (λ s. with_steps one.view.number one.view.job (s ∷ one.view.steps)) (ap (λ o. pair o seen) copy_is ∙ ap (λ r. pair op r) seen_is) in
    rw (h_is, room_is, told_is, last_is_first h (Did who op reply), back, full, its)
    (kept_did files (reverse h) room F G ss running who op reply kept e may step)
  where
    with_steps : ℕ → Job → Steps → Seen
    with_steps number job steps = record { number = number; job = job; steps = steps }

    pair : Op → Reply → Op × Reply
    pair o r = (o, r)

pub left_as : (files : Files) (h h1 : List Event) (room room1 : ℕ) (F G G1 : State) (ss : List Enrolled) (running who : ℕ) (during : Option Op) (cut : ℕ) (one : Enrolled)
    → one ≡ get_or ss who one → h1 ≡ h ++ Left who during cut ∷ [] → room1 ≡ room - 1 → G ≡ stopped F during cut → G1 ≡ end_of G who
    → IsKept files (reverse h) room F ss running → MayLeave files (reverse h) who during
    → IsKept files (reverse h1) room1 G1 (slice_set ss who (record { view = one.view; runs = false })) (running - 1)
left_as files h h1 room room1 F G G1 ss running who during cut one at h_is room_is stop_is end_is kept may =
    let e = enrolled who kept (may_leave_runs files (reverse h) who during may) in
    let its : one ≡ e.one = at ∙ enrolled_at e one in
    rw (h_is, room_is, end_is, stop_is, last_is_first h (Left who during cut), its)
    (kept_left files (reverse h) room F ss running who during cut kept e may)
