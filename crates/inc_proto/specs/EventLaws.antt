-- What a history says of a session is read from the session's own events alone.
use Rattle.std.specs.Prelude.{◌≡◌, ◌≢◌, ℕ, ◌+◌, ◌<◌, ◌≤◌, ◌==◌, Bool, true, false, cond, List, [], ◌∷◌, Some, refl}
use Rattle.std.proofs.Common.{ap, ◌∙◌, sym, arith}
use Rattle.std.proofs.lemmas.Bool.{eqb-true, ne_eqb, false≢true}
use Rattle.inc_fs.specs.State.{State}
use Rattle.inc_proto.specs.declared.event.Event.{Event}
use Rattle.inc_proto.specs.declared.event.Event.TheVariants.{Begin, Did, Left}
use Rattle.inc_proto.specs.Events.{begins, is_running, job_of, by, own_steps, AreOfRunning}
use Rattle.inc_proto.specs.Leads.{LeadsTo}

-- what an event adds to a reading, where it is the session's own, and that it adds nothing where it isn't
kept : {A : Type 0} (read : List Event → A) (who : ℕ) (event : Event) (events : List Event) (b : Bool)
    → read (event ∷ by who events) ≡ read (event ∷ events) → (b ≡ false → read (by who events) ≡ read (event ∷ events))
    → read (cond b (event ∷ by who events) (by who events)) ≡ read (event ∷ events)
kept read who event events true own other = own
kept read who event events false own other = other refl

unless : {A : Type 0} (b : Bool) (x y z : A) → z ≡ y → b ≡ false → z ≡ cond b x y
unless b x y z same is = same ∙ sym (ap (λ b. cond b x y) is)

pub own_steps-by : (who : ℕ) (events : List Event) → own_steps who (by who events) ≡ own_steps who events
own_steps-by who [] = refl
own_steps-by who (Begin number job ∷ events) =
    let same = own_steps-by who events in
    kept (own_steps who) who (Begin number job) events (number == who) (ap (λ steps. cond (number == who) [] steps) same) (unless (number == who) _ _ _ same)
own_steps-by who (Did number op reply ∷ events) =
    let same = own_steps-by who events in
    kept (own_steps who) who (Did number op reply) events (number == who) (ap (λ steps. cond (number == who) ((op, reply) ∷ steps) steps) same) (unless (number == who) _ _ _ same)
own_steps-by who (Left number op cut ∷ events) =
    let same = own_steps-by who events in
    kept (own_steps who) who (Left number op cut) events (number == who) same (λ _. same)

pub is_running-by : (who : ℕ) (events : List Event) → is_running who (by who events) ≡ is_running who events
is_running-by who [] = refl
is_running-by who (Begin number job ∷ events) =
    let same = is_running-by who events in
    kept (is_running who) who (Begin number job) events (number == who) (ap (λ runs. cond (number == who) true runs) same) (unless (number == who) _ _ _ same)
is_running-by who (Did number op reply ∷ events) =
    let same = is_running-by who events in
    kept (is_running who) who (Did number op reply) events (number == who) same (λ _. same)
is_running-by who (Left number op cut ∷ events) =
    let same = is_running-by who events in
    kept (is_running who) who (Left number op cut) events (number == who) (ap (λ runs. cond (number == who) false runs) same) (unless (number == who) _ _ _ same)

pub job_of-by : (who : ℕ) (events : List Event) → job_of who (by who events) ≡ job_of who events
job_of-by who [] = refl
job_of-by who (Begin number job ∷ events) =
    let same = job_of-by who events in
    kept (job_of who) who (Begin number job) events (number == who) (ap (λ found. cond (number == who) (Some job) found) same) (unless (number == who) _ _ _ same)
job_of-by who (Did number op reply ∷ events) =
    let same = job_of-by who events in
    kept (job_of who) who (Did number op reply) events (number == who) same (λ _. same)
job_of-by who (Left number op cut ∷ events) =
    let same = job_of-by who events in
    kept (job_of who) who (Left number op cut) events (number == who) same (λ _. same)

-- ---- A session that hasn't begun.

begun_so : (b : Bool) (number who count : ℕ) (runs : Bool) → (number == who) ≡ b → number ≡ count → (runs ≡ true → who < count) → cond b true runs ≡ true → who < count + 1
begun_so true number who count runs itself next before is = let same : number ≡ who = eqb-true number who itself in omega (arith, same, next)
begun_so false number who count runs itself next before is = let less : who < count = before is in omega (arith, less)

runs_still : (b runs : Bool) → cond b false runs ≡ true → runs ≡ true
runs_still true runs is = absurd (false≢true is)
runs_still false runs is = is

-- a session that runs has begun
pub running_begun : (who : ℕ) (events : List Event) (F : State) → LeadsTo events F → is_running who events ≡ true → who < begins events
running_begun who [] F leads runs = absurd (false≢true runs)
running_begun who (Begin number job ∷ events) G (F, leads, is) runs =
    begun_so (number == who) number who (begins events) (is_running who events) refl is.0 (running_begun who events F leads) runs
running_begun who (Did number op reply ∷ events) G (F, leads, is) runs = running_begun who events F leads runs
running_begun who (Left number op cut ∷ events) G (F, leads, is) runs = running_begun who events F leads (runs_still (number == who) (is_running who events) runs)

not_own : (number who : ℕ) (event : Event) (events : List Event) → number ≢ who → by who events ≡ [] → cond (number == who) (event ∷ by who events) (by who events) ≡ []
not_own number who event events apart none = ap (λ b. cond b (event ∷ by who events) (by who events)) (ne_eqb number who apart) ∙ none

-- one that hasn't begun has no events, where each step is of a session that runs
pub unbegun_none : (who : ℕ) (events : List Event) (F : State) → LeadsTo events F → AreOfRunning events → begins events ≤ who → by who events ≡ []
unbegun_none who [] F leads running late = refl
unbegun_none who (Begin number job ∷ events) G (F, leads, is) running late =
    let next : number ≡ begins events = is.0 in
    not_own number who (Begin number job) events (λ same. omega (arith, same, next, late)) (unbegun_none who events F leads running.1 (omega (arith, late)))
unbegun_none who (Did number op reply ∷ events) G (F, leads, is) running late =
    let begun = running_begun number events F leads running.0 in
    not_own number who (Did number op reply) events (λ same. omega (arith, same, begun, late)) (unbegun_none who events F leads running.1 late)
unbegun_none who (Left number op cut ∷ events) G (F, leads, is) running late =
    let begun = running_begun number events F leads running.0 in
    not_own number who (Left number op cut) events (λ same. omega (arith, same, begun, late)) (unbegun_none who events F leads running.1 late)
