-- What the latest whole load says of all of them.
use Rattle.std.specs.Prelude.{◌≡◌, ◌++◌, ℕ, List, [], ◌∷◌, reverse, refl, Option, Some, None}
use Rattle.std.specs.Option.{option_map}
use Rattle.std.proofs.Common.{ap, sym, subst, ◌∙◌, inl, inr}
use Rattle.std.proofs.lemmas.List.{reverse-append, append_assoc, append-nil}
use Rattle.inc_base.specs.declared.job.Job.{Job}
use Rattle.inc_fs.specs.State.{State, Text}
use Rattle.inc_fs.specs.declared.op.Op.{Op}
use Rattle.inc_fs.specs.declared.op.Op.TheVariants.{ListDir}
use Rattle.inc_fs.specs.declared.op.Reply.{Reply}
use Rattle.inc_fs.specs.declared.op.Reply.TheVariants.{Names}
use Rattle.inc_names.specs.declared.entry.Entry.{Entry}
use Rattle.inc_names.specs.declared.entry.Entry.TheVariants.{Final}
use Rattle.inc_names.specs.declared.session.SessionName.{SessionName}
use Rattle.inc_names.specs.Entries.{final_text}
use Rattle.inc_names.specs.EntryLaws.{same_final_text}
use Rattle.inc_proto.specs.Events.{Steps, own_steps, job_of}
use Rattle.inc_proto.specs.declared.event.Event.{Event}
use Rattle.inc_proto.specs.Files.{Files}
use Rattle.inc_proto.specs.Leads.{LeadsTo}
use Rattle.inc_proto.specs.Legal.{Sight, sighted, AreAllowed}
use Rattle.inc_laws.specs.Loads.{BeginsLoad, IsLatestLoad, IsLoaded, HasLoad, IsWholeSet}
use Rattle.inc_laws.specs.Newest.{entry_by}
use Rattle.inc_laws.proofs.Gave.{gave}
use Rattle.inc_laws.proofs.InPlace.{some_same}

turned : (step : Op × Reply) (later coming : Steps) → reverse (step ∷ later) ++ coming ≡ reverse later ++ step ∷ coming
turned step later coming = ap (λ ss. ss ++ coming) (reverse-append (step ∷ []) later) ∙ append_assoc (reverse later) (step ∷ []) coming

some_pair : (a b : SessionName × ℕ) → Some a ≡ Some b → (a.0 ≡ b.0) × (a.1 ≡ b.1)
some_pair a b is = let same : a ≡ b = cc in (ap (λ (p : SessionName × ℕ). p.0) same, ap (λ (p : SessionName × ℕ). p.1) same)

found_load : (krate : Text) (steps coming : Steps) (n : SessionName) (hash : ℕ) → IsLatestLoad krate steps coming (Some (n, hash))
    → (later : Steps) × (step : Op × Reply) × (before : Steps) × (steps ≡ later ++ step ∷ before) × BeginsLoad krate n hash step before (reverse later ++ coming)
found_load krate [] coming n hash is = cc
found_load krate (step ∷ before) coming n hash (inl (m, k, load, found)) =
    let same : (n ≡ m) × (hash ≡ k) = some_pair (n, hash) (m, k) found in
    ([], step, before, refl, subst (λ h. BeginsLoad krate n h step before coming) (sym same.1) (subst (λ x. BeginsLoad krate x k step before coming) (sym same.0) load))
found_load krate (step ∷ before) coming n hash (inr (none, rest)) =
    let w = found_load krate before (step ∷ coming) n hash rest in
    (step ∷ w.0, w.1, w.2, ap (λ ss. step ∷ ss) w.3, subst (BeginsLoad krate n hash w.1 w.2) (sym (turned step w.0 coming)) w.4)

-- the one that was found
pub has_load : (krate : Text) (steps : Steps) (n : SessionName) (hash : ℕ) → IsLatestLoad krate steps [] (Some (n, hash)) → (names : List Text) × HasLoad krate n hash names steps
has_load krate steps n hash is =
    let w = found_load krate steps [] n hash is in
    let load : BeginsLoad krate n hash w.1 w.2 (reverse w.0) = subst (BeginsLoad krate n hash w.1 w.2) (append-nil (reverse w.0)) w.4 in
    (load.names, record { later = w.0; step = w.1; before = w.2; is = w.3; begins = load; listed = refl })

pub same_step : (x y : Op × Reply) (xs ys : Steps) → x ∷ xs ≡ y ∷ ys → (x ≡ y) × (xs ≡ ys)
same_step x y xs ys is = (cc, cc)

no_load : (krate : Text) (steps coming : Steps) → IsLatestLoad krate steps coming None → (later : Steps) (step : Op × Reply) (before : Steps) → steps ≡ later ++ step ∷ before
    → (n : SessionName) (hash : ℕ) → ¬ BeginsLoad krate n hash step before (reverse later ++ coming)
no_load krate [] coming none [] step before is n hash load = cc
no_load krate [] coming none (x ∷ later) step before is n hash load = cc
no_load krate (s ∷ steps) coming (inl (m, k, load, found)) later step before is n hash other = cc
no_load krate (s ∷ steps) coming (inr (none, rest)) [] step before is n hash load =
    let same = same_step s step steps before is in
    none n hash (subst (λ x. BeginsLoad krate n hash x steps coming) (sym same.0) (subst (λ xs. BeginsLoad krate n hash step xs coming) (sym same.1) load))
no_load krate (s ∷ steps) coming (inr (none, rest)) (x ∷ later) step before is n hash load =
    let same = same_step s x steps (later ++ step ∷ before) is in
    no_load krate steps (s ∷ coming) rest later step before same.1 n hash
    (subst (BeginsLoad krate n hash step before) (turned x later coming ∙ ap (λ y. reverse later ++ y ∷ coming) (sym same.0)) load)

-- and none where none was found
pub has_none : (krate : Text) (steps : Steps) → IsLatestLoad krate steps [] None → (n : SessionName) (hash : ℕ) (names : List Text) → ¬ HasLoad krate n hash names steps
has_none krate steps none n hash names load =
    no_load krate steps [] none load.later load.step load.before load.is n hash
    (subst (BeginsLoad krate n hash load.step load.before) (sym (append-nil (reverse load.later))) load.begins)

-- ---- What a session sees.

pub sight_is : (j : Option Job) (s : Steps) (job : Job) (steps : Steps) → sighted j s ≡ Some (record { job = job; steps = steps }) → (j ≡ Some job) × (s ≡ steps)
sight_is None s job steps is = cc
sight_is (Some j) s job steps is = (ap (option_map (λ (x : Sight). x.job)) is, the_steps (record { job = j; steps = s }) (record { job = job; steps = steps }) is)
  where
    the_steps : (x y : Sight) → Some x ≡ Some y → x.steps ≡ y.steps
    the_steps x y is = let same : x ≡ y = cc in ap (λ (z : Sight). z.steps) same

-- what was found is what the session has loaded
pub loaded_by : (who : ℕ) (events : List Event) (job : Job) (krate : Text) (steps : Steps) (found : Option (SessionName × ℕ)) (entry : Option Entry) → job_of who events ≡ Some job → own_steps who events ≡ steps
    → krate ≡ job.krate → IsLatestLoad krate steps [] found → entry ≡ option_map entry_by found → IsLoaded who events entry
loaded_by who events job krate steps found entry its own here latest is = record {
  job = job;
  its = its;
  load = found;
  latest = subst (λ ss. IsLatestLoad job.krate ss [] found) (sym own) (subst (λ k. IsLatestLoad k steps [] found) here latest);
  is = is;
}

-- and that it was given it whole
pub whole_by : (files : Files) (events : List Event) (G : State) → LeadsTo events G → AreAllowed files events → (who : ℕ) (job : Job) (krate : Text) (steps : Steps) (n : SessionName) (hash : ℕ)
    → job_of who events ≡ Some job → own_steps who events ≡ steps → krate ≡ job.krate → IsLatestLoad krate steps [] (Some (n, hash)) → IsWholeSet files events who n hash
whole_by files events G leads allowed who job krate steps n hash its own here latest =
    let w = has_load job.krate (own_steps who events) n hash (subst (λ ss. IsLatestLoad job.krate ss [] (Some (n, hash))) (sym own) (subst (λ k. IsLatestLoad k steps [] (Some (n, hash))) here latest)) in
    record { job = job; its = its; names = w.0; load = w.1; gave = gave files events G leads allowed who job.krate n hash w.0 w.1 }

final_is : (m n : SessionName) (h k : ℕ) → Some (Final m h) ≡ Some (Final n k) → (m ≡ n) × (h ≡ k)
final_is m n h k is = (cc, cc)

pub whole_of : (files : Files) (events : List Event) (who : ℕ) (m n : SessionName) (h k : ℕ) → Some (Final m h) ≡ Some (Final n k) → IsWholeSet files events who m h → IsWholeSet files events who n k
whole_of files events who m n h k is whole =
    let same = final_is m n h k is in
    subst (λ x. IsWholeSet files events who n x) same.1 (subst (λ x. IsWholeSet files events who x h) same.0 whole)

pub none_by : (who : ℕ) (events : List Event) (job : Job) (krate : Text) (steps : Steps) → job_of who events ≡ Some job → own_steps who events ≡ steps → krate ≡ job.krate → IsLatestLoad krate steps [] None
    → (other : Job) (n : SessionName) (hash : ℕ) (names : List Text) → job_of who events ≡ Some other → ¬ HasLoad other.krate n hash names (own_steps who events)
none_by who events job krate steps its own here none other n hash names its_other load =
    let same : job ≡ other = some_same job other (sym its ∙ its_other) in
    has_none job.krate (own_steps who events) (subst (λ ss. IsLatestLoad job.krate ss [] None) (sym own) (subst (λ k. IsLatestLoad k steps [] None) here none)) n hash names
    (subst (λ (j : Job). HasLoad j.krate n hash names (own_steps who events)) (sym same) load)

-- ---- What is loaded is one.

one_load : (krate : Text) (m n : SessionName) (h k : ℕ) (step : Op × Reply) (before coming : Steps) → BeginsLoad krate m h step before coming → BeginsLoad krate n k step before coming → (m ≡ n) × (h ≡ k)
one_load krate m n h k step before coming a b = same_final_text m n h k a.named.1 b.named.1 (entries (final_text m h) (final_text n k) a.names b.names (sym a.lists ∙ b.lists))
  where
    entries : (x y : Text) (xs ys : List Text) → ◌≡◌ {A = Op × Reply} (ListDir krate x, Names xs) (ListDir krate y, Names ys) → x ≡ y
    entries x y xs ys is = let op : ListDir krate x ≡ ListDir krate y = ap (λ (s : Op × Reply). s.0) is in cc

latest_is_one : (krate : Text) (steps coming : Steps) (a b : Option (SessionName × ℕ)) → IsLatestLoad krate steps coming a → IsLatestLoad krate steps coming b → a ≡ b
latest_is_one krate [] coming a b one other = one ∙ sym other
latest_is_one krate (step ∷ before) coming a b (inl (m, h, load, found)) (inl (n, k, again, too)) =
    let same = one_load krate m n h k step before coming load again in
    found ∙ (λ i. Some (same.0 i, same.1 i)) ∙ sym too
latest_is_one krate (step ∷ before) coming a b (inl (m, h, load, found)) (inr (none, rest)) = absurd (none m h load)
latest_is_one krate (step ∷ before) coming a b (inr (none, rest)) (inl (n, k, again, too)) = absurd (none n k again)
latest_is_one krate (step ∷ before) coming a b (inr (none, rest)) (inr (too, other)) = latest_is_one krate before (step ∷ coming) a b rest other

pub loaded_is_one : (who : ℕ) (events : List Event) (a b : Option Entry) → IsLoaded who events a → IsLoaded who events b → a ≡ b
loaded_is_one who events a b one other =
    let same : one.job ≡ other.job = some_same one.job other.job (sym one.its ∙ other.its) in
    one.is ∙ ap (option_map entry_by) (latest_is_one other.job.krate (own_steps who events) [] one.load other.load (subst (λ (j : Job). IsLatestLoad j.krate (own_steps who events) [] one.load) same one.latest) other.latest) ∙ sym other.is
