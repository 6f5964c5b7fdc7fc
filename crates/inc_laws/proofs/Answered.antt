-- What legal histories answer a session, as its own steps tell it.
use Rattle.std.specs.Prelude.{◌≡◌, ◌==◌, ◌++◌, ℕ, Bool, true, false, cond, List, [], ◌∷◌, refl, Option, Some, None, IsSome, is_some, ◌⊎◌}
use Rattle.std.specs.Map.{lookup, keys_of}
use Rattle.std.specs.BTreeMap.{is_at}
use Rattle.std.specs.Option.{option_map, option_and_then}
use Rattle.std.proofs.Common.{ap, sym, subst, ◌∙◌, inl, inr}
use Rattle.std.proofs.lemmas.Bool.{eqb-true}
use Rattle.std.proofs.lemmas.List.{append_assoc}
use Rattle.inc_base.specs.declared.job.Job.{Job}
use Rattle.inc_fs.specs.declared.state.File.{File}
use Rattle.inc_fs.specs.Kinds.{IsKindOf, step_kind}
use Rattle.inc_fs.specs.Readings.{bytes_of, file_is}
use Rattle.inc_fs.specs.State.{State, Text, IsIn, text_cmp, folder_at, number_at, named}
use Rattle.inc_fs.specs.Step.{Step, Reads}
use Rattle.inc_fs.specs.declared.op.Op.{Op}
use Rattle.inc_fs.specs.declared.op.Op.TheVariants.{Draw, MakeLock, OpenLock, Look, Read, Unlink, TryLock, ListDir, Link, Close}
use Rattle.inc_fs.specs.declared.op.Reply.{Reply}
use Rattle.inc_fs.specs.declared.op.Reply.TheVariants.{Drawn, Handle, Names, Bytes, Missing, Got, Done}
use Rattle.inc_names.specs.declared.entry.Entry.TheVariants.{Final}
use Rattle.inc_names.specs.declared.session.SessionName.{SessionName}
use Rattle.inc_names.specs.Entries.{final_text, IsSessionName, lock_text}
use Rattle.inc_names.specs.EntryLaws.{same_final_text, same_final_name}
use Rattle.inc_wire.specs.Forms.{job_hash_of}
use Rattle.inc_proto.specs.declared.event.Event.{Event}
use Rattle.inc_proto.specs.declared.event.Event.TheVariants.{Begin, Did, Left}
use Rattle.inc_proto.specs.declared.own.Known.{Known}
use Rattle.inc_proto.specs.declared.own.OwnLock.TheVariants.{Locked}
use Rattle.inc_proto.specs.Events.{Steps, own_steps, job_of}
use Rattle.inc_proto.specs.Files.{Files, IsSet}
use Rattle.inc_proto.specs.Finals.{Publication, entry_of, published}
use Rattle.inc_proto.specs.Leads.{LeadsTo}
use Rattle.inc_proto.specs.Legal.{MayDo, AreAllowed, IsLegal}
use Rattle.inc_proto.specs.LegalLaws.{legal_before}
use Rattle.inc_proto.specs.Permits.{IsHash, HasDir, IsOn, MayLink}
use Rattle.inc_proto.specs.Views.{opening, since, own, dir, HasAny, IsListing, begun, grown}
use Rattle.inc_laws.specs.Fair.{CanBe, LoadsSet}
use Rattle.inc_laws.specs.Laws.{Laws}
use Rattle.inc_laws.specs.Loads.{HasLoad}
use Rattle.inc_laws.specs.Readings.{running, draws, head_of, jobs_of, names_of, sites_of}
use Rattle.inc_laws.specs.Readings.Site.{Out}
use Rattle.inc_laws.proofs.FromLaws.{links_published}
use Rattle.inc_laws.proofs.Fresh.{unopened, unheld}
use Rattle.inc_laws.proofs.Gave.{gave, listed, stands_set, one_made}
use Rattle.inc_laws.proofs.InPlace.{some_same}
use Rattle.inc_laws.proofs.Lasting.{may_parts, laws_hold}
use Rattle.inc_laws.proofs.Latest.{same_step}
use Rattle.inc_laws.proofs.Newest.{outs_stay, published_outs}
use Rattle.inc_laws.proofs.Next.{runs_job}
use Rattle.inc_laws.proofs.Own.{Owners, out_name, one_out}
use Rattle.inc_laws.proofs.Replies.{own_found, one_final}
use Rattle.inc_laws.specs.Invariants.{HasShown}
use Rattle.inc_laws.proofs.Stays.{stands_hold}
use Rattle.inc_laws.proofs.Whole.{in_found}

-- ---- The event of an own step.

abbrev IsHead : ℕ → List Event → Op × Reply → Steps → Type 0
IsHead who events step steps = (later : List Event) × (earlier : List Event) × (events ≡ later ++ Did who step.0 step.1 ∷ earlier) × (own_steps who earlier ≡ steps) × (job_of who events ≡ job_of who earlier)

head_event : (who : ℕ) (events : List Event) (step : Op × Reply) (steps : Steps) → own_steps who events ≡ step ∷ steps → IsHead who events step steps
head_event who [] step steps is = cc
head_event who (Begin number job ∷ events) step steps is = go (head_event who events step steps) (number == who) refl is
  where
    go : (own_steps who events ≡ step ∷ steps → IsHead who events step steps) → (b : Bool) → number == who ≡ b → cond b [] (own_steps who events) ≡ step ∷ steps → IsHead who (Begin number job ∷ events) step steps
    go ih true same is = cc
    go ih false off is = let w = ih is in (Begin number job ∷ w.0, w.1, ap (λ es. Begin number job ∷ es) w.2, w.3, ap (λ b. cond b (Some job) (job_of who events)) off ∙ w.4)
head_event who (Did number op reply ∷ events) step steps is = go (head_event who events step steps) (number == who) refl is
  where
    go : (own_steps who events ≡ step ∷ steps → IsHead who events step steps) → (b : Bool) → number == who ≡ b → cond b ((op, reply) ∷ own_steps who events) (own_steps who events) ≡ step ∷ steps
        → IsHead who (Did number op reply ∷ events) step steps
    go ih true same is =
        let both = same_step (op, reply) step (own_steps who events) steps is in
        ([], events, (λ i. Did (eqb-true number who same i) ((both.0 i).0) ((both.0 i).1) ∷ events), both.1, refl)
    go ih false off is = let w = ih is in (Did number op reply ∷ w.0, w.1, ap (λ es. Did number op reply ∷ es) w.2, w.3, w.4)
head_event who (Left number op cut ∷ events) step steps is =
    let w = head_event who events step steps is in
    (Left number op cut ∷ w.0, w.1, ap (λ es. Left number op cut ∷ es) w.2, w.3, w.4)

-- and of one that others followed
split_event : (who : ℕ) (events : List Event) (later : Steps) (step : Op × Reply) (steps : Steps) → own_steps who events ≡ later ++ step ∷ steps → IsHead who events step steps
split_event who events [] step steps is = head_event who events step steps is
split_event who events (x ∷ later) step steps is =
    let w = head_event who events x (later ++ step ∷ steps) is in
    let v = split_event who w.1 later step steps w.3 in (
      w.0 ++ Did who x.0 x.1 ∷ v.0,
      v.1,
      w.2 ∙ ap (λ es. w.0 ++ Did who x.0 x.1 ∷ es) v.2 ∙ sym (append_assoc w.0 (Did who x.0 x.1 ∷ v.0) (Did who step.0 step.1 ∷ v.1)),
      v.3,
      w.4 ∙ v.4,
    )

-- ---- Where the latest step was made.

pub record Made (files : Files) (job : Job) (step : Op × Reply) (steps : Steps) (who : ℕ) (all : List Event) : Type 0 where
  pub later : List Event
  pub events : List Event
  pub before : State
  pub after : State
  pub is : all ≡ later ++ Did who step.0 step.1 ∷ events
  pub leads : LeadsTo events before
  pub allowed : AreAllowed files events
  pub may : MayDo files events who step.0
  pub step_is : Step before who step.0 step.1 after
  pub own_is : own_steps who events ≡ steps
  pub runs : running who events ≡ Some job

made_at : (files : Files) (job : Job) (step : Op × Reply) (steps : Steps) (events : List Event) → IsLegal files events → (who : ℕ) → job_of who events ≡ Some job → IsHead who events step steps → Made files job step steps who events
made_at files job step steps events legal who its h =
    let l = legal_before files h.0 (Did who step.0 step.1 ∷ h.1) (subst (IsLegal files) h.2 legal) in
    let may = may_parts files h.1 who step.0 l.allowed.1 in
    let same : may.0 ≡ job = some_same may.0 job (sym (runs_job h.1 who may.0 may.1) ∙ sym h.4 ∙ its) in
    record {
      later = h.0;
      events = h.1;
      before = l.leads.0;
      after = l.state;
      is = h.2;
      leads = l.leads.1;
      allowed = l.allowed.0;
      may = l.allowed.1;
      step_is = l.leads.2;
      own_is = h.3;
      runs = may.1 ∙ ap Some same;
    }

module _ (files : Files) (job : Job) where
  pub made : (step : Op × Reply) (steps : Steps) → (c : CanBe files job (step ∷ steps)) → Made files job step steps c.who c.events
  made step steps c = made_at files job step steps c.events c.legal c.who (runs_job c.events c.who job c.runs) (head_event c.who c.events step steps c.is)

  pub could_before : (step : Op × Reply) (steps : Steps) → CanBe files job (step ∷ steps) → CanBe files job steps
  could_before step steps c =
      let m = made step steps c in
      record { events = m.events; legal = record { state = m.before; leads = m.leads; allowed = m.allowed }; who = c.who; runs = m.runs; is = m.own_is }

  pub kind : (op : Op) (reply : Reply) (steps : Steps) → CanBe files job ((op, reply) ∷ steps) → IsKindOf op reply
  kind op reply steps c = let m = made (op, reply) steps c in step_kind m.before c.who op reply m.after m.step_is

  laws_at : (step : Op × Reply) (steps : Steps) (who : ℕ) (all : List Event) (m : Made files job step steps who all) → Laws files m.events m.before
  laws_at step steps who all m = laws_hold files m.events m.before m.leads m.allowed

  pub new_pair : (moment random : ℕ) (steps : Steps) → CanBe files job ((Draw, Drawn moment random) ∷ steps) → ¬ IsIn (draws steps) (record { moment = moment; random = random })
  new_pair moment random steps c within =
      let m = made (Draw, Drawn moment random) steps c in
      let l = laws_at (Draw, Drawn moment random) steps c.who c.events m in
      m.step_is.1 (l.names_once.known c.who (record { moment = moment; random = random }) (subst (λ ss. IsIn (draws ss) (record { moment = moment; random = random })) (sym m.own_is) within))

  pub pair_range : (moment random : ℕ) (steps : Steps) → CanBe files job ((Draw, Drawn moment random) ∷ steps) → IsSessionName (record { moment = moment; random = random })
  pair_range moment random steps c = let m = made (Draw, Drawn moment random) steps c in record { moment = m.step_is.3; random = m.step_is.4 }

  new_handle : (step : Op × Reply) (steps : Steps) (who : ℕ) (all : List Event) (m : Made files job step steps who all) (h : ℕ) → ¬ IsIn m.before.given h → (opening h steps ≡ None) × (since h steps ≡ None)
  new_handle step steps who all m h unknown =
      let l = laws_at step steps who all m in (
        subst (λ ss. opening h ss ≡ None) m.own_is (unopened files m.events m.before l who h job m.runs unknown),
        subst (λ ss. since h ss ≡ None) m.own_is (unheld files m.events m.before l who h job m.runs unknown),
      )

  pub new_opened : (krate entry : Text) (h : ℕ) (steps : Steps) → CanBe files job ((OpenLock krate entry, Handle h) ∷ steps) → (opening h steps ≡ None) × (since h steps ≡ None)
  new_opened krate entry h steps c = let m = made (OpenLock krate entry, Handle h) steps c in new_handle (OpenLock krate entry, Handle h) steps c.who c.events m h m.step_is.2

  pub new_made : (krate entry : Text) (h : ℕ) (steps : Steps) → CanBe files job ((MakeLock krate entry, Handle h) ∷ steps) → (opening h steps ≡ None) × (since h steps ≡ None)
  new_made krate entry h steps c = let m = made (MakeLock krate entry, Handle h) steps c in new_handle (MakeLock krate entry, Handle h) steps c.who c.events m h m.step_is.1

  pub lacking : (krate entry file : Text) (known : List (Text × Known)) (h : ℕ) (steps : Steps) → CanBe files job ((Unlink krate entry file, Missing) ∷ steps) → own steps ≡ Locked h → HasDir steps krate entry known
      → lookup (is_at (text_cmp file)) known ≡ None
  lacking krate entry file known h steps c locked d = go (lookup (is_at (text_cmp file)) known) refl
    where
      m : Made files job (Unlink krate entry file, Missing) steps c.who c.events
      m = made (Unlink krate entry file, Missing) steps c

      go : (o : Option Known) → lookup (is_at (text_cmp file)) known ≡ o → lookup (is_at (text_cmp file)) known ≡ None
      go None is = is
      go (Some its) is = absurd (missing (number_at m.before krate entry file) m.step_is.0
          (own_found files m.events m.before (laws_at (Unlink krate entry file, Missing) steps c.who c.events m) c.who h krate entry file known its (ap is_some m.runs) (ap own m.own_is ∙ locked) (ap dir m.own_is ∙ d) is))
        where
          missing : (n : Option ℕ) → n ≡ None → IsSome n → ⊥
          missing n none some = cc

  pub one_hash : (krate : Text) (names : List Text) (n : SessionName) (h k : ℕ) (steps : Steps) → IsHash h → IsHash k → CanBe files job ((Look krate, Names names) ∷ steps)
      → IsIn names (final_text n h) → IsIn names (final_text n k) → h ≡ k
  one_hash krate names n h k steps small_h small_k c a b =
      let m = made (Look krate, Names names) steps c in
      (same_final_text n n h k small_h small_k (one_final files m.events m.before (laws_at (Look krate, Names names) steps c.who c.events m) krate names m.after m.step_is n h k a b)).1

-- ---- What was loaded is read so.

outs_last : (files : Files) (later earlier : List Event) (G : State) → LeadsTo (later ++ earlier) G → AreAllowed files (later ++ earlier) → (v : ℕ) (k e : Text) → sites_of earlier v ≡ Out k e
    → (sites_of (later ++ earlier) v ≡ Out k e) × (jobs_of (later ++ earlier) v ≡ jobs_of earlier v)
outs_last files [] earlier G leads allowed v k e out = (out, refl)
outs_last files (event ∷ later) earlier G (F, leads, is) allowed v k e out =
    let old = outs_last files later earlier F leads allowed.0 v k e out in
    let still = outs_stay files (later ++ earlier) F (laws_hold files (later ++ earlier) F leads allowed.0) event G is v k e old.0 in
    (still.0, still.1 ∙ old.1)

module _ (files : Files) (events : List Event) (G : State) (leads : LeadsTo events G) (allowed : AreAllowed files events) (who : ℕ) (job : Job) (its_job : job_of who events ≡ Some job) where
  -- what was published under that name was published with this job
  job_is : (made : Publication) → IsIn (published events) made → (n : SessionName) (hash : ℕ) → entry_of made ≡ final_text n hash → (v : ℕ) (k : Text) (other : Job) → sites_of events v ≡ Out k (final_text n hash)
      → jobs_of events v ≡ Some other → other ≡ made.job
  job_is made within n hash entry v k other out its =
      let l = laws_hold files events G leads allowed in
      let o : Owners (jobs_of events) (names_of events) (sites_of events) G.drawn = record { own = l.own_names; once = l.names_once } in
      let w = published_outs files events G leads allowed made within in
      let named = out_name o w.0 made.job.krate (entry_of made) w.1 in
      let same_entry : final_text n hash ≡ final_text named.1 (job_hash_of named.0) = subst (λ text. text ≡ final_text named.1 (job_hash_of named.0)) entry named.5 in
      let called : head_of (names_of events w.0) ≡ Some n = named.4 ∙ ap Some (sym (same_final_name n named.1 hash (job_hash_of named.0) same_entry)) in
      let one : v ≡ w.0 = one_out o v w.0 k n hash out called in
      some_same other made.job (sym its ∙ ap (jobs_of events) one ∙ w.2)

  read_is : (n : SessionName) (hash : ℕ) (made : Publication) → IsIn (published events) made → entry_of made ≡ final_text n hash → (set : List (Text × Text)) → IsSet files made.job set
      → (earlier : Steps) (k entry file bytes : Text) (known : List (Text × Known)) (its : Known) (h : ℕ) → IsHead who events (Read k entry file, Bytes bytes) earlier
      → own earlier ≡ Locked h → HasDir earlier k entry known → lookup (is_at (text_cmp file)) known ≡ Some its → its.linked ≡ Some (final_text n hash) → lookup (is_at (text_cmp file)) set ≡ Some bytes
  read_is n hash made within entry_is set of_job earlier k entry file bytes known its h head locked d sees linked =
      let m = made_at files job (Read k entry file, Bytes bytes) earlier events (record { state = G; leads = leads; allowed = allowed }) who its_job head in
      let l = laws_hold files m.events m.before m.leads m.allowed in
      let read : Reads m.before k entry file (Bytes bytes) m.after = m.step_is in
      let at = file_is m.before k entry file read.0 read.1 in
      let its_link = (links_published files m.events m.before l).linked who h k entry file (final_text n hash) known its (ap is_some m.runs) (ap own m.own_is ∙ locked) (ap dir m.own_is ∙ d) sees linked in
      let source = its_link.4 in
      let all : events ≡ (m.later ++ Did who (Read k entry file) (Bytes bytes) ∷ []) ++ m.events = m.is ∙ sym (append_assoc m.later (Did who (Read k entry file) (Bytes bytes) ∷ []) m.events) in
      let out = outs_last files (m.later ++ Did who (Read k entry file) (Bytes bytes) ∷ []) m.events G (subst (λ es. LeadsTo es G) all leads) (subst (AreAllowed files) all allowed) source.1 source.2 (final_text n hash) source.7 in
      let same : source.3 ≡ made.job = job_is made within n hash entry_is source.1 source.2 source.3 (ap (λ es. sites_of es source.1) all ∙ out.0) (ap (λ es. jobs_of es source.1) all ∙ out.1 ∙ source.8) in
      let same_set : source.4 ≡ set = some_same_set source.4 set (sym source.9 ∙ ap files same ∙ of_job) in
      let same_file : its_link.1 ≡ read.0.0 = the_number its_link.1 read.0.0 (named_at m.before k entry file its_link.0 its_link.1 read.0.0 its_link.2 its_link.3 at.0) in
      sym (ap (λ s. lookup (is_at (text_cmp file)) s) same_set) ∙ sym source.10 ∙ ap (bytes_of m.before) same_file ∙ ap (option_map (λ (f : File). f.bytes)) at.1 ∙ ap Some (sym read.2)
    where
      some_same_set : (a b : List (Text × Text)) → Some a ≡ Some b → a ≡ b
      some_same_set a b same = cc

      the_number : (a b : ℕ) → Some a ≡ Some b → a ≡ b
      the_number a b same = cc

      named_at : (F : State) (k entry file : Text) (folder : List (Text × ℕ)) (f g : ℕ) → folder_at F k entry ≡ Some folder → named file folder ≡ Some f → number_at F k entry file ≡ Some g → Some f ≡ Some g
      named_at F k entry file folder f g stands has at = sym has ∙ sym (ap (option_and_then (named file)) stands) ∙ at

-- a whole load is of the set of one job, and is read so
pub loads_set : (files : Files) (job : Job) (n : SessionName) (hash : ℕ) (names : List Text) (steps : Steps) → CanBe files job steps → HasLoad job.krate n hash names steps → LoadsSet files job.krate n hash names steps
loads_set files job n hash names steps c load =
    let its_job = runs_job c.events c.who job c.runs in
    let g = gave files c.events c.legal.state c.legal.leads c.legal.allowed c.who job.krate n hash names (subst (HasLoad job.krate n hash names) (sym c.is) load) in
    let same = final_is g.made.name n (job_hash_of g.made.job) hash g.entry in
    record {
      made = g.made.job;
      of_crate = g.of_crate;
      hashed = same.1;
      set = g.set;
      of_job = g.of_job;
      listed = g.listed;
      read = λ later earlier k entry file bytes known its h is locked d sees linked.
          read_is files c.events c.legal.state c.legal.leads c.legal.allowed c.who job its_job n hash g.made g.within (λ i. final_text (same.0 i) (same.1 i)) g.set g.of_job earlier k entry file bytes known its h
          (split_event c.who c.events later (Read k entry file, Bytes bytes) earlier (c.is ∙ is)) locked d sees linked;
    }
  where
    final_is : (m n : SessionName) (h k : ℕ) → Final m h ≡ Final n k → (m ≡ n) × (h ≡ k)
    final_is m n h k is = (cc, cc)

-- ---- A directory that is held.

module _ (P : Op × Reply → Type 0) where
  any_grown : (step : Op × Reply) (steps : Steps) (o : Option Steps) (after : Steps) → ((s : Steps) → o ≡ Some s → HasAny P s → HasAny P steps) → grown step o ≡ Some after → HasAny P after → HasAny P (step ∷ steps)
  any_grown step steps None after ih is any = cc
  any_grown step steps (Some s) after ih is any = go (subst (HasAny P) (sym (the_steps (step ∷ s) after is)) any)
    where
      the_steps : (x y : Steps) → Some x ≡ Some y → x ≡ y
      the_steps x y is = cc

      go : P step ⊎ HasAny P s → P step ⊎ HasAny P steps
      go (inl at) = inl at
      go (inr earlier) = inr (ih s refl earlier)

  any_begun : (step : Op × Reply) (steps : Steps) (o : Option Steps) (after : Steps) → ((s : Steps) → o ≡ Some s → HasAny P s → HasAny P steps) → begun step o ≡ Some after → HasAny P after → HasAny P (step ∷ steps)
  any_begun step steps None after ih is any = absurd (subst (HasAny P) (sym (the_steps [] after is)) any)
    where
      the_steps : (x y : Steps) → Some x ≡ Some y → x ≡ y
      the_steps x y is = cc
  any_begun step steps (Some s) after ih is any = any_grown step steps (Some s) after ih is any

  -- what stands among the steps since a handle holds its lock stands among the steps
  any_since : (h : ℕ) (steps : Steps) (after : Steps) → since h steps ≡ Some after → HasAny P after → HasAny P steps
  any_since h [] after is any = cc
  any_since h ((TryLock handle exclusive, Got) ∷ steps) after is any = go (any_since h steps) (handle == h) is
    where
      go : ((s : Steps) → since h steps ≡ Some s → HasAny P s → HasAny P steps) → (b : Bool)
          → cond b (begun (TryLock handle exclusive, Got) (since h steps)) (grown (TryLock handle exclusive, Got) (since h steps)) ≡ Some after → HasAny P ((TryLock handle exclusive, Got) ∷ steps)
      go ih true is = any_begun (TryLock handle exclusive, Got) steps (since h steps) after ih is any
      go ih false is = any_grown (TryLock handle exclusive, Got) steps (since h steps) after ih is any
  any_since h ((Close handle, Done) ∷ steps) after is any = go (any_since h steps) (handle == h) is
    where
      go : ((s : Steps) → since h steps ≡ Some s → HasAny P s → HasAny P steps) → (b : Bool) → cond b None (grown (Close handle, Done) (since h steps)) ≡ Some after → HasAny P ((Close handle, Done) ∷ steps)
      go ih true is = cc
      go ih false is = any_grown (Close handle, Done) steps (since h steps) after ih is any
  any_since h (step ∷ steps) after is any = any_grown step steps (since h steps) after (any_since h steps) is any

-- a listing of a directory, with all that it lists
abbrev IsNaming : Text → Text → List Text → Op × Reply → Type 0
IsNaming krate entry names step = step ≡ (ListDir krate entry, Names names)

naming_by : (krate entry file : Text) (op : Op) (reply : Reply) → IsListing krate entry file (op, reply) → (names : List Text) × IsIn names file × IsNaming krate entry names (op, reply)
naming_by krate entry file (ListDir k e) (Names names) is = (names, is.2, (λ i. (ListDir (is.0 i) (is.1 i), Names names)))
naming_by krate entry file op reply is = absurd is

any_naming : (krate entry file : Text) (steps : Steps) → HasAny (IsListing krate entry file) steps → (names : List Text) × IsIn names file × HasAny (IsNaming krate entry names) steps
any_naming krate entry file [] any = absurd any
any_naming krate entry file (step ∷ steps) (inl is) = let w = naming_by krate entry file step.0 step.1 is in (w.0, w.1, inl w.2)
any_naming krate entry file (step ∷ steps) (inr any) = let w = any_naming krate entry file steps any in (w.0, w.1, inr w.2)

module _ (files : Files) (job : Job) (krate : Text) (n : SessionName) (hash h : ℕ) (after steps : Steps) (on : IsOn krate (lock_text n) (opening h steps)) (held : since h steps ≡ Some after) (shown : HasShown krate (final_text n hash) after) where
  -- it stands when the next step is made
  stands : (step : Op × Reply) (who : ℕ) (all : List Event) (m : Made files job step steps who all) → IsSome (folder_at m.before krate (final_text n hash))
  stands step who all m =
      (stands_hold files m.events m.before m.leads m.allowed).stands who h krate n hash after (ap is_some m.runs) (subst (λ ss. IsOn krate (lock_text n) (opening h ss)) (sym m.own_is) on) (ap (since h) m.own_is ∙ held) shown

  none_there : {A : Type 0} (o : Option A) → o ≡ None → IsSome o → ⊥
  none_there o none some = cc

  -- so it can be listed,
  pub listing_there : ¬ CanBe files job ((ListDir krate (final_text n hash), Missing) ∷ steps)
  listing_there c =
      let m = made files job (ListDir krate (final_text n hash), Missing) steps c in
      none_there (folder_at m.before krate (final_text n hash)) m.step_is.0 (stands (ListDir krate (final_text n hash), Missing) c.who c.events m)

  -- and what was listed can be linked
  module _ (to file : Text) (c : CanBe files job ((Link krate (final_text n hash) to file, Missing) ∷ steps)) where
    m : Made files job (Link krate (final_text n hash) to file, Missing) steps c.who c.events
    m = made files job (Link krate (final_text n hash) to file, Missing) steps c

    its : MayLink (own_steps c.who m.events) krate (final_text n hash) to file
    its = (may_parts files m.events c.who (Link krate (final_text n hash) to file) m.may).2

    l : Laws files m.events m.before
    l = laws_hold files m.events m.before m.leads m.allowed

    own_there : IsSome (folder_at m.before krate to)
    own_there = let old = l.own_dir c.who its.6.0 krate to its.0 (ap is_some m.runs) its.6.1 its.5 in ap is_some old.1

    file_there : (folder : List (Text × ℕ)) → folder_at m.before krate (final_text n hash) ≡ Some folder → IsSome (number_at m.before krate (final_text n hash) file)
    file_there folder is =
        let named_so = any_naming krate (final_text n hash) file (own_steps c.who m.events) (any_since (IsListing krate (final_text n hash) file) its.3 (own_steps c.who m.events) its.4 its.11.1 its.12) in
        let before = listed files m.events m.before m.leads m.allowed c.who krate n hash named_so.0 named_so.2 in
        let now = stands_set files m.events m.before m.leads m.allowed krate n hash folder is in
        let same : now.made.job ≡ before.made.job = one_made files m.events m.before m.leads m.allowed now.made before.made now.within before.within (now.of_crate ∙ sym before.of_crate) (now.entry ∙ sym before.entry) in
        let same_set : now.set ≡ before.set = one_set now.set before.set (sym now.of_job ∙ ap files same ∙ before.of_job) in
        let keys : named_so.0 ≡ keys_of folder = before.keys ∙ ap keys_of (sym same_set) ∙ sym now.keys in
        subst IsSome (sym (ap (option_and_then (named file)) is)) (in_found folder file (subst (λ ns. IsIn ns file) keys named_so.1))
      where
        one_set : (a b : List (Text × Text)) → Some a ≡ Some b → a ≡ b
        one_set a b same = cc

    source_there : IsSome (number_at m.before krate (final_text n hash) file)
    source_there = go (folder_at m.before krate (final_text n hash)) refl (stands (Link krate (final_text n hash) to file, Missing) c.who c.events m)
      where
        go : (o : Option (List (Text × ℕ))) → folder_at m.before krate (final_text n hash) ≡ o → IsSome o → IsSome (number_at m.before krate (final_text n hash) file)
        go None is some = cc
        go (Some folder) is some = file_there folder is

    link_there : ⊥
    link_there = elim m.step_is.0 [
      | inl gone ↦ none_there (number_at m.before krate (final_text n hash) file) gone source_there
      | inr gone ↦ none_there (folder_at m.before krate to) gone own_there
    ]

  pub linking_there : (to file : Text) → ¬ CanBe files job ((Link krate (final_text n hash) to file, Missing) ∷ steps)
  linking_there to file c = link_there to file c
