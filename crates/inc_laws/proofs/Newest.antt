-- The newest entry that a crate ever published stands.
use Rattle.std.specs.Prelude.{◌≡◌, ◌≢◌, ◌⊎◌, ◌==◌, ◌&&◌, ◌++◌, ℕ, Bool, true, false, cond, List, [], ◌∷◌, refl, Option, Some, None, IsSome}
use Rattle.std.specs.Ordering.{match_ordering, nat_cmp}
use Rattle.std.proofs.lemmas.Map.Lookups.{exact_pairs, exact_unsigned}
use Rattle.std.specs.declared.cmp.Ordering.{Ordering}
use Rattle.std.specs.declared.cmp.Ordering.TheVariants.{Less, Equal, Greater}
use Rattle.std.proofs.Common.{ap, sym, subst, ◌∙◌, inl, inr, arith}
use Rattle.std.proofs.lemmas.Bool.{true≢false}
use Rattle.inc_base.specs.declared.job.Job.{Job}
use Rattle.inc_fs.specs.Lookups.{same_bytes}
use Rattle.inc_fs.specs.Points.{with_at, here, there, same_number}
use Rattle.inc_fs.specs.Readings.{bytes_of}
use Rattle.inc_fs.specs.State.{State, Text, IsIn, folder_at, text_cmp, remove_entry}
use Rattle.std.specs.BTreeMap.{is_at}
use Rattle.inc_fs.specs.declared.op.Op.{Op}
use Rattle.inc_fs.specs.declared.op.Op.TheVariants.{MakeDir, Link, Read, Create, Append, Unlink, RemoveDir, Rename}
use Rattle.inc_fs.specs.declared.op.Reply.{Reply}
use Rattle.inc_fs.specs.declared.op.Reply.TheVariants.{Bytes, Done, Fault}
use Rattle.inc_names.specs.declared.session.SessionName.{SessionName}
use Rattle.inc_names.specs.Entries.{final_text, name_order, IsNewer}
use Rattle.inc_names.specs.EntryLaws.{same_final_name, same_name}
use Rattle.inc_names.specs.OrderLaws.{newer_is_greater, one_is_newer, newer_once, newer_through}
use Rattle.inc_wire.specs.Forms.{job_hash_of}
use Rattle.inc_proto.specs.declared.event.Event.{Event}
use Rattle.inc_proto.specs.declared.event.Event.TheVariants.{Begin, Did, Left}
use Rattle.inc_proto.specs.declared.own.Known.{Known}
use Rattle.inc_proto.specs.Events.{own_steps, job_of, begins}
use Rattle.inc_proto.specs.Files.{Files, IsSet}
use Rattle.inc_proto.specs.Finals.{Publication, entry_of, is_publishing, publication, published, newer_of, newest_among, newest}
use Rattle.inc_proto.specs.Leads.{LeadsTo, Happens}
use Rattle.inc_proto.specs.Legal.{MayDo, AreAllowed}
use Rattle.inc_proto.specs.Permits.{IsPermitted}
use Rattle.inc_proto.specs.Views.{Dir, dir, dir_after, name, is_here, same_text}
use Rattle.inc_proto.specs.Views.Dir.{Unmade, Stands, Removed, Published}
use Rattle.inc_proto.proofs.Anys.{in_right}
use Rattle.inc_laws.specs.Laws.{Laws}
use Rattle.inc_laws.specs.Parts.{HoldsSet}
use Rattle.inc_laws.specs.Readings.{running, head_of, jobs_of, names_of, sites_of, site_of}
use Rattle.inc_laws.specs.Readings.Site.{Out}
use Rattle.inc_laws.proofs.Here.{here_itself, same_itself}
use Rattle.inc_laws.proofs.InPlace.{some_same}
use Rattle.inc_laws.proofs.Lasting.{may_parts, laws_hold}
use Rattle.inc_laws.proofs.Mono.{none_some}
use Rattle.inc_laws.proofs.Next.{runs_job}
use Rattle.inc_laws.proofs.Own.{Owners, out_name, one_out}
use Rattle.inc_laws.proofs.Readings.{at_step}
use Rattle.inc_laws.proofs.Texts.{final_no_working}
use Rattle.inc_laws.proofs.Wraps.{own_place}

-- ---- The newest of a list.

-- it is one of the list and of this crate, and no other of this crate is newer
pub record IsNewestOf (krate : Text) (made : Publication) (all : List Publication) : Type 0 where
  pub within : IsIn all made
  pub of_crate : made.job.krate ≡ krate
  pub newest : (other : Publication) → IsIn all other → other.job.krate ≡ krate → ¬ IsNewer other.name made.name

abbrev pub Found : Text → Option Publication → List Publication → Type 0
Found krate None all = (other : Publication) → IsIn all other → other.job.krate ≢ krate
Found krate (Some made) all = IsNewestOf krate made all

pub equal_names : (a b : SessionName) → name_order a b ≡ Equal → a ≡ b
equal_names a b is =
    let pairs = exact_pairs nat_cmp nat_cmp exact_unsigned exact_unsigned (a.moment, a.random) (b.moment, b.random) is in
    same_name a b (ap (λ (p : ℕ × ℕ). p.0) pairs) (ap (λ (p : ℕ × ℕ). p.1) pairs)

pub newer_itself : (n : SessionName) → ¬ IsNewer n n
newer_itself n p = newer_once n n p p

pub newest_found : (krate : Text) (all : List Publication) → Found krate (newest_among krate all) all
newest_found krate [] = λ other is _. is
newest_found krate (made ∷ rest) = go (same_text made.job.krate krate) refl (newest_among krate rest) (newest_found krate rest)
  where
    apart : same_text made.job.krate krate ≡ false → made.job.krate ≢ krate
    apart off is = true≢false (sym (ap (λ k. same_text k krate) is ∙ same_itself krate) ∙ off)

    -- none is newer than another of the same name
    later : (other : Publication) → name_order made.name other.name ≡ Equal → IsNewer other.name made.name → ⊥
    later other is newer = newer_itself made.name (subst (λ n. IsNewer n made.name) (sym (equal_names made.name other.name is)) newer)

    -- where the other isn't newer, this one is the newest
    above : (other : Publication) → made.job.krate ≡ krate → IsNewestOf krate other rest → (¬ IsNewer other.name made.name) → IsNewestOf krate made (made ∷ rest)
    above other its best not_later = record {
      within = inl refl;
      of_crate = its;
      newest = λ o at k newer. elim at [
        | inl same ↦ newer_itself made.name (subst (λ (o : Publication). IsNewer o.name made.name) (sym same) newer)
        | inr among ↦ elim (one_is_newer other.name made.name) [
          | inl a ↦ not_later a
          | inr rest ↦ elim rest [
            | inl same ↦ best.newest o among k (subst (IsNewer o.name) (sym same) newer)
            | inr b ↦ best.newest o among k (newer_through o.name made.name other.name newer b)
          ]
        ]
      ];
    }

    -- of these two, the newer
    both : (other : Publication) → made.job.krate ≡ krate → IsNewestOf krate other rest → (r : Ordering) → name_order made.name other.name ≡ r → IsNewestOf krate (match_ordering r other made made) (made ∷ rest)
    both other its best Less is = record {
      within = inr best.within;
      of_crate = best.of_crate;
      newest = λ o at k newer. elim at [
        | inl same ↦ absurd (greater (newer_is_greater made.name other.name).0 (subst (λ (o : Publication). IsNewer o.name other.name) (sym same) newer))
        | inr later ↦ best.newest o later k newer
      ];
    }
      where
        greater : (IsNewer made.name other.name → name_order made.name other.name ≡ Greater) → IsNewer made.name other.name → ⊥
        greater to newer = let p = to newer in cc
    both other its best Equal is = above other its best (λ newer. later other is newer)
    both other its best Greater is = above other its best (λ newer. newer_once made.name other.name ((newer_is_greater made.name other.name).1 is) newer)

    go : (b : Bool) → same_text made.job.krate krate ≡ b → (o : Option Publication) → Found krate o rest → Found krate (cond b (Some (newer_of made o)) o) (made ∷ rest)
    go true its None none = record {
      within = inl refl;
      of_crate = same_bytes made.job.krate krate its;
      newest = λ o at k newer. elim at [
        | inl same ↦ newer_itself made.name (subst (λ (o : Publication). IsNewer o.name made.name) (sym same) newer)
        | inr later ↦ none o later k
      ];
    }
    go true its (Some other) best = both other (same_bytes made.job.krate krate its) best (name_order made.name other.name) refl
    go false off None none = λ o at k. elim at [
      | inl same ↦ apart off (ap (λ (o : Publication). o.job.krate) same ∙ k)
      | inr later ↦ none o later k
    ]
    go false off (Some other) best = record {
      within = inr best.within;
      of_crate = best.of_crate;
      newest = λ o at k newer. elim at [
        | inl same ↦ apart off (ap (λ (o : Publication). o.job.krate) same ∙ k)
        | inr later ↦ best.newest o later k newer
      ];
    }

-- ---- What was published stays so.

pub is_here_same : (krate entry k e : Text) → is_here krate entry k e ≡ true → (krate ≡ k) × (entry ≡ e)
is_here_same krate entry k e is = go (same_text k krate) (same_text e entry) refl refl is
  where
    go : (a b : Bool) → same_text k krate ≡ a → same_text e entry ≡ b → (a && b) ≡ true → (krate ≡ k) × (entry ≡ e)
    go true true p q is = (sym (same_bytes k krate p), sym (same_bytes e entry q))
    go true false p q is = cc
    go false b p q is = cc

site_stays : (step : Op × Reply) (d : Dir) (k e : Text) → site_of d ≡ Out k e → site_of (dir_after step d) ≡ Out k e
site_stays step Unmade k e is = cc
site_stays step (Stands krate entry files) k e is = cc
site_stays step Removed k e is = cc
site_stays step (Published krate entry files) k e is = is

-- a step publishes where its session is out after it and wasn't before
published_by : (op : Op) (reply : Reply) (d : Dir) (k e : Text) → site_of (dir_after (op, reply) d) ≡ Out k e
    → (site_of d ≡ Out k e) ⊎ ((is_publishing (op, reply) d ≡ true) × ((from : Text) × (files : List (Text × Known)) × (d ≡ Stands k from files) × (op ≡ Rename k from e) × (reply ≡ Done)))
published_by op reply Removed k e is = cc
published_by op reply (Published krate entry files) k e is = inl is
published_by (MakeDir krate entry) Done Unmade k e is = cc
published_by op reply Unmade k e is = cc
published_by (RemoveDir a b) Done (Stands krate entry files) k e is = absurd (go (is_here krate entry a b) is)
  where
    go : (b : Bool) → site_of (cond b Removed (Stands krate entry files)) ≡ Out k e → ⊥
    go true is = cc
    go false is = cc
published_by (Unlink a b c) Done (Stands krate entry files) k e is = absurd (go (is_here krate entry a b) is)
  where
    go : (x : Bool) → site_of (cond x (Stands krate entry (remove_entry (is_at (text_cmp c)) files)) (Stands krate entry files)) ≡ Out k e → ⊥
    go true is = cc
    go false is = cc
published_by (Link a b c d) Done (Stands krate entry files) k e is = cc
published_by (Create a b c) Done (Stands krate entry files) k e is = cc
published_by (Append a b c d) Done (Stands krate entry files) k e is = cc
published_by (Append a b c d) Fault (Stands krate entry files) k e is = cc
published_by (Read a b c) (Bytes d) (Stands krate entry files) k e is = cc
published_by (Rename a from to) Done (Stands krate entry files) k e is = go (is_here krate entry a from) refl is
  where
    go : (b : Bool) → is_here krate entry a from ≡ b → site_of (cond b (Published a to files) (Stands krate entry files)) ≡ Out k e
        → (site_of (Stands krate entry files) ≡ Out k e) ⊎ ((is_here krate entry a from ≡ true) × ((f : Text) × (its : List (Text × Known)) × (Stands krate entry files ≡ Stands k f its) × (Rename a from to ≡ Rename k f e) × (Done ≡ Done)))
    go false same_path is = cc
    go true same_path is =
        let p : a ≡ k = cc in
        let q : to ≡ e = cc in
        let same = is_here_same krate entry a from same_path in
        inr (same_path, (from, files, (λ i. Stands ((same.0 ∙ p) i) (same.1 i) files), (λ i. Rename (p i) from (q i)), refl))
published_by op reply (Stands krate entry files) k e is = cc

-- ---- What is in the list is out, and the other way round.

out_same : (k e a b : Text) → Out k e ≡ Out a b → (k ≡ a) × (e ≡ b)
out_same k e a b is = (cc, cc)

-- it is a session's that is out under its entry
abbrev pub IsOuts : List Event → Publication → Type 0
IsOuts H made = (who : ℕ) × (sites_of H who ≡ Out made.job.krate (entry_of made)) × (jobs_of H who ≡ Some made.job)

module _ (files : Files) (H : List Event) (F : State) (l : Laws files H F) where
  owners : Owners (jobs_of H) (names_of H) (sites_of H) F.drawn
  owners = record { own = l.own_names; once = l.names_once }

  -- a session that is out has begun
  out_begun : (who : ℕ) (k e : Text) → sites_of H who ≡ Out k e → begins H ≢ who
  out_begun who k e out is =
      let its = out_name owners who k e out in
      none_some its.0 (jobs_of H who) ((l.numbers.fresh who (omega (arith, is))).1) its.2

  -- and stays out, with its job
  pub outs_stay : (event : Event) (G : State) → Happens H F event G → (who : ℕ) (k e : Text) → sites_of H who ≡ Out k e → (sites_of (event ∷ H) who ≡ Out k e) × (jobs_of (event ∷ H) who ≡ jobs_of H who)
  outs_stay (Begin number job) G is who k e out =
      let off : number ≢ who = λ same. out_begun who k e out (sym is.0 ∙ same) in (
        (λ i. site_of (dir (there (λ w. own_steps w H) number [] who off i))) ∙ out,
        there (jobs_of H) number (Some job) who off,
      )
  outs_stay (Did number op reply) G is who k e out = (
    (λ i. at_step (λ s. site_of (dir s)) number op reply H i who) ∙ go (same_number number who),
    refl,
  )
    where
      go : (number ≡ who) ⊎ (number ≢ who) → with_at (sites_of H) number (site_of (dir ((op, reply) ∷ own_steps number H))) who ≡ Out k e
      go (inl same) = ap (with_at (sites_of H) number (site_of (dir ((op, reply) ∷ own_steps number H)))) (sym same) ∙ here (sites_of H) number (site_of (dir ((op, reply) ∷ own_steps number H)))
          ∙ site_stays (op, reply) (dir (own_steps number H)) k e (ap (sites_of H) same ∙ out)
      go (inr off) = there (sites_of H) number (site_of (dir ((op, reply) ∷ own_steps number H))) who off ∙ out
  outs_stay (Left number op cut) G is who k e out = (out, refl)

  -- what a publishing step adds
  pub publishes : (who : ℕ) (op : Op) (reply : Reply) (G : State) → MayDo files H who op → is_publishing (op, reply) (dir (own_steps who H)) ≡ true
      → (n : SessionName) × (job : Job) × (name (own_steps who H) ≡ Some n) × (job_of who H ≡ Some job) × (site_of (dir_after (op, reply) (dir (own_steps who H))) ≡ Out job.krate (final_text n (job_hash_of job)))
  publishes who op reply G may is = go op reply (dir (own_steps who H)) refl is (may_parts files H who op may)
    where
      Result : Op → Reply → Type 0
      Result op reply = (n : SessionName) × (job : Job) × (name (own_steps who H) ≡ Some n) × (job_of who H ≡ Some job) × (site_of (dir_after (op, reply) (dir (own_steps who H))) ≡ Out job.krate (final_text n (job_hash_of job)))

      go : (op : Op) (reply : Reply) (d : Dir) → dir (own_steps who H) ≡ d → is_publishing (op, reply) d ≡ true → (job : Job) × (running who H ≡ Some job) × IsPermitted files job (own_steps who H) op → Result op reply
      go (Rename krate from to) Done (Stands k e known) d is (job, runs, inl p) =
          let place = own_place files H F l who job runs krate from p.0 p.3 in (
            p.1,
            job,
            p.5,
            runs_job H who job runs,
            ap (λ d. site_of (dir_after (Rename krate from to, Done) d)) p.3 ∙ ap (λ b. site_of (cond b (Published krate to p.0) (Stands krate from p.0))) (here_itself krate from) ∙ (λ i. Out (place.2 i) (p.6 i)),
          )
      go (Rename krate from to) Done (Stands k e known) d is (job, runs, inr p) =
          let place = own_place files H F l who job runs k e known d in
          let same = is_here_same k e krate from is in
          absurd (final_no_working p.0 place.0 p.1 (sym p.8 ∙ sym same.1 ∙ place.3))
      go (Rename krate from to) Done Unmade d is p = cc
      go (Rename krate from to) Done Removed d is p = cc
      go (Rename krate from to) Done (Published k e known) d is p = cc
      go (Rename krate from to) reply d at is p = cc
      go op reply d at is p = cc

-- what was published is out
pub published_outs : (files : Files) (events : List Event) (G : State) → LeadsTo events G → AreAllowed files events → (made : Publication) → IsIn (published events) made → IsOuts events made
published_outs files [] G leads allowed made at = absurd at
published_outs files (Begin number job ∷ H) G (F, leads, is) allowed made at =
    let old = published_outs files H F leads allowed.0 made at in
    let still = outs_stay files H F (laws_hold files H F leads allowed.0) (Begin number job) G is old.0 made.job.krate (entry_of made) old.1 in
    (old.0, still.0, still.1 ∙ old.2)
published_outs files (Left number op cut ∷ H) G (F, leads, is) allowed made at = published_outs files H F leads allowed.0 made at
published_outs files (Did w op reply ∷ H) G (F, leads, is) allowed made at = go (λ within. published_outs files H F leads allowed.0 made within) (is_publishing (op, reply) (dir (own_steps w H))) refl at
  where
    old : (IsIn (published H) made → IsOuts H made) → IsIn (published H) made → IsOuts (Did w op reply ∷ H) made
    old ih within =
        let was = ih within in
        let still = outs_stay files H F (laws_hold files H F leads allowed.0) (Did w op reply) G is was.0 made.job.krate (entry_of made) was.1 in
        (was.0, still.0, still.1 ∙ was.2)

    go : (IsIn (published H) made → IsOuts H made) → (b : Bool) → is_publishing (op, reply) (dir (own_steps w H)) ≡ b → IsIn (cond b (publication (name (own_steps w H)) (job_of w H) ++ published H) (published H)) made → IsOuts (Did w op reply ∷ H) made
    go ih false idle within = old ih within
    go ih true publishing within =
        let p = publishes files H F (laws_hold files H F leads allowed.0) w op reply G allowed.1 publishing in
        new ih p (subst (λ ms. IsIn (ms ++ published H) made) (λ i. publication (p.2 i) (p.3 i)) within)
      where
        new : (IsIn (published H) made → IsOuts H made) → (p : (n : SessionName) × (job : Job) × (name (own_steps w H) ≡ Some n) × (job_of w H ≡ Some job) × (site_of (dir_after (op, reply) (dir (own_steps w H))) ≡ Out job.krate (final_text n (job_hash_of job))))
            → IsIn (record { name = p.0; job = p.1 } ∷ published H) made → IsOuts (Did w op reply ∷ H) made
        new ih p (inr rest) = old ih rest
        new ih p (inl same) = subst (IsOuts (Did w op reply ∷ H)) same
            (w, (λ i. at_step (λ s. site_of (dir s)) w op reply H i w) ∙ here (sites_of H) w (site_of (dir ((op, reply) ∷ own_steps w H))) ∙ p.4, p.3)

-- and what is out was published
pub outs_published : (files : Files) (events : List Event) (G : State) → LeadsTo events G → AreAllowed files events → (who : ℕ) (k e : Text) → sites_of events who ≡ Out k e
    → (made : Publication) × IsIn (published events) made × (made.job.krate ≡ k) × (entry_of made ≡ e)
outs_published files [] G leads allowed who k e out = cc
outs_published files (Begin number job ∷ H) G (F, leads, is) allowed who k e out = outs_published files H F leads allowed.0 who k e (begun (number == who) out)
  where
    begun : (b : Bool) → site_of (dir (cond b [] (own_steps who H))) ≡ Out k e → sites_of H who ≡ Out k e
    begun true out = cc
    begun false out = out
outs_published files (Left number op cut ∷ H) G (F, leads, is) allowed who k e out = outs_published files H F leads allowed.0 who k e out
outs_published files (Did w op reply ∷ H) G (F, leads, is) allowed who k e out = go (λ before. outs_published files H F leads allowed.0 who k e before) (same_number w who)
  where
    grows : (b : Bool) (made : Publication) → IsIn (published H) made → IsIn (cond b (publication (name (own_steps w H)) (job_of w H) ++ published H) (published H)) made
    grows true made within = in_right (publication (name (own_steps w H)) (job_of w H)) (published H) made within
    grows false made within = within

    old : (sites_of H who ≡ Out k e → (made : Publication) × IsIn (published H) made × (made.job.krate ≡ k) × (entry_of made ≡ e)) → sites_of H who ≡ Out k e → (made : Publication) × IsIn (published (Did w op reply ∷ H)) made × (made.job.krate ≡ k) × (entry_of made ≡ e)
    old ih before = let was = ih before in (was.0, grows (is_publishing (op, reply) (dir (own_steps w H))) was.0 was.1, was.2, was.3)

    after : sites_of (Did w op reply ∷ H) who ≡ with_at (sites_of H) w (site_of (dir ((op, reply) ∷ own_steps w H))) who
    after = λ i. at_step (λ s. site_of (dir s)) w op reply H i who

    go : (sites_of H who ≡ Out k e → (made : Publication) × IsIn (published H) made × (made.job.krate ≡ k) × (entry_of made ≡ e)) → (w ≡ who) ⊎ (w ≢ who) → (made : Publication) × IsIn (published (Did w op reply ∷ H)) made × (made.job.krate ≡ k) × (entry_of made ≡ e)
    go ih (inr off) = old ih (sym (there (sites_of H) w (site_of (dir ((op, reply) ∷ own_steps w H))) who off) ∙ sym after ∙ out)
    go ih (inl own) = elim (published_by op reply (dir (own_steps w H)) k e then) [
      | inl before ↦ old ih (ap (sites_of H) (sym own) ∙ before)
      | inr (publishing, _) ↦ new publishing
    ]
      where
        then : site_of (dir_after (op, reply) (dir (own_steps w H))) ≡ Out k e
        then = sym (here (sites_of H) w (site_of (dir ((op, reply) ∷ own_steps w H)))) ∙ ap (with_at (sites_of H) w (site_of (dir ((op, reply) ∷ own_steps w H)))) own ∙ sym after ∙ out

        new : is_publishing (op, reply) (dir (own_steps w H)) ≡ true → (made : Publication) × IsIn (published (Did w op reply ∷ H)) made × (made.job.krate ≡ k) × (entry_of made ≡ e)
        new publishing =
            let p = publishes files H F (laws_hold files H F leads allowed.0) w op reply G allowed.1 publishing in
            let same : (p.1.krate ≡ k) × (final_text p.0 (job_hash_of p.1) ≡ e) = out_same p.1.krate (final_text p.0 (job_hash_of p.1)) k e (sym p.4 ∙ then) in (
              record { name = p.0; job = p.1 },
              subst (λ b. IsIn (cond b (publication (name (own_steps w H)) (job_of w H) ++ published H) (published H)) (record { name = p.0; job = p.1 })) (sym publishing)
                  (subst (λ ms. IsIn (ms ++ published H) (record { name = p.0; job = p.1 })) (λ i. publication (sym p.2 i) (sym p.3 i)) (inl refl)),
              same.0,
              same.1,
            )

-- the newest of a crate stands, with exactly the files of its job
pub newest_whole : (files : Files) (events : List Event) (F : State) → LeadsTo events F → AreAllowed files events → (krate : Text) (made : Publication) → newest events krate ≡ Some made
    → (set : List (Text × Text)) × (folder : List (Text × ℕ)) × IsSet files made.job set × (folder_at F krate (entry_of made) ≡ Some folder) × HoldsSet (bytes_of F) folder set
newest_whole files events F leads allowed krate made is = elim (l.newest out.0 krate made.name (job_hash_of made.job) at) [
  | inl stands ↦ whole (folder_at F krate (entry_of made)) refl stands
  | inr (v, m, hash, later, newer) ↦
      let other = outs_published files events F leads allowed v krate (final_text m hash) later in
      absurd (best.newest other.0 other.1 other.2 (subst (λ n. IsNewer n made.name) (sym (same_final_name other.0.name m (job_hash_of other.0.job) hash other.3)) newer))
]
  where
    l : Laws files events F
    l = laws_hold files events F leads allowed

    best : IsNewestOf krate made (published events)
    best = subst (λ o. Found krate o (published events)) is (newest_found krate (published events))

    out : IsOuts events made
    out = published_outs files events F leads allowed made best.within

    at : sites_of events out.0 ≡ Out krate (final_text made.name (job_hash_of made.job))
    at = out.1 ∙ (λ i. Out (best.of_crate i) (entry_of made))

    whole : (o : Option (List (Text × ℕ))) → folder_at F krate (entry_of made) ≡ o → IsSome o
        → (set : List (Text × Text)) × (folder : List (Text × ℕ)) × IsSet files made.job set × (folder_at F krate (entry_of made) ≡ Some folder) × HoldsSet (bytes_of F) folder set
    whole None at some = cc
    whole (Some folder) stands some =
        let o : Owners (jobs_of events) (names_of events) (sites_of events) F.drawn = record { own = l.own_names; once = l.names_once } in
        let w = l.wholes krate made.name (job_hash_of made.job) folder stands in
        let its = out_name o out.0 krate (entry_of made) at in
        let named : head_of (names_of events out.0) ≡ Some made.name = its.4 ∙ ap Some (sym (same_final_name made.name its.1 (job_hash_of made.job) (job_hash_of its.0) its.5)) in
        let one : w.0 ≡ out.0 = one_out o w.0 out.0 krate made.name (job_hash_of made.job) w.3 named in
        let same : w.1 ≡ made.job = some_same w.1 made.job (sym w.4 ∙ ap (jobs_of events) one ∙ out.2) in
        (w.2, folder, subst (λ job. IsSet files job w.2) same w.5, stands, w.6)
