-- What a legal history renamed to finalised entries is what it published.
use Rattle.std.specs.Prelude.{◌≡◌, ◌≢◌, ◌⊎◌, ◌++◌, ℕ, Bool, true, false, cond, List, [], ◌∷◌, refl, Option, Some, None}
use Rattle.std.specs.Option.{option_map}
use Rattle.std.specs.Cmp.{tied_itself, nat_cmp_total}
use Rattle.std.specs.Ordering.{match_ordering, ordering_then}
use Rattle.std.specs.declared.cmp.Ordering.{Ordering}
use Rattle.std.specs.declared.cmp.Ordering.TheVariants.{Less, Equal, Greater}
use Rattle.std.proofs.Common.{ap, sym, subst, ◌∙◌, inl, inr}
use Rattle.std.proofs.lemmas.Bool.{true≢false}
use Rattle.inc_base.specs.declared.job.Job.{Job}
use Rattle.inc_fs.specs.Lookups.{same_bytes}
use Rattle.inc_fs.specs.State.{State, Text}
use Rattle.inc_fs.specs.declared.op.Op.{Op}
use Rattle.inc_fs.specs.declared.op.Op.TheVariants.{Rename}
use Rattle.inc_fs.specs.declared.op.Reply.{Reply}
use Rattle.inc_fs.specs.declared.op.Reply.TheVariants.{Done}
use Rattle.inc_names.specs.declared.session.SessionName.{SessionName}
use Rattle.inc_names.specs.Entries.{final_text, name_order, IsSessionName, IsNewer, working_text}
use Rattle.inc_names.specs.EntryLaws.{same_final_text}
use Rattle.inc_names.specs.OrderLaws.{newer_is_greater, one_is_newer, newer_once}
use Rattle.inc_wire.specs.Forms.{job_hash_of}
use Rattle.inc_proto.specs.declared.event.Event.{Event}
use Rattle.inc_proto.specs.declared.event.Event.TheVariants.{Begin, Did, Left}
use Rattle.inc_proto.specs.Events.{own_steps, job_of}
use Rattle.inc_proto.specs.Files.{Files}
use Rattle.inc_proto.specs.Finals.{Publication, is_publishing, publication, published, newer_of, newest_among, newest}
use Rattle.inc_proto.specs.Leads.{LeadsTo}
use Rattle.inc_proto.specs.Legal.{MayDo, AreAllowed}
use Rattle.inc_proto.specs.Permits.{IsPermitted}
use Rattle.inc_proto.specs.Views.{Dir, dir, name, same_text}
use Rattle.inc_proto.specs.Views.Dir.{Unmade, Stands, Removed, Published}
use Rattle.inc_laws.specs.Laws.{Laws}
use Rattle.inc_laws.specs.Newest.{final_of, pair_of, entry_by, IsFinal, IsRenamed, IsLater, IsNewestFound}
use Rattle.inc_laws.specs.Readings.{running, head_of, names_of}
use Rattle.inc_laws.proofs.Here.{here_itself, same_itself}
use Rattle.inc_laws.proofs.Lasting.{may_parts, laws_hold}
use Rattle.inc_laws.proofs.Names.{name_is}
use Rattle.inc_laws.proofs.Newest.{equal_names, is_here_same, newer_itself}
use Rattle.inc_laws.proofs.Next.{runs_job}
use Rattle.inc_laws.proofs.Own.{head_in}
use Rattle.inc_laws.proofs.Ranges.{drawn_name, hash_small}
use Rattle.inc_laws.proofs.Texts.{final_no_working}
use Rattle.inc_laws.proofs.Wraps.{own_place}

-- ---- The newer of two.

tied_names : (n : SessionName) → name_order n n ≡ Equal
tied_names n = (λ i. ordering_then (tied_itself nat_cmp_total n.moment i) (tied_itself nat_cmp_total n.random i))

other_is_newer : (a b : SessionName) → name_order a b ≡ Less → IsNewer b a
other_is_newer a b is = elim (one_is_newer a b) [
  | inl newer ↦ absurd (not_greater (sym is ∙ (newer_is_greater a b).0 newer))
  | inr rest ↦ elim rest [
    | inl same ↦ absurd (not_equal (sym is ∙ ap (name_order a) (sym same) ∙ tied_names a))
    | inr newer ↦ newer
  ]
]
  where
    not_greater : ◌≡◌ {A = Ordering} Less Greater → ⊥
    not_greater p = cc

    not_equal : ◌≡◌ {A = Ordering} Less Equal → ⊥
    not_equal p = cc

later_is : (made : Publication) (o : Option Publication) (best : Option (SessionName × ℕ)) → IsLater (Some (pair_of made)) (option_map pair_of o) best → best ≡ option_map pair_of (Some (newer_of made o))
later_is made None best is = is
later_is made (Some other) best is = go (name_order made.name other.name) refl is
  where
    go : (r : Ordering) → name_order made.name other.name ≡ r → (IsNewer other.name made.name × (best ≡ Some (pair_of other))) ⊎ ((¬ IsNewer other.name made.name) × (best ≡ Some (pair_of made)))
        → best ≡ Some (pair_of (match_ordering r other made made))
    go Less order (inl p) = p.1
    go Less order (inr p) = absurd (p.0 (other_is_newer made.name other.name order))
    go Equal order (inl p) = absurd (newer_itself made.name (subst (λ n. IsNewer n made.name) (sym (equal_names made.name other.name order)) p.0))
    go Equal order (inr p) = p.1
    go Greater order (inl p) = absurd (newer_once made.name other.name ((newer_is_greater made.name other.name).1 order) p.0)
    go Greater order (inr p) = p.1

none_later : (found before best : Option (SessionName × ℕ)) → found ≡ None → IsLater found before best → best ≡ before
none_later None before best none is = is
none_later (Some one) before best none is = cc

-- ---- A renaming to a finalised entry publishes, and no other step does.

module _ (files : Files) (H : List Event) (F : State) (leads : LeadsTo H F) (l : Laws files H F) (who : ℕ) (krate : Text) (found : Option (SessionName × ℕ)) where
  -- what such a step shows, where it publishes and where it doesn't
  abbrev Shown : Bool → Type 0
  Shown true = (n : SessionName) × (job : Job) × (name (own_steps who H) ≡ Some n) × (job_of who H ≡ Some job)
      × (((job.krate ≡ krate) × (found ≡ Some (n, job_hash_of job))) ⊎ ((job.krate ≢ krate) × (found ≡ None)))
  Shown false = found ≡ None

  -- its name is in range
  name_small : (n : SessionName) → name (own_steps who H) ≡ Some n → IsSessionName n
  name_small n is = drawn_name H F leads n (l.names_once.known who n (head_in (names_of H who) n (name_is (own_steps who H) ∙ is)))

  final_found : (to : Text) (n : SessionName) (job : Job) → IsSessionName n → to ≡ final_text n (job_hash_of job) → (f : Option (SessionName × ℕ)) → IsFinal to f → f ≡ Some (n, job_hash_of job)
  final_found to n job small is None none = absurd (none n (job_hash_of job) small (hash_small job) is)
  final_found to n job small is (Some its) final =
      let same = same_final_text its.0 n its.1 (job_hash_of job) final.1 (hash_small job) (sym final.2 ∙ is) in
      (λ i. Some (same.0 i, same.1 i))

  working_found : (to : Text) (n : SessionName) → (to ≡ working_text n) → (f : Option (SessionName × ℕ)) → IsFinal to f → f ≡ None
  working_found to n is None none = refl
  working_found to n is (Some its) final = absurd (final_no_working its.0 n its.1 (sym final.2 ∙ is))

  shown : (op : Op) (reply : Reply) → MayDo files H who op → IsRenamed krate op reply found → (b : Bool) → is_publishing (op, reply) (dir (own_steps who H)) ≡ b → Shown b
  shown op reply may renamed b is = go op reply (dir (own_steps who H)) refl renamed b is (may_parts files H who op may)
    where
      go : (op : Op) (reply : Reply) (d : Dir) → dir (own_steps who H) ≡ d → IsRenamed krate op reply found → (b : Bool) → is_publishing (op, reply) d ≡ b → (job : Job) × (running who H ≡ Some job) × IsPermitted files job (own_steps who H) op → Shown b
      go (Rename k from to) Done (Stands kd e known) d renamed true is (job, runs, inl p) = (
        p.1,
        job,
        p.5,
        runs_job H who job runs,
        elim renamed [
          | inl here ↦ inl (sym place.2 ∙ here.0, final_found to p.1 job (name_small p.1 p.5) p.6 found here.1)
          | inr off ↦ inr ((λ same. off.0 (place.2 ∙ same)), off.1)
        ],
      )
        where
          place : (n : SessionName) × (head_of (names_of H who) ≡ Some n) × (k ≡ job.krate) × (from ≡ working_text n)
          place = own_place files H F l who job runs k from p.0 p.3
      go (Rename k from to) Done (Stands kd e known) d renamed true is (job, runs, inr p) =
          let place = own_place files H F l who job runs kd e known d in
          let same = is_here_same kd e k from is in
          absurd (final_no_working p.0 place.0 p.1 (sym p.8 ∙ sym same.1 ∙ place.3))
      go (Rename k from to) Done d at renamed false is (job, runs, inl p) =
          absurd (true≢false (sym (ap (is_publishing (Rename k from to, Done)) (sym at ∙ p.3) ∙ here_itself k from) ∙ is))
      go (Rename k from to) Done d at renamed false is (job, runs, inr p) = elim renamed [
        | inl here ↦ working_found to p.0 p.9 found here.1
        | inr off ↦ off.1
      ]
      go (Rename k from to) Done Unmade at renamed true is p = cc
      go (Rename k from to) Done Removed at renamed true is p = cc
      go (Rename k from to) Done (Published kd e known) at renamed true is p = cc
      go (Rename k from to) reply d at renamed true is p = cc
      go (Rename k from to) reply d at renamed false is p = renamed
      go op reply d at renamed true is p = cc
      go op reply d at renamed false is p = renamed

-- ---- So what is found is the newest that was published.

pub newest_is : (files : Files) (events : List Event) (G : State) → LeadsTo events G → AreAllowed files events → (krate : Text) (best : Option (SessionName × ℕ)) → IsNewestFound krate events best
    → best ≡ option_map pair_of (newest events krate)
newest_is files [] G leads allowed krate best is = is
newest_is files (Begin number job ∷ H) G (F, leads, _) allowed krate best (found, before, none, rest, now) =
    none_later found before best none now ∙ newest_is files H F leads allowed.0 krate before rest
newest_is files (Left number op cut ∷ H) G (F, leads, _) allowed krate best (found, before, none, rest, now) =
    none_later found before best none now ∙ newest_is files H F leads allowed.0 krate before rest
newest_is files (Did who op reply ∷ H) G (F, leads, _) allowed krate best (found, before, renamed, rest, now) =
    go (newest_is files H F leads allowed.0 krate before rest) (is_publishing (op, reply) (dir (own_steps who H)))
    (shown files H F leads (laws_hold files H F leads allowed.0) who krate found op reply allowed.1 renamed (is_publishing (op, reply) (dir (own_steps who H))) refl)
  where
    go : before ≡ option_map pair_of (newest H krate) → (b : Bool) → Shown files H F leads (laws_hold files H F leads allowed.0) who krate found b
        → best ≡ option_map pair_of (newest_among krate (cond b (publication (name (own_steps who H)) (job_of who H) ++ published H) (published H)))
    go ih false none = none_later found before best none now ∙ ih
    go ih true (n, job, called, its, at) = with_made (record { name = n; job = job }) at
        ∙ ap (λ ms. option_map pair_of (newest_among krate (ms ++ published H))) (λ i. publication (sym called i) (sym its i))
      where
        with_made : (made : Publication) → ((made.job.krate ≡ krate) × (found ≡ Some (pair_of made))) ⊎ ((made.job.krate ≢ krate) × (found ≡ None))
            → best ≡ option_map pair_of (newest_among krate (made ∷ published H))
        with_made made (inl here) =
            later_is made (newest H krate) best (subst (λ f. IsLater f (option_map pair_of (newest H krate)) best) here.1 (subst (λ b. IsLater found b best) ih now))
            ∙ ap (λ b. option_map pair_of (cond b (Some (newer_of made (newest H krate))) (newest H krate))) (sym (ap (λ k. same_text k krate) here.0 ∙ same_itself krate))
        with_made made (inr off) =
            none_later found before best off.1 now ∙ ih
            ∙ ap (λ b. option_map pair_of (cond b (Some (newer_of made (newest H krate))) (newest H krate))) (sym (apart (same_text made.job.krate krate) refl))
          where
            apart : (b : Bool) → same_text made.job.krate krate ≡ b → same_text made.job.krate krate ≡ false
            apart true is = absurd (off.0 (same_bytes made.job.krate krate is))
            apart false is = is

pub entries_are : (o : Option Publication) → option_map entry_by (option_map pair_of o) ≡ option_map final_of o
entries_are None = refl
entries_are (Some made) = refl
