-- A publishing, from the table to the laws.
use Rattle.std.proofs.Common.{◌≡◌, ℕ, List, ◌∷◌, refl, ap, sym, ◌∙◌, subst, None, Some, is_some, if◌then◌else◌}
use Rattle.std.specs.Map.{lookup}
use Rattle.std.specs.BTreeMap.{is_at}
use Rattle.inc_base.specs.declared.job.Job.{Job}
use Rattle.inc_fs.specs.declared.state.Entry.TheVariants.{Folder}
use Rattle.inc_fs.specs.declared.op.Op.{Op}
use Rattle.inc_fs.specs.declared.op.Op.TheVariants.{Rename}
use Rattle.inc_fs.specs.declared.op.Reply.TheVariants.{Done}
use Rattle.inc_fs.specs.State.{State, Text, text_cmp, named, opened_at, folder_at, lock_at, entry_at, folder_of, lock_of, with_entry, without_entry}
use Rattle.inc_names.specs.declared.session.SessionName.{SessionName}
use Rattle.inc_names.specs.Entries.{working_text, final_text}
use Rattle.inc_wire.specs.Forms.{job_hash_of}
use Rattle.inc_proto.specs.Views.{own, opening, mode, dir, dir_after}
use Rattle.inc_laws.specs.Readings.{draws, latest_name, running, site_of, runs_of, jobs_of, names_of, opens_of, modes_of, owns_of, dirs_of, sites_of, makers_of}
use Rattle.inc_proto.specs.declared.own.Known.{Known}
use Rattle.inc_proto.specs.declared.own.OwnLock.TheVariants.{Locked}
use Rattle.inc_proto.specs.Views.Dir.{Stands, Published}
use Rattle.inc_proto.specs.Events.{own_steps, job_of}
use Rattle.inc_proto.specs.declared.event.Event.{Event}
use Rattle.inc_proto.specs.declared.event.Event.TheVariants.{Did}
use Rattle.inc_proto.specs.Files.{Files}
use Rattle.inc_proto.specs.Permits.{complete}
use Rattle.inc_laws.specs.Laws.{Laws}
use Rattle.inc_laws.specs.Parts.{FitsView}
use Rattle.inc_fs.specs.Readings.{bytes_of, locks_of, folders_put, folders_cut, locks_put, locks_cut}
use Rattle.inc_laws.specs.Readings.Site.{At, Out}
use Rattle.inc_fs.specs.Points.{with_at, put_at, put_same}
use Rattle.inc_laws.proofs.Readings.{at_step, no_step}
use Rattle.inc_laws.proofs.Own.{Owners}
use Rattle.inc_laws.proofs.InPlace.{some_same}
use Rattle.inc_laws.proofs.Mono.{unstay}
use Rattle.inc_laws.proofs.Next.{Next, assembled, numbers_did, tried_stays, looked_before, runs_job, lock_files_stay}
use Rattle.inc_laws.proofs.Publishes.{published_out, published_own_names, published_dirs, published_file_names, published_sole, published_newest, published_wholes, published_own_dir, published_whole}
use Rattle.inc_laws.proofs.Here.{here_itself}
use Rattle.inc_fs.specs.Readings.{no_lock}

module _ (files : Files) (H : List Event) (F : State) (l : Laws files H F) (who : ℕ) (job : Job) (n : SessionName) (known : List (Text × Known)) (set : List (Text × Text)) (folder : List (Text × ℕ)) (h : ℕ)
    (runs : running who H ≡ Some job) (d : dir (own_steps who H) ≡ Stands job.krate (working_text n) known) (locked : own (own_steps who H) ≡ Locked h) (called : latest_name (own_steps who H) ≡ Some n)
    (given : files job ≡ Some set) (whole : complete known ≡ Some set)
    (stands : folder_at F job.krate (working_text n) ≡ Some folder) (free : entry_at F job.krate (final_text n (job_hash_of job)) ≡ None) where
  abbrev final : Text
  final = final_text n (job_hash_of job)

  abbrev working : Text
  working = working_text n

  abbrev op : Op
  op = Rename job.krate (working_text n) (final_text n (job_hash_of job))

  abbrev G : State
  G = without_entry (with_entry F job.krate (final_text n (job_hash_of job)) (Folder folder)) job.krate (working_text n)

  now : dir ((op, Done) ∷ own_steps who H) ≡ Published job.krate final known
  now = ap (dir_after (op, Done)) d ∙ ap (λ b. if b then Published job.krate final known else Stands job.krate working known) (here_itself job.krate working)

  abbrev next : Next (Did who op Done ∷ H) G
  next = record {
    names = names_of H;
    sites = with_at (sites_of H) who (Out job.krate final);
    dirs = with_at (dirs_of H) who (Published job.krate final known);
    owns = owns_of H;
    opens = opens_of H;
    modes = modes_of H;
    makers = makers_of H;
    folders = put_at (put_at (folder_at F) job.krate final (Some folder)) job.krate working None;
    lock_files = lock_at F;
    bytes = bytes_of F;
    locks = locks_of F;
    handles = opened_at F;
    names_are = sym (no_step draws who op Done H refl);
    sites_are = (λ i. with_at (sites_of H) who (site_of (sym now i))) ∙ sym (at_step (λ s. site_of (dir s)) who op Done H);
    dirs_are = (λ i. with_at (dirs_of H) who (sym now i)) ∙ sym (at_step dir who op Done H);
    owns_are = sym (no_step own who op Done H refl);
    opens_are = sym (no_step (λ s h. opening h s) who op Done H refl);
    modes_are = sym (no_step (λ s h. mode h s) who op Done H refl);
    makers_are = refl;
    folders_are = sym (folders_cut (with_entry F job.krate final (Folder folder)) job.krate working ∙ (λ i. put_at (folders_put F job.krate final (Folder folder) i) job.krate working None));
    lock_files_are = sym (locks_cut (with_entry F job.krate final (Folder folder)) job.krate working ∙ (λ i. put_at (locks_put F job.krate final (Folder folder) i) job.krate working None)
        ∙ (λ i. put_at (put_same (lock_at F) job.krate final None (ap lock_of free) i) job.krate working None)
        ∙ put_same (lock_at F) job.krate working None (no_lock (entry_at F job.krate working) folder stands));
    bytes_are = refl;
    locks_are = refl;
    handles_are = refl;
  }

  begun : job_of who H ≡ Some job
  begun = runs_job H who job runs

  o : Owners (jobs_of H) (names_of H) (sites_of H) F.drawn
  o = record { own = l.own_names; once = l.names_once }

  at : sites_of H who ≡ At job.krate working
  at = ap site_of d

  pub publish_keeps : Laws files (Did who op Done ∷ H) G
  publish_keeps = assembled files (Did who op Done ∷ H) G next (numbers_did H who op Done job l.numbers runs) l.names_once
      (published_own_names o l.dirs who job n folder at begun called stands)
      l.counted
      (lock_files_stay files H F who op Done l)
      l.handles l.own_locks
      (record {
        not_open = λ w h k e at. l.settled.not_open w h k e (unstay (sites_of H) who (Out job.krate final) (At k e) w (λ e. cc) at);
        has_tried = λ w k e m at c. tried_stays H who op Done _ w (l.settled.has_tried w k e m (unstay (sites_of H) who (Out job.krate final) (At k e) w (λ e. cc) at) c);
      })
      (published_own_dir o l.dirs who job n folder at begun called stands files (runs_of H) (owns_of H) (dirs_of H) (makers_of H) (bytes_of F) known (λ v. refl) l.own_dir)
      (published_dirs o l.dirs who job n folder at begun called stands)
      (published_file_names o l.dirs who job n folder at begun called stands l.file_names)
      (published_sole o l.dirs who job n folder at begun called stands l.sole_names)
      (published_wholes o l.dirs who job n folder at begun called stands set given
      (let own = l.own_dir who h job.krate working known (ap is_some runs) locked d in
      published_whole files (jobs_of H) (sites_of H) (makers_of H) (bytes_of F) who folder known set whole
      (λ x. subst (λ z. FitsView files (jobs_of H) (sites_of H) (makers_of H) (bytes_of F) who x (named x z) (lookup (is_at (text_cmp x)) known)) (some_same _ _ (sym own.1 ∙ stands)) (own.2 x)))
      l.wholes)
      (published_newest o l.dirs who job n folder at begun called stands (ap folder_of free) l.newest)
      (λ w k m hash saw. let v = l.looked w k m hash (looked_before H who op Done k (final_text m hash) w (λ no. no) saw) in (v.0, published_out o l.dirs who job n folder at begun called stands v.0 _ _ v.1))
