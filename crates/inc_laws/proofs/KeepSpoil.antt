-- An append that faults, from the table to the laws.
use Rattle.std.proofs.Common.{◌≡◌, ℕ, List, ◌∷◌, ◌++◌, refl, ap, sym, ◌∙◌, subst, None, Some}
use Rattle.std.proofs.Math.ListN.{length-set}
use Rattle.std.specs.Prelude.{slice_get, take}
use Rattle.std.specs.Option.{option_map}
use Rattle.std.specs.Map.{lookup, set_value}
use Rattle.std.specs.BTreeMap.{is_at}
use Rattle.inc_base.specs.declared.job.Job.{Job}
use Rattle.inc_fs.specs.declared.state.File.{File}
use Rattle.inc_fs.specs.declared.op.Op.{Op}
use Rattle.inc_fs.specs.declared.op.Op.TheVariants.{Append}
use Rattle.inc_fs.specs.declared.op.Reply.{Reply}
use Rattle.inc_fs.specs.declared.op.Reply.TheVariants.{Fault}
use Rattle.inc_fs.specs.State.{State, Text, text_cmp, named, opened_at, folder_at, lock_at, with_bytes}
use Rattle.inc_names.specs.declared.session.SessionName.{SessionName}
use Rattle.inc_names.specs.Entries.{working_text}
use Rattle.inc_proto.specs.Views.{own, opening, mode, dir, dir_after, put, forgotten}
use Rattle.inc_laws.specs.Readings.{draws, latest_name, running, site_of, runs_of, jobs_of, names_of, opens_of, modes_of, owns_of, dirs_of, sites_of, makers_of}
use Rattle.inc_proto.specs.declared.own.Known.{Known}
use Rattle.inc_proto.specs.Views.Dir.{Stands}
use Rattle.inc_proto.specs.Events.{own_steps}
use Rattle.inc_laws.specs.Readings.Maker.{ByCreate}
use Rattle.inc_proto.specs.declared.event.Event.{Event}
use Rattle.inc_proto.specs.declared.event.Event.TheVariants.{Did}
use Rattle.inc_proto.specs.Files.{Files}
use Rattle.inc_laws.specs.Laws.{Laws}
use Rattle.inc_laws.specs.Parts.{OwnDirKnown}
use Rattle.inc_fs.specs.Readings.{bytes_of, locks_of, set_file, same_file}
use Rattle.inc_fs.specs.Points.{with_at, put_same}
use Rattle.inc_laws.proofs.Readings.{at_step, no_step}
use Rattle.inc_laws.proofs.Own.{Owners}
use Rattle.inc_laws.proofs.Next.{Next, assembled, numbers_did, lock_files_stay, settled_stay, looked_stay}
use Rattle.inc_laws.proofs.Appends.{appended_wholes, spoiled_own_dir}

module _ (files : Files) (H : List Event) (F : State) (l : Laws files H F) (who : ℕ) (job : Job) (runs : running who H ≡ Some job)
    (n : SessionName) (cut : ℕ) (known : List (Text × Known)) (folder : List (Text × ℕ)) (file piece : Text) (found : ℕ × File) (its : Known) (called : latest_name (own_steps who H) ≡ Some n) (mine : makers_of H found.0 ≡ Some (ByCreate who)) (d : dir (own_steps who H) ≡ Stands job.krate (working_text n) known) (stands : folder_at F job.krate (working_text n) ≡ Some folder) (has : named file folder ≡ Some found.0) (at_file : slice_get F.files found.0 ≡ Some found.1) (sees : lookup (is_at (text_cmp file)) known ≡ Some its) (created : its.linked ≡ None) where
  abbrev op : Op
  op = Append job.krate (working_text n) file piece

  abbrev reply : Reply
  reply = Fault

  abbrev G : State
  G = with_bytes F found (found.1.bytes ++ take cut piece)

  o : Owners (jobs_of H) (names_of H) (sites_of H) F.drawn
  o = record { own = l.own_names; once = l.names_once }

  now : dir ((op, reply) ∷ own_steps who H) ≡ Stands job.krate (working_text n) (set_value (is_at (text_cmp file)) known (forgotten its))
  now = ap (dir_after (op, reply)) d ∙ ap (λ r. Stands job.krate (working_text n) (put file forgotten r known)) sees

  abbrev next : Next (Did who op reply ∷ H) G
  next = record {
    names = names_of H;
    sites = sites_of H;
    dirs = with_at (dirs_of H) who (Stands job.krate (working_text n) (set_value (is_at (text_cmp file)) known (forgotten its)));
    owns = owns_of H;
    opens = opens_of H;
    modes = modes_of H;
    makers = makers_of H;
    folders = folder_at F;
    lock_files = lock_at F;
    bytes = with_at (bytes_of F) found.0 (Some (found.1.bytes ++ take cut piece));
    locks = locks_of F;
    handles = opened_at F;
    names_are = sym (no_step draws who op reply H refl);
    sites_are = sym (no_step (λ s. site_of (dir s)) who op reply H (ap site_of now ∙ sym (ap site_of d)));
    dirs_are = (λ i. with_at (dirs_of H) who (sym now i)) ∙ sym (at_step dir who op reply H);
    owns_are = sym (no_step own who op reply H refl);
    opens_are = sym (no_step (λ s h. opening h s) who op reply H refl);
    modes_are = sym (no_step (λ s h. mode h s) who op reply H refl);
    makers_are = refl;
    folders_are = refl;
    lock_files_are = refl;
    bytes_are = set_file (λ f. f.bytes) F found.0 found.1 (record { bytes = found.1.bytes ++ take cut piece; lock = found.1.lock }) at_file;
    locks_are = same_file (λ f. f.lock) F found.0 found.1 (record { bytes = found.1.bytes ++ take cut piece; lock = found.1.lock }) at_file refl;
    handles_are = refl;
  }

  pub spoil_keeps : Laws files (Did who op reply ∷ H) G
  spoil_keeps = assembled files (Did who op reply ∷ H) G next
      (numbers_did H who op reply job l.numbers runs)
      (l.names_once)
      (l.own_names)
      (record { is = length-set F.files found.0 (record { bytes = found.1.bytes ++ take cut piece; lock = found.1.lock }) ∙ l.counted.is; below = l.counted.below })
      (lock_files_stay files H F who op reply l)
      (l.handles)
      (l.own_locks)
      (settled_stay files H F who op reply l)
      (subst (λ folders. OwnDirKnown files (runs_of H) (jobs_of H) (owns_of H) (sites_of H) (with_at (dirs_of H) who (Stands job.krate (working_text n) (set_value (is_at (text_cmp file)) known (forgotten its)))) (makers_of H) folders (with_at (bytes_of F) found.0 (Some (found.1.bytes ++ take cut piece)))) (put_same (folder_at F) job.krate (working_text n) (Some folder) stands) (spoiled_own_dir files (runs_of H) (jobs_of H) (owns_of H) (dirs_of H) (makers_of H) (bytes_of F) (folder_at F) o (λ v. refl) l.file_names l.sole_names who job.krate n known folder file found.0 its found.1.bytes (take cut piece) called d stands has mine sees created (ap (option_map (λ (f : File). f.bytes)) at_file) l.own_dir))
      (l.dirs)
      (l.file_names)
      (l.sole_names)
      (appended_wholes files (runs_of H) (jobs_of H) (owns_of H) (dirs_of H) (makers_of H) (bytes_of F) (folder_at F) o (λ v. refl) l.file_names l.sole_names who job.krate n known folder file found.0 its found.1.bytes (take cut piece) called d stands has mine sees created (ap (option_map (λ (f : File). f.bytes)) at_file) l.wholes)
      (l.newest)
      (looked_stay files H F who op reply l (λ k e saw. saw))
