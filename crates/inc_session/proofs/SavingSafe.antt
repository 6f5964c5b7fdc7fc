-- Each step of saving is permitted, and so is publishing.
use Rattle.std.proofs.Common.{◌≡◌, ℕ, List, [], ◌∷◌, ◌++◌, map, cond, refl, ap, sym, ◌∙◌, subst, inl, inr, append_assoc}
use Rattle.std.specs.Prelude.{Some, None}
use Rattle.std.specs.Map.{lookup, set_value}
use Rattle.std.specs.BTreeMap.{insert_entry, is_at}
use Rattle.std.specs.Cmp.Lexicographic.{nat_list_cmp_total}
use Rattle.inc_base.specs.declared.job.Job.{Job}
use Rattle.inc_fs.specs.Kinds.{IsKindOf}
use Rattle.inc_fs.specs.Lookups.{lookup_here}
use Rattle.inc_fs.specs.Paths.{Text, text_cmp}
use Rattle.inc_fs.specs.declared.op.Op.{Op}
use Rattle.inc_fs.specs.declared.op.Op.TheVariants.{Create, Append}
use Rattle.inc_fs.specs.declared.op.Reply.{Reply}
use Rattle.inc_fs.specs.declared.op.Reply.TheVariants.{Done, Exists, Missing, Fault}
use Rattle.inc_names.specs.declared.session.SessionName.{SessionName}
use Rattle.inc_names.specs.Entries.{working_text, final_text}
use Rattle.inc_plan.specs.Plan.{Plan, Safe}
use Rattle.inc_plan.specs.Plan.Plan.{Give}
use Rattle.inc_proto.specs.Events.{Steps}
use Rattle.inc_proto.specs.Permits.{complete}
use Rattle.inc_proto.specs.Views.{dir_after, changed, put, appended as longer}
use Rattle.inc_proto.specs.Views.Dir.{Stands, Published}
use Rattle.inc_proto.specs.declared.own.Known.{Known}
use Rattle.inc_wire.specs.Forms.{job_hash_of}
use Rattle.inc_session.specs.Compiling.{compiled_of, files_in, put_all, AreNew}
use Rattle.inc_session.specs.Ends.{judge, IsWorking, IsEarly, IsCutByFault, IsDisturbedBy, SaveFits}
use Rattle.inc_session.specs.Reading.{IsDisturbing}
use Rattle.inc_session.specs.Saving.{SaveEnd, pieces, file_ops, saving_ops, publishing, all_ops, answered, each}
use Rattle.inc_session.specs.Saving.SaveEnd.{Saved}
use Rattle.inc_session.specs.declared.compile.Made.{Made}
use Rattle.inc_session.proofs.Pieces.{joined, ArePieces, pieces_sized, pieces_whole}
use Rattle.inc_session.proofs.Words.{here}
use Rattle.inc_session.proofs.Puts.{complete_put, complete_set, set_put, found_set, lacks}

abbrev Set : Type 0
Set = List (Text × Text)

module _ (job : Job) (its : SessionName) (h : ℕ) (made : Made) (compiled : (compiled_of job).made ≡ Some made) where
  abbrev Good : Plan SaveEnd → Steps → Type 0
  Good plan steps = Safe (judge job) (SaveFits job its h) plan steps

  abbrev W : List (Text × Known) → Steps → Type 0
  W files steps = IsWorking job its h files steps

  abbrev entry : Text
  entry = working_text its

  abbrev final : Text
  final = final_text its (job_hash_of job)

  -- a file that the session made, with these bytes
  abbrev its_own : Text → Known
  its_own bytes = record { linked = None; bytes = Some bytes }

  early : (files : List (Text × Known)) (steps : Steps) → W files steps → IsEarly job steps
  early files steps w = inr (made, its, files, compiled, w.has_dir)

  cut : (op : Op) (files : List (Text × Known)) (steps : Steps) → W files steps → IsCutByFault job ((op, Fault) ∷ steps)
  cut op files steps w = record { asked = op; before = steps; made = refl; early = early files steps w }

  off : (op : Op) (reply : Reply) (files : List (Text × Known)) (steps : Steps) → IsDisturbing op reply → W files steps → IsDisturbedBy job op reply ((op, reply) ∷ steps)
  off op reply files steps disturbs w = record { before = steps; made = refl; disturbs = disturbs; early = early files steps w }

  -- what is left is safe wherever the directory has this set
  abbrev After : Plan SaveEnd → Set → Type 0
  After next set = (files : List (Text × Known)) (steps : Steps) → W files steps → complete files ≡ Some set → Good next steps

  appended_safe : (next : Plan SaveEnd) (x piece before : Text) (set : Set) (files : List (Text × Known)) (reply : Reply) (steps : Steps)
      → ((files : List (Text × Known)) (steps : Steps) → W files steps → complete files ≡ Some (insert_entry text_cmp set x (before ++ piece)) → lookup (is_at (text_cmp x)) files ≡ Some (its_own (before ++ piece)) → Good next steps)
      → W files steps → complete files ≡ Some (insert_entry text_cmp set x before) → lookup (is_at (text_cmp x)) files ≡ Some (its_own before) → IsKindOf (Append job.krate entry x piece) reply
      → Good (answered next (Append job.krate entry x piece) reply) ((Append job.krate entry x piece, reply) ∷ steps)
  appended_safe next x piece before set files Done steps rest w is there kind =
      let more = set_value (is_at (text_cmp x)) files (its_own (before ++ piece)) in
      let now : changed x (longer piece) files ≡ more = ap (λ o. put x (longer piece) o files) there in
      rest more ((Append job.krate entry x piece, Done) ∷ steps)
      (record { named = w.named; locked = w.locked; has_dir = ap (dir_after (Append job.krate entry x piece, Done)) w.has_dir ∙ ap (Stands job.krate entry) now; rose = w.rose })
      (complete_set (is_at (text_cmp x)) files (insert_entry text_cmp set x before) (its_own (before ++ piece)) (before ++ piece) refl is ∙ ap Some (set_put set x before (before ++ piece)))
      (found_set (is_at (text_cmp x)) files (its_own (before ++ piece)) (its_own before) there)
  appended_safe next x piece before set files Fault steps rest w is there kind = cut (Append job.krate entry x piece) files steps w
  appended_safe next x piece before set files Missing steps rest w is there kind = off (Append job.krate entry x piece) Missing files steps tt w
  appended_safe next x piece before set files reply steps rest w is there kind = absurd (cc)

  appends_safe : (later : List Op) (x : Text) (pieces : List Text) (before : Text) (set : Set) (files : List (Text × Known)) (steps : Steps) → After (each later) (insert_entry text_cmp set x (joined before pieces)) → ArePieces pieces
      → W files steps → complete files ≡ Some (insert_entry text_cmp set x before) → lookup (is_at (text_cmp x)) files ≡ Some (its_own before) → Good (each (map (Append job.krate entry x) pieces ++ later)) steps
  appends_safe later x [] before set files steps rest sizes w is there = rest files steps w is
  appends_safe later x (piece ∷ pieces) before set files steps rest sizes w is there = (
    (λ can. (files, its_own before, w.has_dir, (h, w.locked), there, refl, sizes.0, sizes.1)),
    λ reply kind. appended_safe (each (map (Append job.krate entry x) pieces ++ later)) x piece before set files reply steps
        (λ files steps w is there. appends_safe later x pieces (before ++ piece) set files steps rest sizes.2 w is there) w is there kind.0,
  )

  created_safe : (later : List Op) (x bytes : Text) (set : Set) (files : List (Text × Known)) (reply : Reply) (steps : Steps) → After (each later) (insert_entry text_cmp set x bytes)
      → W files steps → complete files ≡ Some set → IsKindOf (Create job.krate entry x) reply
      → Good (answered (each (map (Append job.krate entry x) (pieces bytes) ++ later)) (Create job.krate entry x) reply) ((Create job.krate entry x, reply) ∷ steps)
  created_safe later x bytes set files Done steps rest w is kind =
      appends_safe later x (pieces bytes) [] set (insert_entry text_cmp files x (its_own [])) ((Create job.krate entry x, Done) ∷ steps)
      (subst (λ bytes. After (each later) (insert_entry text_cmp set x bytes)) (sym (pieces_whole bytes)) rest) (pieces_sized bytes)
      (record { named = w.named; locked = w.locked; has_dir = ap (dir_after (Create job.krate entry x, Done)) w.has_dir; rose = w.rose })
      (complete_put files set x (its_own []) [] refl is) (lookup_here text_cmp nat_list_cmp_total files x (its_own []))
  created_safe later x bytes set files Fault steps rest w is kind = cut (Create job.krate entry x) files steps w
  created_safe later x bytes set files Exists steps rest w is kind = off (Create job.krate entry x) Exists files steps tt w
  created_safe later x bytes set files Missing steps rest w is kind = off (Create job.krate entry x) Missing files steps tt w
  created_safe later x bytes set files reply steps rest w is kind = absurd (cc)

  file_safe : (later : List Op) (file : Text × Text) (set : Set) (files : List (Text × Known)) (steps : Steps) → After (each later) (insert_entry text_cmp set file.0 file.1)
      → W files steps → complete files ≡ Some set → lookup (is_at (text_cmp file.0)) set ≡ None → Good (each (file_ops job.krate entry file ++ later)) steps
  file_safe later file set files steps rest w is none = (
    (λ can. (files, w.has_dir, (h, w.locked), lacks files set file.0 is none)),
    λ reply kind. created_safe later file.0 file.1 set files reply steps rest w is kind.0,
  )

  published_safe : (files : List (Text × Known)) (reply : Reply) (steps : Steps) → W files steps → complete files ≡ Some made.files → IsKindOf (publishing job its) reply
      → Good (answered (Give Saved) (publishing job its) reply) ((publishing job its, reply) ∷ steps)
  published_safe files Done steps w is kind = record {
    made = made;
    compiled = compiled;
    files = files;
    before = steps;
    is = refl;
    working = w;
    complete = is;
    out = ap (dir_after (publishing job its, Done)) w.has_dir ∙ ap (λ b. cond b (Published job.krate final files) (Stands job.krate entry files)) (here job.krate entry);
  }
  published_safe files Fault steps w is kind = cut (publishing job its) files steps w
  published_safe files Exists steps w is kind = off (publishing job its) Exists files steps tt w
  published_safe files Missing steps w is kind = off (publishing job its) Missing files steps tt w
  published_safe files reply steps w is kind = absurd (cc)

  -- where these files make of what its directory has what is to be published
  pub saves_safe : (saved : Set) (set : Set) (files : List (Text × Known)) (steps : Steps) → AreNew set saved → put_all set saved ≡ made.files → IsWorking job its h files steps → complete files ≡ Some set
      → Safe (judge job) (SaveFits job its h) (each (all_ops job its saved)) steps
  saves_safe [] set files steps new same w is = (
    (λ can. inl (files, its, made.files, w.has_dir, (h, w.locked), w.named, refl, is ∙ ap Some same, ap files_in compiled)),
    λ reply kind. published_safe files reply steps w (is ∙ ap Some same) kind.0,
  )
  saves_safe (file ∷ saved) set files steps new same w is =
      subst (λ ops. Good (each ops) steps) (sym (append_assoc (file_ops job.krate entry file) (saving_ops job.krate entry saved) (publishing job its ∷ [])))
      (file_safe (all_ops job its saved) file set files steps (λ files steps w is. saves_safe saved (insert_entry text_cmp set file.0 file.1) files steps new.1 same w is) w is new.0)
