-- What a session may expect of replies.
use Rattle.std.specs.Prelude.{◌≡◌, ℕ, List, refl, Option, Some, None, IsSome, is_some}
use Rattle.std.specs.Map.{lookup}
use Rattle.std.specs.BTreeMap.{is_at}
use Rattle.std.specs.Option.{option_and_then}
use Rattle.std.proofs.Common.{ap, sym, subst, ◌∙◌}
use Rattle.inc_fs.specs.Listings.{look_is_exact}
use Rattle.inc_fs.specs.Readings.{bytes_of}
use Rattle.inc_fs.specs.State.{State, Text, IsIn, text_cmp, named, folder_at, number_at}
use Rattle.inc_fs.specs.Step.{Looks}
use Rattle.inc_fs.specs.declared.op.Reply.TheVariants.{Names}
use Rattle.inc_names.specs.declared.session.SessionName.{SessionName}
use Rattle.inc_names.specs.Entries.{final_text}
use Rattle.inc_names.specs.EntryLaws.{same_final_name}
use Rattle.inc_wire.specs.Forms.{job_hash_of}
use Rattle.inc_proto.specs.declared.event.Event.{Event}
use Rattle.inc_proto.specs.declared.own.Known.{Known}
use Rattle.inc_proto.specs.declared.own.OwnLock.TheVariants.{Locked}
use Rattle.inc_proto.specs.Events.{own_steps}
use Rattle.inc_proto.specs.Files.{Files}
use Rattle.inc_proto.specs.Views.{own, dir}
use Rattle.inc_proto.specs.Views.Dir.{Stands}
use Rattle.inc_laws.specs.Laws.{Laws}
use Rattle.inc_laws.specs.Parts.{FitsView}
use Rattle.inc_laws.specs.Readings.{running, head_of, jobs_of, names_of, sites_of, makers_of}
use Rattle.inc_laws.specs.Readings.Site.{Out}
use Rattle.inc_laws.proofs.Lasting.{stands_published}
use Rattle.inc_laws.proofs.Own.{Owners, out_name, one_out}

module _ (files : Files) (H : List Event) (F : State) (l : Laws files H F) where
  -- a file that its own directory has, by its view, is there while it has its own lock
  pub own_found : (who h : ℕ) (krate entry file : Text) (known : List (Text × Known)) (its : Known) → IsSome (running who H) → own (own_steps who H) ≡ Locked h
      → dir (own_steps who H) ≡ Stands krate entry known → lookup (is_at (text_cmp file)) known ≡ Some its → IsSome (number_at F krate entry file)
  own_found who h krate entry file known its runs locked d sees =
      let old = l.own_dir who h krate entry known runs locked d in
      go old.0 old.1 (named file old.0) refl (subst (FitsView files (jobs_of H) (sites_of H) (makers_of H) (bytes_of F) who file (named file old.0)) sees (old.2 file))
    where
      go : (folder : List (Text × ℕ)) → folder_at F krate entry ≡ Some folder → (o : Option ℕ) → named file folder ≡ o → FitsView files (jobs_of H) (sites_of H) (makers_of H) (bytes_of F) who file o (Some its) → IsSome (number_at F krate entry file)
      go folder stands None has fits = absurd fits
      go folder stands (Some f) has fits = ap is_some (ap (option_and_then (named file)) stands ∙ has)

  -- a listing has one finalised entry of a name at most
  pub one_final : (krate : Text) (names : List Text) (G : State) → Looks F krate (Names names) G → (n : SessionName) (h k : ℕ) → IsIn names (final_text n h) → IsIn names (final_text n k) → final_text n h ≡ final_text n k
  one_final krate names G s n h k a b =
      let o : Owners (jobs_of H) (names_of H) (sites_of H) F.drawn = record { own = l.own_names; once = l.names_once } in
      let v = stands_published files H F l krate n h ((look_is_exact F G krate names (final_text n h) s).0 a) in
      let w = stands_published files H F l krate n k ((look_is_exact F G krate names (final_text n k) s).0 b) in
      let its = out_name o w.0 krate (final_text n k) w.1 in
      let named : head_of (names_of H w.0) ≡ Some n = its.4 ∙ ap Some (sym (same_final_name n its.1 k (job_hash_of its.0) its.5)) in
      let one : v.0 ≡ w.0 = one_out o v.0 w.0 krate n h v.1 named in
      texts (sym v.1 ∙ ap (sites_of H) one ∙ w.1)
    where
      texts : Out krate (final_text n h) ≡ Out krate (final_text n k) → final_text n h ≡ final_text n k
      texts same = cc
