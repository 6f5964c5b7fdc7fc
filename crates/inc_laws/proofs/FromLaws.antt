-- The invariants of a legal history, from the laws that every event keeps.
use Rattle.std.specs.Prelude.{◌≡◌, ℕ, List, refl, Option, Some, None, IsSome}
use Rattle.std.proofs.Common.{sym, subst, ◌∙◌}
use Rattle.inc_base.specs.declared.job.Job.{Job}
use Rattle.inc_fs.specs.Readings.{bytes_of}
use Rattle.inc_fs.specs.Sound.{IsSound}
use Rattle.inc_fs.specs.State.{State, Text, named}
use Rattle.inc_names.specs.declared.session.SessionName.{SessionName}
use Rattle.inc_names.specs.Entries.{lock_text}
use Rattle.inc_proto.specs.declared.event.Event.{Event}
use Rattle.inc_proto.specs.declared.own.Known.{Known}
use Rattle.inc_proto.specs.Events.{own_steps}
use Rattle.inc_proto.specs.Files.{Files}
use Rattle.inc_proto.specs.Views.{Opening, opening}
use Rattle.inc_laws.specs.Invariants.{NamesOnce, LocksAgree, OwnerKnows, Holds, HoldsExclusively, HeldExclusively, UnpublishedPrivate, FinalisedComplete, LinksPublished, NewestStands}
use Rattle.inc_laws.specs.Laws.{Laws}
use Rattle.inc_laws.specs.Parts.{FitsView, IsSource}
use Rattle.inc_laws.specs.Readings.{jobs_of, sites_of, makers_of, runs_of, opens_of, place_of}
use Rattle.inc_laws.proofs.Holds.{one_holder}
use Rattle.inc_laws.proofs.Wraps.{on_place}

module _ (files : Files) (H : List Event) (F : State) (l : Laws files H F) where
  pub names_once : IsSound F → NamesOnce H F
  names_once sound = record {
    differ = sound.tidy.drawn;
    drawn = l.names_once;
    lock_files = l.lock_files;
    own_names = l.own_names;
    one_directory = l.dirs.apart;
  }

  pub locks_agree : LocksAgree H F
  locks_agree = record { handles = l.handles; own_locks = l.own_locks }

  pub owner_knows : OwnerKnows files H F
  owner_knows = record { knows = l.own_dir }

  -- who holds n exclusively is alone in holding n
  alone : (v w h g : ℕ) (krate : Text) (n : SessionName) → HoldsExclusively H v h krate n → Holds H w g krate n → (v ≡ w) × (h ≡ g)
  alone v w h g krate n a b =
      let p = on_place krate (lock_text n) (opening h (own_steps v H)) a.on in
      let q = on_place krate (lock_text n) (opening g (own_steps w H)) b.on in
      go (runs_of H v) refl a.runs (runs_of H w) refl b.runs p.0 q.0 p.1 q.1 (p.2 ∙ sym q.2)
    where
      go : (i : Option Job) → runs_of H v ≡ i → IsSome i → (j : Option Job) → runs_of H w ≡ j → IsSome j
          → (by by' : Opening) → opens_of H v h ≡ Some by → opens_of H w g ≡ Some by' → place_of by ≡ place_of by' → (v ≡ w) × (h ≡ g)
      go None p s j q t by by' x y same = cc
      go (Some i) p s None q t by by' x y same = cc
      go (Some i) p s (Some j) q t by by' x y same = one_holder l.handles l.lock_files v w h g i j by by' p x a.held q y b.held same

  pub held_exclusively : HeldExclusively H F
  held_exclusively = record { whose = l.dirs.whose; alone = alone }

  pub unpublished_private : UnpublishedPrivate H F
  unpublished_private = record { private = l.file_names; sole = l.sole_names }

  pub finalised_complete : FinalisedComplete files H F
  finalised_complete = record { complete = l.wholes }

  source_of : (who : ℕ) (x : Text) (from : Text) (its : Known) → its.linked ≡ Some from → (found : Option ℕ) (folder : List (Text × ℕ)) → named x folder ≡ found
      → FitsView files (jobs_of H) (sites_of H) (makers_of H) (bytes_of F) who x found (Some its)
      → (f : ℕ) × (named x folder ≡ Some f) × IsSource files (jobs_of H) (sites_of H) (makers_of H) (bytes_of F) who x f (Some from)
  source_of who x from its linked None folder is fits = absurd fits
  source_of who x from its linked (Some f) folder is fits = (f, is, subst (IsSource files (jobs_of H) (sites_of H) (makers_of H) (bytes_of F) who x f) linked fits.1)

  pub links_published : LinksPublished files H F
  links_published = record {
    linked = λ who h krate entry x from names known runs locked d sees linked.
        let old = l.own_dir who h krate entry names runs locked d in
        let s = source_of who x from known linked (named x old.0) old.0 refl (subst (FitsView files (jobs_of H) (sites_of H) (makers_of H) (bytes_of F) who x (named x old.0)) sees (old.2 x)) in
        (old.0, s.0, old.1, s.1, s.2);
  }

  pub newest_stands : NewestStands H F
  newest_stands = record { stands = l.newest; looked = l.looked }
