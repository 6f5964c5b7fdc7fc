-- What a step of a session in its own directory leaves of the others' and of the finalised ones.
use Rattle.std.proofs.Common.{◌≡◌, ◌≢◌, ℕ, List, ap, sym, ◌∙◌, subst, None, Some, Option, IsSome, inl, inr, ◌⊎◌}
use Rattle.std.specs.Map.{lookup}
use Rattle.std.specs.BTreeMap.{is_at}
use Rattle.inc_base.specs.declared.job.Job.{Job}
use Rattle.inc_fs.specs.State.{Text, Path, text_cmp, named}
use Rattle.inc_names.specs.declared.session.SessionName.{SessionName}
use Rattle.inc_names.specs.Entries.{working_text, final_text}
use Rattle.inc_laws.specs.Readings.{Maker, head_of, Site, site_of}
use Rattle.inc_laws.specs.Readings.Maker.{ByCreate}
use Rattle.inc_proto.specs.declared.own.Known.{Known}
use Rattle.inc_proto.specs.Views.{Dir}
use Rattle.inc_proto.specs.declared.own.OwnLock.{OwnLock}
use Rattle.inc_proto.specs.declared.own.OwnLock.TheVariants.{Locked}
use Rattle.inc_proto.specs.Views.Dir.{Stands}
use Rattle.inc_proto.specs.Files.{Files}
use Rattle.inc_laws.specs.Parts.{IsPublished, IsSource, FitsView, OwnDirKnown, FilesPrivate, FinalsComplete}
use Rattle.inc_laws.specs.Readings.Site.{At}
use Rattle.inc_fs.specs.Points.{with_at, each, put_at, put_here, put_there}
use Rattle.inc_laws.proofs.Mono.{Grows, OutStays, same_out, same_grows, source_stays, whole_stays}
use Rattle.inc_laws.proofs.Own.{Owners, one_at, not_at}

module _ (files : Files) (jobs : ℕ → Option Job) {sites sites' : ℕ → Site} {makers makers' : ℕ → Option Maker} (bytes bytes' : ℕ → Option Text) (who : ℕ)
    (out : OutStays sites sites') (grow : Grows makers makers')
    (calm : (g u : ℕ) → makers g ≡ Some (ByCreate u) → (IsPublished sites u ⊎ (u ≢ who)) → bytes' g ≡ bytes g) where
  pub fits_calm : (v : ℕ) → v ≢ who → (x : Text) (found : Option ℕ) (known : Option Known) → FitsView files jobs sites makers bytes v x found known → FitsView files jobs sites' makers' bytes' v x found known
  fits_calm v other x None None f = tt
  fits_calm v other x None (Some known) f = f
  fits_calm v other x (Some g) None f = f
  fits_calm v other x (Some g) (Some known) f =
      let same : bytes' g ≡ bytes g = still known.linked f.1 in
      (λ b is. same ∙ f.0 b is, source_stays files bytes bytes' (same_grows jobs) out grow v x g known.linked same f.1)
    where
      still : (from : Option Text) → IsSource files jobs sites makers bytes v x g from → bytes' g ≡ bytes g
      still None s = calm g v s (inr other)
      still (Some from) s = calm g s.0 s.5 (inl s.6)

  -- what stands under a finalised name is as before, where directories change under working names alone
  pub wholes_calm : {names : ℕ → List SessionName} {drawn : List (ℕ × ℕ)} (folders folders' : Text → Text → Option (List (Text × ℕ))) → Owners jobs names sites drawn → FilesPrivate sites makers folders
      → ((k : Text) (n : SessionName) (hash : ℕ) (z : List (Text × ℕ)) → folders' k (final_text n hash) ≡ Some z → folders k (final_text n hash) ≡ Some z)
      → FinalsComplete files jobs sites folders bytes → FinalsComplete files jobs sites' folders' bytes'
  wholes_calm folders folders' o names was t k n hash z is =
      let w = t k n hash z (was k n hash z is) in (
        w.0,
        w.1,
        w.2,
        out w.0 _ _ w.3,
        w.4,
        w.5,
        whole_stays files bytes bytes' (same_grows jobs) out grow z w.2 (λ x g at. let s = names k (final_text n hash) x z g (was k n hash z is) at in calm g s.0 s.1 (inl (published s.0 s.2))) w.6,
      )
    where
      published : (v : ℕ) → IsPublished sites v ⊎ (sites v ≡ At k (final_text n hash)) → IsPublished sites v
      published v (inl p) = p
      published v (inr a) = absurd (not_at o v k n hash a)

  -- the directories of the other sessions are as they see them, where directories change at one working name alone
  pub own_dir_calm : (runs : ℕ → Option Job) {owns : ℕ → OwnLock} {dirs : ℕ → Dir} {names : ℕ → List SessionName} {drawn : List (ℕ × ℕ)} {folders : Text → Text → Option (List (Text × ℕ))}
      → Owners jobs names sites drawn → ((v : ℕ) → sites v ≡ site_of (dirs v)) → OwnDirKnown files runs jobs owns sites dirs makers folders bytes
      → (krate : Text) (n : SessionName) (x : Option (List (Text × ℕ))) → head_of (names who) ≡ Some n
      → (v h : ℕ) (k e : Text) (known : List (Text × Known)) → v ≢ who → IsSome (runs v) → owns v ≡ Locked h → dirs v ≡ Stands k e known
      → (folder : List (Text × ℕ)) × (put_at folders krate (working_text n) x k e ≡ Some folder)
      × ((y : Text) → FitsView files jobs sites' makers' bytes' v y (named y folder) (lookup (is_at (text_cmp y)) known))
  own_dir_calm runs {folders = folders} o same l krate n x called v h k e known other r locked d =
      let old = l v h k e known r locked d in (
        old.0,
        put_there folders krate (working_text n) x k e (λ is. other (one_at o v who k n (same v ∙ ap site_of d ∙ ap (At k) is) called)) ∙ old.1,
        λ y. fits_calm v other y _ _ (old.2 y),
      )

-- A session's step in its own directory.
module _ (files : Files) (runs jobs : ℕ → Option Job) (owns : ℕ → OwnLock) {names : ℕ → List SessionName} {sites : ℕ → Site} {drawn : List (ℕ × ℕ)} (dirs : ℕ → Dir) (makers makers' : ℕ → Option Maker) (bytes bytes' : ℕ → Option Text)
    (folders : Text → Text → Option (List (Text × ℕ))) (o : Owners jobs names sites drawn) (same : (v : ℕ) → sites v ≡ site_of (dirs v))
    (who : ℕ) (krate : Text) (n : SessionName) (known known' : List (Text × Known)) (folder' : List (Text × ℕ))
    (called : head_of (names who) ≡ Some n) (d : dirs who ≡ Stands krate (working_text n) known)
    (grow : Grows makers makers') (calm : (g u : ℕ) → makers g ≡ Some (ByCreate u) → (IsPublished sites u ⊎ (u ≢ who)) → bytes' g ≡ bytes g)
    (fits : (folder : List (Text × ℕ)) → folders krate (working_text n) ≡ Some folder → ((y : Text) → FitsView files jobs sites makers bytes who y (named y folder) (lookup (is_at (text_cmp y)) known))
    → (y : Text) → FitsView files jobs sites makers' bytes' who y (named y folder') (lookup (is_at (text_cmp y)) known')) where
  pub own_dir_step : OwnDirKnown files runs jobs owns sites dirs makers folders bytes
      → OwnDirKnown files runs jobs owns sites (with_at dirs who (Stands krate (working_text n) known')) makers' (put_at folders krate (working_text n) (Some folder')) bytes'
  own_dir_step l v h k e shown r locked = each dirs who (Stands krate (working_text n) known')
      (λ v d. IsSome (runs v) → owns v ≡ Locked h → d ≡ Stands k e shown → Result v)
      (λ v off r locked dv. own_dir_calm files jobs bytes bytes' who (same_out sites) grow calm runs o same l krate n (Some folder') called v h k e shown (λ is. off (sym is)) r locked dv)
      (λ r locked dw. mine r locked (dir_parts dw)) v r locked
    where
      Result : ℕ → Type 0
      Result v = (z : List (Text × ℕ)) × (put_at folders krate (working_text n) (Some folder') k e ≡ Some z) × ((y : Text) → FitsView files jobs sites makers' bytes' v y (named y z) (lookup (is_at (text_cmp y)) shown))

      dir_parts : Stands krate (working_text n) known' ≡ Stands k e shown → (krate ≡ k) × (working_text n ≡ e) × (known' ≡ shown)
      dir_parts e = (cc, cc, cc)

      mine : IsSome (runs who) → owns who ≡ Locked h → (krate ≡ k) × (working_text n ≡ e) × (known' ≡ shown) → Result who
      mine r locked p =
          let old = l who h krate (working_text n) known r locked d in (
            folder',
            subst (λ (q : Path). put_at folders krate (working_text n) (Some folder') q.0 q.1 ≡ Some folder') (λ i. (p.0 i, p.1 i)) (put_here folders krate (working_text n) (Some folder')),
            λ y. subst (λ shown. FitsView files jobs sites makers' bytes' who y (named y folder') (lookup (is_at (text_cmp y)) shown)) p.2 (fits old.0 old.1 old.2 y),
          )

-- where each file's bytes stay
module _ (files : Files) (jobs : ℕ → Option Job) (sites : ℕ → Site) {makers makers' : ℕ → Option Maker} (bytes bytes' : ℕ → Option Text) (grow : Grows makers makers')
    (calm : (g : ℕ) (m : Maker) → makers g ≡ Some m → bytes' g ≡ bytes g) where
  pub fits_all : (v : ℕ) (x : Text) (found : Option ℕ) (known : Option Known) → FitsView files jobs sites makers bytes v x found known → FitsView files jobs sites makers' bytes' v x found known
  fits_all v x None None f = tt
  fits_all v x None (Some known) f = f
  fits_all v x (Some g) None f = f
  fits_all v x (Some g) (Some known) f =
      let same : bytes' g ≡ bytes g = still known.linked f.1 in
      (λ b is. same ∙ f.0 b is, source_stays files bytes bytes' (same_grows jobs) (same_out sites) grow v x g known.linked same f.1)
    where
      still : (from : Option Text) → IsSource files jobs sites makers bytes v x g from → bytes' g ≡ bytes g
      still None s = calm g _ s
      still (Some from) s = calm g _ s.5
