-- What stays once it is so, and that the laws stay with it.
use Rattle.std.proofs.Common.{◌≡◌, ◌≢◌, ℕ, List, refl, ap, ◌∙◌, None, Some, Option}
use Rattle.std.specs.Map.{lookup}
use Rattle.std.specs.BTreeMap.{is_at}
use Rattle.inc_base.specs.declared.job.Job.{Job}
use Rattle.inc_fs.specs.State.{Text, text_cmp, named}
use Rattle.inc_names.specs.declared.session.SessionName.{SessionName}
use Rattle.inc_laws.specs.Readings.{Maker, Site}
use Rattle.inc_proto.specs.declared.own.Known.{Known}
use Rattle.inc_proto.specs.Files.{Files}
use Rattle.inc_laws.specs.Parts.{IsNamed, IsSource, FitsView, IsBytes, HoldsSet}
use Rattle.inc_laws.specs.Readings.Site.{Nowhere, At, Gone, Out}
use Rattle.inc_fs.specs.Points.{with_at, there, each}

-- what is known stays
abbrev pub Grows : {X : Type 0} → (ℕ → Option X) → (ℕ → Option X) → Type 0
Grows {X} f g = (v : ℕ) (x : X) → f v ≡ Some x → g v ≡ Some x

-- what was published stays so
abbrev pub OutStays : (ℕ → Site) → (ℕ → Site) → Type 0
OutStays old new = (v : ℕ) (krate entry : Text) → old v ≡ Out krate entry → new v ≡ Out krate entry

pub same_grows : {X : Type 0} (f : ℕ → Option X) → Grows f f
same_grows f = λ v x h. h

pub same_out : (f : ℕ → Site) → OutStays f f
same_out f = λ v krate entry h. h

-- at a point that changes, what stood there must have been another
pub stay : {X : Type 0} (f : ℕ → X) (n : ℕ) (x y : X) (v : ℕ) → f n ≢ y → f v ≡ y → with_at f n x v ≡ y
stay f n x y v off is = there f n x v (λ e. off (ap f e ∙ is)) ∙ is

-- what stands at another point stood there
pub unstay : {X : Type 0} (f : ℕ → X) (n : ℕ) (x y : X) (v : ℕ) → x ≢ y → with_at f n x v ≡ y → f v ≡ y
unstay f n x y v off = each f n x (λ v z. z ≡ y → f v ≡ y) (λ v _ h. h) (λ h. absurd (off h)) v

pub none_some : {X : Type 0} (x : X) (o : Option X) → o ≡ None → o ≢ Some x
none_some x o e = λ h. cc

pub grows_at : {X : Type 0} (f : ℕ → Option X) (n : ℕ) (x : Option X) → f n ≡ None → Grows f (with_at f n x)
grows_at f n x none = λ v y is. stay f n x (Some y) v (none_some y (f n) none) is

module _ (files : Files) {jobs jobs' : ℕ → Option Job} {sites sites' : ℕ → Site} {makers makers' : ℕ → Option Maker} (bytes bytes' : ℕ → Option Text)
    (j : Grows jobs jobs') (o : OutStays sites sites') (m : Grows makers makers') where
  pub source_stays : (who : ℕ) (x : Text) (f : ℕ) (from : Option Text) → bytes' f ≡ bytes f → IsSource files jobs sites makers bytes who x f from → IsSource files jobs' sites' makers' bytes' who x f from
  source_stays who x f None b s = m f _ s
  source_stays who x f (Some from) b s =
      (s.0, s.1, s.2, s.3, s.4, m f _ s.5, (s.6.0, s.6.1, o _ _ _ s.6.2), o _ _ _ s.7, j _ _ s.8, s.9, b ∙ s.10)

  pub fits_stay : (who : ℕ) (x : Text) (found : Option ℕ) (known : Option Known) → ((f : ℕ) → found ≡ Some f → bytes' f ≡ bytes f)
      → FitsView files jobs sites makers bytes who x found known → FitsView files jobs' sites' makers' bytes' who x found known
  fits_stay who x None None b h = tt
  fits_stay who x None (Some known) b h = h
  fits_stay who x (Some f) None b h = h
  fits_stay who x (Some f) (Some known) b h = (λ t is. b f refl ∙ h.0 t is, source_stays who x f known.linked (b f refl) h.1)

  -- where nothing but what only grows has changed
  pub whole_stays : (folder : List (Text × ℕ)) (set : List (Text × Text)) → ((x : Text) (f : ℕ) → named x folder ≡ Some f → bytes' f ≡ bytes f) → HoldsSet bytes folder set → HoldsSet bytes' folder set
  whole_stays folder set b h = λ x. go x (named x folder) refl (h x)
    where
      go : (x : Text) (found : Option ℕ) → named x folder ≡ found → IsBytes bytes found (lookup (is_at (text_cmp x)) set) → IsBytes bytes' found (lookup (is_at (text_cmp x)) set)
      go x None is h = h
      go x (Some f) is h = (h.0, b x f is ∙ h.1)

pub named_stays : {jobs jobs' : ℕ → Option Job} (names : ℕ → List SessionName) → Grows jobs jobs' → (who : ℕ) (site : Site) → IsNamed jobs names who site → IsNamed jobs' names who site
named_stays names j who Nowhere h = tt
named_stays names j who (At krate entry) h = (h.0, h.1, j _ _ h.2, h.3, h.4, h.5)
named_stays names j who Gone h = tt
named_stays names j who (Out krate entry) h = (h.0, h.1, j _ _ h.2, h.3, h.4, h.5)
