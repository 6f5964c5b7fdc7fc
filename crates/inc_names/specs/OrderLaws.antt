-- Sessions stand in one total order.
use Rattle.std.proofs.Common.{◌≡◌, ◌<◌, ◌↔◌, ◌⊎◌, ℕ, arith, inl, inr, refl, sym, ⊎_elim}
use Rattle.std.proofs.lemmas.Bool.{cases_lt}
use Rattle.std.proofs.lemmas.Grind.{common_steps}
use Rattle.std.specs.declared.cmp.Ordering.{Ordering}
use Rattle.std.specs.declared.cmp.Ordering.TheVariants.{Less, Equal, Greater}
use Rattle.std.specs.Ordering.{nat_cmp, ordering_then, MatchOrdering}
use Rattle.std.specs.Cmp.{ranks}
use Rattle.inc_names.specs.declared.session.SessionName.{SessionName}
use Rattle.inc_names.specs.Entries.{IsNewer, name_order}
use Rattle.inc_names.specs.EntryLaws.{same_name}

-- what the greater of the first different parts decides
greater_by : (a b c d : ℕ) (r s : Ordering) → MatchOrdering r (a < b) (a ≡ b) (b < a) → MatchOrdering s (c < d) (c ≡ d) (d < c) → ((b < a) ⊎ (b ≡ a) × (d < c)) ↔ (ordering_then r s ≡ Greater)
greater_by a b c d Less s p q = (λ newer. absurd (grind arith), λ e. absurd (cc))
greater_by a b c d Greater s p q = (λ newer. refl, λ e. inl p)
greater_by a b c d Equal Less p q = (λ newer. absurd (grind arith), λ e. absurd (cc))
greater_by a b c d Equal Equal p q = (λ newer. absurd (grind arith), λ e. absurd (cc))
greater_by a b c d Equal Greater p q = (λ newer. refl, λ e. inr (sym p, q))

pub newer_is_greater : (a b : SessionName) → IsNewer a b ↔ (name_order a b ≡ Greater)
newer_is_greater a b =
    greater_by a.moment b.moment a.random b.random (nat_cmp a.moment b.moment) (nat_cmp a.random b.random) (ranks a.moment b.moment) (ranks a.random b.random)

pub one_is_newer : (a b : SessionName) → IsNewer a b ⊎ (a ≡ b) ⊎ IsNewer b a
one_is_newer a b = ⊎_elim
    (λ less. inl (inl less))
    (λ ge. ⊎_elim
    (λ less. inr (inr (inl less)))
    (λ le.
    let same : a.moment ≡ b.moment = omega arith in
    ⊎_elim
    (λ less. inl (inr (sym same, less)))
    (λ ge'. ⊎_elim (λ less. inr (inr (inr (same, less)))) (λ le'. inr (inl (same_name a b same (omega arith)))) (cases_lt a.random b.random))
    (cases_lt b.random a.random))
    (cases_lt a.moment b.moment))
    (cases_lt b.moment a.moment)

pub newer_once : (a b : SessionName) → IsNewer a b → ¬ IsNewer b a
newer_once a b p q = grind arith

pub newer_through : (a b c : SessionName) → IsNewer a b → IsNewer b c → IsNewer a c
newer_through a b c p q = grind arith
