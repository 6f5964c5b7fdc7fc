-- What the graph's file is, step by step.
use Rattle.std.proofs.Common.{◌≡◌, ◌≢◌, ℕ, ◌≤◌, true, false, List, ◌++◌, length, drop, Option, Some, None, Result, Ok, IfOk, IfSome, IfNone, Bor, MatchOption, inl, inr, sym, ap, ◌∙◌, subst}
use Rattle.inc_base.specs.declared.memory.Memory.{Memory}
use Rattle.inc_graph.specs.declared.node.Node.{Node}
use Rattle.inc_wire.specs.Readings.{IsReadAs}
use Rattle.inc_wire.specs.Forms.{BeginsWithHeader, IsHeader, header_form}
use Rattle.inc_wire.specs.FormLaws.{same_header_front}
use Rattle.inc_wire.specs.declared.header.Header.{Header}
use Rattle.inc_graph.specs.Forms.{FitsFile, FitsGraph, IsFileHeader, file_form, graph_form}
use Rattle.inc_products.specs.declared.front.Front.{Front}
use Rattle.inc_products.specs.declared.front.Front.TheVariants as f
use Rattle.inc_products.specs.Fronts.{BeginsWith, HasFront, HasNoGraph, IsFront, IsFrontOf, IsOther}

pub front_there : (bytes front : List ℕ) (o : Option (Bor (List ℕ))) (x : Bor (List ℕ)) → o ≡ Some x → MatchOption o ((rest : List ℕ) → bytes ≢ front ++ rest) (λ y. bytes ≡ front ++ y.now) → HasFront front bytes true
front_there bytes front o x is m = (x.now, subst (λ p. MatchOption p ((rest : List ℕ) → bytes ≢ front ++ rest) (λ y. bytes ≡ front ++ y.now)) is m)

pub front_missing : (bytes front : List ℕ) (o : Option (Bor (List ℕ))) → o ≡ None → MatchOption o ((rest : List ℕ) → bytes ≢ front ++ rest) (λ y. bytes ≡ front ++ y.now) → HasFront front bytes false
front_missing bytes front o is m = subst (λ p. MatchOption p ((rest : List ℕ) → bytes ≢ front ++ rest) (λ y. bytes ≡ front ++ y.now)) is m

module _ (want : Header) (bytes : List ℕ) where
  pub no_header : ¬ BeginsWithHeader bytes → HasNoGraph want (Some bytes)
  no_header none = inl (λ h rest is e. none (h, rest, is.header, e))

  pub other_format : (h : Header) (rest : List ℕ) → IsHeader h → bytes ≡ header_form h ++ rest → h.format ≢ 1 → HasNoGraph want (Some bytes)
  other_format h rest ih front other = inl (λ k r is e. other (sym (ap (λ (x : Header). x.format) (same_header_front k h r rest is.header ih (sym e ∙ front)).0) ∙ is.format))

  same_header : (h : Header) → h.format ≡ 1 → want.format ≡ 1 → h.compiler ≡ want.compiler → h.krate ≡ want.krate → h ≡ want
  same_header h hf wf c k = ap (λ x. record h { format = x }) (hf ∙ sym wf) ∙ ap (λ x. record { format = want.format; compiler = x; krate = h.krate }) c ∙ ap (λ x. record want { krate = x }) k

  pub other_header : (h : Header) (rest : List ℕ) → IsHeader h → bytes ≡ header_form h ++ rest → h.format ≡ 1 → want.format ≡ 1 → BeginsWith want bytes false → IsOther want (Some bytes)
  other_header h rest ih front hf wf not = record {
    header = h;
    rest = rest;
    is = record { header = ih; format = hf };
    there = ap Some front;
    differs = λ both. not rest (front ∙ ap (λ x. header_form x ++ rest) (same_header h hf wf both.0 both.1));
  }

  pub wanted_front : IsFileHeader want → BeginsWith want bytes true → (front : Front) → IsFrontOf bytes front → IsFront want (Some bytes) front
  wanted_front is begins (f.Graph nodes) whole =
      let same = same_header_front whole.0 want (graph_form nodes) begins.0 whole.1.header.header is.header (sym whole.2 ∙ begins.1) in
      record { there = ap Some (whole.2 ∙ ap (λ x. header_form x ++ graph_form nodes) same.0); fits = whole.1.value }
  wanted_front is begins f.Other none = absurd none
  wanted_front is begins f.Damaged none = inr (begins, none)

-- what an answer says, once it is known which
abbrev pub Header_at : List ℕ → Header × ℕ → Type 0
Header_at bytes it = IsHeader it.0 × (it.1 ≤ length bytes) × (bytes ≡ header_form it.0 ++ drop it.1 bytes)

pub header_there : (bytes : List ℕ) (o : Option (Header × ℕ)) (h : Header) (at : ℕ) → o ≡ Some (h, at) → IfSome o (Header_at bytes) → Header_at bytes (h, at)
header_there bytes o h at is holds = subst (λ p. IfSome p (Header_at bytes)) is holds

pub header_missing : (bytes : List ℕ) (o : Option (Header × ℕ)) → o ≡ None → IfNone o (¬ BeginsWithHeader bytes) → ¬ BeginsWithHeader bytes
header_missing bytes o is holds = subst (λ p. IfNone p (¬ BeginsWithHeader bytes)) is holds

abbrev Read : List ℕ → Option (Header × List Node) → Type 0
Read bytes o = IsReadAs (FitsFile FitsGraph) (file_form graph_form) bytes o

pub nodes_there : (bytes : List ℕ) (r : Result (Option (Header × List Node)) Memory) (o : Option (Header × List Node)) (h : Header) (nodes : List Node) → r ≡ Ok o → o ≡ Some (h, nodes) → IfOk r (Read bytes) → IsFrontOf bytes (f.Graph nodes)
nodes_there bytes r o h nodes ok is read = (let form = subst (Read bytes) is (subst (λ p. IfOk p (Read bytes)) ok read) in (h, form.fits, form.whole))
