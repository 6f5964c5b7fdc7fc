use Rattle.std.proofs.Common.{◌≡◌, ℕ, List, sym, ◌∙◌, inl, inr, arith}
use Rattle.std.specs.Prelude.{◌⊎◌}
use Rattle.std.proofs.lemmas.Bool.{false≢true}
use Rattle.inc_fs.specs.Lists.{IsIn}
use Rattle.inc_fs.specs.Paths.{Text}
use Rattle.inc_names.specs.declared.session.SessionName.{SessionName}
use Rattle.inc_names.specs.Entries.{working_text, final_text}
use Rattle.inc_proto.specs.Permits.{IsHash, HasNoDir}
use Rattle.inc_proto.proofs.Anys.{in_at, not_in_more}
use Rattle.inc_proto.proofs.clear.has_no_dir.Goals as goal

hits : (item : Text) (n : SessionName) (names : List Text) → HasNoDir n names → ((x : Text) → item ≡ x → IsIn names x)
    → (item ≡ working_text n) ⊎ ((hash : ℕ) × IsHash hash × (item ≡ final_text n hash)) → ⊥
hits item n names none at (inl same) = none.0 (at (working_text n) same)
hits item n names none at (inr w) = none.1 w.0 w.1 (at (final_text n w.0) w.2)

pub returns-then-is_dir_of : goal.returns-then-is_dir_of
returns-then-is_dir_of c =
    let item = c.name-item.result in
    let names = c.args.names.now in
    let at : (x : Text) → item ≡ x → IsIn names x = λ x same. in_at names c.loop-name.name-index item x (omega arith) (sym c.name-item.is ∙ same) in
    (λ yes. absurd (false≢true yes), λ none. absurd (hits item c.args.n names none at (c.is_dir_of.ensures.0 c.if-is_dir_of.true)))

pub loop-name-preserved : goal.loop-name-preserved
loop-name-preserved c =
    let names = c.args.names.now in
    let item = c.name-item.result in
    let n = c.args.n in (
      not_in_more names c.loop-name.name-index item (working_text n) (omega arith) c.name-item.is c.loop-name.invariant.0
          (λ same. false≢true (sym c.if-is_dir_of.false ∙ c.is_dir_of.ensures.1 (inl same))),
      λ hash small. not_in_more names c.loop-name.name-index item (final_text n hash) (omega arith) c.name-item.is (c.loop-name.invariant.1 hash small)
          (λ same. false≢true (sym c.if-is_dir_of.false ∙ c.is_dir_of.ensures.1 (inr (hash, small, same)))),
    )
