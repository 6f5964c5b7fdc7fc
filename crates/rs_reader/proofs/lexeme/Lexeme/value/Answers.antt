use Rattle.std.proofs.Common.{rules, ◌≡◌, true, ap, sym, ◌∙◌}
use Rattle.rs_tree.specs.Words.{is_number}
use Rattle.rs_tree.specs.declared.kind.Kind.TheVariants as k
use Rattle.rs_grammar.specs.Lexeme.{Lexeme}
use Rattle.rs_grammar.proofs.Texts.{number_text}
use Rattle.rs_reader.proofs.lexeme.Lexeme.value.Goals as goal

pub unwrap-requires : goal.unwrap-requires
unwrap-requires c =
    let kind : c.self.inside.kind ≡ k.Number = ap (λ (l : Lexeme). l.kind) c.self.view_is ∙ c.requires in
    let number : is_number c.as_slice.result.now ≡ true = ap is_number c.as_slice.ensures.value ∙ number_text _ (sym c.self.invariant ∙ kind) in
    search rules
