-- What the scanner keeps of a token.
use Rattle.std.proofs.Common.{◌≡◌, ℕ, true, List, length, take, Some, sym, ap, ◌∙◌}
use Rattle.std.specs.Prelude.{is_some, Option}
use Rattle.std.specs.Option.{option_map}
use Rattle.std.proofs.lemmas.List.{length-take-le}
use Rattle.rs_tree.specs.Kinds.{kind_of}
use Rattle.rs_lex.specs.declared.step.Step.{Step}
use Rattle.rs_lex.specs.Scan.{form_length, token_at}
use Rattle.rs_lex.specs.Steps.{measured}
use Rattle.rs_lex.proofs.Forms.{form_found}

token_step : ℕ → Option Step
token_step n = Some (record { length = n; token = true })

pub token_measured : (rest : List ℕ) (n : ℕ) → n ≡ form_length rest → is_some (kind_of (take n rest)) ≡ true → Some (record { length = n; token = true }) ≡ option_map measured (token_at rest)
unfolding token_step
token_measured rest n is kind =
    let kind' : is_some (kind_of (take (form_length rest) rest)) ≡ true = ap (λ k. is_some (kind_of (take k rest))) (sym is) ∙ kind in
    let long : length (take (form_length rest) rest) ≡ form_length rest = length-take-le (form_length rest) rest (form_found rest).within in
    rw kind' (ap token_step (is ∙ sym long))
