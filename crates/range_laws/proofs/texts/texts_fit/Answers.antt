use Rattle.range_laws.proofs.Rooted.{text_fitting}
use Rattle.range_laws.proofs.texts.texts_fit.Goals as goal

pub returns : goal.returns
returns c text level short =
    let search = c.search_is_exact.ensures in
    text_fitting c.texts_are_read.ensures.text c.lexed_tokens_are_lexed.ensures search.ends search.reached search.once
    (λ krate setting values bounded are. record {
      constants = c.constants_fit.ensures krate values bounded are;
      diags = c.diagnostics_fit.ensures krate values bounded;
      forms = λ clean. c.forms_fit.ensures krate setting values bounded are;
      objects = λ clean. c.objects_fit.ensures krate setting values bounded are;
    }) text level short
