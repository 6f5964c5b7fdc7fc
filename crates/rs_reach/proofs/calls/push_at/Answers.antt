use Rattle.std.proofs.Common.{◌≡◌, ◌++◌, None, sym, ◌∙◌, append-nil}
use Rattle.std.specs.Prelude.{slice_get}
use Rattle.std.specs.Option.{option_map, option_to_list}
use Rattle.std.proofs.lemmas.Option.{slice_get_past}
use Rattle.rs_reach.specs.Dead.{place_of}
use Rattle.rs_reach.proofs.calls.push_at.Goals as goal

pub returns-in-None : goal.returns-in-None
returns-in-None c =
    let to = c.args.to.now in
    let none : slice_get c.args.items.now c.args.number ≡ None = slice_get_past c.args.items.now c.args.number c.in-None.ensures.lookup.3 in
    sym (append-nil to) ∙ (λ j. to ++ option_to_list (option_map place_of (sym none j)))
