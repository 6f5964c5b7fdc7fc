use Rattle.std.proofs.Common.{ap, ◌∙◌, map, fold}
use Rattle.std.specs.Prelude.{Some}
use Rattle.std.specs.List.{flat_map}
use Rattle.rs_lookup.specs.Places.{place_name}
use Rattle.rs_lines.specs.Lines.{note}
use Rattle.rs_reach.specs.Dead.{dead_of}
use Rattle.rs_queries.specs.Diagnosed.{dead_line}
use Rattle.rs_queries.proofs.checked.used.Goals as goal

pub returns : goal.returns
returns c =
    let items = c.args.index.now.items in
    let all = c.args.answered.now in
    record {
      lines = c.in_ok-tell_dead.ensures ∙ ap (λ cs. fold note c.args.lines (flat_map (dead_line (map place_name (dead_of items cs))) all)) c.in_ok-calls.ensures;
      calls = ap Some c.in_ok-calls.ensures;
    }
