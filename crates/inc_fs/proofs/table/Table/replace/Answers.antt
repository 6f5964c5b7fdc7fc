use Rattle.std.proofs.Common.{◌∙◌, sym, ap}
use Rattle.std.specs.Map.{set_value}
use Rattle.std.specs.BTreeMap.{is_at}
use Rattle.inc_fs.proofs.Tables.{set_value-none}
use Rattle.inc_fs.proofs.table.Table.replace.Goals as goal
use Rattle.inc_fs.proofs.table.Table.replace.Goals.{in-Some, in-None}

pub returns-clause-rest : goal.returns-clause-rest
returns-clause-rest g c =
    let test = is_at (g.K.Ord.cmp c.args.key.now) in
    elim c.match-get_mut.branch [
      | in-Some w ↦ rw w.self-inside-is ((c.get_mut.follows.holds w.replace.new.dest).0 ∙ (λ i. set_value test (c.self.view_is i) (w.replace.ensures.after i)))
      | in-None w ↦ rw w.self-inside-is (ap (λ m. m.entries) c.get_mut.follows.holds-at-none
          ∙ sym (set_value-none test c.self.inside.pairs.entries c.args.value (sym w.in-None.ensures.value))
          ∙ ap (λ l. set_value test l c.args.value) c.self.view_is)
    ]
