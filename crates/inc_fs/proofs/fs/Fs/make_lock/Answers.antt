use Rattle.std.proofs.Common.{rules, ◌≡◌, ◌++◌, ◌∷◌, [], None, length}
use Rattle.std.specs.Map.{lookup}
use Rattle.std.specs.BTreeMap.{is_at, insert_entry}
use Rattle.std.specs.Ordering.{nat_cmp}
use Rattle.inc_fs.specs.State.{path_cmp}
use Rattle.inc_fs.specs.declared.state.Entry.TheVariants.{LockFile}
use Rattle.inc_fs.specs.declared.state.Lock.TheVariants.{Free}
use Rattle.inc_fs.proofs.Numbers.{below-given, below_free}
use Rattle.inc_fs.specs.Lookups.{path_cmp_total}
use Rattle.inc_fs.proofs.Tables.{remove_entry-insert_entry}
use Rattle.inc_fs.proofs.fs.Fs.make_lock.Goals as goal

pub returns-in-Ok-clause-makes : goal.returns-in-Ok-clause-makes
returns-in-Ok-clause-makes c =
    let next = c.in-Ok.ensures.next in
    let files : c.push.new.self.items ≡ c.self.inside.files.items ++ record { bytes = []; lock = Free } ∷ [] = search rules in
    let entries : c.insert.new.self ≡ insert_entry path_cmp c.self.inside.entries (c.args.krate.now, c.args.entry.now) (LockFile (length c.self.inside.files.items)) = search rules in
    let handles : c.give.new.handles.entries ≡ insert_entry nat_cmp c.self.inside.handles.entries c.in-Ok.handle (record { owner = c.args.who; file = length c.self.inside.files.items }) = search rules in (
      search rules,
      rw (← c.self.view_is) (below_free c.self.inside.given c.in-Ok.handle next),
      rw (← c.self.view_is) (λ i. record { files = files i; entries = entries i; handles = handles i; given = below-given c.self.inside.given c.give.new.given c.in-Ok.handle next c.in-Ok.ensures.given i; drawn = c.self.inside.drawn }),
      c.in-Ok.ensures.few,
    )

pub returns-clause-err : goal.returns-clause-err
returns-clause-err c =
    let none : lookup (is_at (path_cmp c.in_ok-path.path)) c.self.inside.entries ≡ None = search rules in
    let entries : c.remove.new.self ≡ c.self.inside.entries = rw (c.remove.ensures.rest, c.in_ok-insert.ensures.ok, c.in_ok-copy.ensures) (remove_entry-insert_entry path_cmp path_cmp_total _ _ _ none) in
    let kept = c.in-Err.ensures.err in
    rw (c.in_ok-reserve.ensures.items, entries, kept.1, kept.0) c.self.view_is
