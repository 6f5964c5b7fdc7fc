use Rattle.inc_session.specs.Saves.{saved_files}
use Rattle.inc_session.proofs.Asks.{asks_permitted}
use Rattle.inc_session.proofs.laws.steps_are_permitted.Goals as goal

pub returns : goal.returns
returns c = λ s. asks_permitted s (record {
  fresh = c.drawn_names_are_new.ensures.new saved_files s.task;
  there = c.own_work_is_undisturbed.ensures.remove saved_files s.task;
  empty = c.own_work_is_undisturbed.ensures.remove_all saved_files s.task;
})
