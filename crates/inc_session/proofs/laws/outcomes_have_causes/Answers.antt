use Rattle.inc_session.specs.Saves.{saved_files}
use Rattle.inc_session.proofs.Asks.{ends_so, cause_of}
use Rattle.inc_session.proofs.laws.outcomes_have_causes.Goals as goal

pub returns : goal.returns
returns c = λ s steps outcome made is. record {
  whole = ends_so s steps outcome made is;
  cause = cause_of s steps outcome (record {
    fresh = c.drawn_names_are_new.ensures.new saved_files s.task;
    there = c.own_work_is_undisturbed.ensures.remove saved_files s.task;
    empty = c.own_work_is_undisturbed.ensures.remove_all saved_files s.task;
  }) made is;
}
