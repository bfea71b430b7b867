use Rattle.std.specs.Prelude.{List}
use Rattle.bsc_history.specs.declared.limits.About.{About}
use Rattle.bsc_history.specs.declared.entry.Entry.{Entry}
use Rattle.bsc_history.specs.Legality.{Legal}
use Rattle.bsc_history.specs.Marks.{entries}
use Rattle.bsc_turn.specs.Passes.{seen}
use Rattle.bsc_hub.specs.Passing.{about_of}
use Rattle.bsc_theorems.specs.Theorems.{HistoryLaws}
use Rattle.bsc_theorems.proofs.laws.one_legal_history.Goals as goal

pub returns : goal.returns
returns c = record {
  laws = kept;
  passes = λ h p caller. kept (about_of h) (entries (seen p)) caller.1;
  one_history = c.one_history.ensures.one;
  compared = c.one_history.ensures.compared;
  own_stays = c.own_stays.ensures;
  is_whole = c.is_whole.ensures;
}
  where
    kept : (a : About) (H : List Entry) → Legal a H → HistoryLaws a H
    kept a H legal = record {
      numbering = c.numbering.ensures a H legal;
      numbers_are_new = c.numbers_are_new.ensures a H legal;
      one_holder = c.one_holder.ensures a H legal;
      one_of_device = c.one_of_device.ensures a H legal;
      unicast_joins = c.unicast_joins.ensures a H legal;
      unicast_to_holder_alone = c.unicast_to_holder_alone.ensures a H legal;
      broadcast_joins = c.broadcast_joins.ensures a H;
      broadcast_to_others_alone = c.broadcast_to_others_alone.ensures a H;
      once = c.once.ensures a H;
      full_closes = c.full_closes.ensures a H legal;
      full_misses = c.full_misses.ensures a H;
      one_of_three = c.one_of_three.ensures a H legal;
      after_end = c.after_end.ensures a H legal;
      join_takes_over = c.join_takes_over.ensures a H legal;
      refusal_changes_none = c.refusal_changes_none.ensures a H;
      end_stays = c.end_stays.ensures H;
      ends_by_cause = c.ends_by_cause.ensures a H legal;
      naming = c.naming.ensures a H legal;
      until_end = c.until_end.ensures a H legal;
      within = c.within.ensures a H legal;
    }
