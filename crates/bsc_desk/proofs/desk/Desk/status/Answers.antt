use Rattle.std.proofs.Common.{List, filter, refl, ap, sym, subst, ◌∙◌, length}
use Rattle.bsc_history.specs.Marks.{entries}
use Rattle.bsc_desk.specs.Changes.{IsSameRow, Rests}
use Rattle.bsc_desk.specs.declared.row.Row.{Row}
use Rattle.bsc_desk.specs.Live.{is_open, known_in}
use Rattle.bsc_desk.proofs.Filing.{StaysFiled, filed_each}
use Rattle.bsc_desk.proofs.Resting.{count_live, count_unleft, rests_known, rests_files, rests_same}
use Rattle.bsc_desk.proofs.Meets.{stands_met}
use Rattle.bsc_desk.proofs.Walks.{each_found, each_weaker}
use Rattle.bsc_desk.proofs.desk.Desk.status.Goals as goal

pub returns-clause-so : goal.returns-clause-so
returns-clause-so c S p =
    let items = c.as_slice-taken.ensures.value in
    record {
      counted = p.counted;
      connections = c.count_open-connections.ensures ∙ ap (λ (l : List Row). length (filter is_open l)) items ∙ count_live c.args.self.now S p;
      rows = ap (λ (l : List Row). length l) items ∙ count_unleft c.args.self.now S p;
    }

pub returns-clause-stands : goal.returns-clause-stands
returns-clause-stands c S p = stands_met c.args.self.now _ S p refl refl refl
    (each_weaker Rests IsSameRow c.args.self.now.rows.items c.all_waiting-waiting.new.rows.items rests_same c.all_waiting-waiting.ensures.items)

pub returns-clause-known : goal.returns-clause-known
returns-clause-known c k = each_found known_in Rests k c.args.self.now.rows.items c.all_waiting-waiting.new.rows.items rests_known c.all_waiting-waiting.ensures.items

pub invariant_of-self-clause-filed : goal.invariant_of-self-clause-filed
invariant_of-self-clause-filed c =
    let d = c.args.self.now in
    filed_each d.rows.items _ d.tally.counts.joined d.directory (each_weaker Rests StaysFiled d.rows.items c.all_waiting-waiting.new.rows.items rests_files c.all_waiting-waiting.ensures.items) d.filed
