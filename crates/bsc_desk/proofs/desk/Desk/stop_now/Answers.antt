use Rattle.std.proofs.Common.{ℕ, refl, true, ap, sym, subst, ◌∙◌, add-zero}
use Rattle.bsc_history.specs.declared.counts.Counts.{Counts}
use Rattle.bsc_history.specs.declared.ending.End.TheVariants.{Stopped}
use Rattle.bsc_desk.specs.Changes.{FinishesIf}
use Rattle.bsc_desk.specs.Directories.{AreFiled}
use Rattle.bsc_desk.specs.Live.{known_in}
use Rattle.bsc_desk.proofs.Connects.{known_finish}
use Rattle.bsc_desk.proofs.Filing.{StaysFiled, filed_each, finish_files}
use Rattle.bsc_desk.proofs.Leaves.{stands_stopped}
use Rattle.bsc_desk.proofs.Walks.{each_found, each_weaker}
use Rattle.bsc_desk.proofs.desk.Desk.stop_now.Goals as goal

pub returns-clause-stands : goal.returns-clause-stands
returns-clause-stands c S p = stands_stopped c.args.self.now _ S c.args.caller p c.requires.goes_on refl refl c.add.ensures.made c.add.ensures.counts c.finish_all.ensures.items

pub returns-clause-known : goal.returns-clause-known
returns-clause-known c k = each_found known_in (λ r t. FinishesIf true Stopped r t) k c.args.self.now.rows.items c.finish_all.new.rows.items (known_finish true Stopped) c.finish_all.ensures.items

pub invariant_of-self-clause-filed : goal.invariant_of-self-clause-filed
invariant_of-self-clause-filed c =
    let d = c.args.self.now in
    subst (λ (n : ℕ). AreFiled c.finish_all.new.rows.items n d.directory) (sym (ap (λ (k : Counts). k.joined) c.add.ensures.counts ∙ add-zero d.tally.counts.joined))
    (filed_each d.rows.items c.finish_all.new.rows.items d.tally.counts.joined d.directory
    (each_weaker (λ r t. FinishesIf true Stopped r t) StaysFiled d.rows.items c.finish_all.new.rows.items (finish_files true Stopped) c.finish_all.ensures.items) d.filed)
