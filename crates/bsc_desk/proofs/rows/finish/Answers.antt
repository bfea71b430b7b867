use Rattle.std.proofs.Common.{ℕ, Option, sym, subst}
use Rattle.bsc_desk.specs.Changes.{EachBecomes, FinishesIf}
use Rattle.bsc_desk.specs.Live.{is_row}
use Rattle.bsc_desk.proofs.Finishing.{finish_nobody}
use Rattle.bsc_desk.proofs.rows.finish.Goals as goal

pub returns-in-None-clause-items : goal.returns-in-None-clause-items
returns-in-None-clause-items c = finish_nobody c.args.conn c.args.ending c.args.rows.now.items c.in-None.is

pub returns-in-Some-clause-items : goal.returns-in-Some-clause-items
returns-in-Some-clause-items c = subst (λ (o : Option ℕ). EachBecomes (λ r s. FinishesIf (is_row o r) c.args.ending r s) c.args.rows.now.items c.finish_one.new.rows.items)
    (sym c.in-Some.is) c.finish_one.ensures.items
