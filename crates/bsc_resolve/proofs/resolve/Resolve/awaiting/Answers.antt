use Rattle.std.proofs.Common.{sym, ◌∙◌}
use Rattle.bsc_resolve.proofs.Finding.{awaiting_yes, awaiting_no}
use Rattle.bsc_resolve.proofs.resolve.Resolve.awaiting.Goals as goal

pub returns-then-has_id : goal.returns-then-has_id
returns-then-has_id c = awaiting_yes c.args.self.now.entries.items c.args.id c.args.v c.in-Some.place c.index.result.now (rw c.deref.ensures.value at c.in-Some.ensures) c.index.ensures
    (sym c.has_id.ensures ∙ c.if-has_id.true)

pub returns-else-has_id : goal.returns-else-has_id
returns-else-has_id c = awaiting_no c.args.self.now.entries.items c.args.id c.args.v c.in-Some.place c.index.result.now (rw c.deref.ensures.value at c.in-Some.ensures) c.index.ensures
    (sym c.has_id.ensures ∙ c.if-has_id.false)
