-- A line is of one entry.
use Rattle.std.proofs.Common.{List, ℕ, subst}
use Rattle.bsc_journal.specs.Saying.{IsLineOf}
use Rattle.bsc_journal.proofs.ReadBack.{one_entry}
use Rattle.bsc_audit.specs.Hearing.{line_at}
use Rattle.bsc_audit.proofs.judging.entry_at.Goals as goal

pub returns : goal.returns
returns c = λ place e is.
    let found = rw c.in-Some.is at c.in_ok-entry.ensures.found in
    let line = subst (λ (l : List ℕ). IsLineOf l c.in-Some.field-0-0 c.in-Some.entry) c.line_at.ensures found in
    (one_entry (line_at c.args.octets.now c.args.spot.now) c.in-Some.field-0-0 place c.in-Some.entry e line is).1
