-- What is told is told of the entry of the line, and of the condition that it breaks.
use Rattle.std.proofs.Common.{ℕ, List, subst, sym, ◌∙◌}
use Rattle.bsc_history.specs.declared.entry.Entry.{Entry}
use Rattle.bsc_history.specs.declared.limits.About.{About}
use Rattle.bsc_legality.specs.Standing.{LegalityStands}
use Rattle.bsc_journal.specs.Saying.{IsLineOf}
use Rattle.bsc_audit_diagnostics.specs.Reasons.{TellsIllegal}
use Rattle.bsc_audit.specs.Explaining.{TellsBreach}
use Rattle.bsc_audit.specs.Hearing.{line_at}
use Rattle.bsc_audit.proofs.Explained.{if_some}
use Rattle.bsc_audit.proofs.judging.why_illegal_at.Goals as goal

pub returns-in-Some : goal.returns-in-Some
returns-in-Some c =
    let o = c.args.octets.now in
    let place = c.args.place in
    let broken = c.in-Some.broken in
    if_some (λ (why : List ℕ). TellsIllegal place c.in-Ok.entry broken o why)
    (λ (why : List ℕ). (about : About) (H : List Entry) (p : ℕ) (e : Entry) → LegalityStands c.args.legality.now about H → IsLineOf (line_at o c.args.spot.now) p e → TellsBreach place about H e o why)
    c.reason_of_entry.result
    (λ why told about H p e stands is.
    let at = c.in-Ok.ensures about H p e stands is in
    record {
      broken = broken;
      breaks = sym at.1 ∙ c.in-Some.is;
      tells = subst (λ (x : Entry). TellsIllegal place x broken o why) at.0 told;
    })
    c.reason_of_entry.ensures
