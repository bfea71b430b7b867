-- What is sought of the lines that are left is what is sought of all.
use Rattle.std.proofs.Common.{◌≡◌, ◌≤◌, ◌+◌, ◌^◌, length}
use Rattle.bsc_journal.specs.Journals.{lines_of}
use Rattle.bsc_audit_diagnostics.specs.Sought.{numbers_from}
use Rattle.bsc_audit_diagnostics.proofs.seeking.next_sought.Given as goal

abbrev pub invariant-loop-line : goal.invariant-loop-line
invariant-loop-line l = record {
  sought : numbers_from l.sought l.number (lines_of l.text) ≡ numbers_from l.sought l.initial.number (lines_of l.initial.text);
  few : l.number + length l.text ≤ 2 ^ 63;
}

abbrev pub decreases-loop-line : goal.decreases-loop-line
decreases-loop-line l = length l.text
