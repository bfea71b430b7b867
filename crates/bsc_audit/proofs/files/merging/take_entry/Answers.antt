-- The line of a head is that of its entry, or a read failed.
use Rattle.std.proofs.Common.{◌∷◌, ap, sym, subst}
use Rattle.std.specs.Prelude.{Err}
use Rattle.bsc_journal.specs.declared.journal_record.JournalRecord.TheVariants.{Entry as AnEntry}
use Rattle.bsc_audit.specs.declared.files.files_end.FilesEnd.{FilesEnd}
use Rattle.bsc_audit.specs.declared.files.piece_reading.Stop.{Stop}
use Rattle.bsc_audit.specs.Merging.{TellsNothing}
use Rattle.bsc_audit.specs.Pieces.{GivesLine, file_at}
use Rattle.bsc_audit.proofs.FileFacts.Heading.{no_bad, no_other, takes_entry, tells_nothing}
use Rattle.bsc_audit.proofs.files.merging.take_entry.Goals as goal

pub returns-in-Err-clause-stops : goal.returns-in-Err-clause-stops
returns-in-Err-clause-stops g c = λ fs holds is.
    let h = c.args.head.now in
    subst (λ (e : FilesEnd). TellsNothing e) (sym c.end_in.ensures) (tells_nothing c.in-Err.stop h.file (λ bad.
    no_bad (file_at fs h.file) h.at (AnEntry h.place is.entry ∷ is.said) (record { lines = is.lines; rising = is.rising })
    (c.in-Err.ensures.bad (ap (λ (s : Stop). Err s) bad) fs holds)))

pub returns-in-Some-clause-entry : goal.returns-in-Some-clause-entry
returns-in-Some-clause-entry g c = λ fs holds is.
    let h = c.args.head.now in
    let gives : GivesLine (file_at fs h.file) h.at c.in-Ok-Some.found.0 c.in-Ok-Some.found.1 = (rw c.in-Ok-Some.field-0-is at c.in-Ok-Some.ensures.line) fs holds in
    takes_entry fs h c.in-Ok-Some.found.0 c.in-Some.entry c.in-Ok-Some.found.1 is gives c.in-Some.ensures

pub returns-in-None-clause-stops : goal.returns-in-None-clause-stops
returns-in-None-clause-stops g c = λ fs holds is.
    let h = c.args.head.now in
    let gives : GivesLine (file_at fs h.file) h.at c.in-Ok-Some.found.0 c.in-Ok-Some.found.1 = (rw c.in-Ok-Some.field-0-is at c.in-Ok-Some.ensures.line) fs holds in
    no_other fs h c.in-Ok-Some.found.0 c.in-Ok-Some.found.1 is gives c.in-None.ensures
