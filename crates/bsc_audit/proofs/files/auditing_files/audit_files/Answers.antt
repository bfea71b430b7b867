-- Files that may be believed are told to be legal, or nothing is told of them.
use Rattle.bsc_audit.proofs.FileFacts.BelievedFiles.{believed}
use Rattle.bsc_audit.proofs.files.auditing_files.audit_files.Goals as goal

pub returns-in-Err-clause-legal : goal.returns-in-Err-clause-legal
returns-in-Err-clause-legal g c = λ fs entries holds long audited.
    believed fs entries c.args.count c.in-Err.end long (c.in-Err.ensures.stops fs holds long) audited

pub returns-clause-legal : goal.returns-clause-legal
returns-clause-legal g c = λ fs entries holds long audited.
    let adds = c.in-Ok-check_files.ensures.good fs (c.judge_files.ensures.stays fs holds) long in
    believed fs entries c.args.count c.judge_files.result long (c.judge_files.ensures.comes fs holds long adds) audited
