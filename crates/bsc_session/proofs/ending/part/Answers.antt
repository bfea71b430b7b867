use Rattle.std.proofs.Common.{ap, ◌∙◌}
use Rattle.bsc_session.specs.Talk.{named_lost}
use Rattle.bsc_session.proofs.Running.{part_left, part_none}
use Rattle.bsc_session.proofs.ending.part.Goals as goal

pub returns-in-Some-clause-parts : goal.returns-in-Some-clause-parts
returns-in-Some-clause-parts g c v is found = part_left g.J.Journal.makes_lines c.args.here.hub.now v c.args.pass.now c.leave-told.new.pass c.args.at c.args.stop c.named_lost.result c.in-Some.field-0
    c.leave-told.result c.empties-empties.result (g.J.Journal.held c.args.journal.now) (g.J.Journal.held c.note_leave-lost.new.journal) c.note_leave-lost.result
    (g.J.Journal.faults c.args.journal.now) (g.J.Journal.faults c.note_leave-lost.new.journal) (rw c.number-caller.ensures at c.note_leave-lost.ensures.noted)
    (rw c.number-caller.ensures at c.note_leave-lost.ensures.line) c.note_leave-lost.ensures.unrecorded c.leave-told.ensures.pass is c.empties-empties.ensures c.leave-told.ensures.taken
    c.leave-told.ensures.given c.leave-told.ensures.found c.leave-told.ensures.all c.in-Some.is found (c.named_lost.ensures.is ∙ ap (named_lost c.note_leave-lost.result) c.named-why.ensures.is)

pub returns-in-None-clause-parts : goal.returns-in-None-clause-parts
returns-in-None-clause-parts g c v is found = part_none g.J.Journal.makes_lines c.args.here.hub.now v c.args.pass.now c.args.at c.args.stop c.named-why.result (g.J.Journal.held c.args.journal.now)
    (g.J.Journal.faults c.args.journal.now) c.requires.caller c.in-None.is c.named-why.ensures.is

pub returns-in-Some-clause-failed : goal.returns-in-Some-clause-failed
returns-in-Some-clause-failed g c why = c.named-why.ensures.link (c.named_lost.ensures.link why)

pub returns-in-None-clause-failed : goal.returns-in-None-clause-failed
returns-in-None-clause-failed g c why = c.named-why.ensures.link why
