-- A line is carried out, and then the outboxes are emptied.
use Rattle.std.proofs.Common.{◌≡◌, Ok, Err}
use Rattle.std.proofs.lemmas.Result.{err_from_is_err_and}
use Rattle.bsc_script.specs.Running.{line_outcome}
use Rattle.bsc_script.proofs.Acted.{acted_some, runs_emptied, runs_fault}
use Rattle.bsc_script.proofs.script_hub.ScriptHub.run_line.Goals as goal

pub empty-requires : goal.empty-requires
empty-requires c =
    let u = acted_some c.in_ok-due.due c.act_on.new.self c.args.text.now.items c.act_on.new.text.items (line_outcome c.requires.some.0 c.args.line)
    (c.in_ok-due.ensures c.requires.some.0 c.requires.some.1) in
    record { some = (u.0.state, u.2.stands, u.2.settled) }

pub returns-in_err-due : goal.returns-in_err-due
returns-in_err-due c = λ s h. (
    let e = err_from_is_err_and c.from_residual.result c.from_residual.ensures.1 in
    runs_fault c.from_residual.result e.0 _ c.act_on.new.self c.act_on.new.self s c.args.line c.args.text.now.items c.act_on.new.text.items c.args.text.now.items c.act_on.new.text.items e.1 e.2
    (c.in_err-due.ensures s h))

pub returns : goal.returns
returns c = λ s h. runs_emptied c.in_ok-due.due c.act_on.new.self c.empty.new.self s c.args.line c.args.text.now.items c.act_on.new.text.items c.empty.new.text.items
    (c.in_ok-due.ensures s h) (λ o g. c.in_ok-empty.ensures c.args.text.now.items o g)
