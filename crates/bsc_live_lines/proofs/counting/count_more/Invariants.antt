use Rattle.bsc_live_lines.specs.Waiting.{CountsOn}
use Rattle.bsc_live_lines.proofs.counting.count_more.Given as goal

abbrev pub invariant-loop : goal.invariant-loop
invariant-loop g l = CountsOn (g.I.LineInbox.taken l.initial.inbox) (g.I.LineInbox.taken l.inbox) l.initial.count l.count
