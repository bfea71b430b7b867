use Rattle.std.proofs.Common.{◌≡◌}
use Rattle.bsc_live_lines.proofs.line_requests.LineRequests.next.Given as goal

abbrev pub invariant-loop : goal.invariant-loop
invariant-loop g l = l.self.reading.asked.items ≡ l.initial.self.reading.asked.items
