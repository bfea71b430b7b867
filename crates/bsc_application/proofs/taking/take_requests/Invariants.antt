use Rattle.std.proofs.Common.{◌≡◌, Some, map, length}
use Rattle.bsc_edge.specs.Told.{Grows}
use Rattle.bsc_application.specs.Asking.{AreAsked, requests}
use Rattle.bsc_application.proofs.taking.take_requests.Given as goal

-- So many requests were taken, and these were given.
abbrev pub invariant-loop-taken : goal.invariant-loop-taken
invariant-loop-taken g l = record {
  asked : AreAsked l.batch.items;
  count : length l.batch.items ≡ l.taken;
  gave : Grows (g.P.Application.answers l.initial.application) (g.P.Application.answers l.application) (map Some (requests l.batch.items));
}
