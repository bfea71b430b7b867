use Rattle.bsc_hub.specs.Calls.{leave_stamped}
use Rattle.bsc_hub.proofs.hub.Hub.leave.Given as goal

abbrev pub ghosts-commit_leave : goal.ghosts-commit_leave
ghosts-commit_leave g a = record { stamped = leave_stamped a.caller a.conn a.empties a.gone }
