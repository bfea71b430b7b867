use Rattle.bsc_hub.specs.Calls.{one_stamped}
use Rattle.bsc_hub.proofs.hub.Hub.forward_one.Given as goal

abbrev pub ghosts-commit_one : goal.ghosts-commit_one
ghosts-commit_one g a = record { stamped = one_stamped a.caller a.conn a.frame.value.message a.said }
