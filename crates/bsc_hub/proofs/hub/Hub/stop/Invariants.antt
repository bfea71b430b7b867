use Rattle.bsc_hub.specs.Calls.{stop_stamped}
use Rattle.bsc_hub.proofs.hub.Hub.stop.Given as goal

abbrev pub ghosts-commit_stop : goal.ghosts-commit_stop
ghosts-commit_stop g a = record { stamped = stop_stamped a.caller a.said }
