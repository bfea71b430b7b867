use Rattle.bsc_hub.specs.Calls.{count_stamped}
use Rattle.bsc_hub.proofs.hub.Hub.counts.Given as goal

abbrev pub ghosts-commit_count : goal.ghosts-commit_count
ghosts-commit_count g a = record { stamped = count_stamped a.caller a.said }
