use Rattle.bsc_hub.specs.Calls.{all_stamped}
use Rattle.bsc_hub.proofs.hub.Hub.forward_all.Given as goal

abbrev pub ghosts-commit_all : goal.ghosts-commit_all
ghosts-commit_all g a = record { stamped = all_stamped a.caller a.conn a.frame.now.message a.said.now }
