use Rattle.bsc_turn.specs.Counting.{counted}
use Rattle.test_hub.proofs.turn.count_one.Given as goal

abbrev pub ghosts-commit_count : goal.ghosts-commit_count
ghosts-commit_count g a = record { stamped = counted a.caller }
