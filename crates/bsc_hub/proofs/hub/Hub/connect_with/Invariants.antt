use Rattle.bsc_ring.specs.Ends.{outlet_mark}
use Rattle.bsc_hub.specs.Calls.{joined_stamped, refused_stamped}
use Rattle.bsc_hub.proofs.hub.Hub.connect_with.Given as goal

abbrev pub ghosts-commit_joined : goal.ghosts-commit_joined
ghosts-commit_joined g a = record { stamped = joined_stamped a.caller a.who.value a.row (outlet_mark a.outlet.now) }

abbrev pub ghosts-commit_refused : goal.ghosts-commit_refused
ghosts-commit_refused g a = record { stamped = refused_stamped a.caller a.who.value a.refusal }
