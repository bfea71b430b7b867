use Rattle.bsc_node_identity.proofs.Events.{learns_what_was_answered}
use Rattle.bsc_node_identity.proofs.laws.learns_what_was_answered.Goals as goal

pub returns : goal.returns
returns c = learns_what_was_answered
