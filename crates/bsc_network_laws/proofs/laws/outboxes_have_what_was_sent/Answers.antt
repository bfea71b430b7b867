use Rattle.bsc_network_laws.proofs.Carried.{outboxes_have_what_was_sent}
use Rattle.bsc_network_laws.proofs.laws.outboxes_have_what_was_sent.Goals as goal

pub returns : goal.returns
returns c = outboxes_have_what_was_sent
