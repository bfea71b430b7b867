-- The theorem: a network delivers what was sent, by a law of nodes.
-- It serves the clauses of `networks_deliver_what_was_sent`.
use Rattle.bsc_node_identity.proofs.Risen.{npdus_pass_where_up}
use Rattle.bsc_network_laws.specs.Deliveries.{NetworksDeliverWhatWasSent}
use Rattle.bsc_network_laws.proofs.Carried.{each_from_its_send}
use Rattle.bsc_network_laws.proofs.DeliveredOnce.{none_is_delivered_twice}
use Rattle.bsc_network_laws.proofs.Reached.{UpLaw}

pub delivers_by : UpLaw → NetworksDeliverWhatWasSent
delivers_by law added steps course = record { each = each_from_its_send law added steps course; once = none_is_delivered_twice added steps course }

-- The same, for the proofs of other crates.
pub networks_deliver_what_was_sent : NetworksDeliverWhatWasSent
networks_deliver_what_was_sent = delivers_by npdus_pass_where_up
