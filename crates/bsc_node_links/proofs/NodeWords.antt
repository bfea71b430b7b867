-- The words of worked nodes: a node at a hub, with the VMAC 02000000000A, as A has it in the worked talks of `bsc_session`.
-- It serves bsc_network_of_runs.
use Rattle.std.proofs.Common.{ℕ, List, [], ◌∷◌, None}
use Rattle.std.specs.Prelude.{codes}
use Rattle.bsc_octets.specs.Identities.{identity_of}
use Rattle.bsc_node.specs.declared.node_event.NodeEvent.{NodeEvent}
use Rattle.bsc_node.specs.declared.timed_event.TimedEvent.{TimedEvent}
use Rattle.bsc_node.specs.Logs.{Made}

-- the octets of its identity
abbrev pub own_octets : List ℕ
own_octets = 0x02 ∷ 0x00 ∷ 0x00 ∷ 0x00 ∷ 0x00 ∷ 0x0A ∷ 0x0A ∷ 0x0A ∷ 0x0A ∷ 0x0A ∷ 0x0A ∷ 0x0A ∷ 0x0A ∷ 0x0A ∷ 0x0A ∷ 0x0A ∷ 0x0A ∷ 0x0A ∷ 0x0A ∷ 0x0A ∷ 0x0A ∷ 0x0A ∷ 0x06 ∷ 0x40 ∷ 0x05 ∷ 0xD9 ∷ []

abbrev pub node : Made
node = record {
  own = identity_of own_octets;
  limits = record {
    times = record { connect_wait = 10000; disconnect_wait = 10000; heartbeat = 300000 };
    primary = codes "ws://p/";
    failover = None;
    uris = None;
    least_wait = 1000;
    greatest_wait = 60000;
  };
}

abbrev pub at : ℕ → NodeEvent → TimedEvent
at now event = record { now = now; event = event }
