-- Nodes to which no link comes, written out: what they write and dial, by computation.
-- No clause needs it: worked examples.
use Rattle.std.proofs.Common.{◌≡◌, ℕ, List, [], ◌∷◌, ◌++◌, Option, Some, None, refl, replicate}
use Rattle.std.specs.Prelude.{codes}
use Rattle.bsc_octets.specs.declared.vmac.Vmac.{Vmac}
use Rattle.bsc_direct.specs.Slots.{slots}
use Rattle.bsc_node.specs.declared.node_event.NodeEvent.TheVariants.{Send, Finish}
use Rattle.bsc_node.specs.declared.note.Note.TheVariants.{NoPath, Finished}
use Rattle.bsc_node.specs.Logs.{Made, Log}
use Rattle.bsc_node_run.specs.declared.due.Due.{Due}
use Rattle.bsc_node_run.specs.Lines.{note_line}
use Rattle.bsc_node_laws.specs.Said.{text_of, uris_of}
use Rattle.bsc_node_laws.specs.Alone.{alone}

abbrev address : ℕ → Vmac
address n = record { 0 = 2 ∷ 0 ∷ 0 ∷ 0 ∷ 0 ∷ n ∷ [] }

abbrev primary_uri : List ℕ
primary_uri = codes "ws://p/"

abbrev failover_uri : List ℕ
failover_uri = codes "ws://f/"

-- a node with the waits that stand for missing keys
abbrev node : Option (List ℕ) → Made
node failover = record {
  own = record { vmac = address 0x0B; device = record { 0 = replicate 16 0xBB }; max_bvlc = 1600; max_npdu = 1497 };
  limits = record {
    times = record { connect_wait = 10000; disconnect_wait = 10000; heartbeat = 300000 };
    primary = primary_uri;
    failover = failover;
    uris = None;
    least_wait = 2000;
    greatest_wait = 30000;
  };
}

abbrev finish_at : ℕ → Due
finish_at at = record { at = at; event = Finish; octets = refl }

abbrev sending : List Due
sending = record { at = 50; event = Send (address 0x0A) (0x01 ∷ 0x00 ∷ []); octets = refl } ∷ finish_at 2100 ∷ []

-- Nothing answers: the send has no path, and the primary hub is dialled again once the least wait has passed since the
-- dial is known to have failed, not a millisecond before.
abbrev unanswered : Log
unanswered = alone (node None) sending (0 ∷ 50 ∷ 2049 ∷ 2050 ∷ 2100 ∷ [])

unanswered-text : text_of unanswered ≡ note_line (NoPath (address 0x0A)) ++ note_line Finished
unfolding slots
unanswered-text = refl

unanswered-uris : uris_of unanswered ≡ primary_uri ∷ primary_uri ∷ []
unfolding slots
unanswered-uris = refl

-- The failover is dialled as soon as the primary hub has failed.
abbrev both_unanswered : Log
both_unanswered = alone (node (Some failover_uri)) (finish_at 100 ∷ []) (0 ∷ 50 ∷ 100 ∷ [])

both_unanswered-text : text_of both_unanswered ≡ note_line Finished
unfolding slots
both_unanswered-text = refl

both_unanswered-uris : uris_of both_unanswered ≡ primary_uri ∷ failover_uri ∷ []
unfolding slots
both_unanswered-uris = refl
