-- Worked histories of frames: each is legal, and what entered the outboxes, who is live and what was counted is computed.
-- No clause needs it: worked examples.
use Rattle.std.proofs.Common.{◌≡◌, List, [], ◌∷◌, ◌++◌, None, replicate, refl}
use Rattle.bsc_history.specs.declared.call.Call.TheVariants.{Forward}
use Rattle.bsc_history.specs.declared.entry.Entry.{Entry}
use Rattle.bsc_history.specs.declared.reply.Reply.TheVariants.{Appended, Skipped, NoHolder, SentAll}
use Rattle.bsc_history.specs.Ends.{ended, live}
use Rattle.bsc_history.specs.Outboxes.{sent, looked}
use Rattle.bsc_history.specs.Counting.{counts}
use Rattle.bsc_history.specs.Replies.{numbers}
use Rattle.bsc_history.specs.Legality.{Legal}
use Rattle.bsc_history.proofs.OnLiterals.{history_on_literals}
use Rattle.bsc_history.proofs.WorkedPieces.{six, the_hub, head, short, long, unicast, unicast_from, broadcast, broadcast_from, entry, look, abc, lawful}

-- A unicast joins, under its sender's address, the outbox of the one that holds its destination, and so does one with a data option.
abbrev unicast_to_holder : List Entry
unicast_to_holder =
    abc
    ++ entry (Forward 1 (unicast 2 0x0B long)) (look 2 0 ∷ []) (Appended 2)
    ∷ entry (Forward 1 (head 1 5 3 ++ six 0x0B ++ (0x41 ∷ []) ++ long)) (look 2 1 ∷ []) (Appended 2)
    ∷ []

unicast_to_holder-legal : Legal the_hub unicast_to_holder
unfolding history_on_literals
unicast_to_holder-legal = record { lawful = (lawful refl refl refl refl, (lawful refl refl refl refl, (lawful refl refl refl refl, (lawful refl refl refl refl, (lawful refl refl refl refl, tt))))) }

unicast_to_holder-says :
    (sent the_hub unicast_to_holder 2 ≡ unicast_from 2 0x0A long ∷ (head 1 9 3 ++ six 0x0A ++ (0x41 ∷ []) ++ long) ∷ [])
    × (sent the_hub unicast_to_holder 1 ≡ [])
    × (sent the_hub unicast_to_holder 3 ≡ [])
    × (looked unicast_to_holder 2 ≡ 1)
    × (ended unicast_to_holder 2 ≡ None)
    × (numbers (live unicast_to_holder) ≡ 1 ∷ 2 ∷ 3 ∷ [])
    × (counts unicast_to_holder ≡ record { joined = 3; replaced = 0; refused = 0; unicasts = 2; broadcasts = 0; appended = 2; dropped = 0; full = 0; missed = 0 })
unfolding history_on_literals
unicast_to_holder-says = (refl, refl, refl, refl, refl, refl, refl)

-- A unicast to the sender's own address joins the sender's own outbox.
abbrev unicast_to_oneself : List Entry
unicast_to_oneself =
    abc
    ++ entry (Forward 1 (unicast 2 0x0A short)) (look 1 0 ∷ []) (Appended 1)
    ∷ []

unicast_to_oneself-legal : Legal the_hub unicast_to_oneself
unfolding history_on_literals
unicast_to_oneself-legal = record { lawful = (lawful refl refl refl refl, (lawful refl refl refl refl, (lawful refl refl refl refl, (lawful refl refl refl refl, tt)))) }

unicast_to_oneself-says :
    (sent the_hub unicast_to_oneself 1 ≡ unicast_from 2 0x0A short ∷ [])
    × (sent the_hub unicast_to_oneself 2 ≡ [])
    × (ended unicast_to_oneself 1 ≡ None)
unfolding history_on_literals
unicast_to_oneself-says = (refl, refl, refl)

-- Nobody holds the destination, and nobody holds the hub's own address.
abbrev no_holder : List Entry
no_holder =
    abc
    ++ entry (Forward 1 (unicast 2 0x0D short)) [] NoHolder
    ∷ entry (Forward 1 (unicast 3 0xFF short)) [] NoHolder
    ∷ []

no_holder-legal : Legal the_hub no_holder
unfolding history_on_literals
no_holder-legal = record { lawful = (lawful refl refl refl refl, (lawful refl refl refl refl, (lawful refl refl refl refl, (lawful refl refl refl refl, (lawful refl refl refl refl, tt))))) }

no_holder-says :
    (sent the_hub no_holder 1 ≡ [])
    × (sent the_hub no_holder 2 ≡ [])
    × (sent the_hub no_holder 3 ≡ [])
    × (counts no_holder ≡ record { joined = 3; replaced = 0; refused = 0; unicasts = 2; broadcasts = 0; appended = 0; dropped = 2; full = 0; missed = 0 })
unfolding history_on_literals
no_holder-says = (refl, refl, refl, refl)

-- A broadcast joins each outbox but its sender's, and keeps its destination.
abbrev broadcast_to_others : List Entry
broadcast_to_others =
    abc
    ++ entry (Forward 1 (broadcast 2 long)) (look 2 0 ∷ look 3 0 ∷ []) (SentAll (2 ∷ 3 ∷ []) [] [])
    ∷ []

broadcast_to_others-legal : Legal the_hub broadcast_to_others
unfolding history_on_literals
broadcast_to_others-legal = record { lawful = (lawful refl refl refl refl, (lawful refl refl refl refl, (lawful refl refl refl refl, (lawful refl refl refl refl, tt)))) }

broadcast_to_others-says :
    (sent the_hub broadcast_to_others 1 ≡ [])
    × (sent the_hub broadcast_to_others 2 ≡ broadcast_from 2 0x0A long ∷ [])
    × (sent the_hub broadcast_to_others 3 ≡ broadcast_from 2 0x0A long ∷ [])
    × (numbers (live broadcast_to_others) ≡ 1 ∷ 2 ∷ 3 ∷ [])
    × (counts broadcast_to_others ≡ record { joined = 3; replaced = 0; refused = 0; unicasts = 0; broadcasts = 1; appended = 2; dropped = 0; full = 0; missed = 0 })
unfolding history_on_literals
broadcast_to_others-says = (refl, refl, refl, refl, refl)

-- A broadcast whose forwarded octets are six too long is skipped and no outbox is looked at. A unicast of the same length, which loses its destination, is not.
abbrev too_long_is_skipped : List Entry
too_long_is_skipped =
    abc
    ++ entry (Forward 1 (broadcast 2 (replicate 1590 7))) [] (SentAll [] [] (2 ∷ 3 ∷ []))
    ∷ entry (Forward 1 (unicast 3 0x0B (replicate 1590 7))) (look 2 0 ∷ []) (Appended 2)
    ∷ entry (Forward 1 (unicast 4 0x0B (replicate 1591 7))) [] (Skipped 2)
    ∷ []

too_long_is_skipped-legal : Legal the_hub too_long_is_skipped
unfolding history_on_literals
too_long_is_skipped-legal = record {
  lawful = (
    lawful refl refl refl refl,
    (lawful refl refl refl refl, (lawful refl refl refl refl, (lawful refl refl refl refl, (lawful refl refl refl refl, (lawful refl refl refl refl, tt))))),
  );
}

too_long_is_skipped-says :
    (sent the_hub too_long_is_skipped 2 ≡ unicast_from 3 0x0A (replicate 1590 7) ∷ [])
    × (sent the_hub too_long_is_skipped 3 ≡ [])
    × (ended too_long_is_skipped 2 ≡ None)
    × (counts too_long_is_skipped ≡ record { joined = 3; replaced = 0; refused = 0; unicasts = 2; broadcasts = 1; appended = 1; dropped = 2; full = 0; missed = 0 })
unfolding history_on_literals
too_long_is_skipped-says = (refl, refl, refl, refl)
