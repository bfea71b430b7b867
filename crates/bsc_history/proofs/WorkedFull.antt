-- Worked histories of full outboxes: a unicast closes, a broadcast is missed.
-- No clause needs it: worked examples.
use Rattle.std.proofs.Common.{◌≡◌, List, [], ◌∷◌, ◌++◌, Some, None, replicate, refl}
use Rattle.bsc_history.specs.declared.call.Call.TheVariants.{Forward, Leave, Count}
use Rattle.bsc_history.specs.declared.ending.End.TheVariants.{Full}
use Rattle.bsc_history.specs.declared.entry.Entry.{Entry}
use Rattle.bsc_history.specs.declared.reply.Reply.TheVariants.{Appended, Closed, NoHolder, SentAll, NotCurrent, Gone, Counted}
use Rattle.bsc_history.specs.Ends.{ended, live}
use Rattle.bsc_history.specs.Holders.{holder}
use Rattle.bsc_history.specs.Outboxes.{sent, looked}
use Rattle.bsc_history.specs.Counting.{counts}
use Rattle.bsc_history.specs.Replies.{number_of, numbers}
use Rattle.bsc_history.specs.Legality.{Legal}
use Rattle.bsc_history.proofs.OnLiterals.{history_on_literals}
use Rattle.bsc_history.proofs.WorkedPieces.{address, hub_with_outboxes_of_two, short, unicast, unicast_from, broadcast, broadcast_from, entry, look, abc, lawful}

-- An outbox of two takes two unicasts and is found full by the third: its connection ends, what entered stays, and a forward by it is told so.
abbrev full_outbox_closes : List Entry
full_outbox_closes =
    abc
    ++ entry (Forward 1 (unicast 2 0x0B short)) (look 2 0 ∷ []) (Appended 2)
    ∷ entry (Forward 1 (unicast 3 0x0B short)) (look 2 0 ∷ []) (Appended 2)
    ∷ entry (Forward 1 (unicast 4 0x0B short)) (look 2 0 ∷ []) (Closed 2)
    ∷ entry (Forward 2 (unicast 5 0x0A short)) [] (NotCurrent Full)
    ∷ entry (Forward 1 (unicast 6 0x0B short)) [] NoHolder
    ∷ entry (Leave 2 2 0) [] (Gone Full 2)
    ∷ []

full_outbox_closes-legal : Legal hub_with_outboxes_of_two full_outbox_closes
unfolding history_on_literals
full_outbox_closes-legal = record {
  lawful = (
    lawful refl refl refl refl,
    (
      lawful refl refl refl refl,
      (
        lawful refl refl refl refl,
        (
          lawful refl refl refl refl,
          (lawful refl refl refl refl, (lawful refl refl refl refl, (lawful refl refl refl refl, (lawful refl refl refl refl, (lawful refl refl refl refl, tt))))),
        ),
      ),
    ),
  );
}

full_outbox_closes-says :
    (sent hub_with_outboxes_of_two full_outbox_closes 2 ≡ unicast_from 2 0x0A short ∷ unicast_from 3 0x0A short ∷ [])
    × (sent hub_with_outboxes_of_two full_outbox_closes 1 ≡ [])
    × (ended full_outbox_closes 2 ≡ Some Full)
    × (number_of (holder full_outbox_closes (address 0x0B)) ≡ None)
    × (counts full_outbox_closes ≡ record { joined = 3; replaced = 0; refused = 0; unicasts = 5; broadcasts = 0; appended = 2; dropped = 3; full = 1; missed = 0 })
unfolding history_on_literals
full_outbox_closes-says = (refl, refl, refl, refl, refl)

-- An outbox of two takes a third unicast where a look finds that one frame was taken from it.
abbrev taken_frame_makes_room : List Entry
taken_frame_makes_room =
    abc
    ++ entry (Forward 1 (unicast 2 0x0B short)) (look 2 0 ∷ []) (Appended 2)
    ∷ entry (Forward 1 (unicast 3 0x0B short)) (look 2 0 ∷ []) (Appended 2)
    ∷ entry (Forward 1 (unicast 4 0x0B short)) (look 2 1 ∷ []) (Appended 2)
    ∷ entry (Forward 1 (unicast 5 0x0B short)) (look 2 1 ∷ []) (Closed 2)
    ∷ []

taken_frame_makes_room-legal : Legal hub_with_outboxes_of_two taken_frame_makes_room
unfolding history_on_literals
taken_frame_makes_room-legal = record {
  lawful = (
    lawful refl refl refl refl,
    (lawful refl refl refl refl, (lawful refl refl refl refl, (lawful refl refl refl refl, (lawful refl refl refl refl, (lawful refl refl refl refl, (lawful refl refl refl refl, tt)))))),
  );
}

taken_frame_makes_room-says :
    (sent hub_with_outboxes_of_two taken_frame_makes_room 2 ≡ unicast_from 2 0x0A short ∷ unicast_from 3 0x0A short ∷ unicast_from 4 0x0A short ∷ [])
    × (looked taken_frame_makes_room 2 ≡ 1)
    × (ended taken_frame_makes_room 2 ≡ Some Full)
unfolding history_on_literals
taken_frame_makes_room-says = (refl, refl, refl)

-- An outbox of two that two unicasts filled misses a broadcast, which the others get. Its connection goes on, and once its frames are taken it gets the next broadcast.
abbrev full_outbox_misses : List Entry
full_outbox_misses =
    abc
    ++ entry (Forward 1 (unicast 2 0x0B short)) (look 2 0 ∷ []) (Appended 2)
    ∷ entry (Forward 1 (unicast 3 0x0B short)) (look 2 0 ∷ []) (Appended 2)
    ∷ entry (Forward 1 (broadcast 4 short)) (look 2 0 ∷ look 3 0 ∷ []) (SentAll (3 ∷ []) (2 ∷ []) [])
    ∷ entry (Forward 1 (broadcast 5 short)) (look 2 2 ∷ look 3 1 ∷ []) (SentAll (2 ∷ 3 ∷ []) [] [])
    ∷ []

full_outbox_misses-legal : Legal hub_with_outboxes_of_two full_outbox_misses
unfolding history_on_literals
full_outbox_misses-legal = record {
  lawful = (
    lawful refl refl refl refl,
    (lawful refl refl refl refl, (lawful refl refl refl refl, (lawful refl refl refl refl, (lawful refl refl refl refl, (lawful refl refl refl refl, (lawful refl refl refl refl, tt)))))),
  );
}

full_outbox_misses-says :
    (sent hub_with_outboxes_of_two full_outbox_misses 2 ≡ unicast_from 2 0x0A short ∷ unicast_from 3 0x0A short ∷ broadcast_from 5 0x0A short ∷ [])
    × (sent hub_with_outboxes_of_two full_outbox_misses 3 ≡ broadcast_from 4 0x0A short ∷ broadcast_from 5 0x0A short ∷ [])
    × (ended full_outbox_misses 2 ≡ None)
    × (numbers (live full_outbox_misses) ≡ 1 ∷ 2 ∷ 3 ∷ [])
    × (counts full_outbox_misses ≡ record { joined = 3; replaced = 0; refused = 0; unicasts = 2; broadcasts = 2; appended = 5; dropped = 0; full = 0; missed = 1 })
unfolding history_on_literals
full_outbox_misses-says = (refl, refl, refl, refl, refl)

-- Of three broadcasts an outbox of two, from which nothing is taken, misses the third. The hub counts it as missed, and nothing as dropped or full.
abbrev third_broadcast_is_missed : List Entry
third_broadcast_is_missed =
    abc
    ++ entry (Forward 1 (broadcast 2 short)) (look 2 0 ∷ look 3 0 ∷ []) (SentAll (2 ∷ 3 ∷ []) [] [])
    ∷ entry (Forward 1 (broadcast 3 short)) (look 2 0 ∷ look 3 1 ∷ []) (SentAll (2 ∷ 3 ∷ []) [] [])
    ∷ entry (Forward 1 (broadcast 4 short)) (look 2 0 ∷ look 3 2 ∷ []) (SentAll (3 ∷ []) (2 ∷ []) [])
    ∷ entry Count [] (Counted (record { joined = 3; replaced = 0; refused = 0; unicasts = 0; broadcasts = 3; appended = 5; dropped = 0; full = 0; missed = 1 }))
    ∷ []

third_broadcast_is_missed-legal : Legal hub_with_outboxes_of_two third_broadcast_is_missed
unfolding history_on_literals
third_broadcast_is_missed-legal = record {
  lawful = (
    lawful refl refl refl refl,
    (lawful refl refl refl refl, (lawful refl refl refl refl, (lawful refl refl refl refl, (lawful refl refl refl refl, (lawful refl refl refl refl, (lawful refl refl refl refl, tt)))))),
  );
}

third_broadcast_is_missed-says :
    (sent hub_with_outboxes_of_two third_broadcast_is_missed 2 ≡ broadcast_from 2 0x0A short ∷ broadcast_from 3 0x0A short ∷ [])
    × (number_of (holder third_broadcast_is_missed (address 0x0B)) ≡ Some 2)
    × (numbers (live third_broadcast_is_missed) ≡ 1 ∷ 2 ∷ 3 ∷ [])
unfolding history_on_literals
third_broadcast_is_missed-says = (refl, refl, refl)

-- A broadcast that is longer than a connection takes, and whose outbox is full, is skipped and not missed: too long is asked first.
abbrev skipped_before_missed : List Entry
skipped_before_missed =
    abc
    ++ entry (Forward 1 (unicast 2 0x0B short)) (look 2 0 ∷ []) (Appended 2)
    ∷ entry (Forward 1 (unicast 3 0x0B short)) (look 2 0 ∷ []) (Appended 2)
    ∷ entry (Forward 1 (broadcast 4 (replicate 1590 7))) [] (SentAll [] [] (2 ∷ 3 ∷ []))
    ∷ []

skipped_before_missed-legal : Legal hub_with_outboxes_of_two skipped_before_missed
unfolding history_on_literals
skipped_before_missed-legal = record {
  lawful = (
    lawful refl refl refl refl,
    (lawful refl refl refl refl, (lawful refl refl refl refl, (lawful refl refl refl refl, (lawful refl refl refl refl, (lawful refl refl refl refl, tt))))),
  );
}

skipped_before_missed-says : counts skipped_before_missed ≡ record { joined = 3; replaced = 0; refused = 0; unicasts = 2; broadcasts = 1; appended = 2; dropped = 1; full = 0; missed = 0 }
unfolding history_on_literals
skipped_before_missed-says = refl
