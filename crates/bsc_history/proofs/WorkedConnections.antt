-- Worked histories of connections: who joins, who is refused, who takes over, and how connections end.
-- No clause needs it: worked examples.
use Rattle.std.proofs.Common.{◌≡◌, List, [], ◌∷◌, ◌++◌, Some, None, refl}
use Rattle.bsc_history.specs.declared.call.Call.TheVariants.{Connect, Forward, Leave, Stop, Count}
use Rattle.bsc_history.specs.declared.ending.End.TheVariants.{Left, Replaced, Stopped as EndStopped}
use Rattle.bsc_history.specs.declared.entry.Entry.{Entry}
use Rattle.bsc_history.specs.declared.reply.Refusal.TheVariants.{Stopped as RefusedStopped, Duplicate, TableFull}
use Rattle.bsc_history.specs.declared.reply.Reply.TheVariants.{Joined, Refused, Appended, NoHolder, SentAll, NotCurrent, Stopped, Gone, Counted}
use Rattle.bsc_history.specs.Entries.{own}
use Rattle.bsc_history.specs.Ends.{ended, live, unleft}
use Rattle.bsc_history.specs.Holders.{holder}
use Rattle.bsc_history.specs.Outboxes.{sent}
use Rattle.bsc_history.specs.Counting.{counts}
use Rattle.bsc_history.specs.Replies.{number_of, numbers}
use Rattle.bsc_history.specs.Legality.{Legal}
use Rattle.bsc_history.proofs.OnLiterals.{history_on_literals}
use Rattle.bsc_history.proofs.WorkedPieces.{address, peer, peer_a, peer_b, peer_c, the_hub, hub_of_two_rows, hub_of_two_calls, short, long, unicast, unicast_from, broadcast}
use Rattle.bsc_history.proofs.WorkedPieces.{broadcast_from, entry, look, join, abc, lawful}

-- One joins, and holds its address.
abbrev one_joins : List Entry
one_joins =
    join peer_a 1 ∷ []

one_joins-legal : Legal the_hub one_joins
unfolding history_on_literals
one_joins-legal = record { lawful = (lawful refl refl refl refl, tt) }

one_joins-says :
    (number_of (holder one_joins (address 0x0A)) ≡ Some 1)
    × (number_of (holder one_joins (address 0x0B)) ≡ None)
    × (sent the_hub one_joins 1 ≡ [])
    × (ended one_joins 1 ≡ None)
unfolding history_on_literals
one_joins-says = (refl, refl, refl, refl)

-- Who asks for an address that another device holds is refused, and so is who asks for the hub's own. A device that is live is refused
-- another's address as well. Nobody ends by it, and each is counted.
abbrev connects_are_refused : List Entry
connects_are_refused =
    abc
    ++ entry (Connect (peer 0x0A 0xDD)) [] (Refused (Duplicate (Some 1)))
    ∷ entry (Connect (peer 0xFF 0xDD)) [] (Refused (Duplicate None))
    ∷ entry (Connect (peer 0x0B 0xAA)) [] (Refused (Duplicate (Some 2)))
    ∷ entry Count [] (Counted (record { joined = 3; replaced = 0; refused = 3; unicasts = 0; broadcasts = 0; appended = 0; dropped = 0; full = 0; missed = 0 }))
    ∷ []

connects_are_refused-legal : Legal the_hub connects_are_refused
unfolding history_on_literals
connects_are_refused-legal = record {
  lawful = (
    lawful refl refl refl refl,
    (lawful refl refl refl refl, (lawful refl refl refl refl, (lawful refl refl refl refl, (lawful refl refl refl refl, (lawful refl refl refl refl, (lawful refl refl refl refl, tt)))))),
  );
}

connects_are_refused-says :
    (number_of (holder connects_are_refused (address 0x0A)) ≡ Some 1)
    × (number_of (holder connects_are_refused (address 0xFF)) ≡ None)
    × (number_of (holder connects_are_refused (address 0x0B)) ≡ Some 2)
    × (ended connects_are_refused 1 ≡ None)
    × (ended connects_are_refused 2 ≡ None)
    × (numbers (live connects_are_refused) ≡ 1 ∷ 2 ∷ 3 ∷ [])
unfolding history_on_literals
connects_are_refused-says = (refl, refl, refl, refl, refl, refl)

-- A's device connects again and takes over. From then on frames to its address join the new outbox and none the old. The old connection forwards nothing, is told how it ended, and leaves as replaced.
abbrev takeover_by_device : List Entry
takeover_by_device =
    abc
    ++ entry (Forward 2 (unicast 2 0x0A short)) (look 1 0 ∷ []) (Appended 1)
    ∷ entry (Connect peer_a) [] (Joined 4 (Some 1))
    ∷ entry (Forward 2 (unicast 3 0x0A short)) (look 4 0 ∷ []) (Appended 4)
    ∷ entry (Forward 3 (broadcast 4 short)) (look 2 0 ∷ look 4 0 ∷ []) (SentAll (2 ∷ 4 ∷ []) [] [])
    ∷ entry (Forward 1 (unicast 5 0x0B short)) [] (NotCurrent Replaced)
    ∷ entry (Forward 1 (broadcast 6 short)) [] (NotCurrent Replaced)
    ∷ entry (Leave 1 1 1) [] (Gone Replaced 1)
    ∷ []

takeover_by_device-legal : Legal the_hub takeover_by_device
unfolding history_on_literals
takeover_by_device-legal = record {
  lawful = (
    lawful refl refl refl refl,
    (
      lawful refl refl refl refl,
      (
        lawful refl refl refl refl,
        (
          lawful refl refl refl refl,
          (lawful refl refl refl refl, (lawful refl refl refl refl, (lawful refl refl refl refl, (lawful refl refl refl refl, (lawful refl refl refl refl, (lawful refl refl refl refl, tt)))))),
        ),
      ),
    ),
  );
}

takeover_by_device-says :
    (number_of (holder takeover_by_device (address 0x0A)) ≡ Some 4)
    × (ended takeover_by_device 1 ≡ Some Replaced)
    × (sent the_hub takeover_by_device 4 ≡ unicast_from 3 0x0B short ∷ broadcast_from 4 0x0C short ∷ [])
    × (sent the_hub takeover_by_device 1 ≡ unicast_from 2 0x0B short ∷ [])
    × (sent the_hub takeover_by_device 2 ≡ broadcast_from 4 0x0C short ∷ [])
    × (numbers (live takeover_by_device) ≡ 2 ∷ 3 ∷ 4 ∷ [])
    × (numbers (unleft takeover_by_device) ≡ 2 ∷ 3 ∷ 4 ∷ [])
    × (counts takeover_by_device ≡ record { joined = 4; replaced = 1; refused = 0; unicasts = 3; broadcasts = 2; appended = 4; dropped = 2; full = 0; missed = 0 })
unfolding history_on_literals
takeover_by_device-says = (refl, refl, refl, refl, refl, refl, refl, refl)

-- A's device connects again under an address that is free: it takes over all the same, and its former address has no holder.
abbrev takeover_under_another_address : List Entry
takeover_under_another_address =
    abc
    ++ entry (Connect (peer 0x0D 0xAA)) [] (Joined 4 (Some 1))
    ∷ entry (Forward 2 (unicast 2 0x0A short)) [] NoHolder
    ∷ entry (Forward 2 (unicast 3 0x0D short)) (look 4 0 ∷ []) (Appended 4)
    ∷ []

takeover_under_another_address-legal : Legal the_hub takeover_under_another_address
unfolding history_on_literals
takeover_under_another_address-legal = record {
  lawful = (
    lawful refl refl refl refl,
    (lawful refl refl refl refl, (lawful refl refl refl refl, (lawful refl refl refl refl, (lawful refl refl refl refl, (lawful refl refl refl refl, tt))))),
  );
}

takeover_under_another_address-says :
    (number_of (holder takeover_under_another_address (address 0x0A)) ≡ None)
    × (number_of (holder takeover_under_another_address (address 0x0D)) ≡ Some 4)
    × (ended takeover_under_another_address 1 ≡ Some Replaced)
    × (sent the_hub takeover_under_another_address 4 ≡ unicast_from 3 0x0B short ∷ [])
    × (sent the_hub takeover_under_another_address 1 ≡ [])
unfolding history_on_literals
takeover_under_another_address-says = (refl, refl, refl, refl, refl)

-- Of two rows both are taken: a third is refused, a takeover too, and when one leaves the third joins.
abbrev table_full_until_one_leaves : List Entry
table_full_until_one_leaves =
    join peer_a 1
    ∷ join peer_b 2
    ∷ entry (Connect peer_c) [] (Refused (TableFull 2))
    ∷ entry (Connect peer_a) [] (Refused (TableFull 2))
    ∷ entry (Leave 1 0 0) [] (Gone Left 0)
    ∷ join peer_c 3
    ∷ []

table_full_until_one_leaves-legal : Legal hub_of_two_rows table_full_until_one_leaves
unfolding history_on_literals
table_full_until_one_leaves-legal = record {
  lawful = (
    lawful refl refl refl refl,
    (lawful refl refl refl refl, (lawful refl refl refl refl, (lawful refl refl refl refl, (lawful refl refl refl refl, (lawful refl refl refl refl, tt))))),
  );
}

table_full_until_one_leaves-says :
    (ended table_full_until_one_leaves 1 ≡ Some Left)
    × (ended table_full_until_one_leaves 2 ≡ None)
    × (numbers (live table_full_until_one_leaves) ≡ 2 ∷ 3 ∷ [])
    × (counts table_full_until_one_leaves ≡ record { joined = 3; replaced = 0; refused = 2; unicasts = 0; broadcasts = 0; appended = 0; dropped = 0; full = 0; missed = 0 })
unfolding history_on_literals
table_full_until_one_leaves-says = (refl, refl, refl, refl)

-- A connection that has ended keeps its row until it leaves.
abbrev row_is_kept_until_left : List Entry
row_is_kept_until_left =
    join peer_a 1
    ∷ entry (Connect peer_a) [] (Joined 2 (Some 1))
    ∷ entry (Connect peer_b) [] (Refused (TableFull 2))
    ∷ entry (Leave 1 0 0) [] (Gone Replaced 0)
    ∷ join peer_b 3
    ∷ []

row_is_kept_until_left-legal : Legal hub_of_two_rows row_is_kept_until_left
unfolding history_on_literals
row_is_kept_until_left-legal = record {
  lawful = (
    lawful refl refl refl refl,
    (lawful refl refl refl refl, (lawful refl refl refl refl, (lawful refl refl refl refl, (lawful refl refl refl refl, tt)))),
  );
}

row_is_kept_until_left-says :
    (numbers (live row_is_kept_until_left) ≡ 2 ∷ 3 ∷ [])
    × (numbers (unleft row_is_kept_until_left) ≡ 2 ∷ 3 ∷ [])
unfolding history_on_literals
row_is_kept_until_left-says = (refl, refl)

-- The hub stops, with its counts: each live connection ends, no one joins, and nothing is forwarded.
abbrev stop_counts_and_ends_all : List Entry
stop_counts_and_ends_all =
    join peer_a 1
    ∷ join peer_b 2
    ∷ entry (Forward 1 (unicast 2 0x0B long)) (look 2 0 ∷ []) (Appended 2)
    ∷ entry Stop [] (Counted (record { joined = 2; replaced = 0; refused = 0; unicasts = 1; broadcasts = 0; appended = 1; dropped = 0; full = 0; missed = 0 }))
    ∷ entry (Connect (peer 0x0D 0xDD)) [] (Refused RefusedStopped)
    ∷ entry (Forward 1 (unicast 3 0x0B long)) [] Stopped
    ∷ entry (Leave 1 0 0) [] (Gone EndStopped 0)
    ∷ []

stop_counts_and_ends_all-legal : Legal the_hub stop_counts_and_ends_all
unfolding history_on_literals
stop_counts_and_ends_all-legal = record {
  lawful = (
    lawful refl refl refl refl,
    (lawful refl refl refl refl, (lawful refl refl refl refl, (lawful refl refl refl refl, (lawful refl refl refl refl, (lawful refl refl refl refl, (lawful refl refl refl refl, tt)))))),
  );
}

stop_counts_and_ends_all-says :
    (ended stop_counts_and_ends_all 1 ≡ Some EndStopped)
    × (ended stop_counts_and_ends_all 2 ≡ Some EndStopped)
    × (live stop_counts_and_ends_all ≡ [])
    × (numbers (unleft stop_counts_and_ends_all) ≡ 2 ∷ [])
    × (sent the_hub stop_counts_and_ends_all 2 ≡ unicast_from 2 0x0A long ∷ [])
unfolding history_on_literals
stop_counts_and_ends_all-says = (refl, refl, refl, refl, refl)

-- Of two calls that a hub may answer the second is the last, but leaving and stopping stay allowed.
abbrev last_calls : List Entry
last_calls =
    join peer_a 1
    ∷ entry Count [] (Counted (record { joined = 1; replaced = 0; refused = 0; unicasts = 0; broadcasts = 0; appended = 0; dropped = 0; full = 0; missed = 0 }))
    ∷ entry (Leave 1 0 0) [] (Gone Left 0)
    ∷ entry Stop [] (Counted (record { joined = 1; replaced = 0; refused = 0; unicasts = 0; broadcasts = 0; appended = 0; dropped = 0; full = 0; missed = 0 }))
    ∷ []

last_calls-legal : Legal hub_of_two_calls last_calls
unfolding history_on_literals
last_calls-legal = record { lawful = (lawful refl refl refl refl, (lawful refl refl refl refl, (lawful refl refl refl refl, (lawful refl refl refl refl, tt)))) }

last_calls-says : live last_calls ≡ []
unfolding history_on_literals
last_calls-says = refl

-- Two callers make entries by turns, and each finds its own in order.
abbrev first_of_one : Entry
first_of_one = record { caller = 1; call = Connect peer_a; looks = []; reply = Joined 1 None }

abbrev first_of_two : Entry
first_of_two = record { caller = 2; call = Connect peer_b; looks = []; reply = Joined 2 None }

abbrev second_of_one : Entry
second_of_one = record { caller = 1; call = Forward 1 (unicast 2 0x0B short); looks = look 2 0 ∷ []; reply = Appended 2 }

abbrev second_of_two : Entry
second_of_two = record { caller = 2; call = Leave 2 1 0; looks = []; reply = Gone Left 1 }

abbrev two_callers : List Entry
two_callers = first_of_one ∷ first_of_two ∷ second_of_one ∷ second_of_two ∷ []

two_callers-legal : Legal the_hub two_callers
unfolding history_on_literals
two_callers-legal = record { lawful = (lawful refl refl refl refl, (lawful refl refl refl refl, (lawful refl refl refl refl, (lawful refl refl refl refl, tt)))) }

two_callers-says :
    (own two_callers 1 ≡ first_of_one ∷ second_of_one ∷ [])
    × (own two_callers 2 ≡ first_of_two ∷ second_of_two ∷ [])
unfolding history_on_literals
two_callers-says = (refl, refl)
