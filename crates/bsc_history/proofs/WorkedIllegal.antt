-- Histories that no hub has, each for one wrong entry at its end.
-- No clause needs it: worked examples.
use Rattle.std.proofs.Common.{[], ◌∷◌, ◌++◌, replicate}
use Rattle.bsc_history.specs.declared.call.Call.TheVariants.{Forward, Leave, Stop, Count}
use Rattle.bsc_history.specs.declared.ending.End.TheVariants.{Left, Full}
use Rattle.bsc_history.specs.declared.reply.Reply.TheVariants.{Appended, NoHolder, SentAll, NotCurrent, Gone, Counted}
use Rattle.bsc_history.specs.Counting.{counts}
use Rattle.bsc_history.specs.Legality.{Legal}
use Rattle.bsc_history.proofs.OnLiterals.{history_on_literals}
use Rattle.bsc_history.proofs.WorkedPieces.{six, peer_a, peer_b, peer_c, the_hub, hub_with_outboxes_of_two, hub_of_two_calls, head, all, short, unicast, broadcast, entry, look, join, abc}

-- the reply is another

-- The first connection is number 1.
second_number_first : Legal the_hub (join peer_a 2 ∷ []) → ⊥
unfolding history_on_literals
second_number_first legal = let replied = legal.lawful.0.replied in cc

-- A full outbox can't take one unicast more.
appended_to_full : Legal hub_with_outboxes_of_two (abc ++ entry (Forward 1 (unicast 2 0x0B short)) (look 2 0 ∷ []) (Appended 2)
    ∷ entry (Forward 1 (unicast 3 0x0B short)) (look 2 0 ∷ []) (Appended 2) ∷ entry (Forward 1 (unicast 4 0x0B short)) (look 2 0 ∷ []) (Appended 2) ∷ []) → ⊥
unfolding history_on_literals
appended_to_full legal = let replied = legal.lawful.1.1.1.1.1.0.replied in cc

-- A full outbox can't take one broadcast more.
broadcast_to_full : Legal hub_with_outboxes_of_two (abc ++ entry (Forward 1 (unicast 2 0x0B short)) (look 2 0 ∷ []) (Appended 2)
    ∷ entry (Forward 1 (unicast 3 0x0B short)) (look 2 0 ∷ []) (Appended 2) ∷ entry (Forward 1 (broadcast 4 short)) (look 2 0 ∷ look 3 0 ∷ []) (SentAll (2 ∷ 3 ∷ []) [] []) ∷ []) → ⊥
unfolding history_on_literals
broadcast_to_full legal = let replied = legal.lawful.1.1.1.1.1.0.replied in cc

-- No outbox misses a broadcast that it has room for.
missed_with_room : Legal the_hub (abc ++ entry (Forward 1 (broadcast 2 short)) (look 2 0 ∷ look 3 0 ∷ []) (SentAll (3 ∷ []) (2 ∷ []) []) ∷ []) → ⊥
unfolding history_on_literals
missed_with_room legal = let replied = legal.lawful.1.1.1.0.replied in cc

-- A connection that missed a broadcast isn't told that it has ended.
ended_by_broadcast : Legal hub_with_outboxes_of_two (abc ++ entry (Forward 1 (unicast 2 0x0B short)) (look 2 0 ∷ []) (Appended 2)
    ∷ entry (Forward 1 (unicast 3 0x0B short)) (look 2 0 ∷ []) (Appended 2) ∷ entry (Forward 1 (broadcast 4 short)) (look 2 0 ∷ look 3 0 ∷ []) (SentAll (3 ∷ []) (2 ∷ []) [])
    ∷ entry (Forward 2 (unicast 5 0x0A short)) [] (NotCurrent Full) ∷ []) → ⊥
unfolding history_on_literals
ended_by_broadcast legal = let replied = legal.lawful.1.1.1.1.1.1.0.replied in cc

-- other connections are looked at

-- A unicast doesn't look at another than its holder.
looks_at_another : Legal the_hub (abc ++ entry (Forward 1 (unicast 2 0x0B short)) (look 3 0 ∷ []) (Appended 2) ∷ []) → ⊥
unfolding history_on_literals
looks_at_another legal = let named = legal.lawful.1.1.1.0.named in cc

-- A unicast that is put looks at its holder.
looks_at_none : Legal the_hub (abc ++ entry (Forward 1 (unicast 2 0x0B short)) [] (Appended 2) ∷ []) → ⊥
unfolding history_on_literals
looks_at_none legal = let named = legal.lawful.1.1.1.0.named in cc

-- A broadcast doesn't look at its sender.
looks_at_sender : Legal the_hub (abc ++ entry (Forward 1 (broadcast 2 short)) (look 1 0 ∷ look 2 0 ∷ look 3 0 ∷ []) (SentAll (2 ∷ 3 ∷ []) [] []) ∷ []) → ⊥
unfolding history_on_literals
looks_at_sender legal = let named = legal.lawful.1.1.1.0.named in cc

-- A broadcast looks in the order of joining.
looks_out_of_order : Legal the_hub (abc ++ entry (Forward 1 (broadcast 2 short)) (look 3 0 ∷ look 2 0 ∷ []) (SentAll (2 ∷ 3 ∷ []) [] []) ∷ []) → ⊥
unfolding history_on_literals
looks_out_of_order legal = let named = legal.lawful.1.1.1.0.named in cc

-- a look can't be

-- No look finds more taken than entered.
more_taken_than_entered : Legal the_hub (abc ++ entry (Forward 1 (unicast 2 0x0B short)) (look 2 1 ∷ []) (Appended 2) ∷ []) → ⊥
unfolding history_on_literals
more_taken_than_entered legal = let found = legal.lawful.1.1.1.0.found in cc

-- No look finds fewer taken than the look before it.
fewer_taken_than_before : Legal the_hub (abc ++ entry (Forward 1 (unicast 2 0x0B short)) (look 2 0 ∷ []) (Appended 2) ∷ entry (Forward 1 (unicast 3 0x0B short)) (look 2 1 ∷ []) (Appended 2)
    ∷ entry (Forward 1 (unicast 4 0x0B short)) (look 2 0 ∷ []) (Appended 2) ∷ []) → ⊥
unfolding history_on_literals
fewer_taken_than_before legal = let found = legal.lawful.1.1.1.1.1.0.found in cc

-- the caller may not call

-- Nobody leaves with more taken than entered.
leaves_with_more : Legal the_hub (abc ++ entry (Leave 2 1 0) [] (Gone Left 1) ∷ []) → ⊥
unfolding history_on_literals
leaves_with_more legal = let called = legal.lawful.1.1.1.0.called in cc

-- Nobody leaves with fewer taken than a look found.
leaves_with_fewer : Legal the_hub (abc ++ entry (Forward 1 (unicast 2 0x0B short)) (look 2 0 ∷ []) (Appended 2) ∷ entry (Forward 1 (unicast 3 0x0B short)) (look 2 1 ∷ []) (Appended 2)
    ∷ entry (Leave 2 0 0) [] (Gone Left 0) ∷ []) → ⊥
unfolding history_on_literals
leaves_with_fewer legal = let called = legal.lawful.1.1.1.1.1.0.called in cc

-- Nobody leaves twice.
leaves_twice : Legal the_hub (abc ++ entry (Leave 2 0 0) [] (Gone Left 0) ∷ entry (Leave 2 0 0) [] (Gone Left 0) ∷ []) → ⊥
unfolding history_on_literals
leaves_twice legal = let called = legal.lawful.1.1.1.1.0.called in cc

-- No caller forwards for the connection of another.
forwards_for_another : Legal the_hub (abc ++ record { caller = 1; call = Forward 1 (unicast 2 0x0B short); looks = look 2 0 ∷ []; reply = Appended 2 } ∷ []) → ⊥
unfolding history_on_literals
forwards_for_another legal = let called = legal.lawful.1.1.1.0.called in cc

-- A message without a destination has no route.
without_destination : Legal the_hub (abc ++ entry (Forward 1 (head 1 0 2 ++ six 0x0B ++ short)) (look 2 0 ∷ []) (Appended 2) ∷ []) → ⊥
unfolding history_on_literals
without_destination legal = let called = legal.lawful.1.1.1.0.called in cc

-- Nor has a message that names its origin.
with_origin : Legal the_hub (abc ++ entry (Forward 1 (head 1 0x0C 2 ++ six 0x0B ++ six 0x0B ++ short)) (look 2 0 ∷ []) (Appended 2) ∷ []) → ⊥
unfolding history_on_literals
with_origin legal = let called = legal.lawful.1.1.1.0.called in cc

-- Nor has a message that ends within its destination.
cut_within_destination : Legal the_hub (abc ++ entry (Forward 1 (head 1 4 2 ++ 2 ∷ 0 ∷ 0 ∷ 0 ∷ 0 ∷ [])) [] NoHolder ∷ []) → ⊥
unfolding history_on_literals
cut_within_destination legal = let called = legal.lawful.1.1.1.0.called in cc

-- Nobody joins under the address zero.
joins_under_zero : Legal the_hub (join (record peer_a { vmac = record { 0 = replicate 6 0 } }) 1 ∷ []) → ⊥
unfolding history_on_literals
joins_under_zero legal = let called = legal.lawful.0.called in cc

-- Nobody joins under the broadcast address.
joins_under_broadcast : Legal the_hub (join (record peer_a { vmac = record { 0 = all } }) 1 ∷ []) → ⊥
unfolding history_on_literals
joins_under_broadcast legal = let called = legal.lawful.0.called in cc

-- No hub stops twice.
stops_twice : Legal the_hub (entry Stop [] (Counted (counts [])) ∷ entry Stop [] (Counted (counts [])) ∷ []) → ⊥
unfolding history_on_literals
stops_twice legal = let called = legal.lawful.1.0.called in cc

-- Behind the limit of two calls nobody joins.
joins_behind_the_limit : Legal hub_of_two_calls (join peer_a 1 ∷ join peer_b 2 ∷ join peer_c 3 ∷ []) → ⊥
unfolding history_on_literals
joins_behind_the_limit legal = let called = legal.lawful.1.1.0.called in cc

-- Nor is anything forwarded.
forwards_behind_the_limit : Legal hub_of_two_calls (join peer_a 1 ∷ join peer_b 2 ∷ entry (Forward 1 (unicast 2 0x0B short)) (look 2 0 ∷ []) (Appended 2) ∷ []) → ⊥
unfolding history_on_literals
forwards_behind_the_limit legal = let called = legal.lawful.1.1.0.called in cc

-- Nor is anything counted.
counts_behind_the_limit : Legal hub_of_two_calls (join peer_a 1 ∷ join peer_b 2
    ∷ entry Count [] (Counted (record { joined = 2; replaced = 0; refused = 0; unicasts = 0; broadcasts = 0; appended = 0; dropped = 0; full = 0; missed = 0 })) ∷ []) → ⊥
unfolding history_on_literals
counts_behind_the_limit legal = let called = legal.lawful.1.1.0.called in cc
