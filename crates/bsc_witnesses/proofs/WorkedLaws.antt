-- The laws of a hub's history, one by one: of each a history that keeps it, or what it comes to there; and one that breaks it, and
-- so is no history of a hub. Laws that hold of any list of entries are broken by none: of these something else is shown that isn't so.
-- No clause needs it: worked examples.
use Rattle.std.proofs.Common.{◌≡◌, ℕ, ◌≤◌, Bool, true, false, List, [], ◌∷◌, ◌++◌, length, Option, Some, refl, sym, ap, subst, ◌∙◌, arith}
use Rattle.std.specs.Prelude.{IsTrue}
use Rattle.std.specs.List.{AllByRecursion}
use Rattle.bsc_octets.specs.declared.vmac.Vmac.{Vmac}
use Rattle.bsc_octets.specs.Addresses.{same_vmac}
use Rattle.bsc_history.specs.declared.call.Call.{Call}
use Rattle.bsc_history.specs.declared.call.Call.TheVariants.{Connect, Forward, Count, Stop}
use Rattle.bsc_history.specs.declared.counts.Counts.{Counts}
use Rattle.bsc_history.specs.declared.ending.End.{End}
use Rattle.bsc_history.specs.declared.ending.End.TheVariants.{Left, Full, Stopped}
use Rattle.bsc_history.specs.declared.entry.Entry.{Entry}
use Rattle.bsc_history.specs.declared.reply.Refusal.TheVariants.{Duplicate}
use Rattle.bsc_history.specs.declared.reply.Reply.TheVariants.{Appended, Closed, Counted, Joined, Refused, SentAll}
use Rattle.bsc_history.specs.Counting.{counts}
use Rattle.bsc_history.specs.Ends.{ended}
use Rattle.bsc_history.specs.Entering.{EnterByForwards, EnteredBy}
use Rattle.bsc_history.specs.Laws.{NumbersInOrder, NumbersAreNew, OneHolder, OneOfDevice, Gains, UnicastJoins, UnicastToHolderAlone, BroadcastJoins, BroadcastToOthersAlone}
use Rattle.bsc_history.specs.Laws.{AddsOnce, FullCloses, FullMisses, names_missed, OneOfThree, NoneAfterEnd, JoinTakesOver, RefusalChangesNone, EndStays, EndsByCause, IsCause}
use Rattle.bsc_history.specs.Laws.{AddsAsNamed, LiveUntilEnded, WithinCapacity}
use Rattle.bsc_history.specs.Outboxes.{sent}
use Rattle.bsc_history.proofs.OnLiterals.{history_on_literals}
use Rattle.bsc_history.proofs.Capacity.{within_capacity}
use Rattle.bsc_history.proofs.Causes.{end_stays, ends_by_cause}
use Rattle.bsc_history.proofs.Closing.{full_closes}
use Rattle.bsc_history.proofs.Entering.{enter_by_forwards}
use Rattle.bsc_history.proofs.Gains.{adds_once, broadcast_joins, broadcast_to_others_alone, unicast_joins, unicast_to_holder_alone}
use Rattle.bsc_history.proofs.Missing.{full_misses, one_of_three}
use Rattle.bsc_history.proofs.Named.{adds_as_named, live_until_ended}
use Rattle.bsc_history.proofs.Refusing.{refusal_changes_none}
use Rattle.bsc_history.proofs.Takeover.{join_takes_over}
use Rattle.bsc_history.proofs.Uniqueness.{none_after_end}
use Rattle.bsc_witnesses.proofs.Pieces.{unlike, not_empty, at_cut, peer, peer_a, peer_b, peer_c, hub_of, the_hub, to_one, from_one}
use Rattle.bsc_witnesses.proofs.Pieces.{to_all, from_all, entry, look, join, leave, ab, abc, a_to_b, lawful, ab-legal, abc-legal}

-- ---- who joins

numbers_in_order : NumbersInOrder ab
unfolding history_on_literals
numbers_in_order = refl

numbers_from_two : NumbersInOrder (join peer_a 2 ∷ []) → ⊥
unfolding history_on_literals
numbers_from_two h = (let bad : ◌≡◌ {A = List ℕ} (2 ∷ []) (1 ∷ []) = h in cc)

numbers_are_new : NumbersAreNew ab
unfolding history_on_literals
numbers_are_new = ((unlike 1 2 refl, tt), (tt, tt))

-- B gets the number that A still has.
number_given_twice : NumbersAreNew (join peer_a 1 ∷ join peer_b 1 ∷ []) → ⊥
unfolding history_on_literals
number_given_twice h = h.0.0 refl

one_holder : OneHolder ab
unfolding history_on_literals
one_holder = (((λ e. let bad : same_vmac peer_a.vmac peer_b.vmac ≡ true = ap (λ (v : Vmac). same_vmac peer_a.vmac v) (sym e) in let worse : false ≡ true = bad in cc), tt), (tt, tt))

-- Another device gets the address that A holds.
address_given_twice : OneHolder (join peer_a 1 ∷ join (peer 0x0A 0xDD) 2 ∷ []) → ⊥
unfolding history_on_literals
address_given_twice h = h.0.0 refl

one_of_device : OneOfDevice (join peer_a 1 ∷ [])
unfolding history_on_literals
one_of_device = (tt, tt)

-- A's device connects under another address, and the first connection isn't replaced.
device_joins_twice : OneOfDevice (join peer_a 1 ∷ join (peer 0x0B 0xAA) 2 ∷ []) → ⊥
unfolding history_on_literals
device_joins_twice h = h.0.0 refl

takes_over : JoinTakesOver the_hub ab
takes_over = join_takes_over the_hub ab ab-legal

-- One device has two connections, at two addresses. As it connects once more at the second address, the first is replaced: then
-- the new one isn't the holder.
takes_over_from_one : JoinTakesOver the_hub (join peer_a 1 ∷ join (peer 0x0B 0xAA) 2 ∷ []) → ⊥
unfolding history_on_literals
takes_over_from_one law =
    let found = (law (entry (Connect (peer 0x0B 0xAA)) [] (Joined 3 (Some 1))) (peer 0x0B 0xAA) 3 (Some 1) (lawful refl refl refl refl) refl refl).0 in
    let bad : ◌≡◌ {A = Option ℕ} (Some 2) (Some 3) = found in
    cc

abbrev refused : Entry
refused = entry (Connect (peer 0x0A 0xDD)) [] (Refused (Duplicate (Some 1)))

refusal_changes_little : RefusalChangesNone the_hub ab
refusal_changes_little = refusal_changes_none the_hub ab

-- It isn't true that it changes nothing: it is counted.
refusal_is_counted : counts (ab ++ refused ∷ []) ≡ counts ab → ⊥
unfolding history_on_literals
refusal_is_counted h = (let bad : ◌≡◌ {A = ℕ} 1 0 = ap (λ (c : Counts). c.refused) h in cc)

-- ---- unicasts

b_gains : Gains the_hub ab a_to_b 2 (from_one 2 0x0A)
unfolding history_on_literals
b_gains = refl

a_gains_nothing : Gains the_hub ab a_to_b 1 (from_one 2 0x0A) → ⊥
unfolding history_on_literals
a_gains_nothing h = not_empty (from_one 2 0x0A) [] (sym h)

unicast_joins_b : UnicastJoins the_hub ab
unicast_joins_b = unicast_joins the_hub ab ab-legal

-- Of two holders of one address both get what is sent to the first.
abbrev twice : List Entry
twice = join peer_a 1 ∷ join (peer 0x0A 0xDD) 2 ∷ join peer_b 3 ∷ []

abbrev b_to_both : Entry
b_to_both = entry (Forward 3 (to_one 2 0x0A)) (look 1 0 ∷ look 2 0 ∷ []) (Appended 1)

to_holder_alone : UnicastToHolderAlone the_hub ab
to_holder_alone = unicast_to_holder_alone the_hub ab ab-legal

to_two_holders : UnicastToHolderAlone the_hub twice → ⊥
unfolding history_on_literals
to_two_holders law =
    let found = (law b_to_both 3 (to_one 2 0x0A) 2 refl refl (not_empty (from_one 2 0x0B) [])).0 in
    let bad : ◌≡◌ {A = Option ℕ} (Some 1) (Some 2) = found in
    cc

as_named : AddsAsNamed the_hub ab
as_named = adds_as_named the_hub ab ab-legal

-- The reply names the first of the two alone.
not_as_named : AddsAsNamed the_hub twice → ⊥
unfolding history_on_literals
not_as_named law = not_empty (from_one 2 0x0B) [] (law b_to_both 3 (to_one 2 0x0A) 2 (lawful refl refl refl refl) refl)

once : AddsOnce the_hub ab
once = adds_once the_hub ab

not_twice : sent the_hub (ab ++ a_to_b ∷ []) 2 ≡ sent the_hub ab 2 ++ from_one 2 0x0A ∷ from_one 2 0x0A ∷ [] → ⊥
unfolding history_on_literals
not_twice h = (let bad : ◌≡◌ {A = ℕ} 1 2 = ap (λ (l : List (List ℕ)). length l) h in cc)

closes_full : FullCloses the_hub ab
closes_full = full_closes the_hub ab ab-legal

-- Outboxes without room are full at once. Of the two holders one alone is closed.
closes_one_of_two : FullCloses (hub_of 0) twice → ⊥
unfolding history_on_literals
closes_one_of_two law =
    let found = (law (entry (Forward 3 (to_one 2 0x0A)) (look 1 0 ∷ look 2 0 ∷ []) (Closed 1)) 3 (to_one 2 0x0A) 2 (lawful refl refl refl refl) refl refl refl).0 in
    let bad : ◌≡◌ {A = Option ℕ} (Some 1) (Some 2) = found in
    cc

-- ---- broadcasts

abbrev a_to_all : Entry
a_to_all = entry (Forward 1 (to_all 2)) (look 2 0 ∷ look 3 0 ∷ []) (SentAll (2 ∷ 3 ∷ []) [] [])

c_gains : Gains the_hub abc a_to_all 3 (from_all 2 0x0A)
unfolding history_on_literals
c_gains = refl

-- Its sender doesn't get it.
sender_gains_nothing : Gains the_hub abc a_to_all 1 (from_all 2 0x0A) → ⊥
unfolding history_on_literals
sender_gains_nothing h = not_empty (from_all 2 0x0A) [] (sym h)

broadcast_joins_all : BroadcastJoins the_hub abc
broadcast_joins_all = broadcast_joins the_hub abc

to_others_alone : BroadcastToOthersAlone the_hub abc
to_others_alone = broadcast_to_others_alone the_hub abc

misses_full : FullMisses the_hub abc
misses_full = full_misses the_hub abc

names_who_missed : IsTrue (names_missed 3 (SentAll (2 ∷ []) (3 ∷ []) []))
names_who_missed = refl

names_none_that_got_it : IsTrue (names_missed 2 (SentAll (2 ∷ []) (3 ∷ []) [])) → ⊥
names_none_that_got_it h = (let bad : false ≡ true = h in cc)

one_list_of_three : OneOfThree the_hub abc
one_list_of_three = one_of_three the_hub abc abc-legal

-- Two connections of one number stand in the reply twice.
two_of_one_number : OneOfThree the_hub (join peer_a 1 ∷ join peer_b 1 ∷ join peer_c 3 ∷ []) → ⊥
unfolding history_on_literals
two_of_one_number law =
    let found = law (entry (Forward 3 (to_all 2)) (look 1 0 ∷ look 1 0 ∷ []) (SentAll (1 ∷ 1 ∷ []) [] [])) 3 (to_all 2) (1 ∷ 1 ∷ []) [] [] 1 (lawful refl refl refl refl) refl refl in
    let bad : ◌≡◌ {A = ℕ} 2 1 = found in
    cc

-- ---- how connections end

-- A joins and leaves, and its number joins once more.
abbrev back_again : List Entry
back_again = join peer_a 1 ∷ leave 1 ∷ join peer_a 1 ∷ join peer_b 2 ∷ []

none_after : NoneAfterEnd the_hub ab
none_after = none_after_end the_hub ab ab-legal

one_after : NoneAfterEnd the_hub back_again → ⊥
unfolding history_on_literals
one_after law = not_empty (from_one 2 0x0B) [] (law 1 Left (entry (Forward 2 (to_one 2 0x0A)) (look 1 0 ∷ []) (Appended 1)) refl)

until_ended : LiveUntilEnded ab
until_ended = live_until_ended the_hub ab ab-legal

live_though_ended : LiveUntilEnded back_again → ⊥
unfolding history_on_literals
live_though_ended law = (let bad : true ≡ false = law 1 in cc)

stays_ended : EndStays (ab ++ leave 2 ∷ [])
stays_ended = end_stays (ab ++ leave 2 ∷ [])

left_before_the_stop : ended (ab ++ leave 2 ∷ entry Stop [] (Counted (counts (ab ++ leave 2 ∷ []))) ∷ []) 2 ≡ Some Left
unfolding history_on_literals
left_before_the_stop = refl

not_ended_by_the_stop : ended (ab ++ leave 2 ∷ entry Stop [] (Counted (counts (ab ++ leave 2 ∷ []))) ∷ []) 2 ≡ Some Stopped → ⊥
unfolding history_on_literals
not_ended_by_the_stop h = (let bad : ◌≡◌ {A = Option End} (Some Left) (Some Stopped) = h in cc)

by_cause : EndsByCause ab
by_cause = ends_by_cause the_hub ab ab-legal

leave_is_cause : IsCause 2 Left (leave 2)
leave_is_cause = (0, 0, refl)

leave_is_no_stop : IsCause 2 Stopped (leave 2) → ⊥
leave_is_no_stop h = cc

-- A count is answered that A's outbox was full.
abbrev closed_by_a_count : List Entry
closed_by_a_count = join peer_a 1 ∷ entry Count [] (Closed 1) ∷ []

abbrev forwards : Call → Bool
forwards (Forward sender m) = true
forwards call = false

abbrev IsNoForward : Entry → Type 0
IsNoForward e = forwards e.call ≡ false

none_forwards : (before : List Entry) (e : Entry) (after : List Entry) (sender : ℕ) (m : List ℕ) → closed_by_a_count ≡ before ++ e ∷ after → e.call ≡ Forward sender m → ⊥
none_forwards before e after sender m is call =
    let none : IsNoForward e = at_cut IsNoForward before e after (rw_all is) in
    let bad : true ≡ false = ap forwards (sym call) ∙ none in
    cc
  where
    rw_all : closed_by_a_count ≡ before ++ e ∷ after → AllByRecursion IsNoForward (before ++ e ∷ after)
    rw_all h = subst (AllByRecursion IsNoForward) h (refl, (refl, tt))

without_cause : EndsByCause closed_by_a_count → ⊥
unfolding history_on_literals
without_cause law =
    let c = law 1 Full refl in
    none_forwards c.0 c.1 c.2 c.5.0 c.5.1 c.3 c.5.2

-- ---- what an outbox holds

within : WithinCapacity the_hub ab
within = within_capacity the_hub ab ab-legal

-- Three frames enter an outbox that nobody looks at. It has room for two.
abbrev three_sent : List Entry
three_sent =
    ab ++ entry (Forward 1 (to_one 2 0x0B)) [] (Appended 2) ∷ entry (Forward 1 (to_one 3 0x0B)) [] (Appended 2) ∷ entry (Forward 1 (to_one 4 0x0B)) [] (Appended 2) ∷ []

over : WithinCapacity (hub_of 2) three_sent → ⊥
unfolding history_on_literals
over w = (let bad : 3 ≤ 2 = w.not_over 2 in omega (arith, bad))

by_forwards : EnterByForwards the_hub ab
by_forwards = enter_by_forwards the_hub ab ab-legal

entered : EnteredBy the_hub (ab ++ a_to_b ∷ []) 2 0 (from_one 2 0x0A)
unfolding history_on_literals
entered = record {
  before = ab;
  forward = a_to_b;
  later = [];
  is = refl;
  from = record { number = 1; caller = 0; who = peer_a };
  to = record { number = 2; caller = 0; who = peer_b };
  message = to_one 2 0x0B;
  call = refl;
  sender_live = refl;
  receiver_live = refl;
  meant = refl;
  octets = refl;
  behind = refl;
}

-- Nothing enters where nobody forwards.
not_entered : (place : ℕ) (frame : List ℕ) → EnteredBy the_hub closed_by_a_count 1 place frame → ⊥
not_entered place frame x = none_forwards x.before x.forward x.later x.from.number x.message x.is x.call
