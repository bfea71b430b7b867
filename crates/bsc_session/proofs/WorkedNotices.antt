-- What a link is told, written out: a row for each reply that a session's entries may have.
-- No clause needs it: worked examples.
use Rattle.std.proofs.Common.{◌≡◌, [], ◌∷◌, Some, None, refl}
use Rattle.bsc_octets.specs.declared.identity.Identity.{Identity}
use Rattle.bsc_history.specs.declared.ending.End.{End}
use Rattle.bsc_history.specs.declared.reply.Refusal.{Refusal}
use Rattle.bsc_history.specs.declared.reply.Reply.TheVariants.{Appended, Closed, Gone, Joined, NoHolder, NotCurrent, Refused, SentAll, Skipped, Stopped}
use Rattle.bsc_edge.specs.declared.notice.Notice.TheVariants.{Known, Woke}
use Rattle.bsc_desk.specs.Entries.{connect_entry, forward_entry}
use Rattle.bsc_session.specs.Notices.{notices_by, notices_of}
use Rattle.bsc_session.specs.Talk.{leaving}

-- who joins as 3 is known as 3, and the connection 1 that it replaces is woken
joins_for_the_first_time : notices_by (Joined 3 None) ≡ Known 3 ∷ []
joins_for_the_first_time = refl

takes_over : notices_by (Joined 3 (Some 1)) ≡ Known 3 ∷ Woke 1 ∷ []
takes_over = refl

is_refused : (r : Refusal) → notices_by (Refused r) ≡ []
is_refused r = refl

-- a unicast wakes who got it, and who was ended by it, and nobody where it is too long, where nobody holds the
-- destination, and where the sender has ended
got_a_unicast : notices_by (Appended 5) ≡ Woke 5 ∷ []
got_a_unicast = refl

ended_by_a_unicast : notices_by (Closed 5) ≡ Woke 5 ∷ []
ended_by_a_unicast = refl

too_long_for_it : notices_by (Skipped 5) ≡ []
too_long_for_it = refl

nobody_there : notices_by NoHolder ≡ []
nobody_there = refl

sender_has_ended : (e : End) → notices_by (NotCurrent e) ≡ []
sender_has_ended e = refl

has_stopped : notices_by Stopped ≡ []
has_stopped = refl

-- a broadcast wakes each that got it, in order, and neither who was found full nor whom it is too long for
got_a_broadcast : notices_by (SentAll (4 ∷ 5 ∷ []) (6 ∷ []) (7 ∷ [])) ≡ Woke 4 ∷ Woke 5 ∷ []
got_a_broadcast = refl

nobody_got_it : notices_by (SentAll [] (6 ∷ []) []) ≡ []
nobody_got_it = refl

-- a leave wakes nobody
leaves : (e : End) → notices_by (Gone e 2) ≡ []
leaves e = refl

-- A session of caller 2 takes over from 1, sends a unicast to 5 and a broadcast to 5 and 6, and leaves.
a_session : (who : Identity) (e : End) → notices_of (connect_entry 2 who (Joined 3 (Some 1))
    ∷ forward_entry 2 3 (9 ∷ []) [] (Appended 5)
    ∷ forward_entry 2 3 (9 ∷ []) [] (SentAll (5 ∷ 6 ∷ []) [] [])
    ∷ leaving 2 (Some 3) 0 0 e)
    ≡ Known 3 ∷ Woke 1 ∷ Woke 5 ∷ Woke 5 ∷ Woke 6 ∷ []
a_session who e = refl
