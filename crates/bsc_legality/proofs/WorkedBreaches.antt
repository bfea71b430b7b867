-- Which condition the last entry of a history breaks, worked by hand: A, B and C have joined, and a message goes to B.
-- No clause needs it: worked examples.
use Rattle.std.proofs.Common.{◌≡◌, ℕ, List, [], ◌∷◌, ◌++◌, Some, None, refl, replicate}
use Rattle.bsc_octets.specs.declared.identity.Identity.{Identity}
use Rattle.bsc_history.specs.declared.limits.About.{About}
use Rattle.bsc_history.specs.declared.entry.Entry.{Entry}
use Rattle.bsc_history.specs.declared.looks.Look.{Look}
use Rattle.bsc_history.specs.declared.reply.Reply.{Reply}
use Rattle.bsc_history.specs.declared.call.Call.{Call}
use Rattle.bsc_history.specs.declared.call.Call.TheVariants.{Connect, Forward, Leave, Stop}
use Rattle.bsc_history.specs.declared.ending.End.TheVariants.{Left}
use Rattle.bsc_history.specs.declared.reply.Reply.TheVariants.{Joined, Appended, Closed, NoHolder, Gone, Counted}
use Rattle.bsc_history.specs.Counting.{counts}
use Rattle.bsc_history.proofs.OnLiterals.{history_on_literals}
use Rattle.bsc_legality.specs.declared.breach.Breach.TheVariants.{Address, NotOwn, NoRoute, Calls, AfterStop, Outboxes, Taken, Due}
use Rattle.bsc_legality.specs.Breaches.{breach}

-- ---- peers, hubs and entries

-- the octets of an address that ends in n
abbrev six : ℕ → List ℕ
six n = 2 ∷ 0 ∷ 0 ∷ 0 ∷ 0 ∷ n ∷ []

-- who has this address and a device of sixteen equal octets
abbrev peer : ℕ → ℕ → Identity
peer n u = record { vmac = record { 0 = six n }; device = record { 0 = replicate 16 u }; max_bvlc = 1600; max_npdu = 1497 }

-- a hub with outboxes of so many frames, which answers so many calls
abbrev hub_of : ℕ → ℕ → About
hub_of outbox calls = record { hub = peer 0xFF 0x11; limits = record { rows = 256; outbox = outbox; calls = calls; callers = 4611686018427387904 } }

abbrev the_hub : About
the_hub = hub_of 64 4503599627370496

-- a message with these flags and this ID to B
abbrev to_b : ℕ → ℕ → List ℕ
to_b flags id = 1 ∷ flags ∷ 0 ∷ id ∷ six 0x0B ++ 1 ∷ 0 ∷ []

-- an entry of caller 0
abbrev entry : Call → List Look → Reply → Entry
entry call looks reply = record { caller = 0; call = call; looks = looks; reply = reply }

abbrev look : ℕ → ℕ → List Look
look conn taken = record { conn = conn; taken = taken } ∷ []

abbrev join : Identity → ℕ → Entry
join who conn = entry (Connect who) [] (Joined conn None)

abbrev abc : List Entry
abc = join (peer 0x0A 0xAA) 1 ∷ join (peer 0x0B 0xBB) 2 ∷ join (peer 0x0C 0xCC) 3 ∷ []

-- ---- what is broken

none : breach the_hub abc (entry (Forward 1 (to_b 4 2)) (look 2 0) (Appended 2)) ≡ None
unfolding history_on_literals
none = refl

-- An outbox that holds two frames has two, of which none was taken.
full : breach (hub_of 2 4503599627370496) (abc ++ entry (Forward 1 (to_b 4 2)) (look 2 0) (Appended 2) ∷ entry (Forward 1 (to_b 4 3)) (look 2 0) (Appended 2) ∷ [])
    (entry (Forward 1 (to_b 4 4)) (look 2 0) (Appended 2)) ≡ Some (Due (Closed 2))
unfolding history_on_literals
full = refl

-- The look is asked before the reply.
taken : breach the_hub abc (entry (Forward 1 (to_b 4 2)) (look 2 1) NoHolder) ≡ Some (Taken 2 1 0 0)
unfolding history_on_literals
taken = refl

-- Whom a call looks at is asked before what it finds.
looks : breach the_hub abc (entry (Forward 1 (to_b 4 2)) (look 3 1) NoHolder) ≡ Some (Outboxes (2 ∷ []))
unfolding history_on_literals
looks = refl

-- Whether the caller may call is asked first.
another : breach the_hub abc (record { caller = 1; call = Forward 1 (to_b 4 2); looks = []; reply = NoHolder }) ≡ Some (NotOwn 1)
unfolding history_on_literals
another = refl

routeless : breach the_hub abc (entry (Forward 1 (to_b 0 2)) [] NoHolder) ≡ Some NoRoute
unfolding history_on_literals
routeless = refl

leaves : breach the_hub abc (entry (Leave 2 1 0) [] (Gone Left 1)) ≡ Some (Taken 2 1 0 0)
unfolding history_on_literals
leaves = refl

stops : breach the_hub (entry Stop [] (Counted (counts [])) ∷ []) (entry Stop [] (Counted (counts []))) ≡ Some AfterStop
unfolding history_on_literals
stops = refl

broadcast_joins : breach the_hub [] (join (record (peer 0x0A 0xAA) { vmac = record { 0 = replicate 6 255 } }) 1) ≡ Some Address
unfolding history_on_literals
broadcast_joins = refl

used_up : breach (hub_of 64 2) (join (peer 0x0A 0xAA) 1 ∷ join (peer 0x0B 0xBB) 2 ∷ []) (join (peer 0x0C 0xCC) 3) ≡ Some (Calls 2)
unfolding history_on_literals
used_up = refl
