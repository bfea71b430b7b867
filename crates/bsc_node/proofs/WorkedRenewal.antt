-- Scenes of a node whose VMAC a hub refuses, by computation.
-- No clause needs it: worked examples.
use Rattle.std.proofs.Common.{◌≡◌, true, ℕ, zero, suc, List, [], ◌∷◌, ◌++◌, None, refl}
use Rattle.std.specs.Prelude.{◌+◌, drop}
use Rattle.bsc_octets.specs.declared.vmac.Vmac.{Vmac}
use Rattle.bsc_octets.specs.declared.identity.Identity.{Identity}
use Rattle.bsc_octets.specs.Addresses.{random48_of}
use Rattle.bsc_frame.specs.declared.message.Message.{Message}
use Rattle.bsc_frame.specs.declared.body.Body.TheVariants.{ConnectRequest}
use Rattle.bsc_accept.specs.Steps.{normal}
use Rattle.bsc_node.specs.Messages.{nak}
use Rattle.bsc_node.specs.declared.node_event.NodeEvent.TheVariants.{Start, Opened, DialFailed, Arrived, Lost, Tick, Random, NoRandom}
use Rattle.bsc_node.specs.declared.timed_event.TimedEvent.{TimedEvent}
use Rattle.bsc_node.specs.declared.note.Note.TheVariants.{Nak, Renewed, NoRandom as ToldNoRandom}
use Rattle.bsc_node.specs.declared.action.Action.TheVariants.{Dial, Close, Tell, Draw}
use Rattle.bsc_node.specs.Logs.{Made}
use Rattle.bsc_node.specs.Node.{each_actions, actions}
use Rattle.bsc_node.specs.Conditions.{may_all_come}
use Rattle.bsc_node.proofs.OnLiterals.{node_on_literals}
use Rattle.bsc_node.proofs.Scenes.{peer, alone, with_failover, failover_uri, primary_uri, plain, accept, primary, failover as failover_link, at, hears, puts}

-- the NAK of the hub for the Connect-Request with this Message ID
abbrev refusal : ℕ → Message
refusal id = plain id (nak 0x06 151)

-- a node of B's device with A's VMAC, which the hub refuses
abbrev own : Identity
own = peer 0x0A 0xBB

abbrev the_node : Made
the_node = record { own = own; limits = alone }

abbrev drawn : Vmac
drawn = record { 0 = 0x52 ∷ 0x78 ∷ 0x9A ∷ 0xBC ∷ 0xDE ∷ 0xF0 ∷ [] }

abbrev word : ℕ
word = 0x123456789ABCDEF0

word-vmac : random48_of word ≡ drawn
word-vmac = refl

abbrev refused : List TimedEvent
refused = at 0 Start ∷ at 5 (Opened primary) ∷ hears 100 primary (refusal 1) ∷ []

-- The refusal is told and a word is drawn; the node has the new VMAC, and dials with it when the next attempt is due.
renewed : each_actions the_node (refused ++ at 100 (Random word) ∷ at 2099 Tick ∷ at 2100 Tick ∷ at 2110 (Opened primary) ∷ [])
    ≡ (Dial primary primary_uri ∷ [])
    ∷ (puts primary 1 (ConnectRequest own) ∷ [])
    ∷ (Close primary normal ∷ Tell (Nak None 6 151) ∷ Draw ∷ [])
    ∷ (Tell (Renewed drawn) ∷ [])
    ∷ []
    ∷ (Dial primary primary_uri ∷ [])
    ∷ (puts primary 2 (ConnectRequest (record own { vmac = drawn })) ∷ [])
    ∷ []
unfolding node_on_literals
renewed = refl

-- No word: the old VMAC stays.
not_renewed : each_actions the_node (refused ++ at 100 NoRandom ∷ at 2100 Tick ∷ at 2110 (Opened primary) ∷ [])
    ≡ each_actions the_node refused
    ++ (Tell ToldNoRandom ∷ [])
    ∷ (Dial primary primary_uri ∷ [])
    ∷ (puts primary 2 (ConnectRequest own) ∷ [])
    ∷ []
unfolding node_on_literals
not_renewed = refl

-- While another link is there, nothing is drawn.
other_link : actions the_node (at 0 Start ∷ at 5 (Opened primary) ∷ at 6 Arrived ∷ hears 100 primary (refusal 1) ∷ []) ≡ Close primary normal ∷ Tell (Nak None 6 151) ∷ []
unfolding node_on_literals
other_link = refl

-- With a failover the failure that waited for the word dials it, and the new VMAC is its.
two_hubs : each_actions (record the_node { limits = with_failover }) (refused ++ at 101 (Random word) ∷ at 110 (Opened (failover_link)) ∷ [])
    ≡ each_actions (record the_node { limits = with_failover }) refused
    ++ (Tell (Renewed drawn) ∷ Dial failover_link failover_uri ∷ [])
    ∷ (puts failover_link 2 (ConnectRequest (record own { vmac = drawn })) ∷ [])
    ∷ []
unfolding node_on_literals
two_hubs = refl

-- ---- eight renewals, and a ninth refusal

-- so many refusals from the Connect-Request with this Message ID on, each with its word: half a minute apart
abbrev rounds : ℕ → ℕ → ℕ → List TimedEvent
rounds zero id now = []
rounds (suc n) id now = at now Tick ∷ at (now + 1) (Opened primary) ∷ hears (now + 2) primary (refusal id) ∷ at (now + 2) (Random id) ∷ rounds n (id + 1) (now + 30002)

-- after Start and its refusal, seven more
abbrev eight : List TimedEvent
eight = refused ++ at 100 (Random 1) ∷ rounds 7 2 30100

abbrev ninth : List TimedEvent
ninth = at 300000 Tick ∷ at 300001 (Opened primary) ∷ []

-- The ninth refusal is told alone.
eight-ninth : actions the_node (eight ++ ninth ++ hears 300002 primary (refusal 9) ∷ []) ≡ Close primary normal ∷ Tell (Nak None 6 151) ∷ []
unfolding node_on_literals
eight-ninth = refl

-- The eighth drew.
eight-eighth : actions the_node (refused ++ at 100 (Random 1) ∷ rounds 6 2 30100 ++ at 300000 Tick ∷ at 300001 (Opened primary) ∷ hears 300002 primary (refusal 8) ∷ [])
    ≡ Close primary normal ∷ Tell (Nak None 6 151) ∷ Draw ∷ []
unfolding node_on_literals
eight-eighth = refl

-- ---- these events may come

eight-lawful : may_all_come the_node (eight ++ ninth ++ hears 300002 primary (refusal 9) ∷ at 310000 Tick ∷ []) ≡ true
unfolding node_on_literals
eight-lawful = refl

-- A hub that accepts begins the count anew: after eight renewals and an accept, a refusal draws again.
accepted_between : actions the_node (eight ++ ninth ++ hears 300002 primary (accept 9) ∷ at 300003 (Lost primary) ∷ at 400000 Tick ∷ at 400001 (Opened primary)
    ∷ hears 400002 primary (refusal 10) ∷ [])
    ≡ Close primary normal ∷ Tell (Nak None 6 151) ∷ Draw ∷ []
unfolding node_on_literals
accepted_between = refl

-- With a failover, which is refused too: the word's failure is the failover's.
abbrev second_refused : List TimedEvent
second_refused = at 0 Start ∷ at 5 (DialFailed primary) ∷ at 6 (Opened failover_link) ∷ hears 10 failover_link (refusal 1) ∷ at 10 (Random word) ∷ at 2005 Tick ∷ at 2010 Tick ∷ []

failover_refused : drop 3 (each_actions (record the_node { limits = with_failover }) second_refused)
    ≡ (Close failover_link normal ∷ Tell (Nak None 6 151) ∷ Draw ∷ []) ∷ (Tell (Renewed drawn) ∷ []) ∷ (Dial primary primary_uri ∷ []) ∷ (Dial failover_link failover_uri ∷ []) ∷ []
unfolding node_on_literals
failover_refused = refl

failover_refused-lawful : may_all_come (record the_node { limits = with_failover }) second_refused ≡ true
unfolding node_on_literals
failover_refused-lawful = refl
