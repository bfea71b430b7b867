-- What the worked histories are made of: peers, hubs, messages and entries.
-- No clause needs it: worked examples.
use Rattle.std.proofs.Common.{◌≡◌, ℕ, List, [], ◌∷◌, ◌++◌, map, None, replicate}
use Rattle.std.specs.Prelude.{IsTrue}
use Rattle.std.specs.List.{list_all}
use Rattle.bsc_octets.specs.declared.vmac.Vmac.{Vmac}
use Rattle.bsc_octets.specs.declared.identity.Identity.{Identity}
use Rattle.bsc_history.specs.declared.limits.About.{About}
use Rattle.bsc_history.specs.declared.call.Call.{Call}
use Rattle.bsc_history.specs.declared.call.Call.TheVariants.{Connect}
use Rattle.bsc_history.specs.declared.entry.Entry.{Entry}
use Rattle.bsc_history.specs.declared.looks.Look.{Look}
use Rattle.bsc_history.specs.declared.reply.Reply.{Reply}
use Rattle.bsc_history.specs.declared.reply.Reply.TheVariants.{Joined}
use Rattle.bsc_history.specs.Entries.{Moment}
use Rattle.bsc_history.specs.Replies.{reply}
use Rattle.bsc_history.specs.Legality.{looks_at, can_find, may_call, Lawful}

-- addresses, devices and identities

-- the octets of an address that ends in n, and the address
abbrev pub six : ℕ → List ℕ
six n = 2 ∷ 0 ∷ 0 ∷ 0 ∷ 0 ∷ n ∷ []

abbrev pub address : ℕ → Vmac
address n = record { 0 = six n }

-- who has this address and a device of sixteen equal octets
abbrev pub peer : ℕ → ℕ → Identity
peer n u = record { vmac = address n; device = record { 0 = replicate 16 u }; max_bvlc = 1600; max_npdu = 1497 }

abbrev pub peer_a : Identity
peer_a = peer 0x0A 0xAA

abbrev pub peer_b : Identity
peer_b = peer 0x0B 0xBB

abbrev pub peer_c : Identity
peer_c = peer 0x0C 0xCC

-- a hub with so many rows, and outboxes of such a capacity
abbrev pub hub_of : ℕ → ℕ → About
hub_of rows outbox = record { hub = peer 0xFF 0x11; limits = record { rows = rows; outbox = outbox; calls = 4503599627370496; callers = 4611686018427387904 } }

abbrev pub the_hub : About
the_hub = hub_of 256 64

abbrev pub hub_with_outboxes_of_two : About
hub_with_outboxes_of_two = hub_of 256 2

abbrev pub hub_of_two_rows : About
hub_of_two_rows = hub_of 2 64

abbrev pub hub_of_two_calls : About
hub_of_two_calls = record the_hub { limits = record (the_hub.limits) { calls = 2 } }

-- messages

-- function, flags and ID
abbrev pub head : ℕ → ℕ → ℕ → List ℕ
head function flags id = function ∷ flags ∷ 0 ∷ id ∷ []

abbrev pub all : List ℕ
all = replicate 6 255

abbrev pub short : List ℕ
short = 1 ∷ 0 ∷ []

abbrev pub long : List ℕ
long = 1 ∷ 0x20 ∷ 0xFF ∷ 0xFF ∷ 0 ∷ 0xFF ∷ 0x10 ∷ 0x08 ∷ []

-- a unicast of this ID to an address, as its sender hands it in, and as it is passed on from an address
abbrev pub unicast : ℕ → ℕ → List ℕ → List ℕ
unicast id to payload = head 1 4 id ++ six to ++ payload

abbrev pub unicast_from : ℕ → ℕ → List ℕ → List ℕ
unicast_from id from payload = head 1 8 id ++ six from ++ payload

-- a broadcast of this ID, as its sender hands it in, and as it is passed on from an address
abbrev pub broadcast : ℕ → List ℕ → List ℕ
broadcast id payload = head 1 4 id ++ all ++ payload

abbrev pub broadcast_from : ℕ → ℕ → List ℕ → List ℕ
broadcast_from id from payload = head 1 0x0C id ++ six from ++ all ++ payload

-- entries

-- an entry of caller 0
abbrev pub entry : Call → List Look → Reply → Entry
entry call looks reply = record { caller = 0; call = call; looks = looks; reply = reply }

abbrev pub look : ℕ → ℕ → Look
look conn taken = record { conn = conn; taken = taken }

abbrev pub join : Identity → ℕ → Entry
join who conn = entry (Connect who) [] (Joined conn None)

-- A, B and C join
abbrev pub abc : List Entry
abc = join peer_a 1 ∷ join peer_b 2 ∷ join peer_c 3 ∷ []

-- a lawful entry, from its four reasons
abbrev pub lawful : {a : About} {m : Moment} → m.entry.reply ≡ reply a m.before m.entry.call m.entry.looks → map (λ k. k.conn) m.entry.looks ≡ looks_at m.before m.entry.call
    → IsTrue (list_all (λ k. can_find a m.before k.conn k.taken) m.entry.looks) → IsTrue (may_call a m.before m.entry.caller m.entry.call) → Lawful a m
lawful replied named found called = record { replied = replied; named = named; found = found; called = called }
