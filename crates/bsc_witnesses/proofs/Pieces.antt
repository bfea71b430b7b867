-- What the examples are made of: peers, hubs, messages and entries; and which numbers and lists differ.
use Rattle.std.proofs.Common.{◌≡◌, ◌≢◌, ℕ, ◌==◌, false, List, [], ◌∷◌, ◌++◌, map, None, refl, replicate, sym, true, ◌∙◌}
use Rattle.std.specs.Prelude.{IsTrue}
use Rattle.std.specs.List.{AllByRecursion, list_all}
use Rattle.std.proofs.lemmas.Bool.{eq-eqb}
use Rattle.bsc_octets.specs.declared.vmac.Vmac.{Vmac}
use Rattle.bsc_octets.specs.declared.identity.Identity.{Identity}
use Rattle.bsc_history.specs.declared.limits.About.{About}
use Rattle.bsc_history.specs.declared.call.Call.{Call}
use Rattle.bsc_history.specs.declared.call.Call.TheVariants.{Connect, Forward, Leave}
use Rattle.bsc_history.specs.declared.ending.End.TheVariants.{Left}
use Rattle.bsc_history.specs.declared.entry.Entry.{Entry}
use Rattle.bsc_history.specs.declared.looks.Look.{Look}
use Rattle.bsc_history.specs.declared.reply.Reply.{Reply}
use Rattle.bsc_history.specs.declared.reply.Reply.TheVariants.{Appended, Gone, Joined}
use Rattle.bsc_history.specs.Entries.{Moment}
use Rattle.bsc_history.specs.Replies.{reply}
use Rattle.bsc_history.specs.Legality.{Lawful, Legal, can_find, looks_at, may_call}
use Rattle.bsc_history.proofs.OnLiterals.{history_on_literals}

-- ---- what differs

pub unlike : (m n : ℕ) → (m == n) ≡ false → m ≢ n
unlike m n h e = (let bad : true ≡ false = sym (eq-eqb m n e) ∙ h in cc)

pub not_empty : (o : List ℕ) (os : List (List ℕ)) → o ∷ os ≡ [] → ⊥
not_empty o os e = cc

-- what holds of each entry holds of the one at which they are cut
pub at_cut : (P : Entry → Type 0) (xs : List Entry) (y : Entry) (ys : List Entry) → AllByRecursion P (xs ++ y ∷ ys) → P y
at_cut P [] y ys all = all.0
at_cut P (x ∷ xs) y ys all = at_cut P xs y ys all.1

-- ---- peers and hubs

-- the octets of an address that ends in n
abbrev pub six : ℕ → List ℕ
six n = 2 ∷ 0 ∷ 0 ∷ 0 ∷ 0 ∷ n ∷ []

abbrev pub address : ℕ → Vmac
address n = record { 0 = six n }

-- who has this address and a device of sixteen equal octets
abbrev pub peer : ℕ → ℕ → Identity
peer n u = record { vmac = address n; device = record { 0 = replicate 16 u }; max_bvlc = 1600; max_npdu = 1497 }

abbrev pub peer_a : Identity
peer_a = peer 0x0A 0xAA

abbrev pub peer_b : Identity
peer_b = peer 0x0B 0xBB

abbrev pub peer_c : Identity
peer_c = peer 0x0C 0xCC

-- a hub whose outboxes have room for so many frames
abbrev pub hub_of : ℕ → About
hub_of outbox = record { hub = peer 0xFF 0x11; limits = record { rows = 256; outbox = outbox; calls = 4503599627370496; callers = 4611686018427387904 } }

abbrev pub the_hub : About
the_hub = hub_of 64

-- ---- messages

-- a message of this ID to an address, as its sender hands it in, and as it is passed on from an address
abbrev pub to_one : ℕ → ℕ → List ℕ
to_one id to = 1 ∷ 4 ∷ 0 ∷ id ∷ (six to ++ 1 ∷ 0 ∷ [])

abbrev pub from_one : ℕ → ℕ → List ℕ
from_one id from = 1 ∷ 8 ∷ 0 ∷ id ∷ (six from ++ 1 ∷ 0 ∷ [])

abbrev pub to_all : ℕ → List ℕ
to_all id = 1 ∷ 4 ∷ 0 ∷ id ∷ (replicate 6 255 ++ 1 ∷ 0 ∷ [])

abbrev pub from_all : ℕ → ℕ → List ℕ
from_all id from = 1 ∷ 0x0C ∷ 0 ∷ id ∷ (six from ++ (replicate 6 255 ++ 1 ∷ 0 ∷ []))

-- ---- entries

-- an entry of caller 0
abbrev pub entry : Call → List Look → Reply → Entry
entry call looks reply = record { caller = 0; call = call; looks = looks; reply = reply }

abbrev pub look : ℕ → ℕ → Look
look conn taken = record { conn = conn; taken = taken }

abbrev pub join : Identity → ℕ → Entry
join who conn = entry (Connect who) [] (Joined conn None)

-- the connection leaves, of which nothing was taken
abbrev pub leave : ℕ → Entry
leave conn = entry (Leave conn 0 0) [] (Gone Left 0)

-- A and B join, and C too
abbrev pub ab : List Entry
ab = join peer_a 1 ∷ join peer_b 2 ∷ []

abbrev pub abc : List Entry
abc = join peer_a 1 ∷ join peer_b 2 ∷ join peer_c 3 ∷ []

-- A's unicast to B
abbrev pub a_to_b : Entry
a_to_b = entry (Forward 1 (to_one 2 0x0B)) (look 2 0 ∷ []) (Appended 2)

-- a lawful entry, from its four reasons
abbrev pub lawful : {a : About} {m : Moment} → m.entry.reply ≡ reply a m.before m.entry.call m.entry.looks
    → map (λ k. k.conn) m.entry.looks ≡ looks_at m.before m.entry.call
    → IsTrue (list_all (λ k. can_find a m.before k.conn k.taken) m.entry.looks)
    → IsTrue (may_call a m.before m.entry.caller m.entry.call) → Lawful a m
lawful replied named found called = record { replied = replied; named = named; found = found; called = called }

pub ab-legal : Legal the_hub ab
unfolding history_on_literals
ab-legal = record { lawful = (lawful refl refl refl refl, (lawful refl refl refl refl, tt)) }

pub abc-legal : Legal the_hub abc
unfolding history_on_literals
abc-legal = record { lawful = (lawful refl refl refl refl, (lawful refl refl refl refl, (lawful refl refl refl refl, tt))) }
