-- What the worked journals are made of: peers, a hub, entries and lines.
-- It serves bsc_audit, bsc_journal_laws and bsc_witnesses.
use Rattle.std.specs.Prelude.{◌≡◌, ℕ, List, [], ◌∷◌, ◌++◌, map, flat_map, replicate, codes, None, IsTrue}
use Rattle.std.specs.List.{list_all}
use Rattle.bsc_octets.specs.declared.identity.Identity.{Identity}
use Rattle.bsc_history.specs.declared.limits.About.{About}
use Rattle.bsc_history.specs.declared.call.Call.{Call}
use Rattle.bsc_history.specs.declared.call.Call.TheVariants.{Connect, Forward}
use Rattle.bsc_history.specs.declared.counts.Counts.{Counts}
use Rattle.bsc_history.specs.declared.entry.Entry.{Entry}
use Rattle.bsc_history.specs.declared.looks.Look.{Look}
use Rattle.bsc_history.specs.declared.reply.Reply.{Reply}
use Rattle.bsc_history.specs.declared.reply.Reply.TheVariants.{Joined, Appended}
use Rattle.bsc_history.specs.Entries.{Moment}
use Rattle.bsc_history.specs.Replies.{reply}
use Rattle.bsc_history.specs.Legality.{looks_at, can_find, may_call, Lawful}

-- ---- entries

-- who has an address that ends in n, and a device of these octets
abbrev pub peer : ℕ → List ℕ → Identity
peer n device = record {
  vmac = record { 0 = 2 ∷ 0 ∷ 0 ∷ 0 ∷ 0 ∷ n ∷ [] };
  device = record { 0 = device };
  max_bvlc = 1600;
  max_npdu = 1497;
}

abbrev pub peer_a : Identity
peer_a = peer 0x0A (replicate 16 0xAA)

abbrev pub peer_b : Identity
peer_b = peer 0x0B (replicate 16 0xBB)

abbrev pub the_hub : About
the_hub = record {
  hub = peer 0xFF (0x00 ∷ 0x11 ∷ 0x22 ∷ 0x33 ∷ 0x44 ∷ 0x55 ∷ 0x66 ∷ 0x77 ∷ 0x88 ∷ 0x99 ∷ 0xAA ∷ 0xBB ∷ 0xCC ∷ 0xDD ∷ 0xEE ∷ 0xFF ∷ []);
  limits = record { rows = 256; outbox = 64; calls = 4503599627370496; callers = 4611686018427387904 };
}

abbrev pub look : ℕ → ℕ → Look
look conn taken = record { conn = conn; taken = taken }

-- an entry of caller 1
abbrev pub entry : Call → List Look → Reply → Entry
entry call looks said = record { caller = 1; call = call; looks = looks; reply = said }

abbrev pub a_joins : Entry
a_joins = entry (Connect peer_a) [] (Joined 1 None)

abbrev pub b_joins : Entry
b_joins = record { caller = 2; call = Connect peer_b; looks = []; reply = Joined 2 None }

-- A's unicast to B
abbrev pub to_b : List ℕ
to_b = 1 ∷ 4 ∷ 0 ∷ 2 ∷ 2 ∷ 0 ∷ 0 ∷ 0 ∷ 0 ∷ 0x0B ∷ 1 ∷ 0 ∷ []

-- A sends to B, whose outbox is found with so many frames taken
abbrev pub a_sends : ℕ → Entry
a_sends taken = entry (Forward 1 to_b) (look 2 taken ∷ []) (Appended 2)

-- nine counts, one of each number
abbrev pub one_to_nine : Counts
one_to_nine = record {
  joined = 1;
  replaced = 2;
  refused = 3;
  unicasts = 4;
  broadcasts = 5;
  appended = 6;
  dropped = 7;
  full = 8;
  missed = 9;
}

-- a lawful entry, from its four reasons
abbrev pub lawful : {a : About} {m : Moment} →
    m.entry.reply ≡ reply a m.before m.entry.call m.entry.looks →
    map (λ k. k.conn) m.entry.looks ≡ looks_at m.before m.entry.call →
    IsTrue (list_all (λ k. can_find a m.before k.conn k.taken) m.entry.looks) →
    IsTrue (may_call a m.before m.entry.caller m.entry.call) → Lawful a m
lawful replied named found called = record { replied = replied; named = named; found = found; called = called }

-- ---- lines

abbrev pub hub_line : List ℕ
hub_line = codes "hub 0200000000FF 00112233445566778899AABBCCDDEEFF 0640 05D9 256 64 4503599627370496"

abbrev pub a_line : List ℕ
a_line = codes "0 1 connect 02000000000AAAAAAAAAAAAAAAAAAAAAAAAAAAAAAAAA064005D9 joined 1"

abbrev pub b_line : List ℕ
b_line = codes "1 2 connect 02000000000BBBBBBBBBBBBBBBBBBBBBBBBBBBBBBBBB064005D9 joined 2"

abbrev pub sent_line : List ℕ
sent_line = codes "2 1 forward 1 0104000202000000000B0100 looks 2:0 sent 2"

-- the same with one frame taken, which hadn't entered
abbrev pub early_line : List ℕ
early_line = codes "2 1 forward 1 0104000202000000000B0100 looks 2:1 sent 2"

-- lines of text, each with its end
abbrev pub lines : List (List ℕ) → List ℕ
lines ls = flat_map (λ l. l ++ codes "\n") ls
