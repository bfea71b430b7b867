-- How worked scripts are written: their lines, and what they come to.
-- It serves bsc_network_script_laws.
use Rattle.std.specs.Prelude.{ℕ, List, ◌++◌, flat_map, codes, Some, None}
use Rattle.bsc_player.specs.Playing.{Played}
use Rattle.bsc_network_script.specs.Scripts.{simulate_of}

-- lines of text, each with its end
abbrev pub lines : List (List ℕ) → List ℕ
lines ls = flat_map (λ l. l ++ codes "\n") ls

-- What a script of these lines comes to.
abbrev pub played : List (List ℕ) → Played
played ls = simulate_of (lines ls)

-- All lines are accepted, and these are written.
abbrev pub writes : List (List ℕ) → Played
writes ls = record { text = lines ls; refused = None }

-- The line of this number is the first that is refused, and these are written before it.
abbrev pub refuses : ℕ → List (List ℕ) → Played
refuses n ls = record { text = lines ls; refused = Some n }

-- ---- hubs and nodes

abbrev pub hub : List ℕ
hub = codes "hub 0200000000FF 00112233445566778899AABBCCDDEEFF 0640 05D9"

abbrev pub second_hub : List ℕ
second_hub = codes "hub 0200000000FE FFEEDDCCBBAA99887766554433221100 0640 05D9"

abbrev pub a : List ℕ
a = codes "node 02000000000A AAAAAAAAAAAAAAAAAAAAAAAAAAAAAAAA"

abbrev pub b : List ℕ
b = codes "node 02000000000B BBBBBBBBBBBBBBBBBBBBBBBBBBBBBBBB"

-- B, where it accepts direct connections
abbrev pub b_direct : List ℕ
b_direct = codes "node 02000000000B BBBBBBBBBBBBBBBBBBBBBBBBBBBBBBBB direct"
