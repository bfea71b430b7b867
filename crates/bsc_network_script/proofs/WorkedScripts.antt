-- Lines that are taken and lines that are refused, by computation.
-- No clause needs it: worked examples.
use Rattle.std.proofs.Common.{◌≡◌, List, ℕ, [], ◌∷◌, ◌++◌, codes, refl, Option, Some, None}
use Rattle.std.specs.Prelude.{map}
use Rattle.uuid.proofs.OnLiterals.{uuid_on_literals}
use Rattle.bsc_network_script.specs.Scripts.{simulate_of}
use Rattle.bsc_network_script.proofs.OnLiterals.{simulation_on_literals}
use Rattle.bsc_network_script.proofs.Playing.{played, writes, refuses, hub, second_hub, a, b, b_direct}

-- which line is the first that is refused, where each of some lines stands behind others
abbrev pub refused_behind : List (List ℕ) → List (List ℕ) → List (Option ℕ)
refused_behind before ls = map (λ l. (played (before ++ l ∷ [])).refused) ls

-- ---- whole scripts

-- A script without a hub is refused behind its last line.
nothing : simulate_of [] ≡ refuses 1 []
unfolding simulation_on_literals uuid_on_literals
nothing = refl

only_comments : played (codes "# nothing" ∷ codes "" ∷ codes "   " ∷ []) ≡ refuses 4 []
unfolding simulation_on_literals uuid_on_literals
only_comments = refl

-- A hub alone is a script.
one_hub : played (hub ∷ []) ≡ writes []
unfolding simulation_on_literals uuid_on_literals
one_hub = refl

-- The first line that does something is a hub line.
hub_first : refused_behind (codes "# a network" ∷ []) (a ∷ codes "at 5" ∷ codes "start 0" ∷ codes "up 0" ∷ codes "stop 0" ∷ codes "jump 0" ∷ hub ∷ [])
    ≡ Some 2 ∷ Some 2 ∷ Some 2 ∷ Some 2 ∷ Some 2 ∷ Some 2 ∷ None ∷ []
unfolding simulation_on_literals uuid_on_literals
hub_first = refl

-- The text of the lines before a refused one stands, and nothing behind it counts.
broken_off : played (hub ∷ a ∷ codes "start 0" ∷ codes "start 0" ∷ codes "down 0" ∷ []) ≡ refuses 4 (codes "link 0 0 hub 0" ∷ [])
unfolding simulation_on_literals uuid_on_literals
broken_off = refl

-- ---- hubs and nodes

-- Two hubs; a VMAC that names one node; maximum lengths of 64 and 1 at least; and four words.
hubs : refused_behind (hub ∷ [])
    (second_hub ∷ codes "hub 000000000000 FFEEDDCCBBAA99887766554433221100 0640 05D9" ∷ codes "hub FFFFFFFFFFFF FFEEDDCCBBAA99887766554433221100 0640 05D9"
    ∷ codes "hub 0200000000FE FFEEDDCCBBAA99887766554433221100 003F 05D9" ∷ codes "hub 0200000000FE FFEEDDCCBBAA99887766554433221100 0040 0001"
    ∷ codes "hub 0200000000FE FFEEDDCCBBAA99887766554433221100 0640 0000" ∷ codes "hub 0200000000FE FFEEDDCCBBAA99887766554433221100 0640"
    ∷ codes "hub 0200000000FE FFEEDDCCBBAA99887766554433221100 0640 05D9 256 64" ∷ [])
    ≡ None ∷ Some 2 ∷ Some 2 ∷ Some 2 ∷ None ∷ Some 2 ∷ Some 2 ∷ Some 2 ∷ []
unfolding simulation_on_literals uuid_on_literals
hubs = refl

third_hub : refused_behind (hub ∷ a ∷ second_hub ∷ []) (hub ∷ b ∷ []) ≡ Some 4 ∷ None ∷ []
unfolding simulation_on_literals uuid_on_literals
third_hub = refl

-- A node, which accepts direct connections where `direct` stands last.
nodes : refused_behind (hub ∷ [])
    (a ∷ b_direct ∷ codes "node 000000000000 AAAAAAAAAAAAAAAAAAAAAAAAAAAAAAAA" ∷ codes "node FFFFFFFFFFFF AAAAAAAAAAAAAAAAAAAAAAAAAAAAAAAA"
    ∷ codes "node 02000000000A" ∷ codes "node 02000000000A AAAAAAAAAAAAAAAAAAAAAAAAAAAAAAAA Direct"
    ∷ codes "node 02000000000A AAAAAAAAAAAAAAAAAAAAAAAAAAAAAAAA direct direct" ∷ codes "node 02000000000A AAAAAAAA" ∷ [])
    ≡ None ∷ None ∷ Some 2 ∷ Some 2 ∷ Some 2 ∷ Some 2 ∷ Some 2 ∷ Some 2 ∷ []
unfolding simulation_on_literals uuid_on_literals
nodes = refl

-- Behind the first step no hub and no node is added.
all_before_steps : refused_behind (hub ∷ a ∷ codes "start 0" ∷ []) (second_hub ∷ b ∷ codes "at 0" ∷ []) ≡ Some 4 ∷ Some 4 ∷ None ∷ []
unfolding simulation_on_literals uuid_on_literals
all_before_steps = refl

-- ---- the clock

-- It never goes back, nor past 10^15. Hubs and nodes may be added at any time.
clock : refused_behind (hub ∷ codes "at 5" ∷ [])
    (codes "at 5" ∷ codes "at 4" ∷ codes "at 1000000000000000" ∷ codes "at 1000000000000001" ∷ codes "at 05" ∷ codes "at" ∷ codes "at 6 7" ∷ a ∷ [])
    ≡ None ∷ Some 3 ∷ None ∷ Some 3 ∷ Some 3 ∷ Some 3 ∷ Some 3 ∷ None ∷ []
unfolding simulation_on_literals uuid_on_literals
clock = refl

-- ---- steps

-- Which events of nodes are taken: of a node that is there, by the words that the event has.
events : refused_behind (hub ∷ a ∷ codes "start 0" ∷ [])
    (codes "start 0" ∷ codes "start 1" ∷ codes "tick 0" ∷ codes "tick" ∷ codes "tick 0 0" ∷ codes "tick 00" ∷ codes "tick 4294967296" ∷ codes "finish 0" ∷ codes "finish 0 1"
    ∷ codes "resolve 0 02000000000B" ∷ codes "resolve 0" ∷ codes "resolve 0 02000000000B 00" ∷ codes "direct 0 02000000000B" ∷ codes "solicit 0 02000000000B" ∷ codes "solicit 0 0B" ∷ [])
    ≡ Some 4 ∷ Some 4 ∷ None ∷ Some 4 ∷ Some 4 ∷ Some 4 ∷ Some 4 ∷ None ∷ Some 4 ∷ None ∷ Some 4 ∷ Some 4 ∷ None ∷ None ∷ Some 4 ∷ []
unfolding simulation_on_literals uuid_on_literals
events = refl

-- What is sent has at least one octet, in any number of words, and a destination that isn't the reserved VMAC.
sends : refused_behind (hub ∷ a ∷ codes "start 0" ∷ [])
    (codes "send 0 02000000000B 0100" ∷ codes "send 0 02000000000B 0 1 00" ∷ codes "send 0 FFFFFFFFFFFF 01" ∷ codes "send 0 02000000000B" ∷ codes "send 0 02000000000B 010"
    ∷ codes "send 0 000000000000 0100" ∷ codes "send 0" ∷ codes "send 1 02000000000B 0100" ∷ [])
    ≡ None ∷ None ∷ None ∷ Some 4 ∷ Some 4 ∷ Some 4 ∷ Some 4 ∷ Some 4 ∷ []
unfolding simulation_on_literals uuid_on_literals
sends = refl

-- Links and hubs that are there, a way that isn't empty, and a hub's side that has joined.
links : refused_behind (hub ∷ a ∷ codes "start 0" ∷ [])
    (codes "down 0" ∷ codes "up 0" ∷ codes "take 0" ∷ codes "lose 0" ∷ codes "down 1" ∷ codes "lose 1" ∷ codes "down" ∷ codes "down 0 0" ∷ codes "stop 0" ∷ codes "stop 1" ∷ [])
    ≡ None ∷ Some 4 ∷ Some 4 ∷ None ∷ Some 4 ∷ Some 4 ∷ Some 4 ∷ Some 4 ∷ None ∷ Some 4 ∷ []
unfolding simulation_on_literals uuid_on_literals
links = refl

lost : refused_behind (hub ∷ a ∷ codes "start 0" ∷ codes "lose 0" ∷ codes "stop 0" ∷ []) (codes "down 0" ∷ codes "lose 0" ∷ codes "take 0" ∷ codes "stop 0" ∷ codes "tick 0" ∷ [])
    ≡ Some 6 ∷ Some 6 ∷ Some 6 ∷ Some 6 ∷ None ∷ []
unfolding simulation_on_literals uuid_on_literals
lost = refl
