-- A course of 367 steps, written as the lines of its script, by computation. What it writes is what `bsc_world` wrote when its
-- code ran it.
-- No clause needs it: worked examples.
use Rattle.std.proofs.Common.{◌≡◌, ℕ, List, [], ◌∷◌, codes, refl, Option, Some}
use Rattle.uuid.proofs.OnLiterals.{uuid_on_literals}
use Rattle.bsc_network.specs.declared.timed_step.TimedStep.{TimedStep}
use Rattle.bsc_network.specs.Settings.{Added, and_hub, and_node}
use Rattle.bsc_network.specs.Worlds.{new_world}
use Rattle.bsc_network_script.specs.declared.line.Line.{Line}
use Rattle.bsc_network_script.specs.declared.line.Line.TheVariants.{Hub, Node, At, Step}
use Rattle.bsc_network_script.specs.Lines.{line_of}
use Rattle.bsc_network_script.specs.Scripts.{hub_limits}
use Rattle.bsc_network_script_laws.specs.Laws.{steps_text}
use Rattle.bsc_network_script.proofs.OnLiterals.{simulation_on_literals}
use Rattle.bsc_network_script.proofs.Playing.{lines}

-- Three nodes join, open direct connections and send; one is asked for a VMAC that another device has; a link between nodes and
-- one to a hub are lost; a node comes again and takes over; nodes go to the failover and return; a hub stops; a node ends.
abbrev pub course : List (List ℕ)
course =
    codes "hub 0200000000FF 00112233445566778899AABBCCDDEEFF 0640 05D9" ∷
    codes "hub 0200000000FE FFEEDDCCBBAA99887766554433221100 0640 05D9" ∷
    codes "node 02000000000A AAAAAAAAAAAAAAAAAAAAAAAAAAAAAAAA direct" ∷
    codes "node 02000000000B BBBBBBBBBBBBBBBBBBBBBBBBBBBBBBBB direct" ∷
    codes "node 02000000000C CCCCCCCCCCCCCCCCCCCCCCCCCCCCCCCC direct" ∷
    codes "node 02000000000B BBBBBBBBBBBBBBBBBBBBBBBBBBBBBBBB direct" ∷
    codes "node 02000000000C EEEEEEEEEEEEEEEEEEEEEEEEEEEEEEEE" ∷
    codes "start 0" ∷
    codes "start 1" ∷
    codes "start 2" ∷
    codes "down 0" ∷
    codes "up 0" ∷
    codes "take 0" ∷
    codes "down 1" ∷
    codes "up 1" ∷
    codes "take 1" ∷
    codes "down 2" ∷
    codes "up 2" ∷
    codes "take 2" ∷
    codes "down 0" ∷
    codes "take 0" ∷
    codes "down 1" ∷
    codes "take 1" ∷
    codes "down 2" ∷
    codes "take 2" ∷
    codes "take 0" ∷
    codes "take 1" ∷
    codes "take 2" ∷
    codes "send 1 02000000000B 0003" ∷
    codes "take 0" ∷
    codes "up 1" ∷
    codes "take 1" ∷
    codes "take 2" ∷
    codes "take 0" ∷
    codes "down 1" ∷
    codes "take 1" ∷
    codes "take 2" ∷
    codes "resolve 0 02000000000B" ∷
    codes "resolve 1 02000000000C" ∷
    codes "resolve 2 02000000000A" ∷
    codes "up 0" ∷
    codes "take 0" ∷
    codes "up 1" ∷
    codes "take 1" ∷
    codes "up 2" ∷
    codes "take 2" ∷
    codes "take 0" ∷
    codes "down 1" ∷
    codes "up 1" ∷
    codes "take 1" ∷
    codes "down 2" ∷
    codes "up 2" ∷
    codes "take 2" ∷
    codes "down 0" ∷
    codes "up 0" ∷
    codes "take 0" ∷
    codes "take 1" ∷
    codes "take 2" ∷
    codes "down 0" ∷
    codes "take 0" ∷
    codes "down 1" ∷
    codes "take 1" ∷
    codes "down 2" ∷
    codes "take 2" ∷
    codes "direct 0 02000000000B" ∷
    codes "direct 1 02000000000C" ∷
    codes "take 0" ∷
    codes "take 1" ∷
    codes "take 2" ∷
    codes "down 3" ∷
    codes "up 3" ∷
    codes "down 4" ∷
    codes "up 4" ∷
    codes "take 0" ∷
    codes "take 1" ∷
    codes "take 2" ∷
    codes "up 3" ∷
    codes "up 4" ∷
    codes "take 0" ∷
    codes "take 1" ∷
    codes "take 2" ∷
    codes "down 3" ∷
    codes "down 4" ∷
    codes "send 1 02000000000A 0005" ∷
    codes "send 1 02000000000A 0007" ∷
    codes "send 0 02000000000B 0008" ∷
    codes "send 1 02000000000B 000A" ∷
    codes "take 0" ∷
    codes "up 1" ∷
    codes "take 1" ∷
    codes "take 2" ∷
    codes "down 3" ∷
    codes "up 3" ∷
    codes "take 0" ∷
    codes "down 1" ∷
    codes "take 1" ∷
    codes "take 2" ∷
    codes "down 3" ∷
    codes "start 4" ∷
    codes "take 0" ∷
    codes "take 1" ∷
    codes "take 2" ∷
    codes "down 5" ∷
    codes "up 5" ∷
    codes "take 0" ∷
    codes "take 1" ∷
    codes "take 2" ∷
    codes "down 5" ∷
    codes "up 5" ∷
    codes "take 0" ∷
    codes "take 1" ∷
    codes "take 2" ∷
    codes "down 5" ∷
    codes "direct 2 02000000000A" ∷
    codes "take 0" ∷
    codes "take 1" ∷
    codes "take 2" ∷
    codes "down 6" ∷
    codes "up 6" ∷
    codes "take 6" ∷
    codes "take 0" ∷
    codes "take 1" ∷
    codes "take 2" ∷
    codes "down 6" ∷
    codes "take 6" ∷
    codes "take 0" ∷
    codes "take 1" ∷
    codes "take 2" ∷
    codes "take 6" ∷
    codes "send 0 FFFFFFFFFFFF 000B" ∷
    codes "send 0 02000000000A 000C" ∷
    codes "send 0 02000000000B 000D" ∷
    codes "send 1 02000000000B 000E" ∷
    codes "send 0 FFFFFFFFFFFF 000F" ∷
    codes "up 0" ∷
    codes "take 0" ∷
    codes "up 1" ∷
    codes "take 1" ∷
    codes "take 2" ∷
    codes "up 3" ∷
    codes "take 6" ∷
    codes "up 0" ∷
    codes "take 0" ∷
    codes "down 1" ∷
    codes "take 1" ∷
    codes "down 2" ∷
    codes "take 2" ∷
    codes "take 6" ∷
    codes "lose 3" ∷
    codes "send 1 02000000000B 0012" ∷
    codes "send 1 02000000000C 0013" ∷
    codes "down 0" ∷
    codes "up 0" ∷
    codes "take 0" ∷
    codes "down 1" ∷
    codes "up 1" ∷
    codes "take 1" ∷
    codes "take 2" ∷
    codes "up 4" ∷
    codes "take 6" ∷
    codes "take 0" ∷
    codes "down 1" ∷
    codes "take 1" ∷
    codes "down 2" ∷
    codes "take 2" ∷
    codes "take 6" ∷
    codes "start 3" ∷
    codes "take 0" ∷
    codes "down 1" ∷
    codes "take 1" ∷
    codes "take 2" ∷
    codes "take 6" ∷
    codes "down 7" ∷
    codes "up 7" ∷
    codes "take 0" ∷
    codes "take 1" ∷
    codes "take 2" ∷
    codes "take 6" ∷
    codes "up 7" ∷
    codes "take 0" ∷
    codes "take 1" ∷
    codes "take 2" ∷
    codes "take 6" ∷
    codes "down 7" ∷
    codes "send 2 02000000000A 0014" ∷
    codes "send 0 02000000000C 0015" ∷
    codes "send 0 02000000000A 0016" ∷
    codes "send 2 02000000000A 0017" ∷
    codes "up 0" ∷
    codes "take 0" ∷
    codes "take 1" ∷
    codes "take 2" ∷
    codes "take 6" ∷
    codes "down 7" ∷
    codes "up 7" ∷
    codes "down 0" ∷
    codes "take 0" ∷
    codes "take 1" ∷
    codes "take 2" ∷
    codes "take 6" ∷
    codes "up 7" ∷
    codes "lose 0" ∷
    codes "take 1" ∷
    codes "take 2" ∷
    codes "take 6" ∷
    codes "down 8" ∷
    codes "up 8" ∷
    codes "take 8" ∷
    codes "take 1" ∷
    codes "take 2" ∷
    codes "take 6" ∷
    codes "down 8" ∷
    codes "take 8" ∷
    codes "down 1" ∷
    codes "up 1" ∷
    codes "take 2" ∷
    codes "take 6" ∷
    codes "take 8" ∷
    codes "send 0 02000000000C 0018" ∷
    codes "send 2 02000000000C 0019" ∷
    codes "send 1 02000000000B 001A" ∷
    codes "down 1" ∷
    codes "up 1" ∷
    codes "up 2" ∷
    codes "take 2" ∷
    codes "take 6" ∷
    codes "down 7" ∷
    codes "take 8" ∷
    codes "down 2" ∷
    codes "take 2" ∷
    codes "take 6" ∷
    codes "take 8" ∷
    codes "at 2500" ∷
    codes "tick 0" ∷
    codes "tick 1" ∷
    codes "tick 2" ∷
    codes "tick 3" ∷
    codes "tick 4" ∷
    codes "take 2" ∷
    codes "take 6" ∷
    codes "take 8" ∷
    codes "down 9" ∷
    codes "up 9" ∷
    codes "take 9" ∷
    codes "down 10" ∷
    codes "up 10" ∷
    codes "take 10" ∷
    codes "down 11" ∷
    codes "up 11" ∷
    codes "take 11" ∷
    codes "take 2" ∷
    codes "take 6" ∷
    codes "take 8" ∷
    codes "down 9" ∷
    codes "take 9" ∷
    codes "down 10" ∷
    codes "take 10" ∷
    codes "down 11" ∷
    codes "take 11" ∷
    codes "take 2" ∷
    codes "take 6" ∷
    codes "take 8" ∷
    codes "up 9" ∷
    codes "take 10" ∷
    codes "take 11" ∷
    codes "send 2 02000000000A 001B" ∷
    codes "send 0 02000000000B 001C" ∷
    codes "send 0 02000000000A 001D" ∷
    codes "send 0 FFFFFFFFFFFF 001E" ∷
    codes "take 2" ∷
    codes "take 6" ∷
    codes "up 7" ∷
    codes "take 8" ∷
    codes "down 9" ∷
    codes "up 9" ∷
    codes "take 10" ∷
    codes "up 11" ∷
    codes "take 11" ∷
    codes "take 2" ∷
    codes "take 6" ∷
    codes "take 8" ∷
    codes "down 9" ∷
    codes "take 10" ∷
    codes "up 11" ∷
    codes "take 11" ∷
    codes "stop 0" ∷
    codes "send 2 02000000000A 001F" ∷
    codes "send 0 02000000000A 0020" ∷
    codes "send 0 02000000000B 0021" ∷
    codes "take 2" ∷
    codes "take 6" ∷
    codes "up 7" ∷
    codes "down 8" ∷
    codes "take 8" ∷
    codes "take 10" ∷
    codes "down 11" ∷
    codes "up 11" ∷
    codes "take 11" ∷
    codes "down 2" ∷
    codes "up 2" ∷
    codes "take 6" ∷
    codes "down 8" ∷
    codes "up 8" ∷
    codes "take 10" ∷
    codes "down 11" ∷
    codes "up 11" ∷
    codes "down 2" ∷
    codes "up 2" ∷
    codes "take 6" ∷
    codes "down 8" ∷
    codes "up 8" ∷
    codes "take 10" ∷
    codes "up 11" ∷
    codes "take 6" ∷
    codes "take 10" ∷
    codes "up 11" ∷
    codes "take 6" ∷
    codes "take 10" ∷
    codes "down 11" ∷
    codes "up 11" ∷
    codes "down 12" ∷
    codes "up 12" ∷
    codes "down 13" ∷
    codes "up 13" ∷
    codes "down 14" ∷
    codes "up 14" ∷
    codes "take 6" ∷
    codes "take 10" ∷
    codes "down 12" ∷
    codes "down 13" ∷
    codes "down 14" ∷
    codes "up 14" ∷
    codes "take 6" ∷
    codes "take 10" ∷
    codes "down 14" ∷
    codes "send 1 02000000000A 0022" ∷
    codes "send 3 02000000000A 0023" ∷
    codes "send 3 02000000000A 0024" ∷
    codes "take 6" ∷
    codes "up 10" ∷
    codes "take 10" ∷
    codes "take 6" ∷
    codes "take 10" ∷
    codes "finish 1" ∷
    codes "up 4" ∷
    codes "take 6" ∷
    codes "up 10" ∷
    codes "down 4" ∷
    codes "up 4" ∷
    codes "take 6" ∷
    codes "down 10" ∷
    codes "up 10" ∷
    codes "down 4" ∷
    codes "take 6" ∷
    codes "down 10" ∷
    codes "at 40000" ∷
    codes "tick 0" ∷
    codes "tick 1" ∷
    codes "tick 2" ∷
    codes "tick 3" ∷
    codes "tick 4" ∷
    codes "take 6" ∷
    codes "down 15" ∷
    codes "up 15" ∷
    codes "down 16" ∷
    codes "up 16" ∷
    codes "down 17" ∷
    codes "up 17" ∷
    codes "take 6" ∷
    codes "down 17" ∷
    codes "take 6" ∷
    codes "send 0 02000000000B 0025" ∷
    codes "send 1 FFFFFFFFFFFF 0026" ∷
    codes "send 2 02000000000C 0027" ∷
    codes "take 6" ∷
    codes "take 6" ∷
    []

-- what some lines add
abbrev pub adds : List Added → Option Line → List Added
adds added (Some (Hub who)) = and_hub added who hub_limits
adds added (Some (Node own direct)) = and_node added own direct
adds added line = added

abbrev pub added_by : List Added → List (List ℕ) → List Added
added_by added [] = added
added_by added (l ∷ ls) = added_by (adds added (line_of l)) ls

-- the steps that some lines make, each with its time
abbrev pub clock_by : ℕ → Option Line → ℕ
clock_by clock (Some (At ms)) = ms
clock_by clock line = clock

abbrev pub with_step : ℕ → Option Line → List TimedStep → List TimedStep
with_step clock (Some (Step step)) steps = record { now = clock; step = step } ∷ steps
with_step clock line steps = steps

abbrev pub steps_by : ℕ → List (List ℕ) → List TimedStep
steps_by clock [] = []
steps_by clock (l ∷ ls) = with_step clock (line_of l) (steps_by (clock_by clock (line_of l)) ls)

long_course : steps_text (new_world (added_by [] course)) (steps_by 0 course)
    ≡ lines (
    codes "link 0 0 hub 0" ∷
    codes "link 1 1 hub 0" ∷
    codes "link 2 2 hub 0" ∷
    codes "1 got 21 02000000000B unicast 0003" ∷
    codes "link 3 0 node 1" ∷
    codes "link 4 1 node 2" ∷
    codes "0 got 76 02000000000B unicast 0005" ∷
    codes "1 got 78 02000000000A unicast 0008" ∷
    codes "1 got 79 02000000000B unicast 000A" ∷
    codes "0 got 77 02000000000B unicast 0007" ∷
    codes "link 5 4 hub 0" ∷
    codes "link 6 4 hub 1" ∷
    codes "link 7 2 node 0" ∷
    codes "1 got 124 02000000000A unicast 000D" ∷
    codes "1 got 122 02000000000A broadcast 000B" ∷
    codes "2 got 122 02000000000A broadcast 000B" ∷
    codes "0 got 123 02000000000A unicast 000C" ∷
    codes "1 got 125 02000000000B unicast 000E" ∷
    codes "2 got 143 02000000000B unicast 0013" ∷
    codes "1 got 126 02000000000A broadcast 000F" ∷
    codes "2 got 126 02000000000A broadcast 000F" ∷
    codes "link 8 3 hub 0" ∷
    codes "1 got 142 02000000000B unicast 0012" ∷
    codes "2 got 178 02000000000A unicast 0015" ∷
    codes "0 got 177 02000000000C unicast 0014" ∷
    codes "0 got 179 02000000000A unicast 0016" ∷
    codes "0 got 180 02000000000C unicast 0017" ∷
    codes "link 9 0 hub 1" ∷
    codes "link 10 1 hub 1" ∷
    codes "2 got 211 02000000000A unicast 0018" ∷
    codes "2 got 212 02000000000C unicast 0019" ∷
    codes "link 11 0 hub 0" ∷
    codes "link 12 1 hub 0" ∷
    codes "link 13 4 hub 0" ∷
    codes "0 got 257 02000000000C unicast 001B" ∷
    codes "0 got 278 02000000000C unicast 001F" ∷
    codes "3 got 258 02000000000A unicast 001C" ∷
    codes "0 got 259 02000000000A unicast 001D" ∷
    codes "link 14 2 hub 1" ∷
    codes "link 15 3 hub 1" ∷
    codes "link 16 0 hub 1" ∷
    codes "link 17 0 hub 0" ∷
    codes "link 18 2 hub 0" ∷
    codes "link 19 2 hub 1" ∷
    codes "link 20 3 hub 0" ∷
    codes "link 21 4 hub 0" ∷
    [])
unfolding simulation_on_literals uuid_on_literals
long_course = refl
