-- Unicasts and broadcasts written out: the lines, and what is written for them.
-- No clause needs it: worked examples.
use Rattle.std.specs.Prelude.{◌≡◌, ℕ, List, [], ◌∷◌, ◌++◌, codes, Some, refl}
use Rattle.uuid.proofs.OnLiterals.{uuid_on_literals}
use Rattle.bsc_script.proofs.OnLiterals.{script_on_literals}
use Rattle.bsc_script.proofs.Playing.{lines, written_after, a_joins, b_joins, c_joins}

-- A unicast: the reply to its sender, then the frame, under the address of its sender.
unicast : written_after (codes "hub 0200000000FF 00112233445566778899AABBCCDDEEFF 0640 05D9 256 64") (a_joins ++ b_joins ++ c_joins)
    ((
    codes "in A 01040002 02000000000B 0120FFFF00FF1008" ∷
    []))
    ≡ Some (lines (
    codes "A sent 2" ∷
    codes "B out 0108000202000000000A0120FFFF00FF1008" ∷
    []))
unfolding script_on_literals uuid_on_literals
unicast = refl

-- Data options are carried on as they came.
with_a_data_option : written_after (codes "hub 0200000000FF 00112233445566778899AABBCCDDEEFF 0640 05D9 256 64") (a_joins ++ b_joins ++ c_joins)
    ((
    codes "in A 01050003 02000000000B 41 0120FFFF00FF1008" ∷
    []))
    ≡ Some (lines (
    codes "A sent 2" ∷
    codes "B out 0109000302000000000A410120FFFF00FF1008" ∷
    []))
unfolding script_on_literals uuid_on_literals
with_a_data_option = refl

-- A broadcast: the reply names whom it reached, and then each gets the frame.
broadcast : written_after (codes "hub 0200000000FF 00112233445566778899AABBCCDDEEFF 0640 05D9 256 64") (a_joins ++ b_joins ++ c_joins)
    ((
    codes "in A 01040002 FFFFFFFFFFFF 0120FFFF00FF1008" ∷
    []))
    ≡ Some (lines (
    codes "A sentall to=2,3 missed=- skipped=-" ∷
    codes "B out 010C000202000000000AFFFFFFFFFFFF0120FFFF00FF1008" ∷
    codes "C out 010C000202000000000AFFFFFFFFFFFF0120FFFF00FF1008" ∷
    []))
unfolding script_on_literals uuid_on_literals
broadcast = refl

-- Nobody holds the destination; no connection holds the address of the hub itself.
no_holder : written_after (codes "hub 0200000000FF 00112233445566778899AABBCCDDEEFF 0640 05D9 256 64") (a_joins ++ b_joins ++ c_joins)
    ((
    codes "in A 01040002 02000000000D 0100" ∷
    codes "in A 01040002 0200000000FF 0100" ∷
    []))
    ≡ Some (lines (
    codes "A noholder" ∷
    codes "A noholder" ∷
    []))
unfolding script_on_literals uuid_on_literals
no_holder = refl

-- A unicast to its own sender.
to_oneself : written_after (codes "hub 0200000000FF 00112233445566778899AABBCCDDEEFF 0640 05D9 256 64") (a_joins ++ b_joins ++ c_joins)
    ((
    codes "in A 01040002 02000000000A 0100" ∷
    []))
    ≡ Some (lines (
    codes "A sent 1" ∷
    codes "A out 0108000202000000000A0100" ∷
    []))
unfolding script_on_literals uuid_on_literals
to_oneself = refl

-- A function that the hub doesn't know is carried on where it has a destination, and else refused.
unknown_function : written_after (codes "hub 0200000000FF 00112233445566778899AABBCCDDEEFF 0640 05D9 256 64") (a_joins ++ b_joins ++ c_joins)
    ((
    codes "in A 0D000009" ∷
    codes "in A 0D040009 02000000000B" ∷
    []))
    ≡ Some (lines (
    codes "A out 000000090D01000007008F" ∷
    codes "A sent 2" ∷
    codes "B out 0D08000902000000000A" ∷
    []))
unfolding script_on_literals uuid_on_literals
unknown_function = refl

-- A held name's outbox fills up; freed, its frames are written, then it is closed and leaves.
full_outbox : written_after (codes "hub 0200000000FF 00112233445566778899AABBCCDDEEFF 0640 05D9 256 2") (a_joins ++ b_joins ++ c_joins)
    ((
    codes "hold B" ∷
    codes "in A 01040002 02000000000B 0100" ∷
    codes "in A 01040003 02000000000B 0100" ∷
    codes "in A 01040004 02000000000B 0100" ∷
    codes "free B" ∷
    []))
    ≡ Some (lines (
    codes "A sent 2" ∷
    codes "A sent 2" ∷
    codes "A full 2" ∷
    codes "B out 0108000202000000000A0100" ∷
    codes "B out 0108000302000000000A0100" ∷
    codes "B close 1008 outbox full" ∷
    codes "B gone full 2" ∷
    []))
unfolding script_on_literals uuid_on_literals
full_outbox = refl

-- A broadcast that finds an outbox full reaches the others. Who missed it goes on: freed, its frames are written, and it gets the next.
missed_broadcast : written_after (codes "hub 0200000000FF 00112233445566778899AABBCCDDEEFF 0640 05D9 256 2") (a_joins ++ b_joins ++ c_joins)
    ((
    codes "hold B" ∷
    codes "in A 01040002 02000000000B 0100" ∷
    codes "in A 01040003 02000000000B 0100" ∷
    codes "in A 01040004 FFFFFFFFFFFF 0100" ∷
    codes "free B" ∷
    codes "in A 01040005 02000000000B 0100" ∷
    []))
    ≡ Some (lines (
    codes "A sent 2" ∷
    codes "A sent 2" ∷
    codes "A sentall to=3 missed=2 skipped=-" ∷
    codes "C out 010C000402000000000AFFFFFFFFFFFF0100" ∷
    codes "B out 0108000202000000000A0100" ∷
    codes "B out 0108000302000000000A0100" ∷
    codes "A sent 2" ∷
    codes "B out 0108000502000000000A0100" ∷
    []))
unfolding script_on_literals uuid_on_literals
missed_broadcast = refl

-- A held name that was replaced stays connected and isn't asked to disconnect until it is freed.
held_and_replaced : written_after (codes "hub 0200000000FF 00112233445566778899AABBCCDDEEFF 0640 05D9 256 64") (a_joins ++ b_joins ++ c_joins)
    ((
    codes "hold A" ∷
    codes "open A2" ∷
    codes "in A2 06000001 02000000000A AAAAAAAAAAAAAAAAAAAAAAAAAAAAAAAA 0640 05D9" ∷
    codes "in A 01040002 02000000000B 0100" ∷
    codes "in A 0A000007" ∷
    codes "free A" ∷
    []))
    ≡ Some (lines (
    codes "A2 joined 4 replacing 1" ∷
    codes "A2 out 070000010200000000FF00112233445566778899AABBCCDDEEFF064005D9" ∷
    codes "A notcurrent replaced" ∷
    codes "A out 0B000007" ∷
    codes "A out 08000001" ∷
    []))
unfolding script_on_literals uuid_on_literals
held_and_replaced = refl

-- At the limit of calls a sender is closed and leaves, which is never worn.
at_the_limit : written_after (codes "hub 0200000000FF 00112233445566778899AABBCCDDEEFF 0640 05D9 256 64 2") (a_joins ++ b_joins)
    ((
    codes "in A 01040002 02000000000B 0100" ∷
    codes "counts" ∷
    codes "stop" ∷
    []))
    ≡ Some (lines (
    codes "A worn" ∷
    codes "A close 1008 hub worn" ∷
    codes "A gone left 0" ∷
    codes "hub worn" ∷
    codes "hub counts joined=2 replaced=0 refused=0 unicasts=0 broadcasts=0 appended=0 dropped=0 full=0 missed=0" ∷
    codes "B out 08000001" ∷
    []))
unfolding script_on_literals uuid_on_literals
at_the_limit = refl

-- A frame that is longer than a connection takes is skipped there, and the others get it.
too_long : written_after (codes "hub 0200000000FF 00112233445566778899AABBCCDDEEFF 0640 05D9 256 64") (a_joins ++ (
    codes "open B" ∷
    codes "in B 06000001 02000000000B BBBBBBBBBBBBBBBBBBBBBBBBBBBBBBBB 0040 05D9" ∷
    codes "open C" ∷
    codes "in C 06000001 02000000000C CCCCCCCCCCCCCCCCCCCCCCCCCCCCCCCC 0640 05D9" ∷
    []))
    ((
    codes "in A 01040002 02000000000B 01010101010101010101010101010101010101010101010101010101010101010101010101010101010101010101010101010101010101" ∷
    codes "in A 01040003 FFFFFFFFFFFF 01010101010101010101010101010101010101010101010101010101010101010101010101010101010101010101010101010101010101" ∷
    codes "in A 01040004 02000000000B 010101010101010101010101010101010101010101010101010101010101010101010101010101010101010101010101010101010101" ∷
    []))
    ≡ Some (lines (
    codes "A long 2" ∷
    codes "A sentall to=3 missed=- skipped=2" ∷
    codes "C out 010C000302000000000AFFFFFFFFFFFF01010101010101010101010101010101010101010101010101010101010101010101010101010101010101010101010101010101010101" ∷
    codes "A sent 2" ∷
    codes "B out 0108000402000000000A010101010101010101010101010101010101010101010101010101010101010101010101010101010101010101010101010101010101" ∷
    []))
unfolding script_on_literals uuid_on_literals
too_long = refl
