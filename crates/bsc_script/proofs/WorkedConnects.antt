-- Connects written out: the lines, and what is written for them.
-- No clause needs it: worked examples.
use Rattle.std.specs.Prelude.{◌≡◌, ℕ, List, [], ◌∷◌, ◌++◌, codes, Some, refl}
use Rattle.uuid.proofs.OnLiterals.{uuid_on_literals}
use Rattle.bsc_script.proofs.OnLiterals.{script_on_literals}
use Rattle.bsc_script.proofs.Playing.{lines, written_after, a_joins, b_joins, c_joins}

-- A connect: the reply, then the Connect-Accept.
connect : written_after (codes "hub 0200000000FF 00112233445566778899AABBCCDDEEFF 0640 05D9 256 64") ([])
    (a_joins)
    ≡ Some (lines (
    codes "A joined 1" ∷
    codes "A out 070000010200000000FF00112233445566778899AABBCCDDEEFF064005D9" ∷
    []))
unfolding script_on_literals uuid_on_literals
connect = refl

-- An address that another device holds: the number of its holder, a NAK, and the WebSocket is closed.
held_address : written_after (codes "hub 0200000000FF 00112233445566778899AABBCCDDEEFF 0640 05D9 256 64") (a_joins ++ b_joins ++ c_joins)
    ((
    codes "open D" ∷
    codes "in D 06000001 02000000000A DDDDDDDDDDDDDDDDDDDDDDDDDDDDDDDD 0640 05D9" ∷
    []))
    ≡ Some (lines (
    codes "D duplicate 1" ∷
    codes "D out 0000000106010000070097" ∷
    codes "D close 1000" ∷
    []))
unfolding script_on_literals uuid_on_literals
held_address = refl

-- The address of the hub itself.
address_of_the_hub : written_after (codes "hub 0200000000FF 00112233445566778899AABBCCDDEEFF 0640 05D9 256 64") (a_joins ++ b_joins ++ c_joins)
    ((
    codes "open D" ∷
    codes "in D 06000001 0200000000FF DDDDDDDDDDDDDDDDDDDDDDDDDDDDDDDD 0640 05D9" ∷
    []))
    ≡ Some (lines (
    codes "D duplicate hub" ∷
    codes "D out 0000000106010000070097" ∷
    codes "D close 1000" ∷
    []))
unfolding script_on_literals uuid_on_literals
address_of_the_hub = refl

-- An address that another device holds is refused to a device that has a connection too, and neither ends.
held_address_of_a_known_device : written_after (codes "hub 0200000000FF 00112233445566778899AABBCCDDEEFF 0640 05D9 256 64") (a_joins ++ b_joins ++ c_joins)
    ((
    codes "open D" ∷
    codes "in D 06000001 02000000000B AAAAAAAAAAAAAAAAAAAAAAAAAAAAAAAA 0640 05D9" ∷
    codes "in A 01040002 02000000000B 0100" ∷
    []))
    ≡ Some (lines (
    codes "D duplicate 2" ∷
    codes "D out 0000000106010000070097" ∷
    codes "D close 1000" ∷
    codes "A sent 2" ∷
    codes "B out 0108000202000000000A0100" ∷
    []))
unfolding script_on_literals uuid_on_literals
held_address_of_a_known_device = refl

-- A takeover: the old name is asked to disconnect, the new one gets what is sent to the address, and the old one leaves by its answer.
takeover : written_after (codes "hub 0200000000FF 00112233445566778899AABBCCDDEEFF 0640 05D9 256 64") (a_joins ++ b_joins ++ c_joins)
    ((
    codes "open A2" ∷
    codes "in A2 06000001 02000000000A AAAAAAAAAAAAAAAAAAAAAAAAAAAAAAAA 0640 05D9" ∷
    codes "in B 01040003 02000000000A 0100" ∷
    codes "in A 09000001" ∷
    []))
    ≡ Some (lines (
    codes "A2 joined 4 replacing 1" ∷
    codes "A2 out 070000010200000000FF00112233445566778899AABBCCDDEEFF064005D9" ∷
    codes "A out 08000001" ∷
    codes "B sent 4" ∷
    codes "A2 out 0108000302000000000B0100" ∷
    codes "A close 1000" ∷
    codes "A gone replaced 0" ∷
    []))
unfolding script_on_literals uuid_on_literals
takeover = refl

-- A table of two rows: a third connect is refused, a takeover too, until one has left.
full_table : written_after (codes "hub 0200000000FF 00112233445566778899AABBCCDDEEFF 0640 05D9 2 64") (a_joins ++ b_joins)
    (c_joins ++ (
    codes "open A2" ∷
    codes "in A2 06000001 02000000000A AAAAAAAAAAAAAAAAAAAAAAAAAAAAAAAA 0640 05D9" ∷
    codes "in A 08000007" ∷
    codes "open C" ∷
    codes "in C 06000001 02000000000C CCCCCCCCCCCCCCCCCCCCCCCCCCCCCCCC 0640 05D9" ∷
    []))
    ≡ Some (lines (
    codes "C tablefull 2" ∷
    codes "C close 1008 table full" ∷
    codes "A2 tablefull 2" ∷
    codes "A2 close 1008 table full" ∷
    codes "A out 09000007" ∷
    codes "A close 1000" ∷
    codes "A gone left 0" ∷
    codes "C joined 3" ∷
    codes "C out 070000010200000000FF00112233445566778899AABBCCDDEEFF064005D9" ∷
    []))
unfolding script_on_literals uuid_on_literals
full_table = refl

-- A connect without its last octet gets a NAK, and the whole one joins.
short_connect : written_after (codes "hub 0200000000FF 00112233445566778899AABBCCDDEEFF 0640 05D9 256 64") ((
    codes "open A" ∷
    []))
    ((
    codes "in A 06000001 02000000000A AAAAAAAAAAAAAAAAAAAAAAAAAAAAAAAA 0640 05" ∷
    codes "in A 06000001 02000000000A AAAAAAAAAAAAAAAAAAAAAAAAAAAAAAAA 0640 05D9" ∷
    []))
    ≡ Some (lines (
    codes "A out 0000000106010000070093" ∷
    codes "A joined 1" ∷
    codes "A out 070000010200000000FF00112233445566778899AABBCCDDEEFF064005D9" ∷
    []))
unfolding script_on_literals uuid_on_literals
short_connect = refl

-- No node has the address 000000000000.
zero_address : written_after (codes "hub 0200000000FF 00112233445566778899AABBCCDDEEFF 0640 05D9 256 64") ((
    codes "open A" ∷
    []))
    ((
    codes "in A 06000001 000000000000 AAAAAAAAAAAAAAAAAAAAAAAAAAAAAAAA 0640 05D9" ∷
    []))
    ≡ Some (lines (
    codes "A out 0000000106010000070050" ∷
    []))
unfolding script_on_literals uuid_on_literals
zero_address = refl

-- At the limit of calls a third connect is worn, and its WebSocket is closed.
two_at_the_limit : written_after (codes "hub 0200000000FF 00112233445566778899AABBCCDDEEFF 0640 05D9 256 64 2") (a_joins ++ b_joins)
    (c_joins)
    ≡ Some (lines (
    codes "C worn" ∷
    codes "C close 1008 hub worn" ∷
    []))
unfolding script_on_literals uuid_on_literals
two_at_the_limit = refl
