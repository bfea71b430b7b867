-- Messages for the hub itself, the clock and the stop written out: the lines, and what is written for them.
-- No clause needs it: worked examples.
use Rattle.std.specs.Prelude.{◌≡◌, ℕ, List, [], ◌∷◌, ◌++◌, codes, Some, refl}
use Rattle.uuid.proofs.OnLiterals.{uuid_on_literals}
use Rattle.bsc_script.proofs.OnLiterals.{script_on_literals}
use Rattle.bsc_script.proofs.Playing.{lines, written_after, a_joins, b_joins, c_joins}

-- A message that is longer than the hub takes is met with silence; one of the greatest length is carried on.
beyond_the_hub : written_after (codes "hub 0200000000FF 00112233445566778899AABBCCDDEEFF 0040 05D9 256 64") (a_joins ++ b_joins ++ c_joins)
    ((
    codes "in A 01040002 02000000000B 010101010101010101010101010101010101010101010101010101010101010101010101010101010101010101010101010101010101" ∷
    codes "in A 01040003 02000000000B 01010101010101010101010101010101010101010101010101010101010101010101010101010101010101010101010101010101010101" ∷
    []))
    ≡ Some (lines (
    codes "A sent 2" ∷
    codes "B out 0108000202000000000A010101010101010101010101010101010101010101010101010101010101010101010101010101010101010101010101010101010101" ∷
    codes "A silent C2" ∷
    []))
unfolding script_on_literals uuid_on_literals
beyond_the_hub = refl

-- A message that is too short is met with silence, and the connection goes on.
silence : written_after (codes "hub 0200000000FF 00112233445566778899AABBCCDDEEFF 0640 05D9 256 64") (a_joins ++ b_joins ++ c_joins)
    ((
    codes "in A 0104" ∷
    codes "in A" ∷
    codes "in A 0A000006" ∷
    []))
    ≡ Some (lines (
    codes "A silent C1" ∷
    codes "A silent C1" ∷
    codes "A out 0B000006" ∷
    []))
unfolding script_on_literals uuid_on_literals
silence = refl

-- A heartbeat is answered; one with a payload gets a NAK.
heartbeat : written_after (codes "hub 0200000000FF 00112233445566778899AABBCCDDEEFF 0640 05D9 256 64") (a_joins ++ b_joins ++ c_joins)
    ((
    codes "in A 0A000005 AA" ∷
    codes "in A 0A000006" ∷
    []))
    ≡ Some (lines (
    codes "A out 000000050A010000070096" ∷
    codes "A out 0B000006" ∷
    []))
unfolding script_on_literals uuid_on_literals
heartbeat = refl

-- A proprietary message for the hub gets a NAK; a response with announced options that are missing gets none; an NPDU without a destination is out of place.
refused_functions : written_after (codes "hub 0200000000FF 00112233445566778899AABBCCDDEEFF 0640 05D9 256 64") (a_joins ++ b_joins ++ c_joins)
    ((
    codes "in A 0C000003 0000 01" ∷
    codes "in A 0B010003" ∷
    codes "in A 01000003 0100" ∷
    []))
    ≡ Some (lines (
    codes "A out 000000030C010000070090" ∷
    codes "A silent C7" ∷
    codes "A silent C13" ∷
    []))
unfolding script_on_literals uuid_on_literals
refused_functions = refl

-- A Disconnect-Request is answered, the WebSocket is closed, and the connection leaves.
disconnect : written_after (codes "hub 0200000000FF 00112233445566778899AABBCCDDEEFF 0640 05D9 256 64") (a_joins ++ b_joins ++ c_joins)
    ((
    codes "in A 08000007" ∷
    codes "in B 01040002 02000000000A 0100" ∷
    []))
    ≡ Some (lines (
    codes "A out 09000007" ∷
    codes "A close 1000" ∷
    codes "A gone left 0" ∷
    codes "B noholder" ∷
    []))
unfolding script_on_literals uuid_on_literals
disconnect = refl

-- Before its connect a peer's message is judged in the phase that waits for one.
before_the_connect : written_after (codes "hub 0200000000FF 00112233445566778899AABBCCDDEEFF 0640 05D9 256 64") ((
    codes "open A" ∷
    []))
    ((
    codes "in A 0A000005" ∷
    codes "in A 01040002 02000000000B 0100" ∷
    []))
    ≡ Some (lines (
    codes "A silent C13" ∷
    codes "A silent C13" ∷
    []))
unfolding script_on_literals uuid_on_literals
before_the_connect = refl

-- A text message closes the WebSocket.
text : written_after (codes "hub 0200000000FF 00112233445566778899AABBCCDDEEFF 0640 05D9 256 64") (a_joins ++ b_joins ++ c_joins)
    ((
    codes "text A" ∷
    []))
    ≡ Some (lines (
    codes "A close 1003" ∷
    codes "A gone left 0" ∷
    []))
unfolding script_on_literals uuid_on_literals
text = refl

-- Where the peer closes no close line is written; a name that never joined has no line at all.
drop : written_after (codes "hub 0200000000FF 00112233445566778899AABBCCDDEEFF 0640 05D9 256 64") (a_joins ++ b_joins ++ c_joins ++ (
    codes "open D" ∷
    []))
    ((
    codes "drop A" ∷
    codes "drop D" ∷
    codes "open D" ∷
    codes "text D" ∷
    []))
    ≡ Some (lines (
    codes "A gone left 0" ∷
    codes "D close 1003" ∷
    []))
unfolding script_on_literals uuid_on_literals
drop = refl

-- A peer that doesn't connect is closed when the connect wait has passed.
connect_wait : written_after (codes "hub 0200000000FF 00112233445566778899AABBCCDDEEFF 0640 05D9 256 64") ((
    codes "open A" ∷
    []))
    ((
    codes "at 9999" ∷
    codes "at 10000" ∷
    []))
    ≡ Some (lines (
    codes "A close 1008 connect wait" ∷
    []))
unfolding script_on_literals uuid_on_literals
connect_wait = refl

-- A peer that says nothing for twice the heartbeat is closed.
idle : written_after (codes "hub 0200000000FF 00112233445566778899AABBCCDDEEFF 0640 05D9 256 64") (a_joins)
    ((
    codes "at 599999" ∷
    codes "at 600000" ∷
    []))
    ≡ Some (lines (
    codes "A close 1008 idle" ∷
    codes "A gone left 0" ∷
    []))
unfolding script_on_literals uuid_on_literals
idle = refl

-- A peer that doesn't answer the Disconnect-Request is closed when the disconnect wait has passed.
disconnect_wait : written_after (codes "hub 0200000000FF 00112233445566778899AABBCCDDEEFF 0640 05D9 256 64") (a_joins ++ (
    codes "at 5" ∷
    codes "stop" ∷
    []))
    ((
    codes "at 10004" ∷
    codes "at 10005" ∷
    []))
    ≡ Some (lines (
    codes "A close 1000" ∷
    codes "A gone stopped 0" ∷
    []))
unfolding script_on_literals uuid_on_literals
disconnect_wait = refl

-- The clock is told in the order of opening, not of joining.
ticks_in_the_order_of_opening : written_after (codes "hub 0200000000FF 00112233445566778899AABBCCDDEEFF 0640 05D9 256 64") ((
    codes "open B" ∷
    codes "open A" ∷
    codes "in A 06000001 02000000000A AAAAAAAAAAAAAAAAAAAAAAAAAAAAAAAA 0640 05D9" ∷
    codes "in B 06000001 02000000000B BBBBBBBBBBBBBBBBBBBBBBBBBBBBBBBB 0640 05D9" ∷
    []))
    ((
    codes "at 600000" ∷
    []))
    ≡ Some (lines (
    codes "B close 1008 idle" ∷
    codes "B gone left 0" ∷
    codes "A close 1008 idle" ∷
    codes "A gone left 0" ∷
    []))
unfolding script_on_literals uuid_on_literals
ticks_in_the_order_of_opening = refl

-- The hub stops: its counts, then each peer is asked to disconnect. A second stop says so, a connect is refused, and each peer leaves by its answer, a BVLC-Result or a Disconnect-ACK.
stop : written_after (codes "hub 0200000000FF 00112233445566778899AABBCCDDEEFF 0640 05D9 256 64") (a_joins ++ b_joins ++ (
    codes "in A 01040002 02000000000B 0120FFFF00FF1008" ∷
    []))
    ((
    codes "stop" ∷
    codes "stop" ∷
    codes "open D" ∷
    codes "in D 06000001 02000000000D DDDDDDDDDDDDDDDDDDDDDDDDDDDDDDDD 0640 05D9" ∷
    codes "in A 00000001 0800" ∷
    codes "in B 09000001" ∷
    []))
    ≡ Some (lines (
    codes "hub counts joined=2 replaced=0 refused=0 unicasts=1 broadcasts=0 appended=1 dropped=0 full=0 missed=0" ∷
    codes "A out 08000001" ∷
    codes "B out 08000001" ∷
    codes "hub stopped already" ∷
    codes "D stopped" ∷
    codes "D close 1001" ∷
    codes "A close 1000" ∷
    codes "A gone stopped 0" ∷
    codes "B close 1000" ∷
    codes "B gone stopped 1" ∷
    []))
unfolding script_on_literals uuid_on_literals
stop = refl
