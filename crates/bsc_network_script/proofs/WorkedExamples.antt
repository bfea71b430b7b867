-- The scripts of networks in `examples/`, line by line, with what each writes, by computation.
-- No clause needs it: worked examples.
use Rattle.std.proofs.Common.{◌≡◌, [], ◌∷◌, codes, refl}
use Rattle.uuid.proofs.OnLiterals.{uuid_on_literals}
use Rattle.bsc_network_script.proofs.OnLiterals.{simulation_on_literals}
use Rattle.bsc_network_script.proofs.Playing.{played, writes}

-- A asks for B's URI, opens a direct connection, and both send over it.
direct : played (
    codes "# A asks for B's URI, opens a direct connection, and both send over it." ∷
    codes "hub 0200000000FF 00112233445566778899AABBCCDDEEFF 0640 05D9" ∷
    codes "node 02000000000A AAAAAAAAAAAAAAAAAAAAAAAAAAAAAAAA" ∷
    codes "node 02000000000B BBBBBBBBBBBBBBBBBBBBBBBBBBBBBBBB direct" ∷
    codes "" ∷
    codes "start 0" ∷
    codes "down 0" ∷
    codes "up 0" ∷
    codes "down 0" ∷
    codes "start 1" ∷
    codes "down 1" ∷
    codes "up 1" ∷
    codes "down 1" ∷
    codes "" ∷
    codes "# The question goes over the hub, and so does the answer." ∷
    codes "resolve 0 02000000000B" ∷
    codes "up 0" ∷
    codes "take 1" ∷
    codes "down 1" ∷
    codes "up 1" ∷
    codes "take 0" ∷
    codes "down 0" ∷
    codes "" ∷
    codes "# A dials B: link 2 leads from node to node. B is told that a peer dialled, and A that the WebSocket has opened." ∷
    codes "direct 0 02000000000B" ∷
    codes "up 2" ∷
    codes "down 2" ∷
    codes "" ∷
    codes "# A's Connect-Request, and B's Connect-Accept." ∷
    codes "up 2" ∷
    codes "down 2" ∷
    codes "" ∷
    codes "send 0 02000000000B 0100" ∷
    codes "up 2" ∷
    codes "send 1 02000000000A 0200" ∷
    codes "down 2" ∷
    [])
    ≡ writes (
    codes "link 0 0 hub 0" ∷
    codes "link 1 1 hub 0" ∷
    codes "link 2 0 node 1" ∷
    codes "1 got 20 02000000000A unicast 0100" ∷
    codes "0 got 22 02000000000B unicast 0200" ∷
    [])
unfolding simulation_on_literals uuid_on_literals
direct = refl

-- A broadcast goes to four nodes.
five_nodes : played (
    codes "# A broadcast goes to four nodes." ∷
    codes "hub 0200000000FF 00112233445566778899AABBCCDDEEFF 0640 05D9" ∷
    codes "node 02000000000A AAAAAAAAAAAAAAAAAAAAAAAAAAAAAAAA" ∷
    codes "node 02000000000B BBBBBBBBBBBBBBBBBBBBBBBBBBBBBBBB" ∷
    codes "node 02000000000C CCCCCCCCCCCCCCCCCCCCCCCCCCCCCCCC" ∷
    codes "node 02000000000D DDDDDDDDDDDDDDDDDDDDDDDDDDDDDDDD" ∷
    codes "node 02000000000E EEEEEEEEEEEEEEEEEEEEEEEEEEEEEEEE" ∷
    codes "" ∷
    codes "start 0" ∷
    codes "down 0" ∷
    codes "up 0" ∷
    codes "down 0" ∷
    codes "start 1" ∷
    codes "down 1" ∷
    codes "up 1" ∷
    codes "down 1" ∷
    codes "start 2" ∷
    codes "down 2" ∷
    codes "up 2" ∷
    codes "down 2" ∷
    codes "start 3" ∷
    codes "down 3" ∷
    codes "up 3" ∷
    codes "down 3" ∷
    codes "start 4" ∷
    codes "down 4" ∷
    codes "up 4" ∷
    codes "down 4" ∷
    codes "" ∷
    codes "# A sends to all. Each of the others has it in its outbox, and gets it when the hub takes it from there." ∷
    codes "send 0 FFFFFFFFFFFF 0100" ∷
    codes "up 0" ∷
    codes "take 1" ∷
    codes "down 1" ∷
    codes "take 2" ∷
    codes "down 2" ∷
    codes "take 3" ∷
    codes "down 3" ∷
    codes "take 4" ∷
    codes "down 4" ∷
    [])
    ≡ writes (
    codes "link 0 0 hub 0" ∷
    codes "link 1 1 hub 0" ∷
    codes "link 2 2 hub 0" ∷
    codes "link 3 3 hub 0" ∷
    codes "link 4 4 hub 0" ∷
    codes "1 got 20 02000000000A broadcast 0100" ∷
    codes "2 got 20 02000000000A broadcast 0100" ∷
    codes "3 got 20 02000000000A broadcast 0100" ∷
    codes "4 got 20 02000000000A broadcast 0100" ∷
    [])
unfolding simulation_on_literals uuid_on_literals
five_nodes = refl

-- A link is lost with what it carries.
lost_link : played (
    codes "# A link is lost with what it carries." ∷
    codes "hub 0200000000FF 00112233445566778899AABBCCDDEEFF 0640 05D9" ∷
    codes "node 02000000000A AAAAAAAAAAAAAAAAAAAAAAAAAAAAAAAA" ∷
    codes "node 02000000000B BBBBBBBBBBBBBBBBBBBBBBBBBBBBBBBB" ∷
    codes "" ∷
    codes "start 0" ∷
    codes "down 0" ∷
    codes "up 0" ∷
    codes "down 0" ∷
    codes "start 1" ∷
    codes "down 1" ∷
    codes "up 1" ∷
    codes "down 1" ∷
    codes "" ∷
    codes "# A's message is on the link to the hub when that is lost. Nothing comes to B's outbox." ∷
    codes "send 0 02000000000B 0100" ∷
    codes "lose 0" ∷
    codes "take 1" ∷
    codes "" ∷
    codes "# After two seconds A dials again, and sends once more." ∷
    codes "at 2000" ∷
    codes "tick 0" ∷
    codes "down 2" ∷
    codes "up 2" ∷
    codes "down 2" ∷
    codes "send 0 02000000000B 0200" ∷
    codes "up 2" ∷
    codes "take 1" ∷
    codes "down 1" ∷
    [])
    ≡ writes (
    codes "link 0 0 hub 0" ∷
    codes "link 1 1 hub 0" ∷
    codes "link 2 0 hub 0" ∷
    codes "1 got 15 02000000000A unicast 0200" ∷
    [])
unfolding simulation_on_literals uuid_on_literals
lost_link = refl

-- Node 2 is B once more. It joins while a frame for B is in the outbox of the old connection.
takes_over : played (
    codes "# Node 2 is B once more. It joins while a frame for B is in the outbox of the old connection." ∷
    codes "hub 0200000000FF 00112233445566778899AABBCCDDEEFF 0640 05D9" ∷
    codes "node 02000000000A AAAAAAAAAAAAAAAAAAAAAAAAAAAAAAAA" ∷
    codes "node 02000000000B BBBBBBBBBBBBBBBBBBBBBBBBBBBBBBBB" ∷
    codes "node 02000000000B BBBBBBBBBBBBBBBBBBBBBBBBBBBBBBBB" ∷
    codes "" ∷
    codes "start 0" ∷
    codes "down 0" ∷
    codes "up 0" ∷
    codes "down 0" ∷
    codes "start 1" ∷
    codes "down 1" ∷
    codes "up 1" ∷
    codes "down 1" ∷
    codes "" ∷
    codes "# What A sends enters the outbox of node 1." ∷
    codes "send 0 02000000000B 0100" ∷
    codes "up 0" ∷
    codes "" ∷
    codes "# Node 2 takes over." ∷
    codes "start 2" ∷
    codes "down 2" ∷
    codes "up 2" ∷
    codes "down 2" ∷
    codes "" ∷
    codes "# The frame is delivered where it was meant to be." ∷
    codes "take 1" ∷
    codes "down 1" ∷
    codes "" ∷
    codes "# And what A sends now, to node 2." ∷
    codes "send 0 02000000000B 0200" ∷
    codes "up 0" ∷
    codes "take 2" ∷
    codes "down 2" ∷
    [])
    ≡ writes (
    codes "link 0 0 hub 0" ∷
    codes "link 1 1 hub 0" ∷
    codes "link 2 2 hub 0" ∷
    codes "1 got 8 02000000000A unicast 0100" ∷
    codes "2 got 16 02000000000A unicast 0200" ∷
    [])
unfolding simulation_on_literals uuid_on_literals
takes_over = refl

-- Two nodes lose their primary hub, meet at the failover, and return.
two_hubs : played (
    codes "# Two nodes lose their primary hub, meet at the failover, and return." ∷
    codes "hub 0200000000FF 00112233445566778899AABBCCDDEEFF 0640 05D9" ∷
    codes "hub 0200000000FE FFEEDDCCBBAA99887766554433221100 0640 05D9" ∷
    codes "node 02000000000A AAAAAAAAAAAAAAAAAAAAAAAAAAAAAAAA" ∷
    codes "node 02000000000B BBBBBBBBBBBBBBBBBBBBBBBBBBBBBBBB" ∷
    codes "" ∷
    codes "start 0" ∷
    codes "down 0" ∷
    codes "up 0" ∷
    codes "down 0" ∷
    codes "start 1" ∷
    codes "down 1" ∷
    codes "up 1" ∷
    codes "down 1" ∷
    codes "" ∷
    codes "# Both links are lost. Each node dials the failover at once." ∷
    codes "lose 0" ∷
    codes "lose 1" ∷
    codes "down 2" ∷
    codes "up 2" ∷
    codes "down 2" ∷
    codes "down 3" ∷
    codes "up 3" ∷
    codes "down 3" ∷
    codes "" ∷
    codes "# There they meet." ∷
    codes "send 0 02000000000B 0100" ∷
    codes "up 2" ∷
    codes "take 3" ∷
    codes "down 3" ∷
    codes "" ∷
    codes "# After two seconds A dials the primary hub again. Once it is accepted it ends its link to the failover." ∷
    codes "at 2000" ∷
    codes "tick 0" ∷
    codes "down 4" ∷
    codes "up 4" ∷
    codes "down 4" ∷
    codes "up 2" ∷
    codes "" ∷
    codes "# So does B." ∷
    codes "tick 1" ∷
    codes "down 5" ∷
    codes "up 5" ∷
    codes "down 5" ∷
    codes "up 3" ∷
    codes "" ∷
    codes "send 0 02000000000B 0200" ∷
    codes "up 4" ∷
    codes "take 5" ∷
    codes "down 5" ∷
    [])
    ≡ writes (
    codes "link 0 0 hub 0" ∷
    codes "link 1 1 hub 0" ∷
    codes "link 2 0 hub 1" ∷
    codes "link 3 1 hub 1" ∷
    codes "1 got 16 02000000000A unicast 0100" ∷
    codes "link 4 0 hub 0" ∷
    codes "link 5 1 hub 0" ∷
    codes "1 got 30 02000000000A unicast 0200" ∷
    [])
unfolding simulation_on_literals uuid_on_literals
two_hubs = refl

-- Two nodes join a hub, and one sends to the other.
two_nodes : played (
    codes "# Two nodes join a hub, and one sends to the other." ∷
    codes "hub 0200000000FF 00112233445566778899AABBCCDDEEFF 0640 05D9" ∷
    codes "node 02000000000A AAAAAAAAAAAAAAAAAAAAAAAAAAAAAAAA" ∷
    codes "node 02000000000B BBBBBBBBBBBBBBBBBBBBBBBBBBBBBBBB" ∷
    codes "" ∷
    codes "# A dials the hub. The WebSocket opens, the Connect-Request goes up, and the Connect-Accept comes down." ∷
    codes "start 0" ∷
    codes "down 0" ∷
    codes "up 0" ∷
    codes "down 0" ∷
    codes "" ∷
    codes "# So does B." ∷
    codes "start 1" ∷
    codes "down 1" ∷
    codes "up 1" ∷
    codes "down 1" ∷
    codes "" ∷
    codes "# A's message goes up, and into B's outbox. The hub takes it from there, and it comes down to B." ∷
    codes "send 0 02000000000B 0100" ∷
    codes "up 0" ∷
    codes "take 1" ∷
    codes "down 1" ∷
    [])
    ≡ writes (
    codes "link 0 0 hub 0" ∷
    codes "link 1 1 hub 0" ∷
    codes "1 got 8 02000000000A unicast 0100" ∷
    [])
unfolding simulation_on_literals uuid_on_literals
two_nodes = refl
