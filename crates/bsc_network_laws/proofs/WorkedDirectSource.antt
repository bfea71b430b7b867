-- A delivery over a direct connection of a network that is written out has its source, as the theorem says it.
-- No clause needs it: worked examples.
use Rattle.std.proofs.Common.{◌≡◌, inr, Bool, true, false, cond, [], ◌∷◌, ◌++◌, Some, refl, ap}
use Rattle.std.specs.Prelude.{List, find, slice_get, unwrap_or}
use Rattle.std.specs.List.{list_any}
use Rattle.bsc_octets.specs.Functions.{is_npdu}
use Rattle.bsc_direct.specs.declared.call.SlotCall.TheVariants.{Up as SlotUp}
use Rattle.bsc_node.specs.declared.link_name.LinkName.TheVariants.{Direct}
use Rattle.bsc_node.specs.declared.node_event.NodeEvent.{NodeEvent}
use Rattle.bsc_node.specs.declared.node_event.NodeEvent.TheVariants.{Came, Send, Resolve, DirectTo}
use Rattle.bsc_node.specs.Links.{begins, peer as peer_of}
use Rattle.bsc_node.specs.Logs.{Line, came, slot, Log}
use Rattle.bsc_node.specs.Ways.{established_peer}
use Rattle.bsc_node.proofs.Following.{is_send}
use Rattle.bsc_node_identity.specs.There.{CameUpWith}
use Rattle.bsc_network.specs.declared.way.Way.TheVariants.{Up}
use Rattle.bsc_network.specs.declared.target.Target.TheVariants.{Node as ToNode}
use Rattle.bsc_network.specs.declared.world_step.WorldStep.{WorldStep}
use Rattle.bsc_network.specs.declared.world_step.WorldStep.TheVariants.{Node as OfNode}
use Rattle.bsc_network.specs.Settings.{Added, settings}
use Rattle.bsc_network.specs.Worlds.{World, Node, Link, new_node, node_at, link_at}
use Rattle.bsc_network.specs.Dialling.{new_link}
use Rattle.bsc_network.specs.Outboxes.{Frame}
use Rattle.bsc_network.specs.Networks.{world}
use Rattle.bsc_network.proofs.OnLiterals.{world_on_literals}
use Rattle.bsc_network.proofs.Scenes.{peer, primary, a, b_direct, address, at, joins, send, up, down, take, got}
use Rattle.bsc_network_laws.specs.Ends.{messages}
use Rattle.bsc_network_laws.specs.Deliveries.{IsFromItsSend}
use Rattle.std.proofs.lemmas.Option.{same_Some as some_same}

abbrev reachable : List Added
reachable = primary ∷ a ∷ b_direct ∷ []

-- A asks for B's URIs and dials B; both name themselves, and A sends to B.
abbrev steps : List WorldStep
steps =
    joins 0 0 ++ joins 1 1
    ++ OfNode 0 (Resolve (address 0x0B)) ∷ up 0 ∷ take 1 ∷ down 1 ∷ up 1 ∷ take 0 ∷ down 0 ∷ OfNode 0 (DirectTo (address 0x0B)) ∷ up 2 ∷ down 2 ∷ up 2
    ∷ down 2 ∷ send 0 (address 0x0B) 1 ∷ up 2 ∷ []

abbrev network : World
network = world reachable (at 0 steps)

abbrev the_link : Link
the_link = unwrap_or (link_at network 2) (new_link network 0 (ToNode 1))

abbrev node_a : Node
node_a = unwrap_or (node_at network 0) (new_node (record { own = peer 0x0A 0xAA; limits = settings 1 0 false }))

abbrev node_b : Node
node_b = unwrap_or (node_at network 1) (new_node (record { own = peer 0x0B 0xBB; limits = settings 1 1 true }))

abbrev nothing : Frame
nothing = record { octets = []; sent_at = 0 }

abbrev put : Frame
put = unwrap_or (slice_get (messages the_link.up) 1) nothing

-- ---- a log, split at the first line that passes a test

abbrev before_first : (Line → Bool) → Log → Log
before_first test [] = []
before_first test (m ∷ L) = cond (test m) [] (m ∷ before_first test L)

abbrev after_first : (Line → Bool) → Log → Log
after_first test [] = []
after_first test (m ∷ L) = cond (test m) L (after_first test L)

splits : (test : Line → Bool) (L : Log) (x : Line) → find test L ≡ Some x → L ≡ before_first test L ++ x ∷ after_first test L
splits test [] x h = cc
splits test (m ∷ L) x h = by (test m) h (splits test L x)
  where
    by : (b : Bool) → cond b (Some m) (find test L) ≡ Some x → (find test L ≡ Some x → L ≡ before_first test L ++ x ∷ after_first test L)
        → m ∷ L ≡ cond b [] (m ∷ before_first test L) ++ x ∷ cond b L (after_first test L)
    by true g later = ap (λ (y : Line). y ∷ L) (some_same m x g)
    by false g later = ap (λ (l : Log). m ∷ l) (later g)

-- ---- when A sent it

abbrev sends : Line → Bool
sends (came e) = is_send e.event
sends m = false

abbrev the_send : Line
the_send = came (record { now = 0; event = Send (address 0x0B) (1 ∷ 0 ∷ []) })

abbrev a_before : Log
a_before = before_first sends node_a.log

a_sends : find sends node_a.log ≡ Some the_send
unfolding world_on_literals
a_sends = refl

-- A's slot was established with B.
is_established : established_peer 0 a_before ≡ Some (peer 0x0B 0xBB)
unfolding world_on_literals
is_established = refl

-- ---- when B heard it

abbrev brings : NodeEvent → Bool
brings (Came (Direct k) o) = is_npdu o
brings e = false

abbrev hears : Line → Bool
hears (came e) = brings e.event
hears m = false

abbrev comes_up : Line → Bool
comes_up (slot (SlotUp k who)) = true
comes_up m = false

abbrev b_before : Log
b_before = before_first hears node_b.log

b_hears : find hears node_b.log ≡ Some (came (record { now = 0; event = Came (Direct 0) put.octets }))
unfolding world_on_literals
b_hears = refl

-- B's slot had come up with A, which was the peer of its link.
rises : find comes_up b_before ≡ Some (slot (SlotUp 0 (peer 0x0A 0xAA)))
unfolding world_on_literals
rises = refl

stays_up : list_any (begins (Direct 0)) (after_first comes_up b_before) ≡ false
unfolding world_on_literals
stays_up = refl

came_up : CameUpWith b_before 0 (peer 0x0A 0xAA)
came_up = record { before = before_first comes_up b_before; later = after_first comes_up b_before; is = splits comes_up b_before (slot (SlotUp 0 (peer 0x0A 0xAA))) rises; since = stays_up }

is_peer : peer_of b_before (Direct 0) ≡ Some (peer 0x0A 0xAA)
unfolding world_on_literals
is_peer = refl

-- ---- the delivery

-- It is of A's Send at its place. When A sent it, its slot was established with B; when B heard it, its slot at that link had come up
-- with A.
has_source : IsFromItsSend (at 0 steps) network (got 20 1 0x0A 1)
unfolding world_on_literals
has_source = record {
  sender = 0;
  dest = address 0x0B;
  sends = refl;
  came = inr (record {
    number = 2;
    link = the_link;
    found = refl;
    way = Up;
    put_by = refl;
    heard_by = refl;
    octets = put.octets;
    carried = (1, refl);
    from = node_a;
    to = node_b;
    at_sender = refl;
    at_receiver = refl;
    sent = record { slot = 0; held = (1, refl); before = a_before; now = 0; later = after_first sends node_a.log; log = splits sends node_a.log the_send a_sends; established = is_established };
    heard = record {
      slot = 0;
      held = (1, refl);
      before = b_before;
      now = 0;
      later = after_first hears node_b.log;
      log = splits hears node_b.log (came (record { now = 0; event = Came (Direct 0) put.octets })) b_hears;
      came_up = came_up;
      met = is_peer;
    };
    address = refl;
    unicast = refl;
    destination = refl;
  });
}
