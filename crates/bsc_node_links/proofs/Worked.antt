-- The links of a node, written out: what links at its ends tell are uses that its log says, by computation.
-- No clause needs it: worked examples.
use Rattle.std.proofs.Common.{◌≡◌, ℕ, suc, Bool, true, false, if◌then◌else◌, List, [], ◌∷◌, ◌++◌, Option, Some, None, Ok, refl, replicate}
use Rattle.std.specs.Prelude.{codes, length}
use Rattle.bsc_octets.specs.Identities.{identity_of}
use Rattle.bsc_connector.specs.declared.side.Side.TheVariants.{Primary}
use Rattle.bsc_edge.specs.declared.dialled.Dialled.{Dialled}
use Rattle.bsc_edge.specs.declared.fault.LinkFault.TheVariants.{NoMemory}
use Rattle.bsc_edge.specs.declared.incoming.Incoming.TheVariants.{Closed, Message, Quiet}
use Rattle.bsc_edge.specs.declared.kind.Kind.TheVariants.{Hub as HubKind}
use Rattle.bsc_edge.specs.declared.said.Said.{Said}
use Rattle.bsc_edge.specs.declared.said.Said.TheVariants.{Gave, Put}
use Rattle.bsc_node.specs.declared.link_name.LinkName.{LinkName}
use Rattle.bsc_node.specs.declared.link_name.LinkName.TheVariants.{Hub, Direct}
use Rattle.bsc_node.specs.declared.node_event.NodeEvent.TheVariants.{Start, Opened, DialFailed, Arrived, Came, Lost, Send, Tick}
use Rattle.bsc_node.specs.declared.timed_event.TimedEvent.{TimedEvent}
use Rattle.bsc_node.specs.Conditions.{may_all_come}
use Rattle.bsc_node.specs.Links.{begins}
use Rattle.bsc_node.specs.Logs.{Line}
use Rattle.bsc_node.specs.Node.{log}
use Rattle.bsc_node.proofs.OnLiterals.{node_on_literals}
use Rattle.bsc_node_run.specs.Receiving.{link_wait}
use Rattle.bsc_node_run.specs.Worlds.{Dialling}
use Rattle.bsc_node_links.specs.Coming.{arrived_by, by_lines, dialled_by, link_by}
use Rattle.bsc_node_links.specs.Lives.{LinkLife, given_over, put_over}
use Rattle.bsc_node_links.specs.Stopped.{HasDialledFirst}
use Rattle.bsc_node_links.specs.Talks.{AreFirstOf, given_in, put_in}
use Rattle.bsc_node_links.specs.Using.{HasUse}
use Rattle.bsc_node_links.proofs.NodeWords.{at, node, own_octets}

-- the octets of the hub's identity
abbrev hub_octets : List ℕ
hub_octets = 0x02 ∷ 0x00 ∷ 0x00 ∷ 0x00 ∷ 0x00 ∷ 0x01 ∷ (replicate 16 0x01 ++ 0x06 ∷ 0x40 ∷ 0x05 ∷ 0xD9 ∷ [])

-- the node's connect, the accept that answers it, an NPDU that it sends to itself, and as that comes back
abbrev connect : ℕ → List ℕ
connect id = 0x06 ∷ 0x00 ∷ 0x00 ∷ id ∷ own_octets

abbrev accept : List ℕ
accept = 0x07 ∷ 0x00 ∷ 0x00 ∷ 0x01 ∷ hub_octets

abbrev to_itself : List ℕ
to_itself = 0x01 ∷ 0x04 ∷ 0x00 ∷ 0x02 ∷ 0x02 ∷ 0x00 ∷ 0x00 ∷ 0x00 ∷ 0x00 ∷ 0x0A ∷ 0x01 ∷ 0x00 ∷ []

abbrev back : List ℕ
back = 0x01 ∷ 0x08 ∷ 0x00 ∷ 0x02 ∷ 0x02 ∷ 0x00 ∷ 0x00 ∷ 0x00 ∷ 0x00 ∷ 0x0A ∷ 0x01 ∷ 0x00 ∷ []

-- It starts, its link opens, the hub accepts it, it sends an NPDU to itself, another link arrives, the hub passes the NPDU on to it, and
-- the link of the hub is lost. When it has waited it dials the hub again; that link is lost too, and the next dial fails.
abbrev events : List TimedEvent
events =
    at 0 Start ∷ at 0 (Opened (Hub Primary)) ∷ at 0 (Came (Hub Primary) accept) ∷ at 0 (Send (identity_of own_octets).vmac (0x01 ∷ 0x00 ∷ []))
    ∷ at 0 Arrived ∷ at 0 (Came (Hub Primary) back) ∷ at 0 (Lost (Hub Primary)) ∷ at 1000 Tick ∷ at 1000 (Opened (Hub Primary)) ∷ at 1000 (Lost (Hub Primary))
    ∷ at 5000 Tick ∷ at 5000 (DialFailed (Hub Primary)) ∷ []

they_may_come : may_all_come node events ≡ true
unfolding node_on_literals
they_may_come = refl

-- the places at which links of a name begin
places : LinkName → ℕ → List Line → List ℕ
places name n [] = []
places name n (m ∷ lines) = if begins name m then n ∷ places name (suc n) lines else places name (suc n) lines

hub_links_begin_there : places (Hub Primary) 0 (log node events) ≡ 2 ∷ 24 ∷ 34 ∷ []
unfolding node_on_literals places
hub_links_begin_there = refl

it_is_taken_there : places (Direct 0) 0 (log node events) ≡ 14 ∷ []
unfolding node_on_literals places
it_is_taken_there = refl

abbrev first : LinkLife
first = record { name = Hub Primary; began = 2 }

abbrev taken : LinkLife
taken = record { name = Direct 0; began = 14 }

abbrev second : LinkLife
second = record { name = Hub Primary; began = 24 }

abbrev third : LinkLife
third = record { name = Hub Primary; began = 34 }

-- ---- links that tell all, which had told nothing when they came

abbrev tells_all : List Said → Option (List Said)
tells_all T = Some T

-- what that of the hub told
abbrev told : List Said
told =
    Put (connect 1) None ∷ Gave link_wait (Ok (Message accept)) ∷ Put to_itself None ∷ Gave link_wait (Ok Quiet) ∷ Gave link_wait (Ok (Message back))
    ∷ Gave link_wait (Ok Closed) ∷ []

it_gave : given_in told ≡ given_over (log node events) first
unfolding node_on_literals
it_gave = refl

it_took : AreFirstOf (put_in told) (put_over (log node events) first)
unfolding node_on_literals
it_took = ([], refl)

it_is_used : HasUse tells_all (Some []) (given_over (log node events) first) (put_over (log node events) first)
it_is_used = (told, record { T = told; grows = refl; gave = it_gave; took = it_took })

-- The link that arrived said nothing, and nothing was put on it.
none_said : given_over (log node events) taken ≡ []
unfolding node_on_literals
none_said = refl

none_put : put_over (log node events) taken ≡ []
unfolding node_on_literals
none_put = refl

-- On the second of the hub its connect was put.
nothing_came : given_over (log node events) second ≡ []
unfolding node_on_literals
nothing_came = refl

it_asked : put_over (log node events) second ≡ connect 3 ∷ []
unfolding node_on_literals
it_asked = refl

-- No link came at the third dial.
none_came : HasUse tells_all None (given_over (log node events) third) (put_over (log node events) third)
unfolding node_on_literals
none_came = refl

-- ---- which links came by which lines

abbrev links : List (Option (List Said))
links = replicate 2 None ++ Some [] ∷ (replicate 11 None ++ Some [] ∷ (replicate 9 None ++ Some [] ∷ replicate 13 None))

as_long : length links ≡ length (log node events)
unfolding node_on_literals
as_long = refl

abbrev call : Bool → Dialled
call came = record { uri = codes "ws://p/"; kind = HubKind; came = came }

-- The dialer was called three times, and gave a link twice.
they_were_dialled : by_lines dialled_by (log node events) links ≡ call true ∷ call true ∷ call false ∷ []
unfolding node_on_literals
they_were_dialled = refl

two_were_made : by_lines link_by (log node events) links ≡ [] ∷ [] ∷ []
unfolding node_on_literals
two_were_made = refl

one_arrived : by_lines arrived_by (log node events) links ≡ [] ∷ []
unfolding node_on_literals
one_arrived = refl

-- ---- runs that a fault stopped

-- It starts, and its link opens.
abbrev opening : List TimedEvent
opening = at 0 Start ∷ at 0 (Opened (Hub Primary)) ∷ []

-- There was no memory for its connect: it may have gone out, or not.
abbrev without_memory : List Said
without_memory = Put (connect 1) (Some NoMemory) ∷ []

it_took_the_connect : HasUse tells_all (Some []) (given_over (log node opening) first) (put_over (log node opening) first)
unfolding node_on_literals
it_took_the_connect = (without_memory, record { T = without_memory; grows = refl; gave = refl; took = ([], refl) })

-- There was no memory for what it was told: nothing of what follows was put.
it_took_nothing : HasUse tells_all (Some []) (given_over (log node opening) first) (put_over (log node opening) first)
unfolding node_on_literals
it_took_nothing = ([], record { T = []; grows = refl; gave = refl; took = (connect 1 ∷ [], refl) })

-- what a dialer tells that was called so
abbrev dialler : List Dialled → Dialling (List Said)
dialler calls = record { calls = Some calls; left = None; came = None; faults = 0 }

-- no link for any line
abbrev no_links : List TimedEvent → List (Option (List Said))
no_links before = replicate (length (log node before)) None

-- It had no memory for its first dial, or none for its start: the log has the dial either way, and the dialer was called or not.
it_dialled : HasDialledFirst (dialler []) (dialler (call false ∷ [])) (log node (at 0 Start ∷ [])) (no_links (at 0 Start ∷ []))
unfolding node_on_literals
it_dialled = record { called = call false ∷ []; uncalled = []; parts = refl; calls = refl; left = tt; came = tt }

it_never_dialled : HasDialledFirst (dialler []) (dialler []) (log node (at 0 Start ∷ [])) (no_links (at 0 Start ∷ []))
unfolding node_on_literals
it_never_dialled = record { called = []; uncalled = call false ∷ []; parts = refl; calls = refl; left = tt; came = tt }
