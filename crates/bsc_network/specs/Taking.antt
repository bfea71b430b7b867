-- How the hub's side of a link takes from its outbox.
use Rattle.std.specs.Prelude.{ℕ, ◌+◌, Bool, not, ◌&&◌, [], ◌∷◌, slice_get, is_some, Option, Some, None}
use Rattle.bsc_history.specs.declared.ending.End.{End}
use Rattle.bsc_history.specs.Ends.{ended}
use Rattle.bsc_accept.specs.declared.event.Event.TheVariants.{Ended}
use Rattle.bsc_accept.specs.Past.{phase}
use Rattle.bsc_script.specs.Emptying.{is_connected, empties_after}
use Rattle.bsc_network.specs.declared.way.Way.TheVariants.{Down}
use Rattle.bsc_network.specs.declared.parcel.Content.TheVariants.{Message}
use Rattle.bsc_network.specs.Worlds.{HubSide, history}
use Rattle.bsc_network.specs.Outboxes.{Frame, frames}
use Rattle.bsc_network.specs.Changes.{Change, in_order, with_side, puts_at, with_found}
use Rattle.bsc_network.specs.HubSides.{of_side, tells}

-- The side may take: it has joined, its machine is in Connected, and its session isn't over.
abbrev pub may_take : HubSide → Bool
may_take s = is_some s.conn && is_connected (phase s.events) && not s.is_over

-- The next frame is taken, and joins the way down with its place. Where no frame is left the machine is told how the
-- connection has ended; where it hasn't, the outbox was found empty once more.
abbrev pub takes_next : ℕ → Option Frame → Option End → Change
takes_next l (Some f) ending w =
    in_order (with_side l (λ s. record s { taken = s.taken + 1 }) ∷ puts_at l Down f.sent_at (Message f.octets) ∷ []) w
takes_next l None (Some ending) w = tells l (Ended w.now ending) w
takes_next l None None w = with_side l (λ s. record s { empties = empties_after None s.empties }) w

-- The side takes once from the outbox of its connection.
abbrev pub takes : ℕ → Change
takes l = of_side l (λ j h link. with_found link.side.conn (λ c. takes_next l (slice_get (frames h c) link.side.taken) (ended (history h) c)))
