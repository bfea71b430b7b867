-- The two ends of a link, and what stands on a way.
use Rattle.std.specs.Prelude.{ℕ, List, filter_map, Option, Some, None}
use Rattle.bsc_network.specs.declared.way.Way.{Way}
use Rattle.bsc_network.specs.declared.way.Way.TheVariants.{Up, Down}
use Rattle.bsc_network.specs.declared.target.Target.{Target}
use Rattle.bsc_network.specs.declared.target.Target.TheVariants.{Node as ToNode}
use Rattle.bsc_network.specs.declared.parcel.Parcel.{Parcel}
use Rattle.bsc_network.specs.declared.parcel.Content.{Content}
use Rattle.bsc_network.specs.declared.parcel.Content.TheVariants.{Message}
use Rattle.bsc_network.specs.Traffic.{Traffic}
use Rattle.bsc_network.specs.Worlds.{Link}
use Rattle.bsc_network.specs.Outboxes.{Frame}

-- What hears by a way of a link, and what puts on it.
abbrev pub receiver : Way → Link → Target
receiver Up link = link.to
receiver Down link = ToNode link.from

abbrev pub putter : Way → Link → Target
putter Up link = ToNode link.from
putter Down link = link.to

abbrev pub frame_of : ℕ → Content → Option Frame
frame_of place (Message octets) = Some (record { octets = octets; sent_at = place })
frame_of place content = None

abbrev pub message_of : Parcel → Option Frame
message_of x = frame_of x.sent_at x.content

-- The messages among all that was put on a way, each with its place.
abbrev pub messages : Traffic → List Frame
messages t = filter_map message_of t.put
