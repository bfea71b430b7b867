-- What an answer unfolds to compute what a network does at steps that are written out.
-- It serves bsc_network_laws.
use Rattle.std.specs.Prelude.{⊤}
use Rattle.std.specs.Fmt.{digits}
use Rattle.std.specs.Str.{is_utf8, chars}
use lib.Utf8.{encode}
use Rattle.bsc_octets.specs.Envelopes.{envelope_of}
use Rattle.bsc_octets.specs.Forwarding.{out}
use Rattle.bsc_history.specs.Ends.{ended, joined_where}
use Rattle.bsc_history.specs.Outboxes.{looked, added_by, sent}
use Rattle.bsc_history.specs.Counting.{counts}
use Rattle.bsc_history.specs.Replies.{connect_reply, forward_reply}
use Rattle.bsc_direct.specs.Slots.{slots}
use Rattle.bsc_checks.specs.Outcomes.{outcome_of}
use Rattle.bsc_network.specs.Outboxes.{frames_of}

unfoldable pub world_on_literals : ⊤
unfolding digits envelope_of out ended joined_where looked added_by sent counts connect_reply forward_reply slots outcome_of is_utf8 chars encode frames_of
world_on_literals = tt
