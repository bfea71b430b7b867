-- What an answer unfolds to compute this crate's definitions on a script that is written out.
-- It serves bsc_network_script_laws.
use Rattle.std.specs.Prelude.{⊤}
use Rattle.std.specs.Fmt.{digits}
use Rattle.std.specs.Str.{is_utf8, chars}
use Rattle.hex.specs.Hex.{encode_with, decode_pairs}
use lib.Utf8.{encode}
use Rattle.bsc_octets.specs.Envelopes.{envelope_of}
use Rattle.bsc_octets.specs.Forwarding.{out}
use Rattle.bsc_history.specs.Ends.{ended, joined_where}
use Rattle.bsc_history.specs.Outboxes.{looked, added_by, sent}
use Rattle.bsc_history.specs.Counting.{counts}
use Rattle.bsc_history.specs.Replies.{connect_reply, forward_reply}
use Rattle.bsc_direct.specs.Slots.{slots}
use Rattle.bsc_checks.specs.Outcomes.{outcome_of}
use Rattle.bsc_player.specs.Playing.{play}
use Rattle.bsc_network.specs.Outboxes.{frames_of}
use Rattle.bsc_network_script.specs.Lines.{line_of}

unfoldable pub simulation_on_literals : ⊤
unfolding digits is_utf8 chars encode_with decode_pairs encode envelope_of out ended joined_where looked added_by sent counts connect_reply forward_reply slots outcome_of play frames_of line_of
simulation_on_literals = tt
