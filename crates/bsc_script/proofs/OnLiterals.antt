-- What an answer unfolds to compute this crate's definitions on a literal script.
-- It serves many crates above.
use Rattle.std.specs.Prelude.{⊤}
use Rattle.std.specs.Fmt.{digits}
use Rattle.hex.specs.Hex.{encode_with, decode_pairs}
use Rattle.bsc_octets.specs.Envelopes.{envelope_of}
use Rattle.bsc_octets.specs.Forwarding.{out}
use Rattle.bsc_history.specs.Ends.{ended, joined_where}
use Rattle.bsc_history.specs.Outboxes.{looked, added_by, sent}
use Rattle.bsc_history.specs.Counting.{counts}
use Rattle.bsc_history.specs.Replies.{connect_reply, forward_reply}
use Rattle.bsc_checks.specs.Outcomes.{outcome_of}
use Rattle.bsc_player.specs.Playing.{play}
use Rattle.bsc_script.specs.Lines.{line_of}
use Rattle.bsc_script.specs.Running.{run_line}

unfoldable pub script_on_literals : ⊤
unfolding digits encode_with decode_pairs envelope_of out ended joined_where looked added_by sent counts connect_reply forward_reply outcome_of play line_of run_line
script_on_literals = tt
