-- What an answer unfolds to compute this crate's definitions on a literal history.
-- It serves many crates above.
use Rattle.std.specs.Prelude.{⊤}
use Rattle.bsc_octets.specs.Envelopes.{envelope_of}
use Rattle.bsc_octets.specs.Forwarding.{out}
use Rattle.bsc_history.specs.Ends.{ended, joined_where}
use Rattle.bsc_history.specs.Outboxes.{looked, added_by, sent}
use Rattle.bsc_history.specs.Counting.{counts}
use Rattle.bsc_history.specs.Replies.{connect_reply, forward_reply}

unfoldable pub history_on_literals : ⊤
unfolding envelope_of out ended joined_where looked added_by sent counts connect_reply forward_reply
history_on_literals = tt
