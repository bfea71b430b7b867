-- What the desk's rows make of a connect.
use Rattle.std.specs.Prelude.{ℕ, Bool, if◌then◌else◌, Option, Some, None, ⊤}
use Rattle.bsc_history.specs.declared.reply.Refusal.TheVariants.{Stopped as RefusedStopped, Duplicate, TableFull}
use Rattle.bsc_history.specs.declared.reply.Reply.{Reply}
use Rattle.bsc_history.specs.declared.reply.Reply.TheVariants.{Joined as JoinedReply, Refused as RefusedReply}
use Rattle.bsc_history.specs.Replies.{refused_as_held}
use Rattle.bsc_desk.specs.declared.connecting.NewRow.{NewRow}
use Rattle.bsc_desk.specs.declared.connecting.Choice.{Choice}
use Rattle.bsc_desk.specs.declared.connecting.Choice.TheVariants.{Refused, Joined}

-- the reply that a choice stands for
abbrev pub choice_reply : Choice → Reply
choice_reply (Refused refusal) = RefusedReply refusal
choice_reply (Joined row) = JoinedReply row.conn row.replaced

-- where the choice is to join, a fact of the row
abbrev pub IfJoined : Choice → (NewRow → Type 0) → Type 0
IfJoined (Refused refusal) P = ⊤
IfJoined (Joined row) P = P row

-- the first case that holds
abbrev pub first_reply : Bool → Bool → Option ℕ → Bool → ℕ → Reply → Reply
first_reply stopped is_hub rival is_full rows otherwise =
    if stopped then RefusedReply RefusedStopped
    else if is_hub then RefusedReply (Duplicate None)
    else refused_as_held rival (if is_full then RefusedReply (TableFull rows) else otherwise)
