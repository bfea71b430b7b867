use Rattle.bsc_legality.proofs.Changes.{reply_ends_none}
use Rattle.bsc_legality.proofs.changing.close_by_reply.Goals as goal

pub returns-in_default : goal.returns-in_default
returns-in_default c = reply_ends_none c.args.reply.now c.args.rows.now c.in_default.not-Joined c.in_default.not-Closed
