use Rattle.bsc_legality.proofs.Changes.{call_ends_none}
use Rattle.bsc_legality.proofs.changing.close_by_call.Goals as goal

pub returns-in_default : goal.returns-in_default
returns-in_default c = call_ends_none c.args.call.now c.args.rows.now c.in_default.not-Leave c.in_default.not-Stop
