use Rattle.bsc_script.proofs.Outboxes.{emptied_by, may_ask}
use Rattle.bsc_script.proofs.script_hub.ScriptHub.is_to_empty.Goals as goal

pub has_due-due-requires : goal.has_due-due-requires
has_due-due-requires c = (let r = c.requires.some in may_ask c.args.self.now c.args.at c.args.conn r.0 r.1 r.2)

pub returns : goal.returns
returns c s k w opened =
    emptied_by c.args.self.now s c.args.at k c.args.conn c.peer_at.result.now c.has_due-due.result c.is_to_empty.result w opened c.peer_at.ensures c.has_due-due.ensures c.is_to_empty.ensures
