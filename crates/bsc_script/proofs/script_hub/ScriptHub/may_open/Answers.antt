-- Whether a name may open.
use Rattle.std.proofs.Common.{sym, ap, ◌∙◌, not, ◌&&◌}
use Rattle.bsc_script.proofs.Changes.{indexed}
use Rattle.bsc_script.proofs.Opened.{may_where_closed, may_not_where_open}
use Rattle.bsc_script.proofs.script_hub.ScriptHub.may_open.Goals as goal

pub returns-then-is_none : goal.returns-then-is_none
returns-then-is_none c = λ s h. may_where_closed c.args.self.now s c.args.name.now c.place_of.result c.len.result h (c.place_of.ensures.place s.peers (indexed c.args.self.now s h))
    (c.is_none.ensures ∙ ap not c.if-is_none.true) c.len.ensures.len

pub returns-else-is_none : goal.returns-else-is_none
returns-else-is_none c = λ s h. c.if-is_none.false ∙ may_not_where_open s c.args.name.now c.place_of.result (c.place_of.ensures.place s.peers (indexed c.args.self.now s h))
    (c.is_none.ensures ∙ ap not c.if-is_none.false)
