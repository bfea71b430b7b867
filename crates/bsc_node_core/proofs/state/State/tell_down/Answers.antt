use Rattle.std.proofs.Common.{sym, ◌∙◌}
use Rattle.std.proofs.lemmas.Result.{on_ok_weaker}
use Rattle.bsc_node.specs.declared.note.Note.TheVariants.{DirectDown}
use Rattle.bsc_node.specs.Ways.{slot_calls}
use Rattle.bsc_node_core.proofs.Wants.{told-stands}
use Rattle.bsc_node_core.proofs.Claiming.{down-told, nothing-told}
use Rattle.bsc_node_core.proofs.state.State.tell_down.Goals as goal

pub returns-in-Some : goal.returns-in-Some
returns-in-Some c = on_ok_weaker c.tell.result
    (λ t b L h. told-stands b c.args.out.now _ c.args.self.now L _ (DirectDown c.in-Some.who.vmac) t
    (down-told c.args.k L c.in-Some.who (sym (c.peer.ensures (slot_calls L) h.direct) ∙ c.in-Some.is)) h)
    c.tell.ensures

pub returns-in-None : goal.returns-in-None
returns-in-None c = λ b L h. nothing-told b c.args.out.now c.args.self.now L c.args.k (sym (c.peer.ensures (slot_calls L) h.direct) ∙ c.in-None.is) h
