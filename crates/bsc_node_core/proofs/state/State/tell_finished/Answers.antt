use Rattle.std.proofs.Common.{sym, ◌∙◌}
use Rattle.std.proofs.lemmas.Result.{on_ok_weaker}
use Rattle.bsc_node_core.proofs.NoneThere.{finished-told, links-left, goes-on}
use Rattle.bsc_node_core.proofs.state.State.tell_finished.Goals.{else-self-via-then-self+else-none_there, else-self-via-else-self}
use Rattle.bsc_node_core.proofs.state.State.tell_finished.Goals as goal

pub returns-then-none_there : goal.returns-then-none_there
returns-then-none_there c = on_ok_weaker c.tell.result
    (λ t b L h. finished-told b c.args.out.now _ c.args.self.now L t c.if-self.true (sym c.none_there.ensures ∙ c.if-none_there.true) h)
    c.tell.ensures

pub returns-else-self : goal.returns-else-self
returns-else-self c = λ b L h.
    elim c.else-self.branch [
      | else-self-via-then-self+else-none_there w ↦ links-left b c.args.out.now c.args.self.now L (sym w.none_there.ensures ∙ w.if-none_there.false) h
      | else-self-via-else-self w ↦ goes-on b c.args.out.now c.args.self.now L w.if-self.false h
    ]
