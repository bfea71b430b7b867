use Rattle.std.proofs.Common.{ap, ◌∙◌}
use Rattle.std.proofs.lemmas.Result.{on_ok_weaker}
use Rattle.bsc_frame.specs.declared.body.Body.{Body}
use Rattle.bsc_node.specs.Messages.{message_octets}
use Rattle.bsc_node_core.proofs.Wants.{same-lines}
use Rattle.bsc_node_core.proofs.Receipts.{nak-lines, no-nak}
use Rattle.bsc_node_core.proofs.state.State.answer_nak.Goals as goal

pub returns-then-for_all : goal.returns-then-for_all
returns-then-for_all c = λ msg i d f b L h. no-nak b c.args.out.now c.args.self.now L c.args.name msg (f ∙ c.if-for_all.true) h

pub returns : goal.returns
returns c = on_ok_weaker c.put.result
    (λ g msg i d f b L h.
    same-lines b _ _ L _ _ (nak-lines L c.args.name msg c.args.dest c.args.id _ i d (f ∙ c.if-for_all.false)
    (c.in_ok-octets.ensures ∙ ap (λ (x : Body). message_octets c.args.id c.args.dest x) c.nak-body.ensures)) (g b L h))
    c.put.ensures.goes
