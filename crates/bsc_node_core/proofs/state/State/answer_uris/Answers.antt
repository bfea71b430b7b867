use Rattle.std.proofs.Common.{ap, ◌∙◌, ℕ, List}
use Rattle.std.proofs.lemmas.Result.{on_ok_weaker}
use Rattle.bsc_frame.specs.declared.body.Body.TheVariants.{AddressResolutionAck}
use Rattle.bsc_node.specs.Messages.{message_octets}
use Rattle.bsc_node_core.proofs.Wants.{same-lines}
use Rattle.bsc_node_core.proofs.Receipts.{uris-lines}
use Rattle.bsc_node_core.proofs.state.State.answer_uris.Goals as goal

pub returns : goal.returns
returns c = on_ok_weaker c.put.result
    (λ g msg i d b L h.
    let oe = c.in_ok-octets.ensures ∙ ap (λ (x : List ℕ). message_octets c.args.id c.args.dest (AddressResolutionAck x)) c.in_ok-copy.ensures in
    same-lines b _ _ L _ _ (uris-lines L c.args.name msg c.args.dest c.args.id c.args.uris.now _ i d oe) (g b L h))
    c.put.ensures.goes
