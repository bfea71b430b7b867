use Rattle.std.proofs.Common.{◌≡◌, ℕ, List, Option, Some, ap, sym, subst, ◌∙◌}
use Rattle.bsc_past.specs.declared.past.Past.{Past}
use Rattle.tungstenite.specs.Connection.{close_step}
use Rattle.tungstenite.specs.Socket.{Socket}
use Rattle.tungstenite.specs.declared.error.Error.{Error}
use Rattle.websocket.specs.CloseCode.{close_code_of}
use Rattle.websocket.specs.declared.protocol.frame.coding.CloseCode.{CloseCode}
use Rattle.bsc_ws.specs.Sending.{Unclosed}
use Rattle.bsc_ws.proofs.Closing.{unclosed_so}
use Rattle.bsc_ws.proofs.stream_link.StreamLinkLink.close.Goals as goal

pub returns-in-Err-close-clause-unsent : goal.returns-in-Err-close-clause-unsent
returns-in-Err-close-clause-unsent g c =
    let contents = g.T.Write.contents in
    let old = c.args.self.now.socket in
    let before = c.args.self.now.unclosed.items in
    let after = c.unsent.new.self.unclosed.items in
    let k = c.in-Err-close.ensures in
    let same : Some (c.from.result, c.in-Ok.reason) ≡ Some (close_code_of c.args.code, c.args.reason.now) = λ i. Some (c.from.ensures i, c.in-Ok.ensures i) in
    subst (λ (o : Option (CloseCode × List ℕ)). Unclosed contents old c.unsent.new.self.socket (close_step old.conn o) before after c.unsent.result) same
    (subst (λ (s : Socket g.row.T.Denot). Unclosed contents old s (close_step old.conn (Some (c.from.result, c.in-Ok.reason))) before after c.unsent.result) (sym c.unsent.ensures.socket)
    (unclosed_so contents old c.close.new.self (close_step old.conn (Some (c.from.result, c.in-Ok.reason))) before after c.in-Err-close.error c.unsent.result c.unsent.ensures.fault
    k.failed k.stream_failed k.memory (ap (λ (p : Past Error). p.items) c.unsent.ensures.unclosed ∙ c.add.ensures)))
