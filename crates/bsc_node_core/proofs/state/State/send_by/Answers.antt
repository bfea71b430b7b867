use Rattle.std.proofs.Common.{ap, sym, ◌∙◌, ℕ, List}
use Rattle.std.proofs.lemmas.Result.{on_ok_weaker}
use Rattle.bsc_frame.specs.declared.body.Body.TheVariants.{Npdu}
use Rattle.bsc_node.specs.Messages.{message_octets}
use Rattle.bsc_node.specs.declared.note.Note.TheVariants.{TooLong}
use Rattle.bsc_node_core.specs.Rules.{way_of}
use Rattle.bsc_node_core.specs.Tables.{Kept}
use Rattle.bsc_node_core.proofs.Wants.{told-stands, same-lines, taken-by, sends-these, sends-not}
use Rattle.bsc_node_core.proofs.state.State.send_by.Goals as goal

pub returns-then-takes_it : goal.returns-then-takes_it
returns-then-takes_it c = on_ok_weaker c.put.result
    (λ g b L h w.
    let oe = c.in_ok-octets.ensures ∙ ap (λ (x : List ℕ). message_octets c.args.self.now.next c.args.by.dest (Npdu x)) c.in_ok-copy.ensures in
    let t = taken-by b c.args.out.now c.args.self.now L c.args.v c.args.npdu.now _ c.args.by _ _ h w oe (ap (λ (k : Kept). k.peer) c.get.ensures)
    (c.takes_it.ensures c.args.npdu.now _ (sym c.len.ensures) (sym c.len-2.ensures)) in
    same-lines b _ _ L _ _ (sends-these b c.args.out.now c.args.self.now L c.args.v c.args.npdu.now _ c.args.by h w oe (t ∙ c.if-takes_it.true)) (g b L h))
    c.put.ensures.goes

pub returns-else-takes_it : goal.returns-else-takes_it
returns-else-takes_it c = on_ok_weaker c.tell.result
    (λ t b L h w.
    let oe = c.in_ok-octets.ensures ∙ ap (λ (x : List ℕ). message_octets c.args.self.now.next c.args.by.dest (Npdu x)) c.in_ok-copy.ensures in
    let r = taken-by b c.args.out.now c.args.self.now L c.args.v c.args.npdu.now _ c.args.by _ _ h w oe (ap (λ (k : Kept). k.peer) c.get.ensures)
    (c.takes_it.ensures c.args.npdu.now _ (sym c.len.ensures) (sym c.len-2.ensures)) in
    told-stands b c.args.out.now _ c.args.self.now L _ (TooLong c.args.v) t (sends-not c.args.v c.args.npdu.now L (way_of c.args.by) w (r ∙ c.if-takes_it.false)) h)
    c.tell.ensures
