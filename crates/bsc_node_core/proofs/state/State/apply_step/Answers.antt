use Rattle.std.proofs.Common.{◌++◌, [], ◌∷◌}
use Rattle.std.proofs.lemmas.Result.{on_ok_weaker}
use Rattle.bsc_node.specs.declared.action.Action.TheVariants.{Put}
use Rattle.bsc_node.specs.Logs.{did}
use Rattle.bsc_node_core.specs.Telling.{busy_with}
use Rattle.bsc_node_core.proofs.Obeyed.{told-by, obeyed-put, obeyed-put-closed, obeyed-closed, obeyed-met, obeyed-refused, obeyed-nothing}
use Rattle.bsc_node_core.proofs.state.State.apply_step.Goals as goal

pub returns-in-Put : goal.returns-in-Put
returns-in-Put c = on_ok_weaker c.put_made.result
    (λ g b L msg r nm u p told.
    obeyed-put b c.args.out.now _ c.args.self.now _ L c.args.name _ r.2 (told-by b c.args.out.now c.args.self.now L c.args.name c.args.origin msg c.args.step _ c.in-Put.is told) (g b L))
    c.put_made.ensures.goes

pub returns-in_ok-put_made-in-PutClose : goal.returns-in_ok-put_made-in-PutClose
returns-in_ok-put_made-in-PutClose c = on_ok_weaker c.close_link.result
    (λ g b L msg r nm u p told.
    obeyed-put-closed b c.args.out.now _ _ c.args.self.now _ _ L c.args.name c.in-PutClose.octets.items c.in-PutClose.closing
    (told-by b c.args.out.now c.args.self.now L c.args.name c.args.origin msg c.args.step _ c.in-PutClose.is told)
    (c.in_ok-put_made-in-PutClose.ensures.goes (busy_with c.args.name b) L) (g b (L ++ did (Put c.args.name c.in-PutClose.octets.items) ∷ []) r nm))
    c.close_link.ensures

pub returns-in-Close : goal.returns-in-Close
returns-in-Close c = on_ok_weaker c.close_link-in-Close.result
    (λ g b L msg r nm u p told.
    obeyed-closed b c.args.out.now _ c.args.self.now _ L c.args.name _ (told-by b c.args.out.now c.args.self.now L c.args.name c.args.origin msg c.args.step _ c.in-Close.is told) (g b L r nm))
    c.close_link-in-Close.ensures

pub returns-in-Connected : goal.returns-in-Connected
returns-in-Connected c = on_ok_weaker c.meet_peer.result
    (λ g b L msg r nm u p told.
    let t = told-by b c.args.out.now c.args.self.now L c.args.name c.args.origin msg c.args.step _ c.in-Connected.is told in
    obeyed-met b c.args.out.now _ c.args.self.now _ L c.args.name _ t (g b L r nm (u _ t.newest)))
    c.meet_peer.ensures

pub returns-in-Refused : goal.returns-in-Refused
returns-in-Refused c = on_ok_weaker c.be_refused.result
    (λ g b L msg r nm u p told.
    obeyed-refused b c.args.out.now _ c.args.self.now _ L c.args.name c.args.origin _
    (told-by b c.args.out.now c.args.self.now L c.args.name c.args.origin msg c.args.step _ c.in-Refused.is told) (g b L r nm))
    c.be_refused.ensures

pub returns-in-Up : goal.returns-in-Up
returns-in-Up c = λ b L msg r nm u p told. obeyed-nothing b c.args.out.now c.args.self.now L c.args.name c.args.origin msg c.args.step r.2 p told c.in-Up.is
