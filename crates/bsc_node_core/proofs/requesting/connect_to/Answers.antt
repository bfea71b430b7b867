use Rattle.std.proofs.Common.{ap, sym, ◌∙◌}
use Rattle.std.specs.Prelude.{option_copied}
use Rattle.std.proofs.lemmas.Result.{on_ok_weaker}
use Rattle.bsc_node.specs.Ways.{slot_calls, resolve_calls}
use Rattle.bsc_node_core.proofs.Connecting.{both-there, both-unlearnt, both-slots_full}
use Rattle.bsc_node_core.proofs.requesting.connect_to.Goals as goal

pub returns-in-Some : goal.returns-in-Some
returns-in-Some c = λ b L m n h.
    both-there b c.args.out.now c.args.state.now c.args.resolve.now L c.args.v c.in-Some.field-0 (sym (c.established.ensures (slot_calls L) h.state.direct) ∙ c.in-Some.is) h

pub returns-in-None-uris : goal.returns-in-None-uris
returns-in-None-uris c = on_ok_weaker c.tell.result
    (λ t b L m n h.
    both-unlearnt b c.args.out.now _ c.args.state.now c.args.resolve.now L c.args.v (sym (c.established.ensures (slot_calls L) h.state.direct) ∙ c.in-None.is)
    (sym (c.uris.ensures b.made.limits.times.connect_wait (resolve_calls L) h.resolution) ∙ ap (λ o. option_copied o) c.in-None-uris.is) t h)
    c.tell.ensures

pub returns-in-None-free : goal.returns-in-None-free
returns-in-None-free c = on_ok_weaker c.tell-in-None-free.result
    (λ t b L m n h.
    both-slots_full b c.args.out.now _ c.args.state.now c.args.resolve.now L c.args.v c.in-Some-uris.field-0.now (sym (c.established.ensures (slot_calls L) h.state.direct) ∙ c.in-None.is)
    (sym (c.uris.ensures b.made.limits.times.connect_wait (resolve_calls L) h.resolution) ∙ ap (λ o. option_copied o) c.in-Some-uris.is)
    (sym (c.free.ensures (slot_calls L) h.state.direct) ∙ c.in-None-free.is) t h)
    c.tell-in-None-free.ensures

pub returns-in-Some-free : goal.returns-in-Some-free
returns-in-Some-free c = on_ok_weaker c.dial_first.result
    (λ g b L m n h.
    g b L c.in-Some-uris.field-0.now c.in-Some-free.field-0 m n (sym (c.established.ensures (slot_calls L) h.state.direct) ∙ c.in-None.is)
    (sym (c.uris.ensures b.made.limits.times.connect_wait (resolve_calls L) h.resolution) ∙ ap (λ o. option_copied o) c.in-Some-uris.is)
    (sym (c.free.ensures (slot_calls L) h.state.direct) ∙ c.in-Some-free.is) h)
    c.dial_first.ensures
