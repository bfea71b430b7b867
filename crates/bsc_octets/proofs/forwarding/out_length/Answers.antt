use Rattle.std.proofs.Common.{◌∙◌, ap, sym, cond, Bool, length, ◌+◌}
use Rattle.bsc_octets.proofs.Lengths.{out_long}
use Rattle.bsc_octets.proofs.forwarding.out_length.Goals as goal

pub returns-then-is_broadcast : goal.returns-then-is_broadcast
returns-then-is_broadcast c =
    let m = c.args.m.now in
    sym (out_long m c.args.from c.requires c.has_six.ensures ∙ ap (λ (b : Bool). cond b (length m + 6) (length m)) (sym c.is_broadcast.ensures ∙ c.if-is_broadcast.true))

pub returns-else-is_broadcast : goal.returns-else-is_broadcast
returns-else-is_broadcast c =
    let m = c.args.m.now in
    sym (out_long m c.args.from c.requires c.has_six.ensures ∙ ap (λ (b : Bool). cond b (length m + 6) (length m)) (sym c.is_broadcast.ensures ∙ c.if-is_broadcast.false))
