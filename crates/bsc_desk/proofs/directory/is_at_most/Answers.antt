use Rattle.std.proofs.Common.{ℕ, nat_le, ap, sym, ◌∙◌}
use Rattle.bsc_desk.specs.Orders.{spelled}
use Rattle.bsc_desk.proofs.Ranks.{ordered}
use Rattle.bsc_desk.proofs.directory.is_at_most.Goals as goal

pub returns : goal.returns
returns c =
    let v = c.args.v.now.0 in
    let w = c.args.w.now.0 in
    ap (λ (n : ℕ). nat_le n c.number-2.result) c.number.ensures.value
    ∙ ap (nat_le (spelled 0 v)) c.number-2.ensures.value
    ∙ sym (ordered 0 v w (c.number.ensures.six ∙ sym c.number-2.ensures.six) c.number.ensures.octets c.number-2.ensures.octets)
