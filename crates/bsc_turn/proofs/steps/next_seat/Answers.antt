use Rattle.std.proofs.Common.{rules, arith, ◌≡◌, ap}
use Rattle.bsc_turn.specs.declared.view.View.{View}
use Rattle.bsc_turn.specs.Effects.{having_loaded}
use Rattle.bsc_turn.proofs.Numbering.{numbers, draws}
use Rattle.bsc_turn.proofs.Cutting.{splits}
use Rattle.bsc_turn.proofs.steps.next_seat.Goals as goal

pub load-next-requires : goal.load-next-requires
load-next-requires g c =
    (search rules, search rules, numbers g.S.Stands.stands g.S.Stands.about _ _ _ _ c.acquire.new.seat.me (search rules) (search rules))

pub fetch_add-requires : goal.fetch_add-requires
fetch_add-requires g c =
    let e : c.load-next.new.seat.me.0 ≡ having_loaded c.load-next.result c.acquire.new.seat.me.0 = search rules in
    let loaded : c.load-next.new.seat.me.0.loaded ≡ c.load-next.result = ap (λ (v : View). v.loaded) e in
    let same : c.load-next.new.seat.me.0.callers ≡ c.acquire.new.seat.me.0.callers = ap (λ (v : View). v.callers) e in
    let limit : c.acquire.new.seat.me.0.callers ≡ c.args.callers = search rules in
    let in_range = c.load-next.ensures.2.0 in
    let other = c.if-next-callers.false in
    let bound = c.requires.bounds.0 in (
      search rules,
      search rules,
      draws g.S.Stands.stands g.S.Stands.about _ _ _ _ c.load-next.new.seat.me (search rules) (search rules) (omega (arith, loaded, same, limit, in_range, other)) (omega (arith, same, limit, bound)),
    )

pub split_seat-other-requires : goal.split_seat-other-requires
split_seat-other-requires g c =
    (search rules, search rules, splits g.S.Stands.stands g.S.Stands.about _ _ _ c.fetch_add.new.seat.me.0 (search rules) (search rules))
