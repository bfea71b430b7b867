use Rattle.std.proofs.Common.{rules, ◌≡◌, sym, subst}
use mathlib.Core.Option.{none}
use Rattle.atomic_table.specs.Table.{step}
use Rattle.bsc_turn.specs.Effects.{IsConsistent}
use Rattle.bsc_turn.proofs.Keeping.{counts, in_hand}
use Rattle.bsc_turn.proofs.steps.take_out.Goals as goal

pub load-made-requires : goal.load-made-requires
load-made-requires g c =
    (search rules, search rules, counts g.S.Stands.stands g.S.Stands.about _ _ _ _ c.args.seat.now.me (search rules) (search rules))

pub exchange-requires : goal.exchange-requires
exchange-requires g c =
    (search rules, in_hand g.S.Stands.stands g.S.Stands.about (step 1 1 0 0 none) c.args.seat.now.me c.load-made.new.seat.me c.load-made.result c.load-made.ensures.2)

pub returns-clause-consistent : goal.returns-clause-consistent
returns-clause-consistent g c =
    let e : c.exchange.new.seat.me.0 ≡ c.load-made.new.seat.me.0 = search rules in
    subst IsConsistent (sym e) c.load-made.ensures.2.5
