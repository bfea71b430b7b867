use Rattle.std.proofs.Common.{rules, ◌≡◌, subst}
use Rattle.bsc_turn.specs.Effects.{IsConsistent, after_join}
use Rattle.bsc_turn.proofs.Numbering.{confirms}
use Rattle.bsc_turn.proofs.Uniting.{joins}
use Rattle.bsc_turn.proofs.steps.join_seats.Goals as goal

pub join_seat-requires : goal.join_seat-requires
join_seat-requires g c =
    (search rules, search rules, search rules, search rules, joins g.S.Stands.stands g.S.Stands.about _ _ _ _ _ _ (search rules) (search rules) (search rules) (search rules))

pub load-made-requires : goal.load-made-requires
load-made-requires g c =
    (search rules, search rules, confirms g.S.Stands.stands g.S.Stands.about _ _ _ _ c.join_seat.new.seat.me (search rules))

pub returns-clause-consistent : goal.returns-clause-consistent
returns-clause-consistent g c =
    let e : c.join_seat.new.seat.me.0 ≡ after_join c.args.seat.now.me.0 c.args.other.me.0 = search rules in
    subst IsConsistent e c.load-made.ensures.2.1
