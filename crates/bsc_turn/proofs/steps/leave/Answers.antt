use Rattle.std.proofs.Common.{rules}
use Rattle.bsc_turn.proofs.Numbering.{leaves}
use Rattle.bsc_turn.proofs.steps.leave.Goals as goal

pub store-requires : goal.store-requires
store-requires g c =
    (search rules, search rules, leaves g.S.Stands.stands g.S.Stands.about _ _ _ _ c.args.seat.now.me (search rules) (search rules) c.requires.drawn (search rules))
