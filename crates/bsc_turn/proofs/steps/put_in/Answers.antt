use Rattle.std.proofs.Common.{rules}
use Rattle.bsc_turn.proofs.Keeping.{releases}
use Rattle.bsc_turn.proofs.steps.put_in.Goals as goal

pub store-requires : goal.store-requires
store-requires g c =
    (search rules, search rules, releases g.S.Stands.stands g.S.Stands.about _ _ _ _ c.exchange.new.seat.me (search rules) c.args.state (search rules) (search rules) (search rules) (search rules))
