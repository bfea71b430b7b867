use Rattle.std.proofs.Common.{rules}
use Rattle.bsc_turn.proofs.Keeping.{commits}
use Rattle.bsc_turn.proofs.steps.make_entry.Goals as goal

pub fetch_add-requires : goal.fetch_add-requires
fetch_add-requires g c =
    (search rules, search rules, commits g.S.Stands.stands g.S.Stands.about _ _ _ _ c.args.seat.now.me (search rules) g.E.Makes.stamped (search rules) (search rules) c.requires.own c.requires.room)
