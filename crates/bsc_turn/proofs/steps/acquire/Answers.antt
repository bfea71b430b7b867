use Rattle.std.proofs.Common.{rules}
use Rattle.bsc_turn.proofs.Keeping.{acquires}
use Rattle.bsc_turn.proofs.steps.acquire.Goals as goal

pub compare_exchange-requires : goal.compare_exchange-requires
compare_exchange-requires g c =
    (search rules, search rules, acquires g.S.Stands.stands g.S.Stands.about _ _ _ _ _ (search rules) (search rules))
