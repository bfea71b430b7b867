use Rattle.std.proofs.Common.{refl, [], ◌∷◌, ◌++◌}
use Rattle.bsc_connector.specs.declared.side.Side.TheVariants.{Primary}
use Rattle.bsc_connector.specs.declared.event.ConnectorEvent.TheVariants.{Connected}
use Rattle.bsc_connector.specs.declared.event.HubEvent.{HubEvent}
use Rattle.bsc_connector.proofs.SideLemmas.{up-said}
use Rattle.bsc_connector.proofs.Beside.{stays_up}
use Rattle.bsc_connector.proofs.laws.no_failover_beside_the_primary.Goals as goal

pub returns-clause-connected : goal.returns-clause-connected
returns-clause-connected c = λ E F now quiet.
    let e : HubEvent = record { now = now; event = Connected Primary } in
    stays_up (E ++ e ∷ []) F (up-said Primary E e refl) quiet
