use Rattle.std.proofs.Common.{◌≡◌, Bool, true, false, List, [], ◌∷◌, refl, ap, sym, ◌∙◌}
use Rattle.bsc_connector.specs.declared.side.Side.TheVariants.{Primary}
use Rattle.bsc_connector.specs.declared.event.ConnectorEvent.TheVariants.{Start, Failed}
use Rattle.bsc_connector.specs.declared.event.HubEvent.{HubEvent}
use Rattle.bsc_connector.specs.declared.waits.Waits.{Waits}
use Rattle.bsc_connector.specs.Steps.{connector_step}
use Rattle.bsc_connector.proofs.Following.{under_way_by_events}
use Rattle.test_machines.proofs.connector.start_badly.Goals as goal

abbrev waits : Bool → Waits
waits failover = record { failover = failover; least = 2000; greatest = 30000 }

abbrev started : List HubEvent
started = record { now = 0; event = Start } ∷ []

pub event-requires-clause-order : goal.event-requires-clause-order
event-requires-clause-order c =
    sym (under_way_by_events c.event-start.new.self (waits c.args.failover) started Primary (c.event-start.ensures.step (waits c.args.failover) [] c.make-connector.ensures).1)

-- the failover is dialled where there is one
dialled : (failover : Bool) → (connector_step (waits failover) started (record { now = 100; event = Failed Primary })).dial_failover ≡ failover
dialled true = refl
dialled false = refl

pub returns : goal.returns
returns c =
    let stands = (c.event-start.ensures.step (waits c.args.failover) [] c.make-connector.ensures).1 in
    ap (λ step. step.dial_failover) (c.event.ensures.step (waits c.args.failover) started stands).0 ∙ dialled c.args.failover
