use Rattle.std.proofs.Common.{refl, sym}
use Rattle.bsc_accept.specs.declared.event.Event.TheVariants.{Message as Came}
use Rattle.bsc_port.specs.Actions.{machine_event}
use Rattle.bsc_network.specs.HubSides.{step_at, verdict_on}
use Rattle.bsc_world.proofs.SideCalls.{out_is}
use Rattle.bsc_world.proofs.SideHears.{acts_so}
use Rattle.bsc_world.proofs.laws.hub_sides_follow_ports.Goals as goal

pub returns-clause-messages : goal.returns-clause-messages
returns-clause-messages c h link now m =
    let v = verdict_on h link m in
    record { told = refl; follows = λ l place. sym (acts_so l place m v (step_at h link (Came now v))) }

pub returns-clause-events : goal.returns-clause-events
returns-clause-events c h link e = λ l. sym (out_is l (step_at h link (machine_event e)))
