-- A step is made.
use Rattle.std.proofs.Common.{refl, sym}
use Rattle.bsc_simulate.proofs.Held.{step_made}
use Rattle.bsc_simulate.proofs.simulation.Simulation.make_step.Goals as goal

pub returns-in_ok-put_done-in-Ok : goal.returns-in_ok-put_done-in-Ok
returns-in_ok-put_done-in-Ok c = λ s h.
    step_made c.args.self.now _ s c.args.step.now c.in-Ok.done c.args.text.now.items c.put_done.new.text.items h (sym c.if-not-may_try.ensures)
    c.in-Ok.ensures.answers c.step.ensures.clock c.step.ensures.made refl refl refl refl c.in_ok-put_done-in-Ok.ensures
