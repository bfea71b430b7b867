use Rattle.bsc_node_run.specs.Stopping.{DoesPart}
use Rattle.bsc_node_run.specs.Worlds.{dialling, world_of}
use Rattle.bsc_node_run.proofs.Stops.{at_err}
use Rattle.bsc_node_run.proofs.performing.carry_out.Goals as goal

pub returns-in_ok-dial-in-Dial-clause-does : goal.returns-in_ok-dial-in-Dial-clause-does
returns-in_ok-dial-in-Dial-clause-does g c = rw c.in-Dial.is (rw c.as_slice.ensures at (c.in_ok-dial-in-Dial.ensures.dials (g.K.Sink.held c.args.sink.now)))

pub returns-in_ok-tell-in-Tell-clause-does : goal.returns-in_ok-tell-in-Tell-clause-does
returns-in_ok-tell-in-Tell-clause-does g c = rw c.in-Tell.is (c.in_ok-tell-in-Tell.ensures.tells (dialling g.D.Dialer.calls g.D.Dialer.left g.D.Dialer.came g.D.Dialer.faults c.args.dialer.now))

pub returns-in_err-dial-in-Dial-clause-part : goal.returns-in_err-dial-in-Dial-clause-part
returns-in_err-dial-in-Dial-clause-part g c =
    let D = g.D.Dialer in
    let K = g.K.Sink in
    let w = world_of c.args.set.now (dialling D.calls D.left D.came D.faults c.args.dialer.now) (K.held c.args.sink.now) in
    let v = world_of c.dial.new.set (dialling D.calls D.left D.came D.faults c.dial.new.dialer) (K.held c.args.sink.now) in
    at_err {P = DoesPart g.L.Link.talk c.args.action.now w v} _ (rw c.in-Dial.is (rw c.as_slice.ensures at (c.in_err-dial-in-Dial.ensures.part (K.held c.args.sink.now))))

pub returns-in_err-tell-in-Tell-clause-part : goal.returns-in_err-tell-in-Tell-clause-part
returns-in_err-tell-in-Tell-clause-part g c =
    let D = g.D.Dialer in
    let K = g.K.Sink in
    let d = dialling D.calls D.left D.came D.faults c.args.dialer.now in
    let w = world_of c.args.set.now d (K.held c.args.sink.now) in
    let v = world_of c.tell.new.set d (K.held c.tell.new.sink) in
    at_err {P = DoesPart g.L.Link.talk c.args.action.now w v} _ (rw c.in-Tell.is (c.in_err-tell-in-Tell.ensures.part d))
