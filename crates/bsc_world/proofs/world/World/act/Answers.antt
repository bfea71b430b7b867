use Rattle.std.proofs.Common.{OnOk, Some, None, inl, inr, sym, subst}
use Rattle.bsc_network.specs.HubSides.{forwards, unless_over}
use Rattle.bsc_port.specs.Standing.{Fits, IsReady, LeavesBy}
use Rattle.bsc_world.specs.Becoming.{BecomesBusy, HasSide}
use Rattle.bsc_world.specs.Ports.{acts}
use Rattle.bsc_world.proofs.SideCalls.{idle_goes}
use Rattle.bsc_world.proofs.SideHears.{settled_goes, settled_stands}
use Rattle.bsc_world.proofs.world.World.act.Goals as goal
use Rattle.std.proofs.lemmas.Result.{on_ok_weaker as on_ok}

pub connect-requires-clause-not_zero : goal.connect-requires-clause-not_zero
connect-requires-clause-not_zero c = (subst (Fits None c.args.m.now) c.in-Connect.is c.requires.fits).0

pub connect-requires-clause-not_broadcast : goal.connect-requires-clause-not_broadcast
connect-requires-clause-not_broadcast c = (subst (Fits None c.args.m.now) c.in-Connect.is c.requires.fits).1

pub connect-requires-clause-asked : goal.connect-requires-clause-asked
connect-requires-clause-asked c = λ kept side got is. (subst (λ a. LeavesBy a side) c.in-Connect.is (c.requires.left kept side got is)).0

pub connect-requires-clause-alone : goal.connect-requires-clause-alone
connect-requires-clause-alone c = λ kept side got is. (subst (λ a. LeavesBy a side) c.in-Connect.is (c.requires.left kept side got is)).1

pub returns-in-Connect : goal.returns-in-Connect
returns-in-Connect c = subst (λ a. OnOk c.connect.result (BecomesBusy (Some c.args.link) None
    (unless_over c.args.link (acts c.args.link c.args.place c.args.m.now a)) c.args.self.now c.connect.new.self)) (sym c.in-Connect.is) c.connect.ensures

pub forward-requires-clause-route : goal.forward-requires-clause-route
forward-requires-clause-route c = subst (Fits None c.args.m.now) c.in-Forward.is c.requires.fits

pub forward-requires-clause-some : goal.forward-requires-clause-some
forward-requires-clause-some c =
    let t = c.args.self.now in
    settled_stands t c.args.link (subst (λ a. HasSide t c.args.link (λ side. LeavesBy a side)) c.in-Forward.is c.requires.left) c.requires.some

pub returns-in-Forward : goal.returns-in-Forward
returns-in-Forward c =
    let t = c.args.self.now in
    let l = c.args.link in
    let ready : HasSide t l (λ side. IsReady side) = subst (λ a. HasSide t l (λ side. LeavesBy a side)) c.in-Forward.is c.requires.left in
    subst (λ a. OnOk c.forward.result (BecomesBusy (Some l) None (unless_over l (acts l c.args.place c.args.m.now a)) t c.forward.new.self)) (sym c.in-Forward.is)
    (on_ok c.forward.result (settled_goes t c.forward.new.self l (unless_over l (forwards l c.args.place c.args.m.now)) ready) c.forward.ensures)

pub carry_out-requires-clause-left : goal.carry_out-requires-clause-left
carry_out-requires-clause-left c = subst (λ a. HasSide c.args.self.now c.args.link (λ side. LeavesBy a side)) c.in-Does.is c.requires.left

pub returns-in-Does : goal.returns-in-Does
returns-in-Does c = subst (λ a. OnOk c.carry_out.result (BecomesBusy (Some c.args.link) None
    (unless_over c.args.link (acts c.args.link c.args.place c.args.m.now a)) c.args.self.now c.carry_out.new.self)) (sym c.in-Does.is) c.carry_out.ensures

pub close-requires : goal.close-requires
close-requires c = record { some = c.requires.some }

pub returns-in-Reject : goal.returns-in-Reject
returns-in-Reject c = subst (λ a. OnOk c.close.result (BecomesBusy (Some c.args.link) None
    (unless_over c.args.link (acts c.args.link c.args.place c.args.m.now a)) c.args.self.now c.close.new.self)) (sym c.in-Reject.is) c.close.ensures

pub returns-in-Discard : goal.returns-in-Discard
returns-in-Discard c =
    let t = c.args.self.now in
    let l = c.args.link in
    elim c.in-Discard.is [
      | inl a ↦ subst (λ x. BecomesBusy (Some l) None (unless_over l (acts l c.args.place c.args.m.now x)) t t) (sym a.1)
          (idle_goes t l (subst (λ x. HasSide t l (λ side. LeavesBy x side)) a.1 c.requires.left))
      | inr a ↦ subst (λ x. BecomesBusy (Some l) None (unless_over l (acts l c.args.place c.args.m.now x)) t t) (sym a.1)
          (idle_goes t l (subst (λ x. HasSide t l (λ side. LeavesBy x side)) a.1 c.requires.left))
    ]
