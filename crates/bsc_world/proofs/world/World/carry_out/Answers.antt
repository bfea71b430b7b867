use Rattle.std.proofs.Common.{◌≡◌, Some, None, Result, Ok, Err, OnOk, sym, ◌∙◌, subst}
use Rattle.bsc_network.specs.declared.way.Way.TheVariants.{Down}
use Rattle.bsc_network.specs.declared.parcel.Content.TheVariants.{Message}
use Rattle.bsc_network.specs.Changes.{puts_now}
use Rattle.bsc_network.specs.HubSides.{unless_over}
use Rattle.bsc_port.specs.Standing.{IsReady, LeavesPort}
use Rattle.bsc_world.specs.Becoming.{BecomesBusy, HasSide, Keeps}
use Rattle.bsc_world.specs.Ports.{puts_out}
use Rattle.bsc_world.proofs.Goings.{stands_goes}
use Rattle.bsc_world.proofs.SideCalls.{idle_goes, kept_side, put_close_goes, put_step_goes}
use Rattle.bsc_world.proofs.world.World.carry_out.Goals as goal
use Rattle.std.proofs.lemmas.Result.{on_ok_weaker as on_ok}

both_ok : {X E P Q R : Type 0} (r : Result X E) → (P → Q → R) → OnOk r P → OnOk r Q → OnOk r R
both_ok (Ok x) f a b = f a b
both_ok (Err e) f a b = a

pub returns-in_ok-message-in-Send : goal.returns-in_ok-message-in-Send
returns-in_ok-message-in-Send c =
    let t = c.args.self.now in
    let u = c.put_down.new.self in
    let l = c.args.link in
    let is = c.in-Send.is in
    let same : c.in_ok-message-in-Send.message ≡ c.in-Send.octets.items = c.in_ok-message-in-Send.ensures ∙ c.as_slice.ensures.value in
    let ready : HasSide t l (λ side. IsReady side) = subst (λ o. HasSide t l (λ side. LeavesPort o side)) is c.requires.left in
    subst (λ o. OnOk c.put_down.result (BecomesBusy (Some l) None (unless_over l (puts_out l o)) t u)) (sym is)
    (both_ok c.put_down.result (λ sides goes. put_step_goes t u l (puts_now l Down (Message c.in-Send.octets.items))
    (subst (λ m. Keeps (unless_over l (puts_now l Down (Message m))) t u) same goes) (kept_side (λ side. IsReady side) t u l ready sides))
    c.put_down.ensures.sides c.put_down.ensures.goes)

pub close-requires : goal.close-requires
close-requires c =
    let l = c.args.link in
    record {
      some = stands_goes (Some l) (Some l) (unless_over l (puts_now l Down (Message c.in_ok-message-in-SendClose.message))) c.args.self.now c.put_down-in-SendClose.new.self
          (c.in_ok-put_down-in-SendClose.ensures.goes (Some l)) c.requires.some;
    }

pub returns-in_ok-put_down-in-SendClose : goal.returns-in_ok-put_down-in-SendClose
returns-in_ok-put_down-in-SendClose c =
    let t = c.args.self.now in
    let u = c.put_down-in-SendClose.new.self in
    let l = c.args.link in
    let is = c.in-SendClose.is in
    let same : c.in_ok-message-in-SendClose.message ≡ c.in-SendClose.octets.items = c.in_ok-message-in-SendClose.ensures ∙ c.as_slice-in-SendClose.ensures.value in
    let goes = subst (λ m. Keeps (unless_over l (puts_now l Down (Message m))) t u) same c.in_ok-put_down-in-SendClose.ensures.goes in
    subst (λ o. OnOk c.close.result (BecomesBusy (Some l) None (unless_over l (puts_out l o)) t c.close.new.self)) (sym is)
    (on_ok c.close.result (put_close_goes t u c.close.new.self l c.in-SendClose.octets.items goes) c.close.ensures)

pub returns-in-Close : goal.returns-in-Close
returns-in-Close c =
    let t = c.args.self.now in
    let l = c.args.link in
    subst (λ o. OnOk c.close-in-Close.result (BecomesBusy (Some l) None (unless_over l (puts_out l o)) t c.close-in-Close.new.self)) (sym c.in-Close.is) c.close-in-Close.ensures

pub returns-in-Nothing : goal.returns-in-Nothing
returns-in-Nothing c =
    let t = c.args.self.now in
    let l = c.args.link in
    subst (λ o. BecomesBusy (Some l) None (unless_over l (puts_out l o)) t t) (sym c.in-Nothing.is)
    (idle_goes t l (subst (λ o. HasSide t l (λ side. LeavesPort o side)) c.in-Nothing.is c.requires.left))

pub close-requires-in-Close : goal.close-requires-in-Close
close-requires-in-Close c = record { some = c.requires.some }
