use Rattle.std.proofs.Common.{not, ◌==◌}
use Rattle.bsc_history.specs.declared.connection.Connection.{Connection}
use Rattle.bsc_desk.specs.Orders.{precedes, address_of, device_of}
use Rattle.bsc_desk.proofs.Orders.{tests-filter}
use Rattle.bsc_desk.proofs.directory.Directory.leave.Goals as goal

pub invariant_of-self-clause-address_order : goal.invariant_of-self-clause-address_order
invariant_of-self-clause-address_order c = rw c.strike.ensures.items (tests-filter (precedes address_of)
    (λ (x : Connection). not (x.number == c.args.conn)) c.args.self.now.by_address.items c.args.self.now.address_order)

pub invariant_of-self-clause-device_order : goal.invariant_of-self-clause-device_order
invariant_of-self-clause-device_order c = rw c.strike-2.ensures.items (tests-filter (precedes device_of)
    (λ (x : Connection). not (x.number == c.args.conn)) c.args.self.now.by_device.items c.args.self.now.device_order)
