use Rattle.bsc_desk.specs.Orders.{device_of}
use Rattle.bsc_desk.proofs.Sorted.{newest_is}
use Rattle.bsc_desk.proofs.directory.Directory.newest_of.Goals as goal

pub returns : goal.returns
returns c = newest_is device_of c.args.device.now.0 c.args.self.now.by_device.items c.as_slice-list.result.now c.up_to_device-place.result c.one_before.result c.with_device.result
    c.args.self.now.device_order c.as_slice-list.ensures.value c.up_to_device-place.ensures.value c.one_before.ensures c.with_device.ensures
