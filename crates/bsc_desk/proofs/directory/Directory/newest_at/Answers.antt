use Rattle.bsc_desk.specs.Orders.{address_of}
use Rattle.bsc_desk.proofs.Sorted.{newest_is}
use Rattle.bsc_desk.proofs.directory.Directory.newest_at.Goals as goal

pub returns : goal.returns
returns c = newest_is address_of c.args.v.0 c.args.self.now.by_address.items c.as_slice-list.result.now c.up_to_address-place.result c.one_before.result c.with_address.result
    c.args.self.now.address_order c.as_slice-list.ensures.value c.up_to_address-place.ensures.value c.one_before.ensures c.with_address.ensures
