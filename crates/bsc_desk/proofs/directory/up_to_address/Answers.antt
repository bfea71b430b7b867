use Rattle.std.proofs.Common.{rules, of_calls}
use Rattle.std.proofs.lemmas.List.Sorted.{IsPartitionPoint-from_clause}
use Rattle.bsc_desk.specs.Orders.{at_most, precedes, address_of}
use Rattle.bsc_desk.proofs.Orders.{order_true}
use Rattle.bsc_desk.proofs.Sorted.{parted, point_is}
use Rattle.bsc_desk.proofs.directory.up_to_address.Goals as goal

pub returns-clause-value : goal.returns-clause-value
returns-clause-value c =
    let list = c.args.list.now in
    let order = order_true (precedes address_of) list c.requires in
    let point = IsPartitionPoint-from_clause (λ x. at_most (address_of x) c.args.v.0) list c.partition_point.result c.partition_point.ensures.partitioned
    (parted address_of c.args.v.0 list order) (λ a r f k. search (rules, of_calls)) in
    point_is address_of c.args.v.0 list c.partition_point.result c.partition_point.ensures.bound point
