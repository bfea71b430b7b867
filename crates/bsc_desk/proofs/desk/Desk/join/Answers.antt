use Rattle.std.proofs.Common.{refl, arith, ap, ◌∙◌, ℕ, List, find, is_some}
use Rattle.bsc_history.specs.declared.counts.Counts.{Counts}
use Rattle.bsc_history.specs.Counting.{one_if, plus}
use Rattle.bsc_desk.specs.declared.row.Row.{Row}
use Rattle.bsc_desk.specs.Live.{known_in}
use Rattle.bsc_desk.specs.Tallies.{no_counts}
use Rattle.bsc_desk.proofs.Connects.{known_joined, stands_joined}
use Rattle.bsc_desk.proofs.Filing.{as_many, filed_replaced}
use Rattle.bsc_desk.proofs.Walks.{has_number}
use Rattle.bsc_desk.proofs.desk.Desk.join.Goals as goal

pub returns-clause-stands : goal.returns-clause-stands
returns-clause-stands c S p l =
    let counted = c.add.ensures.counts ∙ ap (λ (n : ℕ). plus c.args.self.now.tally.counts (record no_counts { joined = 1; replaced = n })) (c.one_if.ensures ∙ ap one_if c.is_some.ensures) in
    stands_joined c.args.self.now _ S c.args.caller c.args.who c.args.row.conn c.args.row.replaced c.finish.new.rows.items _ p l refl refl c.add.ensures.made counted c.finish.ensures.items
    c.push_reserved.ensures.items refl c.requires.new_inlet c.requires.capacity

pub returns-clause-known : goal.returns-clause-known
returns-clause-known c k = ap (λ (rs : List Row). known_in (find (has_number k) rs)) c.push_reserved.ensures.items
    ∙ known_joined c.args.row.replaced k c.args.self.now.rows.items c.finish.new.rows.items _ c.finish.ensures.items c.requires.new_inlet.3

pub invariant_of-self-clause-filed : goal.invariant_of-self-clause-filed
invariant_of-self-clause-filed c =
    let d = c.args.self.now in
    rw c.push_reserved.ensures.items
    (filed_replaced d.rows.items c.finish.new.rows.items d.tally.counts.joined _ d.directory c.enter.new.self c.args.row.replaced _ c.requires.number c.requires.free
    c.finish.ensures.items c.enter.ensures.by_address c.enter.ensures.by_device d.filed (ap (λ (k : Counts). k.joined) c.add.ensures.counts))

pub enter-requires-clause-address_room : goal.enter-requires-clause-address_room
enter-requires-clause-address_room c =
    let d = c.args.self.now in
    let many = (as_many d.rows.items d.tally.counts.joined d.directory d.filed).0 in
    let room = c.requires.room in
    let reserved = d.address_room in
    omega (arith, d.directory.by_address.ok.0, d.rows.ok.0)

pub enter-requires-clause-device_room : goal.enter-requires-clause-device_room
enter-requires-clause-device_room c =
    let d = c.args.self.now in
    let many = (as_many d.rows.items d.tally.counts.joined d.directory d.filed).1 in
    let room = c.requires.room in
    let reserved = d.device_room in
    omega (arith, d.directory.by_device.ok.0, d.rows.ok.0)
