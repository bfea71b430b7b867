use Rattle.std.proofs.Common.{rules, ◌≡◌, subst}
use Rattle.bsc_ring.specs.Effects.{IsConsistent, inlet_met, outlet_met}
use Rattle.bsc_ring.proofs.Notes.{notes_inlet, notes_outlet, joins_inlet, joins_outlet, confirms, agrees}
use Rattle.bsc_ring.proofs.steps.tell_each_other.Goals as goal

pub split_seat-note-requires : goal.split_seat-note-requires
split_seat-note-requires c = (search rules, search rules, notes_outlet _ _ (search rules) (search rules))

pub join_seat-requires : goal.join_seat-requires
join_seat-requires c = (search rules, search rules, search rules, search rules, joins_inlet _ _ _ _ (search rules))

pub load-requires : goal.load-requires
load-requires c = (search rules, search rules, confirms _ _ c.join_seat.new.seat.me)

pub split_seat-note-requires-2 : goal.split_seat-note-requires-2
split_seat-note-requires-2 c = (search rules, search rules, notes_inlet _ _ (search rules))

pub join_seat-requires-2 : goal.join_seat-requires-2
join_seat-requires-2 c = (search rules, search rules, search rules, search rules, joins_outlet _ _ _ _)

pub load-requires-2 : goal.load-requires-2
load-requires-2 c = (search rules, search rules, confirms _ _ c.join_seat-2.new.seat.me)

pub returns-clause-agree : goal.returns-clause-agree
returns-clause-agree c =
    let a : c.join_seat.new.seat.me.0 ≡ inlet_met c.args.inlet.now.me.0 c.args.outlet.now.me.0 = search rules in
    let b : c.join_seat-2.new.seat.me.0 ≡ outlet_met c.args.inlet.now.me.0 c.args.outlet.now.me.0 = search rules in
    agrees c.args.inlet.now.me.0 c.args.outlet.now.me.0 (search rules) (search rules) (search rules) (subst IsConsistent a c.load.ensures.2.1) (subst IsConsistent b c.load-2.ensures.2.1)
