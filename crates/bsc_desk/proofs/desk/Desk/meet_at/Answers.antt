use Rattle.std.proofs.Common.{length, refl, ap, ◌∙◌}
use Rattle.std.proofs.lemmas.List.Quantifiers.{position-Some}
use Rattle.bsc_desk.specs.Changes.{IsSameRow}
use Rattle.bsc_desk.specs.Live.{known_in}
use Rattle.bsc_desk.proofs.Filing.{StaysFiled, filed_each}
use Rattle.bsc_desk.proofs.Leaves.{inlet_at, mark_at, outlet_fits}
use Rattle.bsc_desk.proofs.Meets.{found_other, found_set, knows_outbox, met_each, same_files, stands_met}
use Rattle.bsc_desk.proofs.Walks.{each_weaker, has_number}
use Rattle.bsc_desk.proofs.desk.Desk.meet_at.Goals as goal

pub meet-requires : goal.meet-requires
meet-requires c = mark_at c.args.self.now c.args.conn c.args.place c.index_mut-row.result.now c.requires.place c.index_mut-row.ensures.value c.args.outlet.now c.requires.mark

pub returns-clause-stands : goal.returns-clause-stands
returns-clause-stands c S p =
    let d = c.args.self.now in
    let r = c.index_mut-row.result.now in
    let place = position-Some (has_number c.args.conn) d.rows.items c.args.place r c.requires.place in
    stands_met d _ S p refl refl refl (met_each d.rows.items c.args.place r c.meet.new.self place.0 c.index_mut-row.ensures.value c.meet.ensures.same)

pub returns-clause-outlet : goal.returns-clause-outlet
returns-clause-outlet c S p = outlet_fits c.args.self.now c.args.conn c.args.place c.index_mut-row.result.now c.requires.place c.index_mut-row.ensures.value S c.args.outlet.now p c.meet.ensures.fit

pub returns-clause-known : goal.returns-clause-known
returns-clause-known c =
    ap known_in (found_set c.args.conn c.args.place c.args.self.now.rows.items c.index_mut-row.result.now c.meet.new.self c.requires.place c.index_mut-row.ensures.value c.meet.ensures.same.same)
    ∙ c.meet.ensures.met.0 ∙ ap length c.meet.ensures.outlet.1

pub returns-clause-knows : goal.returns-clause-knows
returns-clause-knows c S p =
    let d = c.args.self.now in
    let r = c.index_mut-row.result.now in
    knows_outbox d.about S c.args.conn r c.meet.new.self c.meet.new.outlet
    (inlet_at d c.args.conn c.args.place r c.requires.place c.index_mut-row.ensures.value S p) c.meet.ensures.same c.meet.ensures.met

pub returns-clause-others : goal.returns-clause-others
returns-clause-others c k other =
    found_other c.args.conn k c.args.place c.args.self.now.rows.items c.index_mut-row.result.now c.meet.new.self c.requires.place c.index_mut-row.ensures.value c.meet.ensures.same.same other

pub invariant_of-self-clause-filed : goal.invariant_of-self-clause-filed
invariant_of-self-clause-filed c =
    let d = c.args.self.now in
    let r = c.index_mut-row.result.now in
    let place = position-Some (has_number c.args.conn) d.rows.items c.args.place r c.requires.place in
    filed_each d.rows.items _ d.tally.counts.joined d.directory (each_weaker IsSameRow StaysFiled d.rows.items _ same_files
    (met_each d.rows.items c.args.place r c.meet.new.self place.0 c.index_mut-row.ensures.value c.meet.ensures.same)) d.filed
