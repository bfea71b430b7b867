use Rattle.std.proofs.Common.{◌≡◌, ◌+◌, [], ◌∷◌, ◌++◌, length, filter, drop, sym, ap, ◌∙◌, subst, arith, length-drop}
use Rattle.bsc_octets.specs.Forwarding.{out}
use Rattle.bsc_desk.specs.Fates.{HasRoom, is_offered}
use Rattle.bsc_desk.proofs.Casts.{Reach, few_at, reach_end, reach_next, rest_at}
use Rattle.bsc_desk.proofs.offering.offer_each.Goals as goal

pub offer_one-fate-requires-clause-enough : goal.offer_one-fate-requires-clause-enough
offer_one-fate-requires-clause-enough c =
    let o = out c.args.frame.now.message c.args.frame.now.sender in
    let count = rest_at (is_offered c.args.conn o) c.args.conn o c.loop-row.row-index c.args.rows.now c.loop-row.invariant.0.0 c.loop-row.rows c.row-item.result c.loop-row.invariant.0.1
    c.loop-row-test.true in
    let most = c.loop-row.invariant.2 in
    omega arith

pub offer_one-fate-requires-clause-each : goal.offer_one-fate-requires-clause-each
offer_one-fate-requires-clause-each c = c.loop-row.invariant.1

pub offer_one-fate-requires-clause-few : goal.offer_one-fate-requires-clause-few
offer_one-fate-requires-clause-few c =
    few_at c.args.conn (out c.args.frame.now.message c.args.frame.now.sender) c.loop-row.row-index c.args.rows.now c.loop-row.invariant.0.0 c.loop-row.rows c.row-item.result
    c.loop-row.invariant.0.1 c.loop-row-test.true c.requires.few

pub note-requires : goal.note-requires
note-requires c =
    let within = c.loop-row-test.true in
    let rest = length-drop c.loop-row.row-index c.args.rows.now in
    let room = c.loop-row.invariant.3 in
    let a = room.to in
    let b = room.missed in
    let d = room.skipped in
    let e = room.looks in
    record { room = record { to = omega arith; missed = omega arith; skipped = omega arith; looks = omega arith } }

pub loop-row-preserved : goal.loop-row-preserved
loop-row-preserved c =
    let o = out c.args.frame.now.message c.args.frame.now.sender in
    let fates = c.loop-row.invariant.0.0 in
    let x = c.offer_one-fate.result in
    let within = c.loop-row-test.true in
    let count = rest_at (is_offered c.args.conn o) c.args.conn o c.loop-row.row-index c.args.rows.now fates c.loop-row.rows c.row-item.result c.loop-row.invariant.0.1 c.loop-row-test.true in
    let most = c.loop-row.invariant.2 in
    let less = c.offer_one-fate.ensures.len in
    let here = length-drop c.loop-row.row-index c.args.rows.now in
    let later = length-drop (c.loop-row.row-index + 1) c.args.rows.now in
    let one : length (drop c.loop-row.row-index c.args.rows.now) ≡ length (drop (c.loop-row.row-index + 1) c.args.rows.now) + 1 = omega arith in (
      (
        fates ++ x ∷ [],
        reach_next c.args.conn o c.loop-row.row-index c.args.rows.now fates c.loop-row.rows c.row-item.result x c.offer_one-fate.new.row c.loop-row-test.true c.loop-row.invariant.0.1
            c.offer_one-fate.ensures.befalls,
        c.note.ensures.tell fates c.loop-row.invariant.0.2,
      ),
      c.offer_one-fate.ensures.each,
      omega arith,
      c.note.ensures.left (length (drop (c.loop-row.row-index + 1) c.args.rows.now)) (subst (HasRoom c.loop-row.told) one c.loop-row.invariant.3),
    )

pub returns : goal.returns
returns c =
    let o = out c.args.frame.now.message c.args.frame.now.sender in
    let past = c.loop-row-test.false in
    let end = c.loop-row.auto.row-index-end in
    let all : c.loop-row.row-index ≡ length c.args.rows.now = omega arith in
    let fates = c.loop-row.invariant.0.0 in (
      fates,
      reach_end c.args.conn o c.args.rows.now fates c.loop-row.rows (subst (λ k. Reach c.args.conn o k c.args.rows.now fates c.loop-row.rows) all c.loop-row.invariant.0.1),
      c.loop-row.invariant.0.2,
    )
