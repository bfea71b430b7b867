-- Each entry is judged behind those before it.
use Rattle.std.proofs.Common.{List, length, ap, subst, arith}
use Rattle.std.proofs.lemmas.Bool.{iff_false}
use Rattle.bsc_audit.specs.declared.places.spot.Spot.{Spot}
use Rattle.bsc_audit.proofs.Explained.{stays, told_of_next}
use Rattle.bsc_audit.proofs.InTurn.{Judged, all_judged, illegal_next, next_judged, none_judged, one_judged}
use Rattle.bsc_audit.proofs.judging.judge_entries.Goals as goal

pub loop-spot-init : goal.loop-spot-init
loop-spot-init c = record {
  judged = λ H order. none_judged c.args.about.now c.args.octets.now c.args.spots.now c.in-Ok.legality H c.in-Ok.ensures.stands order;
  counted = omega arith;
}

pub judge_one-requires-clause-line : goal.judge_one-requires-clause-line
judge_one-requires-clause-line c =
    let H = c.requires.some.0 in
    let j = subst (λ (s : List Spot). Judged c.args.about.now c.args.octets.now s c.loop-spot.legality c.loop-spot.place H) c.in-Some.ensures (c.loop-spot.invariant.judged H c.requires.some.1) in
    let next = next_judged c.args.about.now c.args.octets.now c.in-Some.spot c.in-Some.rest.now c.loop-spot.legality c.loop-spot.place H j in
    (c.loop-spot.place, next.entry, next.is)

pub judge_one-requires-clause-some : goal.judge_one-requires-clause-some
judge_one-requires-clause-some c =
    let H = c.requires.some.0 in
    let j = subst (λ (s : List Spot). Judged c.args.about.now c.args.octets.now s c.loop-spot.legality c.loop-spot.place H) c.in-Some.ensures (c.loop-spot.invariant.judged H c.requires.some.1) in
    let next = next_judged c.args.about.now c.args.octets.now c.in-Some.spot c.in-Some.rest.now c.loop-spot.legality c.loop-spot.place H j in
    (c.args.about.now, next.done, next.stands)

pub why_illegal_at-requires-clause-line : goal.why_illegal_at-requires-clause-line
why_illegal_at-requires-clause-line c =
    let H = c.requires.some.0 in
    let j = subst (λ (s : List Spot). Judged c.args.about.now c.args.octets.now s c.loop-spot.legality c.loop-spot.place H) c.in-Some.ensures (c.loop-spot.invariant.judged H c.requires.some.1) in
    let next = next_judged c.args.about.now c.args.octets.now c.in-Some.spot c.in-Some.rest.now c.loop-spot.legality c.loop-spot.place H j in
    (c.loop-spot.place, next.entry, next.is)

pub why_illegal_at-requires-clause-some : goal.why_illegal_at-requires-clause-some
why_illegal_at-requires-clause-some c =
    let H = c.requires.some.0 in
    let j = subst (λ (s : List Spot). Judged c.args.about.now c.args.octets.now s c.loop-spot.legality c.loop-spot.place H) c.in-Some.ensures (c.loop-spot.invariant.judged H c.requires.some.1) in
    let next = next_judged c.args.about.now c.args.octets.now c.in-Some.spot c.in-Some.rest.now c.loop-spot.legality c.loop-spot.place H j in
    (c.args.about.now, next.done, stays c.loop-spot.legality c.judge_one.new.legality c.args.about.now next.done (c.in-Ok-judge_one.ensures.unchanged c.if-not-lawful.true) next.stands)

pub judge_one-requires-clause-few : goal.judge_one-requires-clause-few
judge_one-requires-clause-few c =
    let H = c.requires.some.0 in
    let j = subst (λ (s : List Spot). Judged c.args.about.now c.args.octets.now s c.loop-spot.legality c.loop-spot.place H) c.in-Some.ensures (c.loop-spot.invariant.judged H c.requires.some.1) in
    let next = next_judged c.args.about.now c.args.octets.now c.in-Some.spot c.in-Some.rest.now c.loop-spot.legality c.loop-spot.place H j in
    let stands = next.stands.count in
    let count = next.count in
    let counted = c.loop-spot.invariant.counted in
    let long = ap length c.in-Some.ensures in
    omega (arith, stands, count, counted, long, c.requires.few)

pub returns-then-not-lawful-clause-judges : goal.returns-then-not-lawful-clause-judges
returns-then-not-lawful-clause-judges c = λ H order.
    let j = subst (λ (s : List Spot). Judged c.args.about.now c.args.octets.now s c.loop-spot.legality c.loop-spot.place H) c.in-Some.ensures (c.loop-spot.invariant.judged H order) in
    let next = next_judged c.args.about.now c.args.octets.now c.in-Some.spot c.in-Some.rest.now c.loop-spot.legality c.loop-spot.place H j in
    illegal_next c.args.about.now c.args.octets.now c.in-Some.spot c.in-Some.rest.now c.loop-spot.legality c.loop-spot.place H next
    (iff_false (c.in-Ok-judge_one.ensures.legal c.args.about.now next.done c.loop-spot.place next.entry next.stands next.is) c.if-not-lawful.true)

pub returns-then-not-lawful-clause-tells : goal.returns-then-not-lawful-clause-tells
returns-then-not-lawful-clause-tells c = λ H order.
    let j = subst (λ (s : List Spot). Judged c.args.about.now c.args.octets.now s c.loop-spot.legality c.loop-spot.place H) c.in-Some.ensures (c.loop-spot.invariant.judged H order) in
    let next = next_judged c.args.about.now c.args.octets.now c.in-Some.spot c.in-Some.rest.now c.loop-spot.legality c.loop-spot.place H j in
    let stands = stays c.loop-spot.legality c.judge_one.new.legality c.args.about.now next.done (c.in-Ok-judge_one.ensures.unchanged c.if-not-lawful.true) next.stands in
    told_of_next c.args.about.now c.args.octets.now c.in-Some.spot c.in-Some.rest.now c.loop-spot.legality c.judge_one.new.legality c.loop-spot.place H next stands c.why_illegal_at.result
    c.why_illegal_at.ensures

pub loop-spot-preserved : goal.loop-spot-preserved
loop-spot-preserved c = record {
  judged = λ H order. (
      let j = subst (λ (s : List Spot). Judged c.args.about.now c.args.octets.now s c.loop-spot.legality c.loop-spot.place H) c.in-Some.ensures (c.loop-spot.invariant.judged H order) in
      let next = next_judged c.args.about.now c.args.octets.now c.in-Some.spot c.in-Some.rest.now c.loop-spot.legality c.loop-spot.place H j in
      one_judged c.args.about.now c.args.octets.now c.in-Some.spot c.in-Some.rest.now c.loop-spot.legality c.judge_one.new.legality c.loop-spot.place H next
      (c.in-Ok-judge_one.ensures.stands c.args.about.now next.done c.loop-spot.place next.entry next.stands next.is c.if-not-lawful.false));
  counted = (let counted = c.loop-spot.invariant.counted in let long = ap length c.in-Some.ensures in omega (arith, counted, long));
}

pub returns-clause-judges : goal.returns-clause-judges
returns-clause-judges c = λ H order.
    all_judged c.args.about.now c.args.octets.now c.loop-spot.legality c.loop-spot.place H
    (subst (λ (s : List Spot). Judged c.args.about.now c.args.octets.now s c.loop-spot.legality c.loop-spot.place H) c.in_default-first_spot.ensures (c.loop-spot.invariant.judged H order))
