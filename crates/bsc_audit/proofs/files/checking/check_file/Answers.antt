-- A line that is read is good, and its place no less, or it ends the audit.
use Rattle.std.proofs.Common.{refl, arith}
use Rattle.bsc_audit.specs.Pieces.{GivesLine, file_at}
use Rattle.bsc_audit.proofs.FileFacts.Checked.{ChecksTo, checked_falls, checks_more}
use Rattle.bsc_audit.proofs.files.checking.check_file.Goals as goal

pub returns-in_default-clause-stops : goal.returns-in_default-clause-stops
returns-in_default-clause-stops g c = λ fs holds.
    let f = file_at fs c.args.file in
    let so : ChecksTo f c.lines.at c.lines.line c.lines.last c.args.sums.now c.lines.sums = c.lines.invariant.checks fs (c.next_line.ensures.stays fs holds) in
    let gives : GivesLine f c.lines.at c.in-Ok-Some.found.0 c.in-Ok-Some.found.1 = (rw c.in-Ok-Some.field-0-is at c.in-Ok-Some.ensures.line) fs holds in
    (refl, checked_falls f c.lines.at c.lines.line c.lines.last so.said c.in-Ok-Some.found.0 c.in-Ok-Some.found.1 so.has gives c.in_default.ensures)

pub lines-preserved-in-Some : goal.lines-preserved-in-Some
lines-preserved-in-Some g c =
    let on = rw c.in-Ok-Some.field-0-is at c.in-Ok-Some.ensures.on in
    let before = on.0 in
    let few = c.lines.invariant.few in
    let was = c.lines.invariant.later in
    let now = c.next_line.ensures.later in
    record {
      room = c.next_line.ensures.room;
      reach = on.1;
      few = omega (arith, few, before);
      checks = λ fs holds.
          let f = file_at fs c.args.file in
          let so : ChecksTo f c.lines.at c.lines.line c.lines.last c.args.sums.now c.lines.sums = c.lines.invariant.checks fs (c.next_line.ensures.stays fs holds) in
          let gives : GivesLine f c.lines.at c.in-Ok-Some.found.0 c.in-Ok-Some.found.1 = (rw c.in-Ok-Some.field-0-is at c.in-Ok-Some.ensures.line) fs holds in
          checks_more f c.lines.at c.lines.line c.lines.last c.args.sums.now c.lines.sums c.sum_up.new.sums c.in-Ok-Some.found.0 c.in-Ok-Some.found.1 c.in-Some.greatest
          so gives c.in-Some.ensures c.sum_up.ensures;
      stays = λ fs holds. c.lines.invariant.stays fs (c.next_line.ensures.stays fs holds);
      later = omega (arith, was, now);
    }

pub lines-preserved-in-Some-2 : goal.lines-preserved-in-Some-2
lines-preserved-in-Some-2 g c =
    let on = rw c.in-Ok-Some.field-0-is at c.in-Ok-Some.ensures.on in
    let before = on.0 in
    let few = c.lines.invariant.few in
    let was = c.lines.invariant.later in
    let now = c.next_line.ensures.later in
    record {
      room = c.next_line.ensures.room;
      reach = on.1;
      few = omega (arith, few, before);
      checks = λ fs holds.
          let f = file_at fs c.args.file in
          let so : ChecksTo f c.lines.at c.lines.line c.lines.last c.args.sums.now c.lines.sums = c.lines.invariant.checks fs (c.next_line.ensures.stays fs holds) in
          let gives : GivesLine f c.lines.at c.in-Ok-Some.found.0 c.in-Ok-Some.found.1 = (rw c.in-Ok-Some.field-0-is at c.in-Ok-Some.ensures.line) fs holds in
          checks_more f c.lines.at c.lines.line c.lines.last c.args.sums.now c.lines.sums c.sum_up.new.sums c.in-Ok-Some.found.0 c.in-Ok-Some.found.1 c.in-Some.greatest
          so gives c.in-Some.ensures c.sum_up.ensures;
      stays = λ fs holds. c.lines.invariant.stays fs (c.next_line.ensures.stays fs holds);
      later = omega (arith, was, now);
    }

pub lines-preserved : goal.lines-preserved
lines-preserved g c =
    let on = rw c.in-Ok-Some.field-0-is at c.in-Ok-Some.ensures.on in
    let before = on.0 in
    let few = c.lines.invariant.few in
    let was = c.lines.invariant.later in
    let now = c.next_line.ensures.later in
    record {
      room = c.next_line.ensures.room;
      reach = on.1;
      few = omega (arith, few, before);
      checks = λ fs holds.
          let f = file_at fs c.args.file in
          let so : ChecksTo f c.lines.at c.lines.line c.lines.last c.args.sums.now c.lines.sums = c.lines.invariant.checks fs (c.next_line.ensures.stays fs holds) in
          let gives : GivesLine f c.lines.at c.in-Ok-Some.found.0 c.in-Ok-Some.found.1 = (rw c.in-Ok-Some.field-0-is at c.in-Ok-Some.ensures.line) fs holds in
          checks_more f c.lines.at c.lines.line c.lines.last c.args.sums.now c.lines.sums c.sum_up.new.sums c.in-Ok-Some.found.0 c.in-Ok-Some.found.1 c.in-Some.greatest
          so gives c.in-Some.ensures c.sum_up.ensures;
      stays = λ fs holds. c.lines.invariant.stays fs (c.next_line.ensures.stays fs holds);
      later = omega (arith, was, now);
    }
