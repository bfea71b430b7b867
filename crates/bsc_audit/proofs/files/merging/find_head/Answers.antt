-- A line that is read is passed, or is that of the next entry.
use Rattle.std.proofs.Common.{refl, arith}
use Rattle.bsc_audit.specs.declared.files.head.Head.{Head}
use Rattle.bsc_audit.specs.Pieces.{GivesLine, file_at}
use Rattle.bsc_audit.proofs.FileFacts.Heading.{IsPassed, found_head, passed_more}
use Rattle.bsc_audit.proofs.files.merging.find_head.Goals as goal

pub returns-in-Some-clause-head : goal.returns-in-Some-clause-head
returns-in-Some-clause-head g c = λ fs said holds says.
    let f = file_at fs c.args.file in
    let h : Head = record { place = c.in-Some.place; file = c.args.file; at = c.lines.at } in
    let gives : GivesLine f c.lines.at c.in-Ok-Some.found.0 c.in-Ok-Some.found.1 = (rw c.in-Ok-Some.field-0-is at c.in-Ok-Some.ensures.line) fs holds in
    let passed : IsPassed f c.args.from c.lines.at = c.lines.invariant.passed fs said (c.next_line.ensures.stays fs holds) says in
    found_head fs h c.args.file c.args.from c.in-Ok-Some.found.0 c.in-Ok-Some.found.1 refl c.in-Some.ensures passed gives

pub lines-preserved : goal.lines-preserved
lines-preserved g c =
    let on = rw c.in-Ok-Some.field-0-is at c.in-Ok-Some.ensures.on in
    let was = c.lines.invariant.later in
    let now = c.next_line.ensures.later in
    record {
      room = c.next_line.ensures.room;
      reach = on.1;
      passed = λ fs said holds says.
          let f = file_at fs c.args.file in
          let gives : GivesLine f c.lines.at c.in-Ok-Some.found.0 c.in-Ok-Some.found.1 = (rw c.in-Ok-Some.field-0-is at c.in-Ok-Some.ensures.line) fs holds in
          let passed : IsPassed f c.args.from c.lines.at = c.lines.invariant.passed fs said (c.next_line.ensures.stays fs holds) says in
          passed_more f c.args.from c.lines.at c.in-Ok-Some.found.0 c.in-Ok-Some.found.1 passed gives c.in_default.ensures;
      stays = λ fs holds. c.lines.invariant.stays fs (c.next_line.ensures.stays fs holds);
      later = omega (arith, was, now);
    }
