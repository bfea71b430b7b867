-- One more file is good and summed up, or it ends the audit.
use Rattle.std.proofs.Common.{◌<◌, length, take, arith}
use Rattle.bsc_audit.specs.Merging.{AddsFiles}
use Rattle.bsc_audit.proofs.FileFacts.Checked.{adds_next, stops_file}
use Rattle.bsc_audit.proofs.files.checking.check_files.Goals as goal

pub returns-in-Err-clause-stops : goal.returns-in-Err-clause-stops
returns-in-Err-clause-stops g c = λ fs holds long.
    let within : c.files.file < length fs = (let less = c.files-test.true in omega (arith, less, long)) in
    let adds : AddsFiles (take c.files.file fs) c.files.sums = c.files.invariant.adds fs (c.check_file.ensures.stays fs holds) long in
    stops_file fs c.files.file c.files.sums c.in-Err.end within adds (c.in-Err.ensures.stops fs holds)

pub files-preserved : goal.files-preserved
files-preserved g c =
    let less = c.files-test.true in
    let was = c.files.invariant.later in
    let now = c.check_file.ensures.later in
    record {
      room = c.check_file.ensures.room;
      within = omega (arith, less);
      adds = λ fs holds long.
          let within : c.files.file < length fs = omega (arith, less, long) in
          let adds : AddsFiles (take c.files.file fs) c.files.sums = c.files.invariant.adds fs (c.check_file.ensures.stays fs holds) long in
          adds_next fs c.files.file c.files.sums c.check_file.new.sums within adds (λ before so. c.in_default.ensures.good fs before holds so);
      stays = λ fs holds. c.files.invariant.stays fs (c.check_file.ensures.stays fs holds);
      later = omega (arith, was, now);
    }
