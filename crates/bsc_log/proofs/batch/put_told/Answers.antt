use Rattle.std.proofs.Common.{◌≡◌, ◌≤◌, [], ◌∷◌, ◌++◌, length, arith, sym, append-nil}
use Rattle.bsc_log.specs.declared.log_record.LogRecord.{LogRecord}
use Rattle.bsc_log.specs.declared.line.Line.{Line}
use Rattle.bsc_log.specs.Batches.{Says}
use Rattle.bsc_log.proofs.Batches.{said_all, said_more, text_more}
use Rattle.bsc_log.proofs.batch.put_told.Goals as goal

pub loop-one-init : goal.loop-one-init
loop-one-init c = ([], tt, sym (append-nil _))

pub loop-one-preserved : goal.loop-one-preserved
loop-one-preserved c =
    let one = c.one-item.result in
    let line = c.line.result in
    let said = c.line.ensures in
    let says : Says one line = record { stamp = said.stamp; event = said.event; link = said.link; conn = said.conn; who = said.who; received = said.received; sent = said.sent } in
    let so_far = c.loop-one.invariant in (
      so_far.0 ++ line ∷ [],
      said_more c.args.told.now c.loop-one.one-index one so_far.0 line c.loop-one-test.true c.one-item.is so_far.1 says,
      text_more _ _ _ so_far.0 line so_far.2 c.in_ok-put_line.ensures,
    )

pub returns : goal.returns
returns c =
    let past = c.loop-one-test.false in
    let end = c.loop-one.auto.one-index-end in
    let all : length c.args.told.now ≤ c.loop-one.one-index = omega arith in
    let so_far = c.loop-one.invariant in (so_far.0, said_all c.args.told.now c.loop-one.one-index so_far.0 all so_far.1, so_far.2)
