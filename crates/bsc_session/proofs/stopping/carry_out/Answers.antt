use Rattle.bsc_session.proofs.CarryingOut.{put_fails, put_close_fails}
use Rattle.bsc_session.proofs.stopping.carry_out.Goals as goal

pub returns-in-Err-clause-carried : goal.returns-in-Err-clause-carried
returns-in-Err-clause-carried g c = rw c.in-Put.is (put_fails (g.L.Link.talk c.args.link.now) (g.L.Link.talk c.put.new.self) c.in-Put.o c.args.why c.in-Err.fault c.stop_at.result
    (rw c.as_slice.ensures.value at c.in-Err.ensures.told) c.stop_at.ensures)

pub returns-in-Err-put-clause-carried : goal.returns-in-Err-put-clause-carried
returns-in-Err-put-clause-carried g c = rw c.in-PutClose.is (put_close_fails (g.L.Link.talk c.args.link.now)
    (g.L.Link.talk c.put-in-PutClose.new.self) c.in-PutClose.o c.in-PutClose.closing c.args.why c.in-Err-put.fault c.stop_at-in-Err-put.result
    (rw c.as_slice-in-PutClose.ensures.value at c.in-Err-put.ensures.told) c.stop_at-in-Err-put.ensures)
