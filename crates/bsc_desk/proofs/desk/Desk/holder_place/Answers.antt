use Rattle.bsc_desk.proofs.Newest.{live_at}
use Rattle.bsc_desk.proofs.desk.Desk.holder_place.Goals as goal

pub returns : goal.returns
returns c =
    let d = c.args.self.now in
    live_at d.rows.items c.as_slice.result.now d.tally.counts.joined d.directory c.args.v.0 c.newest_at.result c.live_place.result d.filed c.as_slice.ensures.value c.newest_at.ensures
    c.live_place.ensures
