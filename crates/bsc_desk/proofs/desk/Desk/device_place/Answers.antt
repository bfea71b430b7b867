use Rattle.bsc_desk.proofs.Newest.{live_of}
use Rattle.bsc_desk.proofs.desk.Desk.device_place.Goals as goal

pub returns : goal.returns
returns c =
    let d = c.args.self.now in
    live_of d.rows.items c.as_slice.result.now d.tally.counts.joined d.directory c.args.device.now.0 c.newest_of.result c.live_place.result d.filed c.as_slice.ensures.value
    c.newest_of.ensures c.live_place.ensures
