use Rattle.std.proofs.Common.{rules}
use Rattle.bsc_edge.proofs.Removing.{gives}
use Rattle.bsc_edge.proofs.thread_spawner.give.Goals as goal

pub returns : goal.returns
returns g c =
    let e = c.remove-thread.ensures in
    gives g.J.Job.works g.T.Thread.job c.args.threads.now.items c.remove-thread.new.self.items c.args.at c.remove-thread.result c.join.result (search rules) e.value e.items c.join.ensures
