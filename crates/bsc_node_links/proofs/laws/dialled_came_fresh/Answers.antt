use Rattle.bsc_node_links.proofs.Telling.{told_fresh}
use Rattle.bsc_node_links.proofs.laws.dialled_came_fresh.Goals as goal

pub returns : goal.returns
returns g c untold = told_fresh g.L.Link.talk g.D.Dialer.fresh (g.D.Dialer.came c.args.dialer.now) untold (g.D.Dialer.came_fresh c.args.dialer.now)
