use Rattle.bsc_node_links.proofs.Telling.{told_fresh}
use Rattle.bsc_node_links.proofs.laws.arrived_came_fresh.Goals as goal

pub returns : goal.returns
returns g c untold = told_fresh g.L.Link.talk g.A.Acceptor.fresh (g.A.Acceptor.came c.args.acceptor.now) untold (g.A.Acceptor.came_fresh c.args.acceptor.now)
