use Rattle.std.proofs.Common.{◌≡◌, map, take}
use Rattle.bsc_edge.specs.declared.notice.Notice.TheVariants.{Woke}
use Rattle.bsc_edge.specs.Told.{Grows, Stays}
use Rattle.bsc_session.proofs.waking.wake_each.Given as goal

abbrev pub invariant-loop-conn : goal.invariant-loop-conn
invariant-loop-conn g l = Stays (g.L.Link.talk l.fn.link) (g.L.Link.talk l.link) × (g.L.Link.faults l.link ≡ g.L.Link.faults l.fn.link)
    × Grows (g.L.Link.notices l.fn.link) (g.L.Link.notices l.link) (map Woke (take l.conn-index l.conns))
