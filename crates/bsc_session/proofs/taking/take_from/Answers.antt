use Rattle.std.proofs.Common.{option_map}
use Rattle.bsc_session.proofs.Opening.{takes_from}
use Rattle.bsc_session.proofs.taking.take_from.Goals as goal

pub returns-clause-took : goal.returns-clause-took
returns-clause-took g c = rw c.in-Some.is (takes_from (option_map (λ p. p.now) c.args.policy) c.in-Some.member c.take_frames.new.outlet (g.L.Link.talk c.args.link.now)
    (g.L.Link.talk c.take_frames.new.link) (g.J.Journal.held c.args.journal.now) (g.J.Journal.held c.take_frames.new.journal) c.take_frames.result c.take_frames.ensures.took)
