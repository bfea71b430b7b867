use Rattle.std.proofs.Common.{option_map}
use Rattle.bsc_session.proofs.Opening.{attends_all, attends_cut, attends_lost, attends_met, attends_part}
use Rattle.bsc_session.proofs.taking.drain_outbox.Goals as goal

pub returns-in-All-clause-attended : goal.returns-in-All-clause-attended
returns-in-All-clause-attended g c v s fixed f r = attends_all v s c.args.now (option_map (λ p. p.now) c.args.policy) c.args.at.now c.take_from.new.member (g.L.Link.talk c.args.link.now)
    (g.L.Link.talk c.take_from.new.link) (g.J.Journal.held c.args.journal.now) (g.J.Journal.held c.take_from.new.journal) fixed c.in-All.ensures.took f r

pub returns-in-Part-clause-attended : goal.returns-in-Part-clause-attended
returns-in-Part-clause-attended g c v s fixed f r =
    attends_part v s c.args.now (option_map (λ p. p.now) c.args.policy) c.args.at.now c.take_from.new.member (g.L.Link.talk c.args.link.now) (g.L.Link.talk c.take_from.new.link)
    (g.J.Journal.held c.args.journal.now) (g.J.Journal.held c.take_from.new.journal) fixed
    c.in-Part.ensures.took f r

pub returns-in-Cut-clause-attended : goal.returns-in-Cut-clause-attended
returns-in-Cut-clause-attended g c v s fixed f r = attends_cut v s c.args.now (option_map (λ p. p.now) c.args.policy) c.args.at.now c.take_from.new.member (g.L.Link.talk c.args.link.now)
    (g.L.Link.talk c.take_from.new.link) (g.J.Journal.held c.args.journal.now)
    (g.J.Journal.held c.take_from.new.journal) c.in-Cut.fault c.stop_at.result fixed c.in-Cut.ensures.took f c.stop_at.ensures

pub returns-in-Met-clause-attended : goal.returns-in-Met-clause-attended
returns-in-Met-clause-attended g c v s fixed f r =
    attends_met v s c.args.now (option_map (λ p. p.now) c.args.policy) c.args.at.now c.meet.new.at c.take_from.new.member (g.L.Link.talk c.args.link.now)
    (g.L.Link.talk c.take_from.new.link) (g.L.Link.talk c.meet.new.link) (g.J.Journal.held c.args.journal.now)
    (g.J.Journal.held c.take_from.new.journal) c.in-Met.end c.meet.result c.nothing_left.result fixed c.in-Met.ensures.took f
    (c.meet.ensures.met v s r.machine r.tied) c.nothing_left.ensures.stops c.nothing_left.ensures.nothing

pub returns-in-Lost-clause-attended : goal.returns-in-Lost-clause-attended
returns-in-Lost-clause-attended g c v s fixed f r = attends_lost v s c.args.now (option_map (λ p. p.now) c.args.policy) c.args.at.now c.take_from.new.member (g.L.Link.talk c.args.link.now)
    (g.L.Link.talk c.take_from.new.link) (g.J.Journal.held c.args.journal.now)
    (g.J.Journal.held c.take_from.new.journal) c.in-Lost.fault c.stop_unrecorded.result fixed c.in-Lost.ensures.took f c.stop_unrecorded.ensures.is
