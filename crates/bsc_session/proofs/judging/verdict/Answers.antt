use Rattle.bsc_checks.specs.declared.place.Place.TheVariants.{HubPort}
use Rattle.bsc_checks.specs.declared.verdict.Verdict.TheVariants.{Pass, Carry}
use Rattle.bsc_checks.specs.Verdicts.{Judged}
use Rattle.bsc_checks.proofs.Verdicts.{carried_connected}
use Rattle.bsc_port.proofs.Verdicts.{carried_route, asks_not_zero, asks_not_broadcast}
use Rattle.bsc_session.proofs.judging.verdict.Goals as goal

pub returns-clause-found : goal.returns-clause-found
returns-clause-found c = c.judge.ensures.outcome

pub returns-clause-memory : goal.returns-clause-memory
returns-clause-memory c = c.judge.ensures.passes

pub returns-clause-route : goal.returns-clause-route
returns-clause-route c e is = (let k : Judged c.args.m.now (HubPort c.args.phase) c.args.max (Carry e) = rw is at c.judge.ensures.found in carried_route c.args.m.now c.args.phase c.args.max e k)

pub returns-clause-carried : goal.returns-clause-carried
returns-clause-carried c e is = (let k : Judged c.args.m.now (HubPort c.args.phase) c.args.max (Carry e) = rw is at c.judge.ensures.found in
    carried_connected c.args.m.now (HubPort c.args.phase) c.args.max e k)

pub returns-clause-not_zero : goal.returns-clause-not_zero
returns-clause-not_zero c msg who is asks = (let k : Judged c.args.m.now (HubPort c.args.phase) c.args.max (Pass msg) = rw is at c.judge.ensures.found in
    asks_not_zero msg.body who k.2.legal.body asks)

pub returns-clause-not_broadcast : goal.returns-clause-not_broadcast
returns-clause-not_broadcast c msg who is asks = (let k : Judged c.args.m.now (HubPort c.args.phase) c.args.max (Pass msg) = rw is at c.judge.ensures.found in
    asks_not_broadcast msg.body who k.2.legal.body asks)
