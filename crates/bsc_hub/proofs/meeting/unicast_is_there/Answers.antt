use Rattle.bsc_hub.proofs.Entering.{told_there}
use Rattle.bsc_hub.proofs.meeting.unicast_is_there.Goals as goal

pub returns-clause-pass : goal.returns-clause-pass
returns-clause-pass g c = (c.forward_one-told.new.pass, c.forward_one-told.ensures.pass, c.join.ensures.pass)

pub returns-clause-there : goal.returns-clause-there
returns-clause-there g c =
    let told = c.forward_one-told in
    told_there c.args.hub.now c.args.sender told.new.pass c.join.new.pass c.args.conn c.args.frame told.result told.ensures.pass c.join.ensures.pass.caller c.join.ensures.seen.2
    c.requires.own c.requires.unicast
