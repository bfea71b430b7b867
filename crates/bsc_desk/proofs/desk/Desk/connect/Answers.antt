use Rattle.std.proofs.Common.{◌<◌, ap, sym, ◌∙◌, arith}
use Rattle.bsc_ring.specs.Ends.{inlet_mark}
use Rattle.bsc_desk.specs.Choices.{choice_reply}
use Rattle.bsc_desk.proofs.Connects.{lawful_connect}
use Rattle.bsc_desk.proofs.desk.Desk.connect.Goals as goal

pub returns-in-Refused-clause-stands : goal.returns-in-Refused-clause-stands
returns-in-Refused-clause-stands c S p =
    let d = c.args.self.now in
    let calls : d.tally.made < d.about.limits.calls = omega (arith, c.if-calls-self.false) in
    c.refuse.ensures.stands S (inlet_mark c.args.inlet) p (lawful_connect d S c.args.caller c.args.who _ p c.requires.not_zero c.requires.not_broadcast calls
    (ap choice_reply (sym c.in-Refused.is) ∙ c.choose.ensures.reply S p))
