use Rattle.std.proofs.Common.{refl, ap, ◌∙◌}
use Rattle.bsc_history.specs.Counting.{plus}
use Rattle.bsc_desk.proofs.Broadcasts.{unserved_all}
use Rattle.bsc_desk.proofs.Forwards.{lawful_unserved, stands_unserved}
use Rattle.bsc_desk.proofs.desk.Desk.drop_all.Goals as goal

pub returns-clause-due : goal.returns-clause-due
returns-clause-due c S p =
    (lawful_unserved c.args.self.now S c.args.caller c.args.conn c.args.frame.now c.args.ended p c.requires.unleft c.has_route.ensures c.requires.calls c.requires.unserved).replied

pub returns-clause-stands : goal.returns-clause-stands
returns-clause-stands c S p =
    let counted = c.add.ensures.counts ∙ ap (plus c.args.self.now.tally.counts)
    (c.counts_of.ensures.value ∙ unserved_all c.args.caller c.args.conn c.args.frame.now.message c.args.ended c.requires.broadcast) in
    stands_unserved c.args.self.now _ S c.args.caller c.args.conn c.args.frame.now c.args.ended p c.requires.unleft c.has_route.ensures c.requires.calls c.requires.unserved refl refl
    c.add.ensures.made counted refl
