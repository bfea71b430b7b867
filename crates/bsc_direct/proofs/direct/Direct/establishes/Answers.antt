use Rattle.std.proofs.Common.{arith, ◌∙◌}
use Rattle.bsc_direct.proofs.Following.{answer_is}
use Rattle.bsc_direct.proofs.direct.Direct.establishes.Goals as goal

pub returns : goal.returns
returns c = λ calls s. c.answer.ensures ∙ answer_is calls c.args.self.now.slots.items c.args.own c.args.slot c.args.peer.now (omega (arith, c.args.self.now.slots.ok.0, c.args.self.now.all)) s.slots
