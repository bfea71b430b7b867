use Rattle.std.proofs.Common.{arith, ◌∙◌}
use Rattle.bsc_direct.proofs.Following.{established_is}
use Rattle.bsc_direct.proofs.direct.Direct.established.Goals as goal

pub returns : goal.returns
returns c = λ calls s. (rw c.deref.ensures.value at c.with_vmac.ensures) ∙ established_is c.args.self.now c.args.v calls (omega (arith, c.args.self.now.slots.ok.0, c.args.self.now.all)) s
