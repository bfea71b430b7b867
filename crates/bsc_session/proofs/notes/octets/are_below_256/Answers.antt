use Rattle.std.proofs.Common.{arith}
use Rattle.bsc_session.proofs.NoteFacts.Below.{below_all}
use Rattle.bsc_session.proofs.notes.octets.are_below_256.Goals as goal

pub returns : goal.returns
returns c = below_all c.args.octets.now (λ i. let f = c.type_inv.octets i in omega (arith, f))
