use Rattle.std.proofs.Common.{arith}
use Rattle.bsc_journal.proofs.Whole.{octets_all}
use Rattle.bsc_hub_command.proofs.title.are_octets.Goals as goal

pub returns : goal.returns
returns c = octets_all c.args.octets.now (λ i. let f = c.type_inv.octets i in omega (arith, f))
