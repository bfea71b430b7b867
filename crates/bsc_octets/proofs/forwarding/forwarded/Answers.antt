use Rattle.std.proofs.Common.{arith}
use Rattle.bsc_octets.proofs.PassedOn.{spells_result}
use Rattle.bsc_octets.proofs.forwarding.forwarded.Goals as goal

pub returns-clause-envelope : goal.returns-clause-envelope
returns-clause-envelope c =
    spells_result c.args.m.now c.args.from c.octets_out.result (λ i. let f = c.type_inv.m i in omega (arith, f)) c.requires (omega arith) c.octets_out.ensures
