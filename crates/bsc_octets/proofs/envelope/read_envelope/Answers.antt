use Rattle.std.proofs.Common.{◌∙◌, arith}
use Rattle.bsc_octets.proofs.Spelling.{spelled_result, only}
use Rattle.bsc_octets.proofs.envelope.read_envelope.Goals as goal

pub returns-clause-found : goal.returns-clause-found
returns-clause-found c = spelled_result c.args.m.now c.envelope_at_front.result (λ i. let f = c.type_inv.m i in omega (arith, f)) c.envelope_at_front.ensures.read

pub returns-clause-only : goal.returns-clause-only
returns-clause-only c = λ e whole small spells. c.envelope_at_front.ensures.read ∙ only e c.args.m.now whole small spells
