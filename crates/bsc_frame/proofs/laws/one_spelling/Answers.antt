use Rattle.std.proofs.Common.{sym, ◌∙◌}
use Rattle.bsc_frame.proofs.Exact.{one_message}
use Rattle.bsc_frame.proofs.laws.one_spelling.Goals as goal

pub returns : goal.returns
returns c = record { octets = (λ msg m other spells also. spells.octets ∙ sym also.octets); message = (λ a b m spells also. one_message a b m spells also) }
