use Rattle.bsc_network_diagnostics.proofs.Sending.{unread}
use Rattle.bsc_network_diagnostics.proofs.place.why_network_place.Goals as goal

pub returns-in_default : goal.returns-in_default
returns-in_default c = record {
  link = λ said rule is link. absurd (unread c.args.line.now c.read_line.result c.in_default.not-Ok c.read_line.ensures.refused c.read_line.ensures.memory said rule is link);
}
