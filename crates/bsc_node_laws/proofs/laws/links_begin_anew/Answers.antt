use Rattle.bsc_node_laws.proofs.Lasting.{links_begin_anew}
use Rattle.bsc_node_laws.proofs.laws.links_begin_anew.Goals as goal

pub returns : goal.returns
returns c = λ a start events e is h may. links_begin_anew a start events e is h may
