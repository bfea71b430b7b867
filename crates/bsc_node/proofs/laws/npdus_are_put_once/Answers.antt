use Rattle.bsc_node.proofs.Sending.{npdus_are_put_once}
use Rattle.bsc_node.proofs.laws.npdus_are_put_once.Goals as goal

pub returns : goal.returns
returns c = λ a. npdus_are_put_once a
