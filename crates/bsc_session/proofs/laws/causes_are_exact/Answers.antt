use Rattle.bsc_session.proofs.Naming.{causes_are_exact}
use Rattle.bsc_session.proofs.laws.causes_are_exact.Goals as goal

pub returns : goal.returns
returns c = causes_are_exact
