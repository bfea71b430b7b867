use Rattle.bsc_audit.proofs.SoFar.{heard_nothing}
use Rattle.std.proofs.Common.{refl}
use Rattle.bsc_audit.proofs.hearing.nothing_heard.Goals as goal

pub returns : goal.returns
returns c = heard_nothing _ refl refl refl refl c.new.ensures.items
