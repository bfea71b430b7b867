use Rattle.std.proofs.Common.{sym, subst}
use Rattle.std.proofs.lemmas.Result.{err_from_is_err_and}
use Rattle.bsc_frame.specs.Spelling.{Spells}
use Rattle.bsc_frame.proofs.Exact.{read_back}
use Rattle.test_reading.proofs.frame.read_again.Goals as goal

pub returns : goal.returns
returns c =
    let message = c.args.message.now in
    let spells = subst (Spells message) (sym c.as_slice.ensures) c.in_ok-octets.ensures in
    read_back message c.read.result (c.read.ensures.only message spells)
