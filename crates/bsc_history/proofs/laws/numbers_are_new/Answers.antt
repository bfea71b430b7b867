use Rattle.bsc_history.proofs.Numbers.{numbers_are_new}
use Rattle.bsc_history.proofs.laws.numbers_are_new.Goals as goal

pub returns : goal.returns
returns c = numbers_are_new
