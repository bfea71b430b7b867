use Rattle.bsc_cli.proofs.Commands.{listed_taken}
use Rattle.bsc_cli.proofs.laws.listed_words_are_taken.Goals as goal

pub returns : goal.returns
returns c = listed_taken
