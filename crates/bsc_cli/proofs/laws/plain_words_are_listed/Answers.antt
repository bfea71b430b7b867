use Rattle.bsc_cli.proofs.Commands.{plain_listed}
use Rattle.bsc_cli.proofs.laws.plain_words_are_listed.Goals as goal

pub returns : goal.returns
returns c = plain_listed
