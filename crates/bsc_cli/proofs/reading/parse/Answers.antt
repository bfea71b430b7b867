use Rattle.clap.specs.Words.{app_of}
use Rattle.bsc_cli.proofs.Found.{simple_of}
use Rattle.bsc_cli.proofs.reading.parse.Goals as goal

pub returns-in-Ok-clause-found : goal.returns-in-Ok-clause-found
returns-in-Ok-clause-found c = (c.in-Ok.ensures.matches (simple_of (app_of c.args.command) c.requires)).0
