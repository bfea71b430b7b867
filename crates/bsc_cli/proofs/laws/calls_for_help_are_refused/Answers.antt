use Rattle.bsc_cli.proofs.Commands.{long_help, short_help}
use Rattle.bsc_cli.proofs.laws.calls_for_help_are_refused.Goals as goal

pub returns : goal.returns
returns c = record { long = long_help; short = short_help }
