use Rattle.bsc_journal_laws.proofs.Commands.{command_audits}
use Rattle.bsc_journal_laws.proofs.laws.command_audits.Goals as goal

pub returns : goal.returns
returns g c = command_audits _ _ _ _ _ _ _ c.run_audits.ensures c.journals_are_there.ensures
