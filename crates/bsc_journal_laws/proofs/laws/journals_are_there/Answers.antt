use Rattle.bsc_journal_laws.proofs.Runs.{journals_are_there}
use Rattle.bsc_journal_laws.proofs.laws.journals_are_there.Goals as goal

pub returns : goal.returns
returns g c = journals_are_there _ _ _ _ _ _ _ c.jobs_end_at_last.ensures
