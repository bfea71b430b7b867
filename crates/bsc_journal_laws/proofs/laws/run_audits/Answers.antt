use Rattle.bsc_journal_laws.proofs.Audits.{run_audits}
use Rattle.bsc_journal_laws.proofs.laws.run_audits.Goals as goal

pub returns : goal.returns
returns g c = run_audits _ _ _ _ _ _ _ c.forwards_are_carried.ensures c.seen_are_of_jobs.ensures c.jobs_are_apart.ensures
