use Rattle.bsc_log.proofs.logged_link.note_given.Goals as goal

pub returns-in-Some : goal.returns-in-Some
returns-in-Some g c wait = rw c.in-Some.is (c.given.ensures wait)
