use Rattle.bsc_session.proofs.serving.serve_recorded.Goals as goal

pub returns-clause-served : goal.returns-clause-served
returns-clause-served g c = c.serve.ensures.served.0.noting

pub returns-clause-woken : goal.returns-clause-woken
returns-clause-woken g c = (c.serve.ensures.served.0.noting, c.serve.ensures.served.1)

pub returns-clause-unrecorded : goal.returns-clause-unrecorded
returns-clause-unrecorded g c = c.serve.ensures.unrecorded
