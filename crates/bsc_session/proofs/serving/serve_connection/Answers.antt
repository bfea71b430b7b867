use Rattle.std.proofs.Common.{refl}
use Rattle.bsc_session.proofs.serving.serve_connection.Goals as goal

pub returns-clause-served : goal.returns-clause-served
returns-clause-served g c = record { serves = c.serve.ensures.served.0.noting.serves; unlost = c.serve.ensures.served.0.unlost refl }

pub returns-clause-woken : goal.returns-clause-woken
returns-clause-woken g c =
    (record { serves = c.serve.ensures.served.0.noting.serves; unlost = c.serve.ensures.served.0.unlost refl }, c.serve.ensures.served.1)
