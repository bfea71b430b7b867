use Rattle.bsc_ws.proofs.Naming.{inserted_alone}
use Rattle.bsc_ws.proofs.dialling.offer.Goals as goal

pub returns-in-Ok-clause-named : goal.returns-in-Ok-clause-named
returns-in-Ok-clause-named c =
    inserted_alone c.headers_mut.result.now c.insert.new.self c.header.result c.value_of.result c.args.kind c.in-Ok.ensures.ok
    c.header.ensures c.value_of.ensures
