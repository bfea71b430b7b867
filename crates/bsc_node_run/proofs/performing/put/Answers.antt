use Rattle.std.proofs.Common.{refl}
use Rattle.bsc_node_run.specs.Worlds.{link_in, world_of}
use Rattle.bsc_node_run.proofs.Acting.{puts_failed, puts_lost, puts_ok, puts_unmet}
use Rattle.bsc_node_run.proofs.performing.put.Goals as goal
use Rattle.std.proofs.lemmas.Result.{on_err_weaker as on_err, on_ok_weaker as on_ok}

pub returns-in-Ok-clause-puts : goal.returns-in-Ok-clause-puts
returns-in-Ok-clause-puts g c d h = puts_ok g.L.Link.talk c.args.name c.args.octets.now (link_in c.args.set.now c.args.name) (link_in c.put.new.self c.args.name)
    (world_of c.args.set.now d h) (world_of c.put.new.self d h)
    refl c.in-Ok.ensures.put (c.put.ensures.new d h)

pub returns-in-Err-Failed-clause-puts : goal.returns-in-Err-Failed-clause-puts
returns-in-Err-Failed-clause-puts g c = on_ok c.lose.result
    (λ k d h. puts_failed g.L.Link.talk c.args.name c.args.octets.now (link_in c.args.set.now c.args.name) (link_in c.put.new.self c.args.name) (world_of c.args.set.now d h)
    (world_of c.put.new.self d h) (world_of c.lose.new.set d h)
    (rw c.in-Err-Failed.field-0-is at c.in-Err-Failed.ensures.put) (c.put.ensures.new d h) (λ l e. k l e d h))
    c.lose.ensures.lost

pub returns-in-Err-Failed-clause-part : goal.returns-in-Err-Failed-clause-part
returns-in-Err-Failed-clause-part g c = on_err c.lose.result
    (λ k d h. puts_lost g.L.Link.talk c.args.name c.args.octets.now (link_in c.args.set.now c.args.name) (link_in c.put.new.self c.args.name) (world_of c.args.set.now d h)
    (world_of c.put.new.self d h) (world_of c.lose.new.set d h)
    (rw c.in-Err-Failed.field-0-is at c.in-Err-Failed.ensures.put) (c.put.ensures.new d h) (λ l e. k l e d h))
    c.lose.ensures.part

pub returns-in-Err-NoMemory-clause-part : goal.returns-in-Err-NoMemory-clause-part
returns-in-Err-NoMemory-clause-part g c d h = puts_unmet g.L.Link.talk c.args.name c.args.octets.now (link_in c.args.set.now c.args.name) (link_in c.put.new.self c.args.name)
    (world_of c.args.set.now d h) (world_of c.put.new.self d h)
    (rw c.in-Err-NoMemory.field-0-is at c.in-Err-NoMemory.ensures.put) (c.put.ensures.new d h)
