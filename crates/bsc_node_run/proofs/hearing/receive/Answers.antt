use Rattle.std.proofs.Common.{refl, Some, None, Ok, Err, subst}
use Rattle.bsc_edge.specs.declared.fault.LinkFault.TheVariants.{Failed}
use Rattle.bsc_edge.specs.declared.incoming.Incoming.TheVariants.{Message, Text, Quiet, Closed}
use Rattle.bsc_node.specs.declared.node_event.NodeEvent.TheVariants.{Came, CameText}
use Rattle.bsc_node_run.specs.Worlds.{Same, ends, link_in, with_link, world_of}
use Rattle.bsc_node_run.proofs.Worlds.{ends_again, link_again, same_then}
use Rattle.bsc_node_run.proofs.Turns.{missed_last, missed_memory, received, unheard}
use Rattle.bsc_node_run.proofs.hearing.receive.Goals as goal
use Rattle.std.proofs.lemmas.Result.{on_err_weaker as on_err}
use Rattle.bsc_lemmas.proofs.Numbers.{if_ok_maps as on_if}

pub returns-in-Some-Ok-Message-clause-received : goal.returns-in-Some-Ok-Message-clause-received
returns-in-Some-Ok-Message-clause-received g c d h =
    received g.L.Link.talk c.args.name (link_in c.args.set.now c.args.name) (link_in c.receive.new.self c.args.name) (Ok (Message c.in-Some-Ok-Message.octets))
    (Some (Came c.args.name c.in-Some-Ok-Message.octets)) (world_of c.args.set.now d h) (world_of c.receive.new.self d h)
    tt (rw c.in-Some-Ok-Message.field-0-0-is at (rw c.in-Some-Ok-Message.field-0-is at c.in-Some-Ok-Message.ensures.heard)) refl
    (λ l e. subst (λ o. Same (world_of c.receive.new.self d h) (with_link c.args.name o (world_of c.args.set.now d h))) e (c.receive.ensures.new d h))

pub returns-in-Some-Ok-Text-clause-received : goal.returns-in-Some-Ok-Text-clause-received
returns-in-Some-Ok-Text-clause-received g c d h =
    received g.L.Link.talk c.args.name (link_in c.args.set.now c.args.name) (link_in c.receive.new.self c.args.name) (Ok Text) (Some (CameText c.args.name)) (world_of c.args.set.now d h)
    (world_of c.receive.new.self d h)
    tt (rw c.in-Some-Ok-Text.field-0-0-is at (rw c.in-Some-Ok-Text.field-0-is at c.in-Some-Ok-Text.ensures.heard)) refl
    (λ l e. subst (λ o. Same (world_of c.receive.new.self d h) (with_link c.args.name o (world_of c.args.set.now d h))) e (c.receive.ensures.new d h))

pub returns-in-Some-Ok-Quiet-clause-received : goal.returns-in-Some-Ok-Quiet-clause-received
returns-in-Some-Ok-Quiet-clause-received g c d h =
    received g.L.Link.talk c.args.name (link_in c.args.set.now c.args.name) (link_in c.receive.new.self c.args.name) (Ok Quiet) None (world_of c.args.set.now d h) (world_of c.receive.new.self d h)
    tt (rw c.in-Some-Ok-Quiet.field-0-0-is at (rw c.in-Some-Ok-Quiet.field-0-is at c.in-Some-Ok-Quiet.ensures.heard)) refl
    (λ l e. subst (λ o. Same (world_of c.receive.new.self d h) (with_link c.args.name o (world_of c.args.set.now d h))) e (c.receive.ensures.new d h))

pub returns-in-Some-Ok-Closed-clause-received : goal.returns-in-Some-Ok-Closed-clause-received
returns-in-Some-Ok-Closed-clause-received g c = on_if c.lose.result
    (λ e k d h. received g.L.Link.talk c.args.name (link_in c.args.set.now c.args.name) (link_in c.receive.new.self c.args.name) (Ok Closed) e (world_of c.args.set.now d h)
    (world_of c.lose.new.set d h)
    tt (rw c.in-Some-Ok-Closed.field-0-0-is at (rw c.in-Some-Ok-Closed.field-0-is at c.in-Some-Ok-Closed.ensures.heard)) k.0
    (λ l after. same_then (world_of c.lose.new.set d h) (ends c.args.name l (world_of c.receive.new.self d h)) (ends c.args.name l (world_of c.args.set.now d h)) (k.1 l after d h)
    (ends_again (world_of c.args.set.now d h) (world_of c.receive.new.self d h) c.args.name (link_in c.receive.new.self c.args.name) l (c.receive.ensures.new d h))))
    c.lose.ensures.ended

pub returns-in-Some-Err-Failed-clause-received : goal.returns-in-Some-Err-Failed-clause-received
returns-in-Some-Err-Failed-clause-received g c = on_if c.lose-in-Some-Err-Failed.result
    (λ e k d h. received g.L.Link.talk c.args.name (link_in c.args.set.now c.args.name) (link_in c.receive.new.self c.args.name) (Err Failed) e (world_of c.args.set.now d h)
    (world_of c.lose-in-Some-Err-Failed.new.set d h)
    tt (rw c.in-Some-Err-Failed.field-0-0-is at (rw c.in-Some-Err-Failed.field-0-is at c.in-Some-Err-Failed.ensures.heard)) k.0
    (λ l after. same_then (world_of c.lose-in-Some-Err-Failed.new.set d h) (ends c.args.name l (world_of c.receive.new.self d h)) (ends c.args.name l (world_of c.args.set.now d h)) (k.1 l after d h)
    (ends_again (world_of c.args.set.now d h) (world_of c.receive.new.self d h) c.args.name (link_in c.receive.new.self c.args.name) l (c.receive.ensures.new d h))))
    c.lose-in-Some-Err-Failed.ensures.ended

pub returns-in-None-clause-received : goal.returns-in-None-clause-received
returns-in-None-clause-received g c d h = unheard g.L.Link.talk c.args.name (link_in c.args.set.now c.args.name) (link_in c.receive.new.self c.args.name) (world_of c.args.set.now d h)
    (world_of c.receive.new.self d h) c.in-None.ensures.heard

pub returns-in-Some-Ok-Closed-clause-missed : goal.returns-in-Some-Ok-Closed-clause-missed
returns-in-Some-Ok-Closed-clause-missed g c = on_err c.lose.result
    (λ k d h. missed_last g.L.Link.talk c.args.name (link_in c.args.set.now c.args.name) (link_in c.receive.new.self c.args.name) (Ok Closed) (world_of c.args.set.now d h)
    (world_of c.lose.new.set d h)
    tt (rw c.in-Some-Ok-Closed.field-0-0-is at (rw c.in-Some-Ok-Closed.field-0-is at c.in-Some-Ok-Closed.ensures.heard))
    (link_again (world_of c.args.set.now d h) (world_of c.receive.new.self d h) (world_of c.lose.new.set d h) c.args.name (link_in c.receive.new.self c.args.name) None
    (c.receive.ensures.new d h) (k d h)))
    c.lose.ensures.dropped

pub returns-in-Some-Err-Failed-clause-missed : goal.returns-in-Some-Err-Failed-clause-missed
returns-in-Some-Err-Failed-clause-missed g c = on_err c.lose-in-Some-Err-Failed.result
    (λ k d h. missed_last g.L.Link.talk c.args.name (link_in c.args.set.now c.args.name) (link_in c.receive.new.self c.args.name) (Err Failed) (world_of c.args.set.now d h)
    (world_of c.lose-in-Some-Err-Failed.new.set d h)
    tt (rw c.in-Some-Err-Failed.field-0-0-is at (rw c.in-Some-Err-Failed.field-0-is at c.in-Some-Err-Failed.ensures.heard))
    (link_again (world_of c.args.set.now d h) (world_of c.receive.new.self d h) (world_of c.lose-in-Some-Err-Failed.new.set d h) c.args.name (link_in c.receive.new.self c.args.name) None
    (c.receive.ensures.new d h) (k d h)))
    c.lose-in-Some-Err-Failed.ensures.dropped

pub returns-in-Some-Err-NoMemory-clause-missed : goal.returns-in-Some-Err-NoMemory-clause-missed
returns-in-Some-Err-NoMemory-clause-missed g c d h =
    missed_memory g.L.Link.talk c.args.name (link_in c.args.set.now c.args.name) (link_in c.receive.new.self c.args.name) (world_of c.args.set.now d h) (world_of c.receive.new.self d h)
    (rw c.in-Some-Err-NoMemory.field-0-0-is at (rw c.in-Some-Err-NoMemory.field-0-is at c.in-Some-Err-NoMemory.ensures.heard))
    (λ l e. subst (λ o. Same (world_of c.receive.new.self d h) (with_link c.args.name o (world_of c.args.set.now d h))) e (c.receive.ensures.new d h))
