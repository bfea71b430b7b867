-- The failover, and the return to the primary hub, by computation.
-- No clause needs it: worked examples.
use Rattle.std.proofs.Common.{◌≡◌, true, false, List, [], ◌∷◌, ◌++◌, refl}
use Rattle.bsc_network.specs.declared.target.Target.TheVariants.{Hub as ToHub}
use Rattle.bsc_network.specs.declared.timed_step.TimedStep.{TimedStep}
use Rattle.bsc_network.specs.declared.world_step.WorldStep.{WorldStep}
use Rattle.bsc_network.specs.declared.world_step.WorldStep.TheVariants.{Lose}
use Rattle.bsc_network.specs.Networks.{deliveries}
use Rattle.bsc_network.specs.Settings.{Added}
use Rattle.bsc_network.proofs.OnLiterals.{world_on_literals}
use Rattle.bsc_network.proofs.Scenes.{primary, failover, a, b, address, at, start, tick, send, up, down, take, got, link, dialled, over}

abbrev pub two_hubs : List Added
two_hubs = primary ∷ failover ∷ a ∷ b ∷ []

-- Both nodes lose the link to the primary hub before it is open, and join the failover.
abbrev pub on_failover : List WorldStep
on_failover = start 0 ∷ Lose 0 ∷ down 1 ∷ up 1 ∷ down 1 ∷ start 1 ∷ Lose 2 ∷ down 3 ∷ up 3 ∷ down 3 ∷ []

-- A sends to B there.
abbrev pub sent_there : List WorldStep
sent_there = on_failover ++ send 0 (address 0x0B) 1 ∷ up 1 ∷ take 3 ∷ down 3 ∷ []

fails_over : dialled two_hubs (at 0 on_failover) ≡ link 0 0 (ToHub 0) ∷ link 1 0 (ToHub 1) ∷ link 2 1 (ToHub 0) ∷ link 3 1 (ToHub 1) ∷ []
unfolding world_on_literals
fails_over = refl

sends_over : deliveries two_hubs (at 0 sent_there) ≡ got 10 1 0x0A 1 ∷ []
unfolding world_on_literals
sends_over = refl

-- After their waits both dial the primary hub again and are accepted; A's link to the failover is ended, and A sends to B
-- by the primary hub.
abbrev pub returned : List TimedStep
returned =
    at 0 sent_there
    ++ at 2000 (tick 0 ∷ down 4 ∷ up 4 ∷ down 4 ∷ up 1 ∷ tick 1 ∷ down 5 ∷ up 5 ∷ down 5 ∷ send 0 (address 0x0B) 2 ∷ up 4 ∷ take 5 ∷ down 5 ∷ [])

returns : deliveries two_hubs returned ≡ got 10 1 0x0A 1 ∷ got 23 1 0x0A 2 ∷ []
unfolding world_on_literals
returns = refl

-- Of the sessions, those of the two lost links and that of A with the failover are over.
ended : over two_hubs returned ≡ true ∷ true ∷ true ∷ false ∷ false ∷ false ∷ []
unfolding world_on_literals
ended = refl

-- A node that was added when there was one hub has no failover, and one that was added later has.
no_failover : dialled (primary ∷ a ∷ failover ∷ b ∷ []) (at 0 (start 0 ∷ Lose 0 ∷ start 1 ∷ Lose 1 ∷ []))
    ≡ link 0 0 (ToHub 0) ∷ link 1 1 (ToHub 0) ∷ link 2 1 (ToHub 1) ∷ []
unfolding world_on_literals
no_failover = refl
