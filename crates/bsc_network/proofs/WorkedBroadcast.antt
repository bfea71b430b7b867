-- Broadcasts over a hub, by computation.
-- No clause needs it: worked examples.
use Rattle.std.proofs.Common.{◌≡◌, List, [], ◌∷◌, ◌++◌, refl}
use Rattle.bsc_octets.specs.Addresses.{broadcast}
use Rattle.bsc_network.specs.declared.world_step.WorldStep.{WorldStep}
use Rattle.bsc_network.specs.Networks.{deliveries}
use Rattle.bsc_network.proofs.OnLiterals.{world_on_literals}
use Rattle.bsc_network.proofs.Scenes.{hub_with, primary, a, b, c, at, joins, send, up, down, take, got_by_all}

-- Three nodes join, and A sends to all.
abbrev pub sent_to_all : List WorldStep
sent_to_all = joins 0 0 ++ joins 1 1 ++ joins 2 2 ++ send 0 broadcast 1 ∷ up 0 ∷ []

-- Each of the others gets it, in the order in which it arrives there, with the one place of its Send. A doesn't.
to_all : deliveries (primary ∷ a ∷ b ∷ c ∷ []) (at 0 (sent_to_all ++ take 2 ∷ down 2 ∷ take 1 ∷ down 1 ∷ take 0 ∷ []))
    ≡ got_by_all 12 2 0x0A 1 ∷ got_by_all 12 1 0x0A 1 ∷ []
unfolding world_on_literals
to_all = refl

-- Outboxes hold two frames, and C takes none: it misses the third broadcast, and its connection goes on.
abbrev pub three_times : List WorldStep
three_times =
    joins 0 0 ++ joins 1 1 ++ send 0 broadcast 1 ∷ up 0 ∷ send 0 broadcast 2 ∷ up 0 ∷ send 0 broadcast 3 ∷ up 0
    ∷ take 1 ∷ send 0 broadcast 4 ∷ up 0 ∷ []

missed : deliveries (hub_with 0xF0 2 ∷ a ∷ c ∷ []) (at 0 (three_times ++ take 1 ∷ take 1 ∷ take 1 ∷ down 1 ∷ down 1 ∷ down 1 ∷ []))
    ≡ got_by_all 8 1 0x0A 1 ∷ got_by_all 10 1 0x0A 2 ∷ got_by_all 15 1 0x0A 4 ∷ []
unfolding world_on_literals
missed = refl
