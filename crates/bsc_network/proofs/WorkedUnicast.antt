-- Unicasts over a hub, from the Send to the delivery, by computation: to a node that has joined, to one that is taken over
-- from, to one whose outbox is full, and under an address that another device has.
-- No clause needs it: worked examples.
use Rattle.std.proofs.Common.{◌≡◌, true, false, List, [], ◌∷◌, ◌++◌, Some, None, refl}
use Rattle.bsc_network.specs.declared.target.Target.TheVariants.{Hub as ToHub}
use Rattle.bsc_network.specs.declared.world_step.WorldStep.{WorldStep}
use Rattle.bsc_network.specs.declared.step_refusal.StepRefusal.TheVariants.{NothingThere}
use Rattle.bsc_network.specs.Networks.{deliveries}
use Rattle.bsc_network.proofs.OnLiterals.{world_on_literals}
use Rattle.bsc_network.proofs.Scenes.{hub_with, primary, a, b, b_again, address, at, joins, send, tick, up, down, take, got, link, dialled, conns, over, refused, heard}

-- ---- one node to another

-- A and B join, A sends to B, and the frame is in B's outbox.
abbrev pub sent : List WorldStep
sent = joins 0 0 ++ joins 1 1 ++ send 0 (address 0x0B) 1 ∷ up 0 ∷ []

both_dial : dialled (primary ∷ a ∷ b ∷ []) (at 0 sent) ≡ link 0 0 (ToHub 0) ∷ link 1 1 (ToHub 0) ∷ []
unfolding world_on_literals
both_dial = refl

both_join : conns (primary ∷ a ∷ b ∷ []) (at 0 sent) ≡ Some 1 ∷ Some 2 ∷ []
unfolding world_on_literals
both_join = refl

-- The place is that of the Send.
unicast : deliveries (primary ∷ a ∷ b ∷ []) (at 0 (sent ++ take 1 ∷ down 1 ∷ [])) ≡ got 8 1 0x0A 1 ∷ []
unfolding world_on_literals
unicast = refl

-- ---- a takeover

-- B's identity comes again as node 2 and takes over. What had entered the outbox of the old connection is delivered there,
-- and what is sent from then on at the new one.
abbrev pub taken_over : List WorldStep
taken_over = sent ++ joins 2 2 ++ take 1 ∷ down 1 ∷ send 0 (address 0x0B) 2 ∷ up 0 ∷ take 2 ∷ down 2 ∷ []

takeover : deliveries (primary ∷ a ∷ b ∷ b ∷ []) (at 0 taken_over) ≡ got 8 1 0x0A 1 ∷ got 16 2 0x0A 2 ∷ []
unfolding world_on_literals
takeover = refl

takeover_dials : dialled (primary ∷ a ∷ b ∷ b ∷ []) (at 0 taken_over) ≡ link 0 0 (ToHub 0) ∷ link 1 1 (ToHub 0) ∷ link 2 2 (ToHub 0) ∷ []
unfolding world_on_literals
takeover_dials = refl

-- The side of the old connection is told how it ended, once its outbox is empty: it asks to disconnect, and takes no more.
-- The node answers and closes; so the session is over.
old_side : refused (primary ∷ a ∷ b ∷ b ∷ []) (at 0 (taken_over ++ take 1 ∷ [])) (take 1 ∷ []) ≡ Some NothingThere ∷ []
unfolding world_on_literals
old_side = refl

old_session : over (primary ∷ a ∷ b ∷ b ∷ []) (at 0 (taken_over ++ take 1 ∷ down 1 ∷ up 1 ∷ [])) ≡ false ∷ true ∷ false ∷ []
unfolding world_on_literals
old_session = refl

-- ---- a full outbox

-- Outboxes hold two frames. The third unicast finds that of B full, and B's connection ends; what waited is delivered, and
-- then the link is closed.
abbrev pub filled : List WorldStep
filled = joins 0 0 ++ joins 1 1 ++ send 0 (address 0x0B) 1 ∷ up 0 ∷ send 0 (address 0x0B) 2 ∷ up 0 ∷ send 0 (address 0x0B) 3 ∷ up 0 ∷ []

full : deliveries (hub_with 0xF0 2 ∷ a ∷ b ∷ []) (at 0 (filled ++ take 1 ∷ take 1 ∷ take 1 ∷ down 1 ∷ down 1 ∷ down 1 ∷ []))
    ≡ got 8 1 0x0A 1 ∷ got 10 1 0x0A 2 ∷ []
unfolding world_on_literals
full = refl

full_closes : over (hub_with 0xF0 2 ∷ a ∷ b ∷ []) (at 0 (filled ++ take 1 ∷ take 1 ∷ take 1 ∷ [])) ≡ false ∷ true ∷ []
unfolding world_on_literals
full_closes = refl

-- ---- an address that another device has

-- Another device asks for B's address and is refused. It draws a word for another address, and is told that there is none:
-- so it can dial again when its wait is over.
abbrev pub doubled : List WorldStep
doubled = joins 1 0 ++ joins 2 1

duplicate : conns (primary ∷ a ∷ b ∷ b_again ∷ []) (at 0 doubled) ≡ Some 1 ∷ None ∷ []
unfolding world_on_literals
duplicate = refl

dials_again : dialled (primary ∷ a ∷ b ∷ b_again ∷ []) (at 0 doubled ++ at 1999 (tick 2 ∷ []) ++ at 2000 (tick 2 ∷ []))
    ≡ link 0 1 (ToHub 0) ∷ link 1 2 (ToHub 0) ∷ link 2 2 (ToHub 0) ∷ []
unfolding world_on_literals
dials_again = refl

-- It closed the link when it was refused, and so hears no more from it: four events came to it, also once the hub's closing has
-- arrived.
refused_hears_no_more : heard (primary ∷ a ∷ b ∷ b_again ∷ []) (at 0 (doubled ++ down 1 ∷ [])) ≡ 0 ∷ 3 ∷ 4 ∷ []
unfolding world_on_literals
refused_hears_no_more = refl
