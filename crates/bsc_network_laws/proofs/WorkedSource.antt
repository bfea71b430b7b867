-- A delivery of a network that is written out has its source, as the theorem says it.
-- No clause needs it: worked examples.
use Rattle.std.proofs.Common.{◌≡◌, inl, ℕ, suc, List, [], ◌∷◌, ◌++◌, refl, arith}
use Rattle.std.specs.Prelude.{take as take_first, slice_get, unwrap_or, length}
use Rattle.bsc_history.specs.declared.call.Call.{Call}
use Rattle.bsc_history.specs.declared.call.Call.TheVariants.{Forward, Stop}
use Rattle.bsc_history.specs.declared.reply.Reply.TheVariants.{Stopped}
use Rattle.bsc_network.specs.declared.target.Target.TheVariants.{Hub as ToHub}
use Rattle.bsc_network.specs.declared.world_step.WorldStep.{WorldStep}
use Rattle.bsc_network.specs.Worlds.{World, Hub, Link, Posted, new_hub, hub_at, link_at}
use Rattle.bsc_network.specs.Dialling.{new_link}
use Rattle.bsc_network.specs.Networks.{world}
use Rattle.bsc_network.proofs.OnLiterals.{world_on_literals}
use Rattle.bsc_network.proofs.Scenes.{peer, primary, a, b, address, at, joins, send, up, down, take, got}
use Rattle.bsc_network_laws.specs.Deliveries.{IsFromItsSend}

-- A and B join, and A sends to B.
abbrev steps : List WorldStep
steps = joins 0 0 ++ joins 1 1 ++ send 0 (address 0x0B) 1 ∷ up 0 ∷ take 1 ∷ down 1 ∷ []

abbrev network : World
network = world (primary ∷ a ∷ b ∷ []) (at 0 steps)

abbrev at_hub : Hub
at_hub = unwrap_or (hub_at network 0) (new_hub (record { hub = peer 0xF0 0xF0; limits = record { rows = 256; outbox = 64; calls = 1099511627776; callers = 4096 } }))

abbrev the_link : ℕ → Link
the_link l = unwrap_or (link_at network l) (new_link network 0 (ToHub 0))

abbrev nothing : Posted
nothing = record { entry = record { caller = 0; call = Stop; looks = []; reply = Stopped }; sent_at = 0 }

abbrev forward : Posted
forward = unwrap_or (slice_get at_hub.posted 2) nothing

abbrev frame_in : Call → List ℕ
frame_in (Forward sender m) = m
frame_in call = []

-- a list of three, cut before the last
cut : {A : Type 0} (default : A) (xs : List A) → length xs ≡ 3 → xs ≡ take_first 2 xs ++ unwrap_or (slice_get xs 2) default ∷ []
cut default [] h = absurd (none h)
  where
    none : ◌≡◌ {A = ℕ} 0 3 → ⊥
    none g = omega arith
cut default (x ∷ []) h = absurd (none h)
  where
    none : ◌≡◌ {A = ℕ} 1 3 → ⊥
    none g = omega arith
cut default (x ∷ y ∷ []) h = absurd (none h)
  where
    none : ◌≡◌ {A = ℕ} 2 3 → ⊥
    none g = omega arith
cut default (x ∷ y ∷ z ∷ []) h = refl
cut default (x ∷ y ∷ z ∷ u ∷ xs) h = absurd (none (length xs) h)
  where
    none : (n : ℕ) → suc (suc (suc (suc n))) ≡ 3 → ⊥
    none n g = omega arith

-- The delivery is of A's Send at its place, which the hub passed on where both were connected.
has_source : IsFromItsSend (at 0 steps) network (got 8 1 0x0A 1)
unfolding world_on_literals
has_source = record {
  sender = 0;
  dest = address 0x0B;
  sends = refl;
  came = inl (record {
    number = 0;
    at_hub = at_hub;
    found = refl;
    before = take_first 2 at_hub.posted;
    forward = forward;
    later = [];
    posted = cut nothing at_hub.posted refl;
    from = record { number = 1; caller = 0; who = peer 0x0A 0xAA };
    to = record { number = 2; caller = 1; who = peer 0x0B 0xBB };
    frame = frame_in forward.entry.call;
    id = 2;
    small = omega arith;
    carried = refl;
    call = refl;
    place = refl;
    sender_live = refl;
    receiver_live = refl;
    sender_link = (the_link 0, refl, refl);
    receiver_link = record { link = the_link 1; found = refl; leads = refl; dialled = refl; stands = (1, refl) };
    address = refl;
    destination = refl;
  });
}
