-- A network written out, of those that the theorem speaks of, in which a unicast, a broadcast, a direct connection and a takeover
-- deliver.
-- No clause needs it: worked examples.
use Rattle.std.proofs.Common.{◌≡◌, ◌<◌, ℕ, ◌==◌, Bool, true, not, ◌&&◌, List, [], ◌∷◌, ◌++◌, refl, ap, arith}
use Rattle.std.specs.Prelude.{nat_lt, length, slice_index}
use Rattle.std.specs.List.{AllByRecursion, list_all}
use Rattle.std.proofs.lemmas.Bool.{eqb-true, ltb-true}
use Rattle.bsc_octets.specs.declared.vmac.Vmac.{Vmac}
use Rattle.bsc_octets.specs.Addresses.{same_vmac, broadcast, zero_vmac}
use Rattle.bsc_frame.specs.Payloads.{IsNode}
use Rattle.bsc_script.specs.Hubs.{IsHub}
use Rattle.bsc_node.specs.declared.node_event.NodeEvent.TheVariants.{Send, Resolve, DirectTo}
use Rattle.bsc_network.specs.declared.world_step.WorldStep.{WorldStep}
use Rattle.bsc_network.specs.declared.world_step.WorldStep.TheVariants.{Node as OfNode}
use Rattle.bsc_network.specs.Settings.{Added}
use Rattle.bsc_network.specs.Networks.{deliveries}
use Rattle.bsc_network.specs.Courses.{HasContent, IsWhole, MayMakeAll, IsCourse}
use Rattle.bsc_network.proofs.OnLiterals.{world_on_literals}
use Rattle.bsc_network.proofs.Scenes.{peer, primary, a, b, c, b_direct, address, at, joins, send, up, down, take, got, got_by_all}
use Rattle.bsc_lemmas.proofs.Booleans.{and_left, and_right, not_true as not_so}

-- A hub, A, B that accepts direct connections, B's identity again, and C.
abbrev pub network : List Added
network = primary ∷ a ∷ b_direct ∷ b ∷ c ∷ []

-- A sends to B; C joins, and A sends to all; A asks for B's URIs, dials B and sends to it; B's identity comes again as node 2 and
-- takes over, and C sends to it.
abbrev pub course : List WorldStep
course =
    joins 0 0 ++ joins 1 1 ++ send 0 (address 0x0B) 1 ∷ up 0 ∷ take 1 ∷ down 1 ∷ []
    ++ joins 3 2 ++ send 0 broadcast 2 ∷ up 0 ∷ take 1 ∷ down 1 ∷ take 2 ∷ down 2 ∷ []
    ++ OfNode 0 (Resolve (address 0x0B)) ∷ up 0 ∷ take 1 ∷ down 1 ∷ up 1 ∷ take 0 ∷ down 0 ∷ OfNode 0 (DirectTo (address 0x0B)) ∷ []
    ++ up 3 ∷ down 3 ∷ up 3 ∷ down 3 ∷ send 0 (address 0x0B) 3 ∷ up 3 ∷ []
    ++ joins 2 4 ++ send 3 (address 0x0B) 4 ∷ up 2 ∷ take 4 ∷ down 4 ∷ []

all_deliver : deliveries network (at 0 course) ≡ got 8 1 0x0A 1 ∷ got_by_all 16 1 0x0A 2 ∷ got_by_all 16 3 0x0A 2 ∷ got 34 1 0x0A 3 ∷ got 40 2 0x0C 4 ∷ []
unfolding world_on_literals
all_deliver = refl

-- ---- it is one of those that the theorem speaks of

abbrev head : Vmac → ℕ
head v = slice_index v.0 0

not_zero : ◌≡◌ {A = ℕ} 2 0 → ⊥
not_zero h = omega arith

not_all : ◌≡◌ {A = ℕ} 2 255 → ⊥
not_all h = omega arith

may_say : (n device : ℕ) → n < 0xFF → IsNode (peer n device)
may_say n device h = record { address = refl; device = refl; reserved = λ e. not_zero (ap head e); broadcast = λ e. not_all (ap head e); bvlc = omega arith; npdu = omega arith }

abbrev has_content : WorldStep → Bool
has_content (OfNode k (Send dest npdu)) = nat_lt 0 (length npdu) && not (same_vmac dest zero_vmac)
has_content step = true

content : (step : WorldStep) → has_content step ≡ true → HasContent step
content (OfNode k (Send dest npdu)) h = (ltb-true 0 (length npdu) (and_left (nat_lt 0 (length npdu)) _ h), not_so (same_vmac dest zero_vmac) (and_right (nat_lt 0 (length npdu)) _ h))
content step h = tt

abbrev has_address : WorldStep → Bool
has_address (OfNode k (Send dest npdu)) = length dest.0 == 6
has_address step = true

whole : (step : WorldStep) → has_address step ≡ true → IsWhole step
whole (OfNode k (Send dest npdu)) h = eqb-true (length dest.0) 6 h
whole step h = tt

may_make : (steps : List WorldStep) → list_all has_content steps ≡ true → list_all has_address steps ≡ true → MayMakeAll 0 (at 0 steps)
may_make [] h g = tt
may_make (s ∷ steps) h g = (
  record {
    later = omega arith;
    in_range = omega arith;
    content = content s (and_left (has_content s) (list_all has_content steps) h);
    whole = whole s (and_left (has_address s) (list_all has_address steps) g);
  },
  may_make steps (and_right (has_content s) (list_all has_content steps) h) (and_right (has_address s) (list_all has_address steps) g),
)

hub_fits : IsHub (record { hub = peer 0xF0 0xF0; limits = record { rows = 256; outbox = 64; calls = 1099511627776; callers = 4096 } })
hub_fits = record {
  some_rows = omega arith;
  few_rows = omega arith;
  some_room = omega arith;
  little_room = omega arith;
  some_calls = omega arith;
  few_calls = omega arith;
  some_callers = omega arith;
  few_callers = omega arith;
}

is_course : IsCourse network (at 0 course)
is_course = record {
  added_all = (
    record { few = omega arith; who = may_say 0xF0 0xF0 (omega arith); fit = hub_fits },
    (
      record { some_hub = omega arith; few = omega arith; who = may_say 0x0A 0xAA (omega arith) },
      (
        record { some_hub = omega arith; few = omega arith; who = may_say 0x0B 0xBB (omega arith) },
        (
          record { some_hub = omega arith; few = omega arith; who = may_say 0x0B 0xBB (omega arith) },
          (record { some_hub = omega arith; few = omega arith; who = may_say 0x0C 0xCC (omega arith) }, tt),
        ),
      ),
    ),
  );
  made_all = may_make course refl refl;
}
