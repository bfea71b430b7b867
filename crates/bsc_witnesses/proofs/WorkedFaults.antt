-- Counts of faults, calls that fail, what is told and what is held, written out.
-- No clause needs it: worked examples.
use Rattle.std.proofs.Common.{◌≡◌, ℕ, zero, suc, ◌<◌, ◌≤◌, true, false, ⊎_elim, inl, inr, List, [], ◌∷◌, take, Option, Some, None, Ok, Err, refl, ap, arith, lit<, lit≤}
use Rattle.std.specs.Prelude.{Vec, slice_index}
use Rattle.std.specs.declared.alloc.Global.{Global}
use Rattle.bsc_outside.specs.Calls.{is_next_failing}
use Rattle.bsc_outside.specs.Faults.{HasRisen, PutsPrefix}
use Rattle.bsc_edge.specs.declared.fault.LinkFault.{LinkFault}
use Rattle.bsc_edge.specs.declared.fault.LinkFault.TheVariants.{Failed, NoMemory}
use Rattle.bsc_edge.specs.Notes.{noted}
use Rattle.bsc_edge.specs.Told.{Stays, fault_in}
use Rattle.bsc_text.specs.Gave.{OfReads}
use Rattle.bsc_player.specs.Faults.{RisesIf}
use Rattle.bsc_ws.specs.Limits.{HasOurLimits}
use Rattle.bsc_witnesses.proofs.Pieces.{unlike}

-- ---- counts of faults

rises : HasRisen 3 4
rises = inl (lit< tt)

-- The last number of a count is reached, and faults go on.
rises_no_further : HasRisen 18446744073709551615 18446744073709551615
rises_no_further = inr (lit≤ tt)

rests : HasRisen 3 3 → ⊥
rests h = ⊎_elim (λ (risen : 3 < 3). omega (arith, risen)) (λ (last : 18446744073709551615 ≤ 3). omega (arith, last)) h

falls : HasRisen 4 3 → ⊥
falls h = ⊎_elim (λ (risen : 4 < 3). omega (arith, risen)) (λ (last : 18446744073709551615 ≤ 3). omega (arith, last)) h

-- A status that tells of a fault has one, and another tells of none.
tells_of_one : RisesIf {A = ℕ} 3 3 0 1
tells_of_one = λ is. inl (lit< tt)

tells_of_none : RisesIf {A = ℕ} 0 3 1 1
tells_of_none = λ is. absurd (unlike 0 3 refl is)

tells_without_one : RisesIf {A = ℕ} 3 3 3 3 → ⊥
tells_without_one h = rests (h refl)

-- ---- calls that fail

second_fails : is_next_failing (2 ∷ []) 1 ≡ true
second_fails = refl

third_fails : is_next_failing (2 ∷ []) 2 ≡ true → ⊥
third_fails h = (let bad : false ≡ true = h in cc)

-- ---- what is told

stays : Stays {A = ℕ} (Some 7) (Some 7)
stays = refl

told_no_more : Stays {A = ℕ} (Some 7) None
told_no_more = tt

changes : Stays {A = ℕ} (Some 7) (Some 8) → ⊥
changes h = unlike 8 7 refl h

told_at_last : Stays {A = ℕ} None (Some 7) → ⊥
told_at_last h = h

is_noted : (v : Vec ℕ Global) → noted (Some v) ≡ Some v.items
is_noted v = refl

is_not_noted : (v : Vec ℕ Global) → noted (Some v) ≡ None → ⊥
is_not_noted v h = cc

failed : fault_in {A = ℕ} (Err Failed) ≡ Some Failed
failed = refl

did_not_fail : fault_in {A = ℕ} (Ok 7) ≡ Some Failed → ⊥
did_not_fail h = (let bad : ◌≡◌ {A = Option LinkFault} None (Some Failed) = h in cc)

lacked_memory : fault_in {A = ℕ} (Err NoMemory) ≡ Some Failed → ⊥
lacked_memory h = (let bad : ◌≡◌ {A = Option LinkFault} (Some NoMemory) (Some Failed) = h in cc)

-- ---- what is held

-- Of two octets the first was put; the second alone can't be.
puts_one_of_two : PutsPrefix (Some (1 ∷ [])) (Some (1 ∷ 2 ∷ [])) (2 ∷ 3 ∷ [])
puts_one_of_two = (1, lit≤ tt, refl)

not_the_second : (n : ℕ) → ◌≡◌ {A = List ℕ} (3 ∷ []) (take n (2 ∷ 3 ∷ [])) → ⊥
not_the_second zero h = cc
not_the_second (suc n) h = unlike 3 2 refl (ap (λ (l : List ℕ). slice_index l 0) h)

puts_the_second : PutsPrefix (Some []) (Some (3 ∷ [])) (2 ∷ 3 ∷ []) → ⊥
puts_the_second h = not_the_second h.0 h.2

-- ---- what reads gave

-- An input begins with what was read of it, and goes on with whatever is left.
of_reads : OfReads (Some []) (Some ((7 ∷ []) ∷ [])) (λ o rest. o ≡ 7 ∷ rest)
of_reads = ((7 ∷ []) ∷ [], refl, λ rest follows. refl)

-- A read that gives nothing is the end of the input.
of_reads_to_the_end : OfReads (Some []) (Some ((7 ∷ []) ∷ [] ∷ [])) (λ o rest. rest ≡ [])
of_reads_to_the_end = ((7 ∷ []) ∷ [] ∷ [], refl, λ rest follows. follows refl)

-- No read is taken back.
unread : (So : List ℕ → List ℕ → Type 0) → OfReads (Some ((7 ∷ []) ∷ [])) (Some []) So → ⊥
unread So h = (let bad : ◌≡◌ {A = List (List ℕ)} [] ((7 ∷ []) ∷ h.0) = h.1 in cc)

-- ---- limits of a WebSocket

our_limits : HasOurLimits (Some 131072) (Some 131072) false
our_limits = (refl, refl, refl)

-- A frame may have any length, or lack its mask.
no_limit : HasOurLimits (Some 131072) None false → ⊥
no_limit h = (let bad : ◌≡◌ {A = Option ℕ} None (Some 131072) = h.1 in cc)

no_masks : HasOurLimits (Some 131072) (Some 131072) true → ⊥
no_masks h = (let bad : true ≡ false = h.2 in cc)
