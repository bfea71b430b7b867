-- The envelope of a message, and the checks of it that pass.
-- It serves clauses of functions of `head`, `laws`, `lists` and `reading`.
use Rattle.std.proofs.Common.{◌≡◌, ℕ, ◌+◌, ◌<◌, ◌≤◌, Bool, true, false, List, [], ◌∷◌, ◌++◌, length, get_or, drop, Option, Some, None, is_some, IfSome, refl, ap, arith, length-append, if◌then◌else◌}
use Rattle.bsc_octets.specs.declared.vmac.Vmac.{Vmac}
use Rattle.bsc_octets.specs.declared.envelope.Envelope.{Envelope}
use Rattle.bsc_octets.specs.Envelopes.{flags_in, announces_origin, announces_dest, announced_length, address_octets, envelope_octets, SpellsEnvelope, HasWholeAddresses}
use Rattle.bsc_octets.specs.Forwarding.{function_in}
use Rattle.bsc_frame.specs.declared.check.Check.TheVariants.{C1, C3, C5, C6}
use Rattle.bsc_frame.specs.Layout.{options_at}
use Rattle.bsc_frame.specs.Checks.{IsFirstOf, IsShort, LacksAddressOctets, MessageFails}
use Rattle.bsc_frame.specs.Walk.{HasHead, head_checks}
use Rattle.bsc_frame.proofs.First.{Pass}

-- ---- what an envelope says of the octets

pub record HeadFacts (m : List ℕ) (e : Envelope) : Type 0 where
  pub function : function_in m ≡ e.function
  pub flags : flags_in m ≡ e.flags
  pub place : options_at m ≡ e.rest_at
  pub four : 4 ≤ e.rest_at
  pub within : e.rest_at ≤ length m

-- an address has the octets that its flag announces
address_long : (b : Bool) (v : Option Vmac) → b ≡ is_some v → IfSome v (λ w. length w.0 ≡ 6) → length (address_octets v) ≡ (if b then 6 else 0)
address_long true None same six = absurd cc
address_long false None same six = refl
address_long true (Some v) same six = six
address_long false (Some v) same six = absurd cc

pub head_facts : (m : List ℕ) (e : Envelope) → SpellsEnvelope e m → HasWholeAddresses e → HeadFacts m e
head_facts m e spells whole =
    let spelling : m ≡ envelope_octets e ++ drop e.rest_at m = spells.spelling in
    let flags : flags_in m ≡ e.flags = ap (λ (l : List ℕ). get_or l 1 0) spelling in
    let o : length (address_octets e.origin) ≡ (if announces_origin e.flags then 6 else 0) = address_long (announces_origin e.flags) e.origin spells.origin whole.origin in
    let d : length (address_octets e.dest) ≡ (if announces_dest e.flags then 6 else 0) = address_long (announces_dest e.flags) e.dest spells.dest whole.dest in
    let addresses : length (address_octets e.origin ++ address_octets e.dest) ≡ announced_length e.flags = (let sum = length-append (address_octets e.origin) (address_octets e.dest) in omega arith) in
    let place : e.rest_at ≡ length (envelope_octets e) = spells.place in
    let announced : options_at m ≡ 4 + announced_length e.flags = ap (λ (f : ℕ). 4 + announced_length f) flags in
    record {
      function = ap (λ (l : List ℕ). get_or l 0 0) spelling;
      flags = flags;
      place = omega arith;
      four = omega arith;
      within = omega (arith, ap length spelling, length-append (envelope_octets e) (drop e.rest_at m));
    }

-- ---- the checks

pub not_short : (m : List ℕ) (e : Envelope) → HeadFacts m e → IsShort m → ⊥
not_short m e facts short = absurd (let four = facts.four in let within = facts.within in omega arith)

pub lacks_none : (m : List ℕ) (e : Envelope) → HeadFacts m e → LacksAddressOctets m → ⊥
lacks_none m e facts lacks = absurd (let place = facts.place in let within = facts.within in let less = lacks.1 in omega arith)

pub head_passes : (m : List ℕ) (e : Envelope) → HasHead m e → Pass (MessageFails m) head_checks
head_passes m e head =
    let facts = head_facts m e head.spells head.whole in (
      not_short m e facts,
      (
        lacks_none m e facts,
        (
          (λ reserved. absurd (let same = facts.flags in let few = head.flags in omega arith)),
          ((λ unknown. absurd (let same = facts.function in let few = head.function in omega arith)), tt),
        ),
      ),
    )

pub first_short : (m : List ℕ) → length m < 4 → IsFirstOf head_checks (MessageFails m) C1
first_short m short = record { before = []; after = C3 ∷ C5 ∷ C6 ∷ []; place = refl; earlier = tt; fault = short }

pub first_cut : (m : List ℕ) → 4 ≤ length m → length m < options_at m → IsFirstOf head_checks (MessageFails m) C3
first_cut m four less = record { before = C1 ∷ []; after = C5 ∷ C6 ∷ []; place = refl; earlier = ((λ short. absurd (omega arith)), tt); fault = (four, less) }

pub first_reserved : (m : List ℕ) (e : Envelope) → SpellsEnvelope e m → HasWholeAddresses e → 0x0F < e.flags → IsFirstOf head_checks (MessageFails m) C5
first_reserved m e spells whole reserved =
    let facts = head_facts m e spells whole in
    record { before = C1 ∷ C3 ∷ []; after = C6 ∷ []; place = refl; earlier = (not_short m e facts, (lacks_none m e facts, tt)); fault = (let same = facts.flags in omega arith) }

pub first_unknown : (m : List ℕ) (e : Envelope) → SpellsEnvelope e m → HasWholeAddresses e → e.flags ≤ 0x0F → 0x0C < e.function → IsFirstOf head_checks (MessageFails m) C6
first_unknown m e spells whole few unknown =
    let facts = head_facts m e spells whole in
    record {
      before = C1 ∷ C3 ∷ C5 ∷ [];
      after = [];
      place = refl;
      earlier = (not_short m e facts, (lacks_none m e facts, ((λ reserved. absurd (let same = facts.flags in omega arith)), tt)));
      fault = (let same = facts.function in omega arith);
    }
