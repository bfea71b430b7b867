-- What a verdict says of the place and of the message.
-- It serves the clauses of `judge`, `one_outcome` and `passed`.
use Rattle.std.proofs.Common.{◌≡◌, ℕ, Bool, true, false, List, ◌++◌, Option, Some, None, Result, Err, sym, subst, ◌∙◌}
use Rattle.std.specs.List.{AllByRecursion}
use Rattle.bsc_octets.specs.declared.envelope.Envelope.{Envelope}
use Rattle.bsc_octets.specs.Forwarding.{function_in}
use Rattle.bsc_frame.specs.declared.check.Check.{Check}
use Rattle.bsc_frame.specs.declared.message.Message.{Message}
use Rattle.bsc_frame.specs.declared.fault.FrameFault.{FrameFault}
use Rattle.bsc_frame.specs.Spelling.{Spells}
use Rattle.bsc_frame.specs.Checks.{order}
use Rattle.bsc_frame.specs.Checks.{MessageFails}
use Rattle.bsc_frame.specs.Checks.{IsFirst as IsFrameFirst}
use Rattle.bsc_frame.specs.declared.fault.FrameFault.TheVariants as faults
use Rattle.bsc_frame.proofs.First.{pass_append, first_later, first_earlier, first_or_none}
use Rattle.bsc_checks.specs.declared.place.Place.{Place}
use Rattle.bsc_checks.specs.declared.failed_check.FailedCheck.{FailedCheck}
use Rattle.bsc_checks.specs.declared.verdict.Verdict.TheVariants.{Pass, Carry, Silent}
use Rattle.bsc_checks.specs.declared.phase.Phase.TheVariants.{Connected}
use Rattle.bsc_checks.specs.Places.{origin_in, is_to_carry, phase_of, IsInPlace}
use Rattle.bsc_checks.specs.Table.{Fails, IsFirst, NoneFails}
use Rattle.bsc_checks.specs.Verdicts.{Judged}
use Rattle.bsc_checks.proofs.InPlace.{connected_or_not}
use Rattle.bsc_checks.specs.Walk.{IsHead, NoneOf, ChecksAnswer, HeadAnswers, from_flags, silent_checks}

-- ---- from the stages to the whole

pub silent_head : (m : List ℕ) (place : Place) (max : ℕ) (k : Check) → HeadAnswers m place max (Err k) → Judged m place max (Silent k)
silent_head m place max k answer = (
  first_earlier (Fails m place max) silent_checks (from_flags (is_to_carry place m)) k answer.0,
  (λ code answered. let both : ◌≡◌ {A = Option ℕ} None (Some code) = sym answer.1 ∙ answered.code_is in absurd cc),
)

pub first_of_all : (m : List ℕ) (place : Place) (max : ℕ) (r : FailedCheck) → NoneOf silent_checks m place max → ChecksAnswer (from_flags (is_to_carry place m)) m place max (Some r)
    → IsFirst r.check m place max
first_of_all m place max r pass answer = first_later (Fails m place max) silent_checks (from_flags (is_to_carry place m)) r.check pass answer.0

pub none_of_all : (m : List ℕ) (place : Place) (max : ℕ) → NoneOf silent_checks m place max → ChecksAnswer (from_flags (is_to_carry place m)) m place max None → NoneFails m place max
none_of_all m place max pass rest = pass_append (Fails m place max) silent_checks (from_flags (is_to_carry place m)) pass rest

pub carried : (m : List ℕ) (e : Envelope) (place : Place) (max : ℕ) (b : Bool) → b ≡ is_to_carry place m → b ≡ true → IsHead m e → NoneFails m place max → Judged m place max (Carry e)
carried m e place max b is set head none = (none, sym is ∙ set, head.spells, head.whole, head.id_fits)

-- a message that all checks were made of and let pass
not_carried : (m : List ℕ) (place : Place) (max : ℕ) → is_to_carry place m ≡ false → NoneFails m place max → NoneOf (silent_checks ++ from_flags false) m place max
not_carried m place max other none = subst (λ (b : Bool). NoneOf (silent_checks ++ from_flags b) m place max) other none

pub frame_passes : (m : List ℕ) (place : Place) (max : ℕ) (b : Bool) → b ≡ is_to_carry place m → b ≡ false → NoneFails m place max → AllByRecursion (λ check. ¬ MessageFails m check) order
frame_passes m place max b is clear none =
    let all = not_carried m place max (sym is ∙ clear) none in
    let lists = all.1.1.1.1.1 in
    let payload = lists.1.1.1.1.1 in
    (all.0, (all.1.1.0, (all.1.1.1.1.0, (lists.0, (lists.1.0, (lists.1.1.0, (lists.1.1.1.0, (payload.0, (payload.1.0, (payload.1.1.0, (payload.1.1.1.0, tt)))))))))))

pub passed : (m : List ℕ) (place : Place) (max : ℕ) (b : Bool) (msg : Message) → b ≡ is_to_carry place m → b ≡ false → NoneFails m place max → Spells msg m → Judged m place max (Pass msg)
passed m place max b msg is clear none spells = (none, sym is ∙ clear, spells)

-- where octets spell a message, reading them wants memory or finds it
pub memory_of : (m : List ℕ) (r : Result Message FrameFault) (fault : FrameFault) → (r ≡ Err faults.NoMemory → (msg : Message) × Spells msg m)
    → ((k : Check) → r ≡ Err (faults.Fails k) → IsFrameFirst k m) → r ≡ Err fault
    → AllByRecursion (λ check. ¬ MessageFails m check) order → (msg : Message) × Spells msg m
memory_of m r (faults.Fails k) memory fails is pass = absurd (first_or_none (MessageFails m) order k pass (fails k is))
memory_of m r faults.NoMemory memory fails is pass = memory is

-- ---- the NAK

-- ---- what a machine that is handed a verdict knows

-- the last check holds
last_holds : (m : List ℕ) (place : Place) (max : ℕ) (b : Bool) → is_to_carry place m ≡ b → NoneFails m place max → (IsInPlace b place (function_in m) (origin_in m) → ⊥) → ⊥
last_holds m place max true is none out =
    let all = subst (λ (b : Bool). NoneOf (silent_checks ++ from_flags b) m place max) is none in
    all.1.1.1.1.1.0 (λ inside. out (subst (λ (b : Bool). IsInPlace b place (function_in m) (origin_in m)) is inside))
last_holds m place max false is none out =
    let all = subst (λ (b : Bool). NoneOf (silent_checks ++ from_flags b) m place max) is none in
    all.1.1.1.1.1.1.1.1.1.1.1.1.1.1.1.0 (λ inside. out (subst (λ (b : Bool). IsInPlace b place (function_in m) (origin_in m)) is inside))

-- a message is carried on only where the connection is made
pub carried_connected : (m : List ℕ) (place : Place) (max : ℕ) (e : Envelope) → Judged m place max (Carry e) → phase_of place ≡ Connected
carried_connected m place max e judged = connected_or_not (phase_of place) (λ out. last_holds m place max true judged.1 judged.0 out)
