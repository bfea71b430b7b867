-- The words of the functions that read a message part by part. Of public clauses those alone have them that make some of its checks: `EndsAnswers` and `PayloadAnswers`, with what these are made of.
use Rattle.std.specs.Prelude.{◌≡◌, ℕ, ◌<◌, ◌≤◌, ◌^◌, ◌⊎◌, IsTrue, Bool, true, false, List, [], ◌∷◌, length, Option, Some, None, Result, Ok, Err}
use Rattle.std.specs.List.{AllByRecursion}
use Rattle.bsc_octets.specs.declared.identity.Identity.{Identity}
use Rattle.bsc_octets.specs.Identities.{identity_octets}
use Rattle.bsc_octets.specs.declared.envelope.Envelope.{Envelope}
use Rattle.bsc_octets.specs.Envelopes.{SpellsEnvelope, HasWholeAddresses}
use Rattle.bsc_options.specs.declared.item.OptionItem.{OptionItem}
use Rattle.bsc_options.specs.Spelling.{HasShape}
use Rattle.bsc_frame.specs.declared.body.Body.{Body}
use Rattle.bsc_frame.specs.declared.lists.Ends.{Ends}
use Rattle.bsc_frame.specs.declared.message.Message.{Message}
use Rattle.bsc_frame.specs.declared.check.Check.{Check}
use Rattle.bsc_frame.specs.declared.check.Check.TheVariants.{C1, C3, C5, C6, C7, C7b, C8, C10, C10b, C10c, C11}
use Rattle.bsc_frame.specs.declared.fault.FrameFault.{FrameFault}
use Rattle.bsc_frame.specs.declared.fault.FrameFault.TheVariants.{Fails, NoMemory}
use Rattle.bsc_frame.specs.Payloads.{function_of, payload_of, HasPayload, IsNode}
use Rattle.bsc_frame.specs.Spelling.{Spells, TakesDataOptions}
use Rattle.bsc_frame.specs.Layout.{IsList, announces_dest_options, announces_data_options}
use Rattle.bsc_frame.specs.PayloadChecks.{expects_payload, fixed_part, takes_rest, IsMissing, IsBelowFixedPart, IsBeyondFixedPart, IsOutOfRange}
use Rattle.bsc_frame.specs.Checks.{IsFirstOf, IsFirst, HasItemAtFault}
use Rattle.bsc_frame.specs.Checks.{MessageFails}

-- ---- a payload

-- The check fails of a payload of this function.
abbrev pub PayloadFails : ℕ → List ℕ → Check → Type 0
PayloadFails function p C10 = IsMissing function p
PayloadFails function p C10b = IsBelowFixedPart function p
PayloadFails function p C10c = IsBeyondFixedPart function p
PayloadFails function p C11 = IsOutOfRange function p
PayloadFails function p check = ⊥

-- The checks of a payload, in their order.
abbrev pub payload_checks : List Check
payload_checks = C10 ∷ C10b ∷ C10c ∷ C11 ∷ []

-- What looking for a check that fails of a payload may answer.
abbrev pub PayloadAnswers : ℕ → List ℕ → Option Check → Type 0
PayloadAnswers function p None = AllByRecursion (λ check. ¬ PayloadFails function p check) payload_checks
PayloadAnswers function p (Some check) = IsFirstOf payload_checks (PayloadFails function p) check

-- The octets are the payload of this body, and the function is its.
abbrev pub IsBody : ℕ → List ℕ → Body → Type 0
IsBody function p body = HasPayload body × (function_of body ≡ function) × (payload_of body ≡ p)

-- What reading the payload of a function may answer.
abbrev pub BodyAnswers : ℕ → List ℕ → Result Body FrameFault → Type 0
BodyAnswers function p (Ok body) = IsBody function p body
BodyAnswers function p (Err (Fails check)) = IsFirstOf payload_checks (PayloadFails function p) check
BodyAnswers function p (Err NoMemory) = (body : Body) × IsBody function p body

-- What reading who connects may answer, for a Connect-Request as for a Connect-Accept.
abbrev pub IdentityAnswers : List ℕ → Result Identity Check → Type 0
IdentityAnswers p (Ok who) = IsNode who × (identity_octets who ≡ p)
IdentityAnswers p (Err check) = (function : ℕ) → (function ≡ 0x06) ⊎ (function ≡ 0x07) → IsFirstOf payload_checks (PayloadFails function p) check

-- A body without a payload.
pub record IsBare (body : Body) : Type 0 where
  pub payload : payload_of body ≡ []
  pub has : HasPayload body
  pub expects : expects_payload (function_of body) ≡ false
  pub fixed : (p : List ℕ) → fixed_part (function_of body) p ≡ 0
  pub rest : (p : List ℕ) → takes_rest (function_of body) p ≡ false

-- ---- what stands in front of it

-- The checks of the envelope, in their order.
abbrev pub head_checks : List Check
head_checks = C1 ∷ C3 ∷ C5 ∷ C6 ∷ []

-- The checks of the header options, in their order.
abbrev pub option_checks : List Check
option_checks = C7 ∷ C7b ∷ C8 ∷ []

-- The message begins with this envelope, no reserved flag of which is set, and the function of which is known.
pub record HasHead (m : List ℕ) (e : Envelope) : Type 0 where
  pub spells : SpellsEnvelope e m
  pub whole : HasWholeAddresses e
  pub id : e.id < 2 ^ 16
  pub flags : e.flags ≤ 0x0F
  pub function : e.function ≤ 0x0C

-- What reading the envelope may answer.
abbrev pub HeadAnswers : List ℕ → Result Envelope Check → Type 0
HeadAnswers m (Ok e) = HasHead m e
HeadAnswers m (Err check) = IsFirstOf head_checks (MessageFails m) check

-- Behind the envelope stand these lists of options, the second from place `at` on, and then from `end` on the payload; they can stand there.
pub record HasLists (m : List ℕ) (e : Envelope) (at : ℕ) (end : ℕ) (dest_items : List OptionItem) (data_items : List OptionItem) : Type 0 where
  pub dest_list : IsList (announces_dest_options e.flags) m e.rest_at dest_items at
  pub data_list : IsList (announces_data_options e.flags) m at data_items end
  pub dest_shapes : AllByRecursion HasShape dest_items
  pub data_shapes : AllByRecursion HasShape data_items
  pub place : IsTrue (announces_data_options e.flags) → TakesDataOptions e.function
  pub middle : at ≤ length m
  pub within : end ≤ length m

-- Whether an item of an announced list has no shape.
abbrev pub FaultAnswers : Bool → List ℕ → ℕ → Bool → Type 0
FaultAnswers announced m at true = (announced ≡ true) × HasItemAtFault m at
FaultAnswers announced m at false = (items : List OptionItem) (end : ℕ) → IsList announced m at items end → AllByRecursion HasShape items

-- What looking at the lists may answer.
abbrev pub EndsAnswers : List ℕ → Envelope → Result Ends Check → Type 0
EndsAnswers m e (Ok ends) = (dest_items : List OptionItem) × (data_items : List OptionItem) × HasLists m e ends.dest ends.data dest_items data_items
EndsAnswers m e (Err check) = IsFirstOf option_checks (MessageFails m) check

-- ---- the whole

-- What reading a message may answer.
abbrev pub MessageAnswers : List ℕ → Result Message FrameFault → Type 0
MessageAnswers m (Ok msg) = Spells msg m
MessageAnswers m (Err (Fails check)) = IsFirst check m
MessageAnswers m (Err NoMemory) = (msg : Message) × Spells msg m
