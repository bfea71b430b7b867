-- Octets that don't spell a message, envelopes and options that aren't whole, and a verdict that isn't given. Examples that hold
-- stand in the crates of these words.
-- No clause needs it: worked examples.
use Rattle.std.proofs.Common.{ℕ, ◌<◌, List, [], ◌∷◌, Some, None, slice_index, refl, ap, arith, lit<}
use Rattle.bsc_octets.specs.declared.envelope.Envelope.{Envelope}
use Rattle.bsc_octets.specs.Envelopes.{HasWholeAddresses, SpellsEnvelope}
use Rattle.bsc_options.specs.Spelling.{AreOptions, SpellsOptions}
use Rattle.bsc_frame.specs.declared.body.Body.TheVariants.{HeartbeatRequest, Npdu}
use Rattle.bsc_frame.specs.declared.message.Message.{Message}
use Rattle.bsc_frame.specs.Spelling.{HasSpelling, Spells}
use Rattle.bsc_checks.specs.declared.phase.Phase.TheVariants.{Connected}
use Rattle.bsc_checks.specs.declared.place.Place.TheVariants.{HubPort}
use Rattle.bsc_checks.specs.declared.verdict.Verdict.TheVariants.{Pass}
use Rattle.bsc_checks.specs.Verdicts.{Judged}
use Rattle.bsc_witnesses.proofs.Pieces.{unlike}

-- ---- messages

-- a Heartbeat-Request with this Message ID
abbrev heartbeat : ℕ → Message
heartbeat id = record { id = id; origin = None; dest = None; dest_options = []; data_options = []; body = HeartbeatRequest }

heartbeat_legal : HasSpelling (heartbeat 5)
heartbeat_legal = record { id = lit< tt; origin = tt; dest = tt; dest_options = tt; data_options = tt; place = λ some. absurd (omega (arith, some)); body = tt }

spelled : Spells (heartbeat 5) (0x0A ∷ 0x00 ∷ 0x00 ∷ 0x05 ∷ [])
spelled = record { legal = heartbeat_legal; octets = refl }

-- The octets have another Message ID.
not_spelled : Spells (heartbeat 5) (0x0A ∷ 0x00 ∷ 0x00 ∷ 0x06 ∷ []) → ⊥
not_spelled x = unlike 6 5 refl (ap (λ (l : List ℕ). slice_index l 3) x.octets)

-- A Message ID has two octets.
id_too_great : HasSpelling (heartbeat 65536) → ⊥
id_too_great x = (let bad : 65536 < 65536 = x.id in omega (arith, bad))

-- An Encapsulated-NPDU has an octet of payload.
empty_npdu : HasSpelling (record (heartbeat 5) { body = Npdu [] }) → ⊥
empty_npdu x = (let bad : 0 < 0 = x.body in omega (arith, bad))

-- ---- envelopes

abbrev envelope : ℕ → Envelope
envelope rest_at = record { function = 0x0A; flags = 0; id = 5; origin = None; dest = None; rest_at = rest_at }

begins : SpellsEnvelope (envelope 4) (0x0A ∷ 0x00 ∷ 0x00 ∷ 0x05 ∷ 0xAA ∷ [])
begins = record { spelling = refl; place = refl; origin = refl; dest = refl }

ends_elsewhere : SpellsEnvelope (envelope 5) (0x0A ∷ 0x00 ∷ 0x00 ∷ 0x05 ∷ 0xAA ∷ []) → ⊥
ends_elsewhere x = unlike 5 4 refl x.place

short_address : HasWholeAddresses (record (envelope 4) { origin = Some (record { 0 = 2 ∷ [] }) }) → ⊥
short_address x = unlike 1 6 refl x.origin

-- ---- options

no_options : AreOptions [] → ⊥
no_options x = (let bad : 0 < 0 = x.some in omega (arith, bad))

spells_no_options : SpellsOptions [] [] → ⊥
spells_no_options x = no_options x.options

-- ---- verdicts

-- A head that is cut doesn't pass, whatever message it were.
passes : (msg : Message) → Judged (0x01 ∷ 0x04 ∷ []) (HubPort Connected) 1600 (Pass msg) → ⊥
passes msg x = x.0.0 (lit< tt)
