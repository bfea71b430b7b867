-- Which verdict a message has.
use Rattle.std.specs.Prelude.{◌≡◌, ℕ, ◌<◌, ◌^◌, true, false, List}
use Rattle.bsc_octets.specs.Envelopes.{SpellsEnvelope, HasWholeAddresses}
use Rattle.bsc_frame.specs.Spelling.{Spells}
use Rattle.bsc_checks.specs.declared.place.Place.{Place}
use Rattle.bsc_checks.specs.declared.verdict.Verdict.{Verdict}
use Rattle.bsc_checks.specs.declared.verdict.Verdict.TheVariants.{Pass, Carry, Silent, Nak}
use Rattle.bsc_checks.specs.Places.{is_to_carry}
use Rattle.bsc_checks.specs.Table.{IsFirst, NoneFails}
use Rattle.bsc_checks.specs.Naks.{IsAnswered, IsNak}

-- The verdict on a message at this place, where messages have this greatest length. The first check that fails decides.
-- Where none fails, the hub carries on what it is to carry, by the envelope that the octets begin with, and every other
-- message passes, as what its octets spell. Where one fails, a NAK answers where there is one to answer with, and else
-- there is silence.
abbrev pub Judged : List ℕ → Place → ℕ → Verdict → Type 0
Judged m place max (Pass msg) = NoneFails m place max × (is_to_carry place m ≡ false) × Spells msg m
Judged m place max (Carry envelope) = NoneFails m place max × (is_to_carry place m ≡ true) × SpellsEnvelope envelope m
    × HasWholeAddresses envelope × (envelope.id < 2 ^ 16)
Judged m place max (Silent check) = IsFirst check m place max × ((code : ℕ) → ¬ IsAnswered m check code)
Judged m place max (Nak check octets) = IsFirst check m place max × IsNak m place check octets.items
