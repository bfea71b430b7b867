-- The verdict on a message, computed from its octets. Which verdict a message has is said by `Judged`, in words of the standard; this is its value.
use Rattle.std.specs.Prelude.{ℕ, ◌&&◌, not, Bool, true, false, List, [], ◌∷◌, Option, Some, None}
use Rattle.byteorder.specs.Endian.{big_number}
use Rattle.bsc_octets.specs.declared.envelope.Envelope.{Envelope}
use Rattle.bsc_octets.specs.Envelopes.{flags_in}
use Rattle.bsc_octets.specs.Forwarding.{function_in, id_in}
use Rattle.bsc_octets.specs.Functions.{is_response}
use Rattle.bsc_frame.specs.declared.check.Check.{Check}
use Rattle.bsc_frame.specs.declared.check.Check.TheVariants.{C9}
use Rattle.bsc_frame.specs.declared.message.Message.{Message}
use Rattle.bsc_frame.specs.Layout.{options_at}
use Rattle.bsc_frame.specs.Spelling.{spelling}
use Rattle.bsc_checks.specs.declared.place.Place.{Place}
use Rattle.bsc_checks.specs.declared.verdict.Verdict.{Verdict}
use Rattle.bsc_checks.specs.declared.verdict.Verdict.TheVariants.{Pass, Carry, Silent, Nak}
use Rattle.bsc_checks.specs.Places.{origin_in, dest_in, is_to_carry}
use Rattle.bsc_checks.specs.Table.{code_of, checks_of}
use Rattle.bsc_checks.specs.Naks.{nak_to}
use Rattle.bsc_checks.specs.Options.{items_of, rest_of, dest_options_in, data_options_in}
use Rattle.bsc_checks.specs.Payloads.{body_in}
use Rattle.bsc_checks.specs.PlaceTests.{is_unicast}
use Rattle.bsc_checks.specs.Failing.{fails, refused_marker}

-- ---- what octets say

-- The envelope that octets begin with, each field read at its place.
abbrev pub envelope_in : List ℕ → Envelope
envelope_in m =
    record {
      function = function_in m;
      flags = flags_in m;
      id = big_number 2 (id_in m);
      origin = origin_in m;
      dest = dest_in m;
      rest_at = options_at m;
    }

-- The message that octets say, each part read at its place.
abbrev pub message_in : List ℕ → Message
message_in m =
    record {
      id = big_number 2 (id_in m);
      origin = origin_in m;
      dest = dest_in m;
      dest_options = items_of (dest_options_in m);
      data_options = items_of (data_options_in m);
      body = body_in (function_in m) (rest_of (data_options_in m));
    }

-- ---- what becomes of them

-- The number, or 0 where there is none.
abbrev pub number_or_0 : Option ℕ → ℕ
number_or_0 None = 0
number_or_0 (Some n) = n

-- The marker of the NAK that answers where this check fails.
abbrev pub marker_for : List ℕ → Check → ℕ
marker_for m C9 = number_or_0 (refused_marker m)
marker_for m check = 0

-- A NAK with this code, where the message is a unicast and no response, and else silence.
abbrev pub answered : Bool → List ℕ → Place → Check → ℕ → Verdict
answered true m place check code = Nak check (record { items = spelling (nak_to m place (marker_for m check) code) })
answered false m place check code = Silent check

-- What becomes of a message that the check refuses, by the code of the check: a NAK, or silence.
abbrev pub refused : List ℕ → Place → Check → Option ℕ → Verdict
refused m place check None = Silent check
refused m place check (Some code) = answered (is_unicast (dest_in m) && not (is_response (function_in m))) m place check code

-- What becomes of a message that no check refuses, which the hub is to carry on or not.
abbrev pub accepted : Bool → List ℕ → Verdict
accepted true m = Carry (envelope_in m)
accepted false m = Pass (message_in m)

-- What becomes of a message, by the first check that fails, where one does.
abbrev pub decided : List ℕ → Place → Option Check → Verdict
decided m place None = accepted (is_to_carry place m) m
decided m place (Some check) = refused m place check (code_of check)

-- The first of these checks that fails.
abbrev pub first_failing : (Check → Bool) → List Check → Option Check
first_failing test [] = None
first_failing test (check ∷ rest) = elim (test check) [ true ↦ Some check | false ↦ first_failing test rest ]

-- The verdict on a message at this place, where messages have this greatest length.
unfoldable pub outcome_of : List ℕ → Place → ℕ → Verdict
outcome_of m place max = decided m place (first_failing (fails m place max) (checks_of place m))
