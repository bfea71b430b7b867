-- Scripts that are refused, and those that say nothing: the text, and the number of the refused line.
-- No clause needs it: worked examples.
use Rattle.std.specs.Prelude.{◌≡◌, ℕ, List, [], ◌∷◌, ◌++◌, codes, Some, None, refl}
use Rattle.uuid.proofs.OnLiterals.{uuid_on_literals}
use Rattle.bsc_script.specs.Scripts.{replay_of}
use Rattle.bsc_script.proofs.OnLiterals.{script_on_literals}
use Rattle.bsc_script.proofs.Playing.{lines}

-- A hub line alone writes nothing.
hub_alone : replay_of (lines (
    codes "hub 0200000000FF 00112233445566778899AABBCCDDEEFF 0640 05D9 256 64" ∷
    []))
    ≡ record {
      text = lines (
          []);
      refused = None;
    }
unfolding script_on_literals uuid_on_literals
hub_alone = refl

-- A line of no form is refused.
unknown_line : replay_of (lines (
    codes "hub 0200000000FF 00112233445566778899AABBCCDDEEFF 0640 05D9 256 64" ∷
    codes "jump A" ∷
    []))
    ≡ record {
      text = lines (
          []);
      refused = Some 2;
    }
unfolding script_on_literals uuid_on_literals
unknown_line = refl

-- A script of no octets is refused at the number after its last line.
no_octets : replay_of (lines (
    []))
    ≡ record {
      text = lines (
          []);
      refused = Some 1;
    }
unfolding script_on_literals uuid_on_literals
no_octets = refl

-- The first line that does something has to be the hub line.
open_before_the_hub : replay_of (lines (
    codes "# a comment" ∷
    codes "" ∷
    codes "open A" ∷
    codes "hub 0200000000FF 00112233445566778899AABBCCDDEEFF 0640 05D9 256 64" ∷
    []))
    ≡ record {
      text = lines (
          []);
      refused = Some 3;
    }
unfolding script_on_literals uuid_on_literals
open_before_the_hub = refl

-- A second hub line is refused.
second_hub : replay_of (lines (
    codes "hub 0200000000FF 00112233445566778899AABBCCDDEEFF 0640 05D9 256 64" ∷
    codes "hub 0200000000FF 00112233445566778899AABBCCDDEEFF 0640 05D9 256 64" ∷
    []))
    ≡ record {
      text = lines (
          []);
      refused = Some 2;
    }
unfolding script_on_literals uuid_on_literals
second_hub = refl

-- A line of a name that isn't open is refused; what was written before it stays.
unknown_name : replay_of (lines (
    codes "hub 0200000000FF 00112233445566778899AABBCCDDEEFF 0640 05D9 256 64" ∷
    codes "open A" ∷
    codes "in A 06000001 02000000000A AAAAAAAAAAAAAAAAAAAAAAAAAAAAAAAA 0640 05D9" ∷
    codes "drop A" ∷
    codes "hold A" ∷
    []))
    ≡ record {
      text = lines (
          codes "A joined 1" ∷
          codes "A out 070000010200000000FF00112233445566778899AABBCCDDEEFF064005D9" ∷
          codes "A gone left 0" ∷
          []);
      refused = Some 5;
    }
unfolding script_on_literals uuid_on_literals
unknown_name = refl

-- The clock never goes back, and never past 10^15.
back_in_time : replay_of (lines (
    codes "hub 0200000000FF 00112233445566778899AABBCCDDEEFF 0640 05D9 256 64" ∷
    codes "at 5" ∷
    codes "at 4" ∷
    []))
    ≡ record {
      text = lines (
          []);
      refused = Some 3;
    }
unfolding script_on_literals uuid_on_literals
back_in_time = refl

-- The latest time is 10^15.
past_the_latest : replay_of (lines (
    codes "hub 0200000000FF 00112233445566778899AABBCCDDEEFF 0640 05D9 256 64" ∷
    codes "at 1000000000000000" ∷
    codes "at 1000000000000001" ∷
    []))
    ≡ record {
      text = lines (
          []);
      refused = Some 3;
    }
unfolding script_on_literals uuid_on_literals
past_the_latest = refl

-- A time is a plain number.
signed_time : replay_of (lines (
    codes "hub 0200000000FF 00112233445566778899AABBCCDDEEFF 0640 05D9 256 64" ∷
    codes "at 0" ∷
    codes "at 05" ∷
    []))
    ≡ record {
      text = lines (
          []);
      refused = Some 3;
    }
unfolding script_on_literals uuid_on_literals
signed_time = refl
