-- A small language, which the tests play: it repeats its lines.
use Rattle.std.specs.Prelude.{ℕ, Bool, true, false, if◌then◌else◌, List, [], ◌++◌, codes, Option, Some, None}
use Rattle.bsc_text.specs.Lines.{same_octets}
use Rattle.bsc_player.specs.Playing.{LineOutcome, Meaning}

-- What a line does, where the echo has begun or hasn't: the first line is `begin`, each later one is repeated, and
-- `stop` is refused.
abbrev pub echo_step : Bool → List ℕ → Option (LineOutcome Bool)
echo_step false line =
    if same_octets line (codes "begin") then Some (record { state = true; text = [] }) else None
echo_step true line =
    if same_octets line (codes "stop") then None else Some (record { state = true; text = line ++ codes "\n" })

-- An input may end once the echo has begun.
abbrev pub echo : Meaning Bool
echo = record { step = echo_step; may_end = λ begun. begun }
