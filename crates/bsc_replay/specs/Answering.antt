-- The line that answers a question: the verdict.
use Rattle.std.specs.Prelude.{ℕ, List, ◌++◌, codes}
use Rattle.hex.specs.Hex.{encode_upper}
use Rattle.bsc_frame.specs.CheckNames.{check_name}
use Rattle.bsc_checks.specs.declared.verdict.Verdict.{Verdict}
use Rattle.bsc_checks.specs.declared.verdict.Verdict.TheVariants.{Pass, Carry, Silent, Nak}

-- The line of a verdict: `pass`, `carry`, `silent CK`, or `nak CK OCTETS` with the octets of the NAK.
abbrev pub verdict_line : Verdict → List ℕ
verdict_line (Pass message) = codes "pass\n"
verdict_line (Carry envelope) = codes "carry\n"
verdict_line (Silent check) = codes "silent " ++ check_name check ++ codes "\n"
verdict_line (Nak check octets) =
    codes "nak " ++ check_name check ++ codes " " ++ encode_upper octets.items ++ codes "\n"
