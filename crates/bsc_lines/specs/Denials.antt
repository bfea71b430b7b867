-- The line of a denial.
use Rattle.std.specs.Prelude.{ℕ, List, ◌++◌, codes}
use Rattle.hex.specs.Hex.{encode_upper}
use Rattle.bsc_lines.specs.declared.denial.Denial.{Denial}
use Rattle.bsc_lines.specs.declared.denial.Denial.TheVariants.{OfConnect, OfPair}
use Rattle.bsc_lines.specs.Lines.{then_number}

-- The line of a denial, without its end: the rule, and the addresses in hexadecimal digits. A connect is denied by rule 0.
unfoldable pub denial_line : Denial → List ℕ
denial_line (OfConnect vmac) = codes "deny 0 connect " ++ encode_upper vmac.0
denial_line (OfPair rule from to) =
    codes "deny" ++ (then_number rule ++ (codes " from " ++ (encode_upper from.0 ++ (codes " to " ++ encode_upper to.0))))
