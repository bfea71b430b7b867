-- What an answer unfolds to compute the lines of journals on literal entries and denials.
-- It serves bsc_session_laws.
use Rattle.std.specs.Prelude.{⊤}
use Rattle.std.specs.Fmt.{digits}
use Rattle.hex.specs.Hex.{encode_with}
use Rattle.bsc_lines.specs.Lines.{entry_line}
use Rattle.bsc_lines.specs.Denials.{denial_line}

unfoldable pub lines_on_literals : ⊤
unfolding digits encode_with entry_line denial_line
lines_on_literals = tt
