-- What an answer unfolds to compute this crate's definitions on literal journals.
-- It serves bsc_audit and bsc_journal_laws.
use Rattle.std.specs.Prelude.{⊤}
use Rattle.std.specs.List.{IsDistinct}
use Rattle.bsc_lines.specs.Lines.{entry_line}

unfoldable pub journals_on_literals : ⊤
unfolding entry_line IsDistinct
journals_on_literals = tt
