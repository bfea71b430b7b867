-- What the words ask for that were read.
use Rattle.std.specs.Prelude.{Option, map, string_bytes}
use Rattle.bsc_cli.specs.declared.read.ReadWords.{ReadWords}
use Rattle.bsc_cli.specs.Words.{AskedOf, asked_by}

-- what the words of a run ask for, whether or not there was memory to read them
abbrev pub asked_in : ReadWords → Option AskedOf
asked_in read = asked_by (map string_bytes read.words.now)
