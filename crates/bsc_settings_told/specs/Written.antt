-- The lines of settings, as the code has them.
use Rattle.std.specs.Prelude.{ℕ, List, Option, is_some}
use Rattle.bsc_settings.specs.Rows.{default_of}
use Rattle.bsc_settings.specs.Table.{absent, uris_default, Row}
use Rattle.bsc_settings.specs.Values.{Value, vmac, uuid, number, number_if, text, text_if}
use Rattle.bsc_settings_told.specs.declared.line.Line.{Line}
use Rattle.bsc_settings_told.specs.declared.line.Told.{Told}
use Rattle.bsc_settings_told.specs.declared.line.Told.TheVariants.{Address, Device, Number16, Number32, Number64, Text, TextIf, NumberIf, UrisOf}
use Rattle.bsc_settings_told.specs.Lines.{line_by}

-- a line with this key and this default
abbrev pub told_by : List ℕ → Option ℕ → Told → List ℕ
told_by word default (Address v) = line_by word (default_of default) (vmac v)
told_by word default (Device u) = line_by word (default_of default) (uuid u)
told_by word default (Number16 n) = line_by word (default_of default) (number n)
told_by word default (Number32 n) = line_by word (default_of default) (number n)
told_by word default (Number64 n) = line_by word (default_of default) (number n)
told_by word default (Text o) = line_by word (default_of default) (text o.now)
told_by word default (TextIf o) = line_by word absent (text_if o.now)
told_by word default (NumberIf n) = line_by word absent (number_if n)
told_by word default (UrisOf port o) = line_by word (uris_default (is_some port)) (text_if o.now)

-- the text of a line of the code
abbrev pub line_of : Line → List ℕ
line_of l = told_by l.0.now l.1 l.2

-- the line of a row with this value
abbrev pub row_line : Row → Value → List ℕ
row_line r value = line_by r.word r.default value
