-- What is told of a line that is refused as a node runs.
use Rattle.std.specs.Prelude.{◌≡◌, ℕ, ◌<◌, true, is_some, List, ◌++◌, length, codes, decimal, Option, Some, None, ⊤}
use Rattle.std.specs.Option.{option_map}
use Rattle.bsc_text.specs.declared.bounds.TheConstants.{MAX_LINE_LEN}
use Rattle.bsc_node_run.specs.declared.line.Line.TheVariants.{At}
use Rattle.bsc_node_run.specs.Saying.{line_of}
use Rattle.bsc_live_lines.specs.declared.refusal.Refusal.{Refusal}
use Rattle.bsc_why.specs.declared.refusal_cause.RefusalCause.{RefusalCause}
use Rattle.bsc_why.specs.declared.refusal_cause.RefusalCause.TheVariants.{TooLong, NoLine, SetsTime, Late, Unread}

-- The reason as it is told. That of a line without a form is the rule that it breaks, of whose text nothing is said here.
abbrev pub cause_text : RefusalCause → Option (List ℕ)
cause_text TooLong = Some (codes "it is longer than 140,000 octets")
cause_text (NoLine rule) = None
cause_text SetsTime = Some (codes "it sets a time, and lines that come as the node runs have none")
cause_text Late = Some (codes "it stands behind `finish`, which is the last line that does anything")
cause_text Unread = Some (codes "there is no memory to say why")

-- What is told of the line with this number, without the LF behind it.
abbrev pub refused_text : ℕ → RefusalCause → Option (List ℕ)
refused_text number why = option_map (λ text. codes "refused line " ++ (decimal number ++ (codes ": " ++ text))) (cause_text why)

-- This is why a line is refused.
abbrev pub IsCause : RefusalCause → Refusal → Type 0
IsCause TooLong line = MAX_LINE_LEN < length line.text
IsCause (NoLine rule) line = line_of line.text ≡ None
IsCause SetsTime line = (ms : ℕ) × (line_of line.text ≡ Some (At ms))
IsCause Late line = (is_some (line_of line.text) ≡ true) × (line.has_finished ≡ true)
IsCause Unread line = ⊤
