-- Lines as they are written.
use Rattle.std.specs.Prelude.{◌≡◌, ℕ, List, [], ◌∷◌, ◌++◌, ⊤}
use Rattle.std.specs.Duration.{as_nanos}
use Rattle.bsc_log.specs.declared.line.Line.{Line}
use Rattle.bsc_log.specs.declared.log_record.LogRecord.{LogRecord}
use Rattle.bsc_log.specs.Lines.{line_text}
use Rattle.bsc_log.specs.Stamps.{IsStampOf}

-- the text of a line, and its end
abbrev pub ended_text : Line → List ℕ
ended_text line = line_text line ++ 10 ∷ []

-- The line says what was told: it has the stamp of that time, and all else as it was told.
pub record Says (told : LogRecord) (line : Line) : Type 0 where
  pub stamp : IsStampOf (as_nanos told.since) line.stamp.bytes
  pub event : line.event ≡ told.event
  pub link : line.link ≡ told.link
  pub conn : line.conn ≡ told.conn
  pub who : line.who ≡ told.who
  pub received : line.received ≡ told.received
  pub sent : line.sent ≡ told.sent

-- Of these lines each says what was told in its place.
abbrev pub AllSay : List LogRecord → List Line → Type 0
AllSay [] [] = ⊤
AllSay (one ∷ told) (line ∷ lines) = Says one line × AllSay told lines
AllSay told lines = ⊥
