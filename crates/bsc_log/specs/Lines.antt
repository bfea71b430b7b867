-- The text of a line.
use Rattle.std.specs.Prelude.{ℕ, List, ◌++◌, codes, decimal}
use Rattle.bsc_log.specs.declared.log_event.LogEvent.{LogEvent}
use Rattle.bsc_log.specs.declared.log_event.LogEvent.TheVariants.{Joined, TookOver, Refused, Denied, Ended, NoSession, Nak as Answered, Turned, LeftOut}
use Rattle.bsc_log.specs.declared.log_event.Limited.{Limited}
use Rattle.bsc_log.specs.declared.log_event.Limited.TheVariants.{Naks, Denials, Turned as TurnedFor}
use Rattle.bsc_log.specs.declared.line.Line.{Line}
use Rattle.bsc_log.specs.Fields.{connection_text, peer_text}
use Rattle.bsc_log.specs.declared.nak.Nak.{Nak}
use Rattle.bsc_log.specs.Words.{cause_text, code_text, refusal_text, turning_text, word_of}

-- what a NAK says: its error class, error code and header marker as numbers, the code's name, and the checks that have it
abbrev pub nak_text : Nak → List ℕ
nak_text nak =
    codes "class " ++ (decimal nak.class ++ (codes " code " ++ (decimal nak.code ++ (codes " marker " ++ (decimal nak.marker
    ++ (codes " " ++ code_text nak.code))))))

-- how many lines were left out
abbrev pub left_out_text : Limited → ℕ → List ℕ
left_out_text Naks n = codes "left out " ++ decimal n
left_out_text Denials n = codes "left out " ++ decimal n
left_out_text (TurnedFor why) n = turning_text why ++ (codes ", left out " ++ decimal n)

-- why something became of a link; where there is no reason, a hyphen stands
abbrev pub reason_text : LogEvent → List ℕ
reason_text Joined = codes "-"
reason_text (TookOver conn) = codes "took over connection " ++ decimal conn
reason_text (Refused refusal) = refusal_text refusal
reason_text Denied = codes "policy"
reason_text (Ended cause) = cause_text cause
reason_text NoSession = codes "no session"
reason_text (Answered nak) = nak_text nak
reason_text (Turned why) = turning_text why
reason_text (LeftOut kind n) = left_out_text kind n

-- the time, what became of a link of a hub, and its number
abbrev pub what_text : Line → List ℕ
what_text line = line.stamp.bytes ++ (codes " hub " ++ (word_of line.event ++ (codes " link " ++ connection_text line.link)))

-- its connection, and who asked to join
abbrev pub whose_text : Line → List ℕ
whose_text line = codes " connection " ++ (connection_text line.conn ++ peer_text line.who)

-- how many messages came and were put, and why it became so
abbrev pub why_text : Line → List ℕ
why_text line =
    codes " received " ++ (decimal line.received ++ (codes " sent " ++ (decimal line.sent
    ++ (codes " cause " ++ reason_text line.event))))

-- A line.
abbrev pub line_text : Line → List ℕ
line_text line = what_text line ++ (whose_text line ++ why_text line)
