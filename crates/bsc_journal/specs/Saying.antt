-- Which entries have a line, and what a line of a journal says.
use Rattle.std.specs.Prelude.{◌≡◌, ◌<◌, ℕ, ◌^◌, nat_eq, nat_lt, Bool, true, false, ◌&&◌, List, [], ◌∷◌, length, codes, Some, IsTrue, ⊤}
use Rattle.std.specs.List.{list_all, starts_with}
use Rattle.std.specs.Option.{option_to_list}
use Rattle.bsc_octets.specs.declared.identity.Identity.{Identity}
use Rattle.bsc_octets.specs.Identities.{identity_octets, identity_of}
use Rattle.bsc_history.specs.declared.call.Call.{Call}
use Rattle.bsc_history.specs.declared.call.Call.TheVariants.{Connect, Forward, Leave}
use Rattle.bsc_history.specs.declared.entry.Entry.{Entry}
use Rattle.bsc_history.specs.declared.limits.About.{About}
use Rattle.bsc_history.specs.declared.looks.Look.{Look}
use Rattle.bsc_history.specs.declared.reply.Refusal.TheVariants.{Stopped as RefusedStopped, Duplicate, TableFull}
use Rattle.bsc_history.specs.declared.reply.Reply.{Reply}
use Rattle.bsc_history.specs.declared.reply.Reply.TheVariants.{Joined, Refused, Appended, Closed, Skipped, SentAll, Stopped, Gone, Counted}
use Rattle.bsc_text.specs.Words.{words_of}
use Rattle.bsc_script.specs.declared.line.Line.TheVariants.{Hub as HubLine}
use Rattle.bsc_script.specs.Lines.{line_of}
use Rattle.bsc_journal.specs.declared.journal_record.JournalRecord.{JournalRecord}
use Rattle.bsc_journal.specs.declared.journal_record.JournalRecord.TheVariants.{Hub, Entry as AnEntry, Denial}
use Rattle.bsc_lines.specs.Lines.{entry_line}

-- ---- which entries have a line

-- whether a number has 1 to 19 digits
abbrev pub is_short : ℕ → Bool
is_short n = nat_lt n (10 ^ 19)

-- whether each of some numbers has
abbrev pub are_short : List ℕ → Bool
are_short ns = list_all is_short ns

-- whether the numbers of a call have
abbrev pub call_is_short : Call → Bool
call_is_short (Forward conn frame) = is_short conn
call_is_short (Leave conn taken empties) = are_short (conn ∷ taken ∷ empties ∷ [])
call_is_short call = true

-- whether the numbers of a look have
abbrev pub look_is_short : Look → Bool
look_is_short k = is_short k.conn && is_short k.taken

-- whether the numbers of a reply have
abbrev pub reply_is_short : Reply → Bool
reply_is_short (Joined conn replaced) = are_short (conn ∷ option_to_list replaced)
reply_is_short (Refused (Duplicate holder)) = are_short (option_to_list holder)
reply_is_short (Refused (TableFull rows)) = is_short rows
reply_is_short (Appended conn) = is_short conn
reply_is_short (Closed conn) = is_short conn
reply_is_short (Skipped conn) = is_short conn
reply_is_short (SentAll to missed skipped) = are_short to && (are_short missed && are_short skipped)
reply_is_short (Gone ending taken) = is_short taken
reply_is_short (Counted k) = are_short
    (k.joined ∷ k.replaced ∷ k.refused ∷ k.unicasts ∷ k.broadcasts ∷ k.appended ∷ k.dropped ∷ k.full ∷ k.missed ∷ [])
reply_is_short reply = true

-- whether these are octets
abbrev pub are_octets : List ℕ → Bool
are_octets o = list_all (λ c. nat_lt c 256) o

-- An identity that its 26 octets say, as those of each identity of the program do.
pub record IsIdentity (who : Identity) : Type 0 where
  pub long : length (identity_octets who) ≡ 26
  pub octets : IsTrue (are_octets (identity_octets who))
  pub said : identity_of (identity_octets who) ≡ who

-- The octets of a call are octets, and a frame has at least one.
abbrev pub HasOctets : Call → Type 0
HasOctets (Connect who) = IsIdentity who
HasOctets (Forward conn frame) = IsTrue (are_octets frame) × (0 < length frame)
HasOctets call = ⊤

-- A call shows its looks: a forward does, and another call has none.
abbrev pub ShowsLooks : Call → List Look → Type 0
ShowsLooks (Forward conn frame) looks = ⊤
ShowsLooks call looks = looks ≡ []

-- whether a call is a connect
abbrev pub is_connect : Call → Bool
is_connect (Connect who) = true
is_connect call = false

-- The word `stopped` is read by its call: behind a connect it is a refusal, and behind another call it is the reply of
-- a hub that has stopped.
abbrev pub FitsCall : Call → Reply → Type 0
FitsCall call (Refused RefusedStopped) = is_connect call ≡ true
FitsCall call Stopped = is_connect call ≡ false
FitsCall call reply = ⊤

-- An entry has a line where that line tells all of it: its numbers have 1 to 19 digits, its octets are octets, no look
-- is left out, and its reply is read by its call. A reply that belongs to another call makes an entry all the same.
pub record HasLine (place : ℕ) (e : Entry) : Type 0 where
  pub place_short : IsTrue (is_short place)
  pub caller_short : IsTrue (is_short e.caller)
  pub call_short : IsTrue (call_is_short e.call)
  pub looks_short : IsTrue (list_all look_is_short e.looks)
  pub reply_short : IsTrue (reply_is_short e.reply)
  pub octets : HasOctets e.call
  pub shown : ShowsLooks e.call e.looks
  pub fits : FitsCall e.call e.reply

-- A line is that of an entry at its place.
pub record IsLineOf (l : List ℕ) (place : ℕ) (e : Entry) : Type 0 where
  pub line : l ≡ entry_line place e
  pub has : HasLine place e

-- ---- what a line says

-- A hub line: one of a script, in any form that scripts take, with its seventh word, the number of calls.
pub record IsHubLine (l : List ℕ) (about : About) : Type 0 where
  pub line : line_of l ≡ Some (HubLine about)
  pub words : length (words_of l) ≡ 8

-- Whether a line begins with `deny`. It tells of what a policy denied, which is no part of the hub's history.
abbrev pub is_denial : List ℕ → Bool
is_denial l = starts_with nat_eq l (codes "deny")

-- What a line says: a hub, an entry at its place, or something denied, which is passed over.
abbrev pub Says : List ℕ → JournalRecord → Type 0
Says l (Hub about) = IsHubLine l about
Says l (AnEntry place e) = IsLineOf l place e
Says l Denial = IsTrue (is_denial l)
