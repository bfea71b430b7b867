-- How the line of an entry is read: what its words say, if it is such a line at all. Whether it is, writing it again
-- tells, so most of the words are passed over here.
use Rattle.std.specs.Prelude.{ℕ, ◌||◌, if◌then◌else◌, Bool, List, [], ◌∷◌, map, codes, Option, Some, None}
use Rattle.std.specs.Option.{option_map, option_and_then}
use Rattle.hex.specs.Hex.{decode_of, decode_sized}
use Rattle.bsc_octets.specs.Identities.{identity_of}
use Rattle.bsc_history.specs.declared.call.Call.{Call}
use Rattle.bsc_history.specs.declared.call.Call.TheVariants.{Connect, Forward, Leave, Stop, Count}
use Rattle.bsc_history.specs.declared.ending.End.{End}
use Rattle.bsc_history.specs.declared.ending.End.TheVariants.{Left, Replaced, Full, Stopped as EndStopped}
use Rattle.bsc_history.specs.declared.entry.Entry.{Entry}
use Rattle.bsc_history.specs.declared.looks.Look.{Look}
use Rattle.bsc_history.specs.declared.reply.Refusal.TheVariants.{Stopped as RefusedStopped, Duplicate, TableFull}
use Rattle.bsc_history.specs.declared.reply.Reply.{Reply}
use Rattle.bsc_history.specs.declared.reply.Reply.TheVariants.{Joined, Refused, Appended, Closed, Skipped, NoHolder, SentAll, NotCurrent}
use Rattle.bsc_history.specs.declared.reply.Reply.TheVariants.{Stopped, Gone, Counted}
use Rattle.bsc_text.specs.Lines.{same_octets}
use Rattle.bsc_text.specs.Grammar.{decoded, is_digit, is_letter, number_of}
use Rattle.bsc_text.specs.Words.{space, words_of}
use Rattle.bsc_journal.specs.Saying.{is_connect}

-- ---- words

-- an octet, with a space in place of what is no digit and no letter
abbrev pub loosened : ℕ → ℕ
loosened c = if is_digit c || is_letter c then c else space

-- The words of a line where all but digits and letters is a space.
abbrev pub loose_words : List ℕ → List (List ℕ)
loose_words l = words_of (map loosened l)

-- what the first of some words say, and the words after those
pub record Read (A : Type 0) : Type 0 where
  pub value : A
  pub rest : List (List ℕ)

abbrev pub read : {A : Type 0} → A → List (List ℕ) → Read A
read x ws = record { value = x; rest = ws }

-- the words after the first
abbrev pub after_one : List (List ℕ) → List (List ℕ)
after_one [] = []
after_one (w ∷ ws) = ws

-- the number that comes first
abbrev pub number_in : List (List ℕ) → Option (Read ℕ)
number_in [] = None
number_in (w ∷ ws) = option_map (λ n. read n ws) (number_of w)

-- a number in front of others
abbrev pub in_front_of : List ℕ → List (List ℕ) → Option ℕ → Read (List ℕ) → Read (List ℕ)
in_front_of w ws None more = read [] (w ∷ ws)
in_front_of w ws (Some n) more = read (n ∷ more.value) more.rest

-- the numbers that come first, as many as there are
abbrev pub numbers_in : List (List ℕ) → Read (List ℕ)
numbers_in [] = read [] []
numbers_in (w ∷ ws) = in_front_of w ws (number_of w) (numbers_in ws)

-- the looks that numbers are, two by two
abbrev pub looks_of : List ℕ → List Look
looks_of [] = []
looks_of (conn ∷ []) = []
looks_of (conn ∷ taken ∷ ns) = record { conn = conn; taken = taken } ∷ looks_of ns

-- ---- calls

-- a call with its looks
pub record Asked : Type 0 where
  pub call : Call
  pub looks : List Look

abbrev pub asked : Call → List Look → Asked
asked call looks = record { call = call; looks = looks }

-- a connect of the identity that octets say, where they were decoded
abbrev pub connect_of : List (List ℕ) → Option (List ℕ) → Option (Read Asked)
connect_of ws None = None
connect_of ws (Some octets) = Some (read (asked (Connect (identity_of octets)) []) ws)

-- a forward of a number and of octets, where they were read, with the looks that come first
abbrev pub forward_of : Read (List ℕ) → Option ℕ → Option (List ℕ) → Option (Read Asked)
forward_of looks (Some conn) (Some frame) = Some (read (asked (Forward conn frame) (looks_of looks.value)) looks.rest)
forward_of looks conn frame = None

-- a leave of three numbers, where they were read
abbrev pub leave_of : List (List ℕ) → Option ℕ → Option ℕ → Option ℕ → Option (Read Asked)
leave_of ws (Some conn) (Some taken) (Some empties) = Some (read (asked (Leave conn taken empties) []) ws)
leave_of ws conn taken empties = None

-- connects, forwards and leaves, by the words after their names
abbrev pub connect_in : List (List ℕ) → Option (Read Asked)
connect_in [] = None
connect_in (who ∷ ws) = connect_of ws (decoded (decode_sized who 26))

abbrev pub forward_in : List (List ℕ) → Option (Read Asked)
forward_in (conn ∷ frame ∷ ws) = forward_of (numbers_in (after_one ws)) (number_of conn) (decoded (decode_of frame))
forward_in ws = None

abbrev pub leave_in : List (List ℕ) → Option (Read Asked)
leave_in (conn ∷ taken ∷ empties ∷ ws) = leave_of ws (number_of conn) (number_of taken) (number_of empties)
leave_in ws = None

-- the call that comes first
abbrev pub call_in : List (List ℕ) → Option (Read Asked)
call_in [] = None
call_in (w ∷ ws) =
    if same_octets w (codes "connect") then connect_in ws
    else if same_octets w (codes "forward") then forward_in ws
    else if same_octets w (codes "leave") then leave_in ws
    else if same_octets w (codes "stop") then Some (read (asked Stop []) ws)
    else if same_octets w (codes "count") then Some (read (asked Count []) ws)
    else None

-- ---- replies

-- the End that a word names
abbrev pub end_of : List ℕ → Option End
end_of w =
    if same_octets w (codes "left") then Some Left
    else if same_octets w (codes "replaced") then Some Replaced
    else if same_octets w (codes "full") then Some Full
    else if same_octets w (codes "stopped") then Some EndStopped
    else None

-- the number of a word that may be missing
abbrev pub number_if : List (List ℕ) → Option ℕ
number_if [] = None
number_if (w ∷ ws) = number_of w

-- a reply of a number, which comes first
abbrev pub numbered : (ℕ → Reply) → List (List ℕ) → Option Reply
numbered reply ws = option_map reply (number_if ws)

-- a connect that joined: a number, and perhaps a word and another number
abbrev pub joined_in : List (List ℕ) → Option Reply
joined_in ws = option_map (λ conn. Joined conn (number_if (after_one (after_one ws)))) (number_if ws)

-- a broadcast's reply: a word and numbers, three times
abbrev pub sent_in : List (List ℕ) → Reply
sent_in ws =
    let to = numbers_in (after_one ws) in
    let missed = numbers_in (after_one to.rest) in
    let skipped = numbers_in (after_one missed.rest) in
    SentAll to.value missed.value skipped.value

-- a leave's reply: an End and a number
abbrev pub gone_in : List (List ℕ) → Option Reply
gone_in [] = None
gone_in (w ∷ ws) = option_and_then (λ ending. numbered (Gone ending) ws) (end_of w)

abbrev pub not_current_in : List (List ℕ) → Option Reply
not_current_in [] = None
not_current_in (w ∷ ws) = option_map NotCurrent (end_of w)

-- a number, where there is one, in front of others
abbrev pub kept : Option ℕ → List ℕ → List ℕ
kept None ns = ns
kept (Some n) ns = n ∷ ns

-- the numbers among some words
abbrev pub numbers_among : List (List ℕ) → List ℕ
numbers_among [] = []
numbers_among (w ∷ ws) = kept (number_of w) (numbers_among ws)

-- the counts that nine numbers are
abbrev pub counts_of : List ℕ → Option Reply
counts_of (joined ∷ replaced ∷ refused ∷ unicasts ∷ broadcasts ∷ appended ∷ dropped ∷ full ∷ missed ∷ []) =
    Some (Counted (record {
      joined = joined;
      replaced = replaced;
      refused = refused;
      unicasts = unicasts;
      broadcasts = broadcasts;
      appended = appended;
      dropped = dropped;
      full = full;
      missed = missed;
    }))
counts_of ns = None

-- a connect's reply, by its first word and those after it
abbrev pub connect_reply_in : List ℕ → List (List ℕ) → Option Reply
connect_reply_in w ws =
    if same_octets w (codes "joined") then joined_in ws
    else if same_octets w (codes "duplicate") then Some (Refused (Duplicate (number_if ws)))
    else if same_octets w (codes "tablefull") then numbered (λ rows. Refused (TableFull rows)) ws
    else None

-- a reply to a leave, a stop or a count
abbrev pub last_reply_in : List ℕ → List (List ℕ) → Option Reply
last_reply_in w ws =
    if same_octets w (codes "gone") then gone_in ws
    else if same_octets w (codes "counts") then counts_of (numbers_among ws)
    else connect_reply_in w ws

-- a broadcast's reply, or that of a sender that has ended or has no receiver
abbrev pub other_reply_in : List ℕ → List (List ℕ) → Option Reply
other_reply_in w ws =
    if same_octets w (codes "noholder") then Some NoHolder
    else if same_octets w (codes "sentall") then Some (sent_in ws)
    else if same_octets w (codes "notcurrent") then not_current_in ws
    else last_reply_in w ws

-- The reply that words are. Behind a connect, `stopped` is a refusal.
abbrev pub reply_in : Bool → List (List ℕ) → Option Reply
reply_in connects [] = None
reply_in connects (w ∷ ws) =
    if same_octets w (codes "stopped") then Some (if connects then Refused RefusedStopped else Stopped)
    else if same_octets w (codes "sent") then numbered Appended ws
    else if same_octets w (codes "full") then numbered Closed ws
    else if same_octets w (codes "long") then numbered Skipped ws
    else other_reply_in w ws

-- ---- entries

-- an entry of these at its place, where its reply was read
abbrev pub placed : ℕ → ℕ → Asked → Option Reply → Option (ℕ × Entry)
placed place caller a None = None
placed place caller a (Some reply) = Some (place, record { caller = caller; call = a.call; looks = a.looks; reply = reply })

-- an entry of a place and a caller, where they and its call were read
abbrev pub entry_of : Option ℕ → Option ℕ → Option (Read Asked) → Option (ℕ × Entry)
entry_of (Some place) (Some caller) (Some a) = placed place caller a.value (reply_in (is_connect a.value.call) a.rest)
entry_of place caller a = None

-- The place and the entry that words say.
abbrev pub entry_in : List (List ℕ) → Option (ℕ × Entry)
entry_in (place ∷ caller ∷ ws) = entry_of (number_of place) (number_of caller) (call_in ws)
entry_in ws = None

-- The place and the entry that a line says, if it is the line of an entry.
unfoldable pub read_of : List ℕ → Option (ℕ × Entry)
read_of l = entry_in (loose_words l)
