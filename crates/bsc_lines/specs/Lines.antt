-- The line of an entry.
use Rattle.std.specs.Prelude.{ℕ, List, [], ◌∷◌, ◌++◌, flat_map, codes, decimal}
use Rattle.hex.specs.Hex.{encode_upper}
use Rattle.bsc_octets.specs.Identities.{identity_octets}
use Rattle.bsc_history.specs.declared.call.Call.{Call}
use Rattle.bsc_history.specs.declared.call.Call.TheVariants.{Connect, Forward, Leave, Stop, Count}
use Rattle.bsc_history.specs.declared.entry.Entry.{Entry}
use Rattle.bsc_history.specs.declared.looks.Look.{Look}
use Rattle.bsc_history.specs.declared.reply.Reply.{Reply}
use Rattle.bsc_history.specs.declared.reply.Reply.TheVariants.{Joined, Refused, Gone, Counted}
use Rattle.bsc_lines.specs.Replies.{joined_words, refusal_words, forward_words, gone_words, counts_words}

-- a number behind a space
abbrev pub then_number : ℕ → List ℕ
then_number n = codes " " ++ decimal n

-- a look: the connection, and how many frames were found taken from its outbox
abbrev pub look_text : Look → List ℕ
look_text k = decimal k.conn ++ (codes ":" ++ decimal k.taken)

-- looks with commas between, or `-` where there are none
abbrev pub looks_text : List Look → List ℕ
looks_text [] = codes "-"
looks_text (k ∷ ks) = look_text k ++ flat_map (λ l. codes "," ++ look_text l) ks

-- A call. Only a forward looks at outboxes, so no other shows looks.
abbrev pub call_text : Call → List Look → List ℕ
call_text (Connect who) looks = codes "connect " ++ encode_upper (identity_octets who)
call_text (Forward conn frame) looks =
    codes "forward" ++ (then_number conn ++ (codes " " ++ (encode_upper frame ++ (codes " looks " ++ looks_text looks))))
call_text (Leave conn taken empties) looks =
    codes "leave" ++ (then_number conn ++ (then_number taken ++ then_number empties))
call_text Stop looks = codes "stop"
call_text Count looks = codes "count"

-- A reply, in the words that a replay writes behind a name.
abbrev pub reply_text : Reply → List ℕ
reply_text (Joined conn replaced) = joined_words conn replaced
reply_text (Refused refusal) = refusal_words refusal
reply_text (Gone ending taken) = gone_words (Gone ending taken)
reply_text (Counted counts) = counts_words counts
reply_text reply = forward_words reply

-- The line of an entry at its place, without its end: the place, who called, the call, and the reply.
unfoldable pub entry_line : ℕ → Entry → List ℕ
entry_line place e =
    decimal place ++ (then_number e.caller ++ (codes " " ++ (call_text e.call e.looks ++ (codes " " ++ reply_text e.reply))))
