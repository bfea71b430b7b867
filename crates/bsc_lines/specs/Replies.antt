-- The replies of a hub in words.
use Rattle.std.specs.Prelude.{ℕ, List, [], ◌∷◌, ◌++◌, flat_map, codes, decimal, Option, Some, None}
use Rattle.bsc_history.specs.declared.ending.End.{End}
use Rattle.bsc_history.specs.declared.ending.End.TheVariants.{Left, Replaced, Full, Stopped as EndStopped}
use Rattle.bsc_history.specs.declared.reply.Refusal.{Refusal}
use Rattle.bsc_history.specs.declared.reply.Refusal.TheVariants.{Stopped as RefusedStopped, Duplicate, TableFull}
use Rattle.bsc_history.specs.declared.reply.Reply.{Reply}
use Rattle.bsc_history.specs.declared.reply.Reply.TheVariants.{Appended, Closed, Skipped, NoHolder, SentAll, NotCurrent, Stopped, Gone}
use Rattle.bsc_history.specs.declared.counts.Counts.{Counts}

-- a word with the number of a connection, or of rows
abbrev pub numbered_word : List ℕ → ℕ → List ℕ
numbered_word word n = word ++ codes " " ++ decimal n

-- what a join says of the connection that it takes over from, where there is one
abbrev pub replacing_words : Option ℕ → List ℕ
replacing_words None = []
replacing_words (Some conn) = numbered_word (codes " replacing") conn

-- The reply to a connect that joined.
abbrev pub joined_words : ℕ → Option ℕ → List ℕ
joined_words conn replaced = numbered_word (codes "joined") conn ++ replacing_words replaced

-- who holds an address: a connection, or the hub itself
abbrev pub holder_words : Option ℕ → List ℕ
holder_words None = codes "duplicate hub"
holder_words (Some conn) = numbered_word (codes "duplicate") conn

-- The reply to a connect that is refused.
abbrev pub refusal_words : Refusal → List ℕ
refusal_words (Duplicate holder) = holder_words holder
refusal_words (TableFull rows) = numbered_word (codes "tablefull") rows
refusal_words RefusedStopped = codes "stopped"

-- how a connection ended
abbrev pub ending_word : End → List ℕ
ending_word Left = codes "left"
ending_word Replaced = codes "replaced"
ending_word Full = codes "full"
ending_word EndStopped = codes "stopped"

-- numbers of connections with commas between, or `-` where there are none
abbrev pub list_words : List ℕ → List ℕ
list_words [] = codes "-"
list_words (n ∷ ns) = decimal n ++ flat_map (λ k. codes "," ++ decimal k) ns

-- The reply to a unicast or a broadcast.
abbrev pub forward_words : Reply → List ℕ
forward_words (Appended conn) = numbered_word (codes "sent") conn
forward_words (Closed conn) = numbered_word (codes "full") conn
forward_words (Skipped conn) = numbered_word (codes "long") conn
forward_words NoHolder = codes "noholder"
forward_words (SentAll to missed skipped) =
    codes "sentall to=" ++ list_words to ++ codes " missed=" ++ list_words missed ++ codes " skipped=" ++ list_words skipped
forward_words (NotCurrent ending) = codes "notcurrent " ++ ending_word ending
forward_words Stopped = codes "stopped"
forward_words reply = []

-- The reply to a leave: how the connection ended, and how many frames were taken from its outbox.
abbrev pub gone_words : Reply → List ℕ
gone_words (Gone ending taken) = codes "gone " ++ numbered_word (ending_word ending) taken
gone_words reply = []

-- What the hub says of its counts.
abbrev pub counts_words : Counts → List ℕ
counts_words k =
    codes "counts"
    ++ (codes " joined=" ++ decimal k.joined
    ++ (codes " replaced=" ++ decimal k.replaced
    ++ (codes " refused=" ++ decimal k.refused
    ++ (codes " unicasts=" ++ decimal k.unicasts
    ++ (codes " broadcasts=" ++ decimal k.broadcasts
    ++ (codes " appended=" ++ decimal k.appended
    ++ (codes " dropped=" ++ decimal k.dropped
    ++ (codes " full=" ++ decimal k.full
    ++ (codes " missed=" ++ decimal k.missed)))))))))
