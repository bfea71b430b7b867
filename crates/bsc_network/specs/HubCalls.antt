-- The calls that are made on a hub of a network.
use Rattle.std.specs.Prelude.{ℕ, nat_le, Bool, List, [], ◌∷◌, ◌++◌, length, map, Option, Some, None}
use Rattle.bsc_history.specs.declared.entry.Entry.{Entry}
use Rattle.bsc_history.specs.declared.looks.Look.{Look}
use Rattle.bsc_history.specs.declared.call.Call.{Call}
use Rattle.bsc_history.specs.declared.connection.Connection.{Connection}
use Rattle.bsc_history.specs.declared.reply.Reply.{Reply}
use Rattle.bsc_history.specs.Ends.{joined, numbered}
use Rattle.bsc_history.specs.Legality.{looks_at}
use Rattle.bsc_history.specs.Replies.{reply}
use Rattle.bsc_network.specs.declared.limits.TheConstants.{LINKS}
use Rattle.bsc_network.specs.Worlds.{World, Hub, Link, history, link_at}
use Rattle.bsc_network.specs.Changes.{Change, with_hub}

-- ---- callers

-- The caller of a call that the hub's side of a link makes is the number of the link. There are at most so many links.
abbrev pub most_links : ℕ
most_links = LINKS

-- The caller of a Stop, which no link makes.
abbrev pub no_link : ℕ
no_link = most_links

-- ---- looks

abbrev pub taken_over : Option Link → ℕ
taken_over None = 0
taken_over (Some link) = link.side.taken

abbrev pub taken_by : World → Option Connection → ℕ
taken_by w None = 0
taken_by w (Some c) = taken_over (link_at w c.caller)

-- How many frames were taken from the outbox of c until now: by the hub's side of the link that joined as c.
abbrev pub taken_from : World → Hub → ℕ → ℕ
taken_from w h c = taken_by w (numbered c (joined (history h)))

-- Each look of a call finds the number of frames that were taken until now.
abbrev pub looks_in : World → Hub → Call → List Look
looks_in w h call = map (λ c. record { conn = c; taken = taken_from w h c }) (looks_at (history h) call)

-- ---- entries

-- The reply that a call is due.
abbrev pub reply_in : World → Hub → Call → Reply
reply_in w h call = reply h.about (history h) call (looks_in w h call)

-- The entry that a call makes.
abbrev pub entry_in : World → Hub → ℕ → Call → Entry
entry_in w h caller call = record { caller = caller; call = call; looks = looks_in w h call; reply = reply_in w h call }

-- A call is made on a hub: its entry joins the history, with the place of what led to it.
abbrev pub called : ℕ → ℕ → ℕ → Call → Change
called j caller place call w =
    with_hub j (λ h. record h { posted = h.posted ++ record { entry = entry_in w h caller call; sent_at = place } ∷ [] }) w

-- The hub has made as many entries as it may, and each further call but Stop and Leave is worn.
abbrev pub is_worn : Hub → Bool
is_worn h = nat_le h.about.limits.calls (length h.posted)
