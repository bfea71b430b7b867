-- What is told of journals that aren't one legal history. Each text stands in a line by itself, without its end.
use Rattle.std.specs.Prelude.{ℕ, List, ◌++◌, codes}
use Rattle.bsc_history.specs.declared.entry.Entry.{Entry}
use Rattle.bsc_lines.specs.Lines.{looks_text, reply_text, then_number}
use Rattle.bsc_lines.specs.Replies.{list_words}
use Rattle.bsc_legality.specs.declared.breach.Breach.{Breach}
use Rattle.bsc_legality.specs.declared.breach.Breach.TheVariants.{Address, NotOwn, NoRoute, Calls, AfterStop, Outboxes, Taken, Due}

-- ---- entries

-- the caller doesn't have the connection
abbrev pub own_text : ℕ → ℕ → List ℕ
own_text conn caller =
    codes "connection" ++ (then_number conn ++ (codes " isn't one that caller" ++ (then_number caller ++ codes " joined, or has left")))

-- the hub answers no more calls
abbrev pub calls_text : ℕ → List ℕ
calls_text limit = codes "the hub answers" ++ (then_number limit ++ codes " calls, and had answered them")

-- from one number to another
abbrev pub range_text : ℕ → ℕ → List ℕ
range_text least most = codes ", and should be from" ++ (then_number least ++ (codes " to" ++ then_number most))

-- so many frames can't have been found taken
abbrev pub taken_text : ℕ → ℕ → ℕ → ℕ → List ℕ
taken_text conn taken least most =
    codes "frames taken from connection" ++ (then_number conn ++ (codes " were" ++ (then_number taken ++ range_text least most)))

-- What is told of an entry that breaks a condition: what it has, and what it should have.
unfoldable pub breach_text : Entry → Breach → List ℕ
breach_text e Address = codes "the VMAC that asks to join is zero or the broadcast, which are no one node's"
breach_text e (NotOwn conn) = own_text conn e.caller
breach_text e NoRoute = codes "the message has no Destination, or names its sender"
breach_text e (Calls limit) = calls_text limit
breach_text e AfterStop = codes "the hub had stopped"
breach_text e (Outboxes due) = codes "looks were " ++ (looks_text e.looks ++ (codes ", and should be at " ++ list_words due))
breach_text e (Taken conn taken least most) = taken_text conn taken least most
breach_text e (Due reply) = codes "reply was " ++ (reply_text e.reply ++ (codes ", and should be " ++ reply_text reply))

-- The same, behind the number of its line.
abbrev pub illegal_text : ℕ → Entry → Breach → List ℕ
illegal_text line e b = codes "line" ++ (then_number line ++ (codes ": " ++ breach_text e b))

-- ---- hub lines and places

-- There is no hub line.
abbrev pub no_hub_text : List ℕ
no_hub_text = codes "no line is a hub line: the journal of the hub's own caller has it"

-- Two lines are hub lines.
abbrev pub hubs_text : ℕ → ℕ → List ℕ
hubs_text m n = codes "lines" ++ (then_number m ++ (codes " and" ++ (then_number n ++ codes " are hub lines, and there should be one")))

-- Two lines have one place.
abbrev pub twice_text : ℕ → ℕ → ℕ → List ℕ
twice_text p m n = codes "lines" ++ (then_number m ++ (codes " and" ++ (then_number n ++ (codes " both have place" ++ then_number p))))

-- The first place isn't 0, but q, in line n.
abbrev pub first_text : ℕ → ℕ → List ℕ
first_text q n = codes "the first place is" ++ (then_number q ++ (codes ", in line" ++ then_number n))

-- The next place is q, in line n.
abbrev pub next_text : ℕ → ℕ → List ℕ
next_text q n = codes ", and the next is" ++ (then_number q ++ (codes ", in line" ++ then_number n))

-- Place p stands in line m, and the next place isn't p + 1, but q, in line n.
abbrev pub missing_text : ℕ → ℕ → ℕ → ℕ → List ℕ
missing_text p m q n = codes "line" ++ (then_number m ++ (codes " has place" ++ (then_number p ++ next_text q n)))
