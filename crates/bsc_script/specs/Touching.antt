-- Whose outboxes a call changes: they gain a frame, or an End.
use Rattle.std.specs.Prelude.{ℕ, List, [], ◌∷◌, Option, Some, None}
use Rattle.bsc_history.specs.declared.reply.Reply.{Reply}
use Rattle.bsc_history.specs.declared.reply.Reply.TheVariants.{Joined, Appended, Closed, SentAll}
use Rattle.bsc_script.specs.declared.due.Due.{Due}
use Rattle.bsc_script.specs.declared.due.Due.TheVariants.{Nobody, One, Each}

-- the connection that a join takes over from, where there is one
abbrev pub replaced_list : Option ℕ → List ℕ
replaced_list None = []
replaced_list (Some conn) = conn ∷ []

-- The connections whose outboxes a call changes, by its reply: whoever is replaced, appended to or closed. A Stop changes
-- those of all live ones, and its reply names none.
abbrev pub touched : Reply → List ℕ
touched (Joined conn replaced) = replaced_list replaced
touched (Appended conn) = conn ∷ []
touched (Closed conn) = conn ∷ []
touched (SentAll to missed skipped) = to
touched reply = []

-- the connections that are noted
abbrev pub dues : Due → List ℕ
dues Nobody = []
dues (One conn) = conn ∷ []
dues (Each conns) = conns
