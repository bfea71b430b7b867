-- What follows from the definition of what a link is told: whom a reply concerns, and that no entry of a session is left out.
use Rattle.std.specs.Prelude.{◌≡◌, ◌==◌, ◌||◌, ℕ, Bool, false, List, [], ◌∷◌, is_some}
use Rattle.std.specs.List.{list_any}
use Rattle.bsc_history.specs.declared.entry.Entry.{Entry}
use Rattle.bsc_history.specs.declared.reply.Reply.{Reply}
use Rattle.bsc_history.specs.Ends.{end_by_reply}
use Rattle.bsc_history.specs.Laws.{names}
use Rattle.bsc_edge.specs.declared.notice.Notice.{Notice}
use Rattle.bsc_edge.specs.declared.notice.Notice.TheVariants.{Asked, Known, Woke}
use Rattle.bsc_edge.specs.declared.said.Said.{Said}
use Rattle.bsc_session.specs.declared.ended.Ended.{Ended}
use Rattle.bsc_session.specs.Notices.{notices_by, notices_of, told_of}
use Rattle.bsc_session.specs.Standings.{Terms}
use Rattle.bsc_session.specs.Talk.{Session}

-- whether this notice wakes c
abbrev pub is_waking : ℕ → Notice → Bool
is_waking c Asked = false
is_waking c (Known k) = false
is_waking c (Woke k) = k == c

-- A reply wakes exactly those whose outboxes got the frame, and whom it ended.
abbrev pub WakesWhomItConcerns : Type 0
WakesWhomItConcerns = (r : Reply) (c : ℕ) → list_any (is_waking c) (notices_by r) ≡ (names c r || is_some (end_by_reply c r))

-- what a link is told beside its receives
abbrev pub beside_receives : List Notice → List Notice
beside_receives [] = []
beside_receives (Asked ∷ more) = beside_receives more
beside_receives (Known c ∷ more) = Known c ∷ beside_receives more
beside_receives (Woke c ∷ more) = Woke c ∷ beside_receives more

-- Beside its receives, the link of a session is told what follows from its own entries, in order, of each, and no more.
abbrev pub NoticesAreTheSessions : Type 0
NoticesAreTheSessions = (v : Terms) (T : List Said) (R : List ℕ) (E : List Entry) (frames : List (List ℕ)) (ended : Ended)
    (s : Session v T R E frames ended) → beside_receives (told_of s.course) ≡ notices_of E
