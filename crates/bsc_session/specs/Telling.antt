-- What the link of a session is told is what its turns say, of the same turns that the session has.
use Rattle.std.specs.Prelude.{ℕ, Bool, List, Option}
use Rattle.bsc_edge.specs.declared.notice.Notice.{Notice}
use Rattle.bsc_edge.specs.Told.{Grows}
use Rattle.bsc_hub.specs.declared.hub.Hub.{Hub}
use Rattle.bsc_session.specs.declared.session_state.SessionState.{SessionState}
use Rattle.bsc_session.specs.declared.ended.Ended.{Ended}
use Rattle.bsc_session.specs.declared.stop.Stop.{Stop}
use Rattle.bsc_session.specs.Course.{and_last, shares}
use Rattle.bsc_session.specs.MakingTurns.{Makes}
use Rattle.bsc_session.specs.Moments.{Moment}
use Rattle.bsc_session.specs.Notices.{notices_in, told_of}
use Rattle.bsc_session.specs.Running.{ServesBy, SessionRan, Stood}
use Rattle.bsc_session.specs.Serving.{Serves, ServesNoting, ServesUnrecorded}
use Rattle.bsc_session.specs.Standings.{Standing, Terms, begun}
use Rattle.bsc_session.specs.Worlds.{SessionWorld}

-- While this session was served, its link was told what its turns say, each in its turn, and nothing else.
abbrev pub Tells : {v : Terms} {before after : SessionWorld} {ended : Ended} → Serves v before after ended → Option (List Notice) → Option (List Notice) → Type 0
Tells served old new = Grows old new (told_of served.session.course)

-- There is a session as a serving call says, and its link was told what its turns say.
abbrev pub TellsUnrecorded : Terms → SessionWorld → SessionWorld → Ended → Option (List Notice) → Option (List Notice) → Type 0
TellsUnrecorded v before after ended old new = (s : ServesUnrecorded v before after ended) × Tells s.serves old new

abbrev pub TellsNoting : Terms → SessionWorld → SessionWorld → Ended → Option (List Notice) → Option (List Notice) → Type 0
TellsNoting v before after ended old new = (s : ServesNoting v before after ended) × Tells s.serves old new

-- ---- what no public clause cites

abbrev pub TellsBy : Bool → Terms → SessionWorld → SessionWorld → Ended → Option (List Notice) → Option (List Notice) → Type 0
TellsBy makes v before after ended old new = (s : ServesBy makes v before after ended) × Tells s.noting.serves old new

-- A turn was made, and its link was told what it says.
abbrev pub MakesTold : Terms → Standing → ℕ → Hub → Moment → Moment → Option (List Notice) → Option (List Notice) → Option Stop → Type 0
MakesTold v s now h before after old new stop = (m : Makes v s now h before after stop) × Grows old new (notices_in v s m.turn)

-- Turns were made that went on, and the link was told what they say.
abbrev pub StoodTold : Terms → SessionWorld → SessionWorld → SessionState → ℕ → Option (List Notice) → Option (List Notice) → Type 0
StoodTold v before after a now old new = (k : Stood v before after a now) × Grows old new (shares notices_in v begun k.turns)

-- All turns were made, and the link was told what they say.
abbrev pub RanTold : Terms → SessionWorld → SessionWorld → SessionState → Stop → Option (List Notice) → Option (List Notice) → Type 0
RanTold v before after a stop old new = (r : SessionRan v before after a stop) × Grows old new (shares notices_in v begun (and_last r.went_on r.last))
