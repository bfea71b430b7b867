-- How the log of a link follows what is said on it.
use Rattle.std.specs.Prelude.{◌≡◌, ℕ, List, [], ◌∷◌, ◌++◌, Bool, true, Option, Some, None, Ok, Err, ⊤}
use Rattle.std.specs.declared.time.Duration.{Duration}
use Rattle.bsc_accept.specs.declared.reason.Reason.{Reason}
use Rattle.bsc_edge.specs.declared.fault.LinkFault.TheVariants.{Failed, NoMemory}
use Rattle.bsc_edge.specs.declared.incoming.Incoming.TheVariants.{Message, Closed as PeerClosed}
use Rattle.bsc_edge.specs.declared.notice.Notice.{Notice}
use Rattle.bsc_edge.specs.declared.notice.Notice.TheVariants.{Asked, Known, Woke}
use Rattle.bsc_edge.specs.declared.said.Said.{Said}
use Rattle.bsc_edge.specs.declared.said.Said.TheVariants.{Gave, Put, Closed}
use Rattle.bsc_octets.specs.declared.identity.Identity.{Identity}
use Rattle.bsc_log.specs.declared.course.Course.{Course}
use Rattle.bsc_log.specs.declared.log_event.LogEvent.{LogEvent}
use Rattle.bsc_log.specs.declared.log_event.LogEvent.TheVariants.{Joined, Ended}
use Rattle.bsc_log.specs.declared.log_event.Cause.TheVariants.{LinkFault}
use Rattle.bsc_log.specs.declared.link_log.LinkLog.{LinkLog}
use Rattle.bsc_log.specs.declared.nak.Nak.{Nak}
use Rattle.bsc_log.specs.declared.stage.Stage.{Stage}
use Rattle.bsc_log.specs.declared.stage.Stage.TheVariants.{Silent}
use Rattle.bsc_log.specs.declared.log_record.LogRecord.{LogRecord}
use Rattle.bsc_log.specs.Asking.{Asks, AsksPlainly}
use Rattle.bsc_log.specs.Causes.{IsReasonOf, closed_at, peer_closed_at}
use Rattle.bsc_log.specs.Courses.{ended, heard, hushed, introduced, may_join, once, put, takeover, woken}
use Rattle.bsc_log.specs.Naks.{IsTold, nak_event}

-- Who asks to join by a message, on a link that is so far: the device of which it is the Connect-Request, and none on one that has
-- joined. A plain Connect-Request is always known; any other may not be, where there is no memory to read it.
abbrev pub IsAsker : Stage → List ℕ → Option Identity → Type 0
IsAsker stage m (Some who) = (may_join stage ≡ true) × Asks m who
IsAsker stage m None = may_join stage ≡ true → ¬ AsksPlainly m

-- What is told of a link of which this is known.
abbrev pub told_of : Course → Duration → LogEvent → LogRecord
told_of c since event = record { since = since; event = event; link = Some c.link; conn = c.conn; who = c.who; received = c.received; sent = c.sent }

-- What was told grew by this, if it is anything, with what is known of the link.
abbrev pub Tells : Course → Option LogEvent → List LogRecord → List LogRecord → Type 0
Tells c None old new = new ≡ old
Tells c (Some event) old new = (since : Duration) × (new ≡ old ++ told_of c since event ∷ [])

module _ {R : Type 0} where
  -- A log begins: no call was made on its link, nobody is known, nothing was counted, and nothing told.
  pub record Begins (log : LinkLog R) : Type 0 where
    pub silent : log.course.stage ≡ Silent
    pub conn : log.course.conn ≡ None
    pub who : log.course.who ≡ None
    pub received : log.course.received ≡ 0
    pub sent : log.course.sent ≡ 0
    pub told : log.told.items ≡ []

  -- A log goes on: this is known of its link then, and this is told of it, if anything is.
  abbrev pub GoesOn : LinkLog R → LinkLog R → Course → Option LogEvent → Type 0
  GoesOn old new c event = (new.course ≡ c) × Tells c event old.told.items new.told.items

  -- The link has ended, with this event.
  abbrev pub Ends : LinkLog R → LinkLog R → LogEvent → Type 0
  Ends old new event = GoesOn old new (ended old.course) (once old.course.stage event)

  -- How a log goes on by what is said on its link.
  abbrev pub Hears : LinkLog R → LinkLog R → Said → Type 0
  Hears old new (Gave wait (Ok (Message m))) =
      (asker : Option Identity) × IsAsker old.course.stage m asker × GoesOn old new (heard asker old.course) None
  Hears old new (Gave wait (Ok PeerClosed)) = (taken : Bool) × Ends old new (peer_closed_at old.course.stage taken)
  Hears old new (Gave wait (Err Failed)) = Ends old new (Ended LinkFault)
  Hears old new (Gave wait given) = GoesOn old new (hushed old.course) None
  Hears old new (Put m None) =
      (nak : Option Nak) × IsTold old.course.stage m nak × GoesOn old new (put m old.course) (nak_event nak)
  Hears old new (Put m (Some Failed)) = Ends old new (Ended LinkFault)
  Hears old new (Put m (Some NoMemory)) = GoesOn old new (hushed old.course) None
  Hears old new (Closed code text) =
      (reason : Option Reason) × IsReasonOf text reason × (taken : Bool) × Ends old new (closed_at old.course.stage code reason taken)

  -- How it goes on by what the link is told. What a receive makes of it stands above.
  abbrev pub Heeds : LinkLog R → LinkLog R → Notice → Type 0
  Heeds old new Asked = ⊤
  Heeds old new (Known conn) = GoesOn old new (introduced conn old.course) (Some Joined)
  Heeds old new (Woke conn) = GoesOn old new (woken old.course) (takeover old.course.stage conn)

  -- The same of a link that has a log. One without stays without.
  abbrev pub Follows : Option (LinkLog R) → Option (LinkLog R) → Said → Type 0
  Follows None None said = ⊤
  Follows (Some old) (Some new) said = Hears old new said
  Follows old new said = ⊥

  abbrev pub Minds : Option (LinkLog R) → Option (LinkLog R) → Notice → Type 0
  Minds None None notice = ⊤
  Minds (Some old) (Some new) notice = Heeds old new notice
  Minds old new notice = ⊥
