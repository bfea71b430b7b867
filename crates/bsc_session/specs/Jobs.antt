-- What the job of a session does.
use Rattle.std.specs.Prelude.{◌≡◌, ◌≤◌, ℕ, Bool, true, false, List, length, Option, Some, None, option_map}
use Rattle.std.specs.declared.alloc.Global.{Global}
use Rattle.std.specs.declared.sync.Arc.{Arc}
use Rattle.std.specs.Arc.{arc_value}
use Rattle.bsc_outside.specs.Faults.{HasRisen}
use Rattle.bsc_history.specs.Marks.{entries}
use Rattle.bsc_turn.specs.Passes.{seen}
use Rattle.bsc_edge.specs.declared.said.Said.{Said}
use Rattle.bsc_edge.specs.declared.notice.Notice.{Notice}
use Rattle.bsc_session.specs.Notes.Notes.{Records}
use Rattle.bsc_policy.specs.declared.policy.Policy.{Policy}
use Rattle.bsc_session.specs.declared.job.SessionJob.{SessionJob}
use Rattle.bsc_session.specs.declared.session_end.SessionEnd.{SessionEnd}
use Rattle.bsc_session.specs.declared.why.Why.TheVariants.{JournalFault, LinkFault}
use Rattle.bsc_session.specs.Causes.{HasExactCause}
use Rattle.bsc_session.specs.Laws.{GrowsToFault}
use Rattle.bsc_session.specs.Serving.{AllStand, RiseWithin, Serves, terms_of}
use Rattle.bsc_session.specs.Standings.{Terms}
use Rattle.bsc_session.specs.Telling.{Tells}
use Rattle.bsc_session.specs.Talk.{journal_of, lost_of}

-- the policy that is shared, if one is
abbrev pub policy_of : Option (Arc Policy Global) → Option Policy
policy_of policy = option_map arc_value policy

-- Whether a job makes lines: where it is recorded, and where it has a policy.
abbrev pub makes_lines : Bool → Option Policy → Bool
makes_lines recorded (Some policy) = true
makes_lines recorded None = recorded

-- the terms of the serving call that a job makes
abbrev pub terms_in : {L C N : Type 0} → SessionJob L C N → Terms
terms_in job = terms_of (arc_value job.hub) job.pass job.limits job.turns (policy_of job.policy)

-- A job was worked off, and this is left of it. Its hub, pass, link, clock, journal and policy, with its limits and turns, made
-- one serving call: that left the link, the clock and the journal as these, which are let go, and the pass and its answer as
-- they are left. Talk, readings and own list grew by those of a session, no call on the link followed one that failed, the
-- cause is exact, and a fault of the link or of the journal raised its count. The link was told whose it is and whom it wakes, each in
-- its turn, as the entries of the session's turns say. Where the job makes lines, each own entry that it notes stands at its place in the history, at places that
-- rise, all behind what its pass had seen, and what it notes is in the journal; else the journal is as it was, and no line was
-- lost, as none was made.
module _ {L C N : Type 0} (talk : L → Option (List Said)) (faults : L → ℕ) (notices : L → Option (List Notice)) (readings : C → Option (List ℕ)) (held : N → Option (List ℕ)) (unput : N → ℕ) where
  pub record WorkedTo (job : SessionJob L C N) (left : SessionEnd L C N) (link : L) (clock : C) (journal : N) : Type 0 where
    pub served :
        Serves (terms_in job)
        (record { hub = arc_value job.hub; pass = job.pass; talk = talk job.link; readings = readings job.clock; held = held job.journal })
        (record { hub = arc_value job.hub; pass = left.pass; talk = talk link; readings = readings clock; held = held journal })
        left.ended
    pub noted : makes_lines job.is_recorded (policy_of job.policy) ≡ true
        → AllStand (entries (seen left.pass)) (journal_of served.session)
        × Records (held job.journal) (held journal) (journal_of served.session) (lost_of served.session)
        × RiseWithin (length (seen job.pass)) (length (seen left.pass)) (journal_of served.session)
    pub unnoted : makes_lines job.is_recorded (policy_of job.policy) ≡ false → (lost_of served.session ≡ None) × (journal ≡ job.journal)
    pub ends : GrowsToFault (talk job.link) (talk link)
    pub caused : HasExactCause (terms_in job) left.ended
    pub failed : left.ended.why ≡ LinkFault → HasRisen (faults job.link) (faults link)
    pub unrecorded : left.ended.why ≡ JournalFault → HasRisen (unput job.journal) (unput journal)
    pub later : faults job.link ≤ faults link
    pub woken : Tells served (notices job.link) (notices link)

  -- A job was worked off, and this is left of it, with what its link, its clock and its journal were at last.
  abbrev pub Worked : SessionJob L C N → SessionEnd L C N → Type 0
  Worked job left = WorkedTo job left left.last.link.value left.last.clock.value left.last.journal.value
