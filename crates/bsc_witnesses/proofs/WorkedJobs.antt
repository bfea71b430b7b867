-- The job of a session, written out: one that may make no receive, so that its link is closed at once; and what is left of none.
-- No clause needs it: worked examples.
use Rattle.std.proofs.Common.{◌≡◌, ℕ, ◌<◌, ◌≤◌, true, false, ⊎_elim, List, [], ◌∷◌, ◌++◌, Option, Some, None, refl, sym, ◌∙◌, arith, lit≤, append-nil}
use Rattle.bsc_outside.specs.Faults.{HasRisen}
use Rattle.bsc_accept.specs.declared.reason.Reason.TheVariants.{Nothing as NoReason}
use Rattle.bsc_history.specs.declared.ending.End.TheVariants.{Left}
use Rattle.bsc_edge.specs.declared.notice.Notice.{Notice}
use Rattle.bsc_edge.specs.declared.said.Said.{Said}
use Rattle.bsc_edge.specs.declared.said.Said.TheVariants.{Closed}
use Rattle.bsc_turn.specs.Passes.{number_of, own_list, seen}
use Rattle.bsc_session.specs.declared.ended.Ended.{Ended}
use Rattle.bsc_session.specs.declared.job.SessionJob.{SessionJob}
use Rattle.bsc_session.specs.declared.last.Last.{Last}
use Rattle.bsc_session.specs.declared.limits.SessionLimits.{SessionLimits}
use Rattle.bsc_session.specs.declared.session_end.SessionEnd.{SessionEnd}
use Rattle.bsc_session.specs.declared.why.Why.{Why}
use Rattle.bsc_session.specs.declared.why.Why.TheVariants.{JournalFault, LinkFault, Spent}
use Rattle.bsc_session.specs.Causes.{CausesAreExact}
use Rattle.bsc_session.specs.Jobs.{Worked, makes_lines, policy_of, terms_in}
use Rattle.bsc_session.specs.Receiving.{Answer, worn}
use Rattle.bsc_session.specs.Serving.{terms_of}
use Rattle.bsc_session.specs.Standings.{Terms}
use Rattle.bsc_session.specs.Stops.{stop_closing}
use Rattle.bsc_session.specs.Talk.{Session}
use Rattle.bsc_turn.specs.declared.pass.Pass.{Pass}
use Rattle.bsc_hub.specs.declared.hub.Hub.{Hub}
use Rattle.bsc_witnesses.proofs.Pieces.{unlike}

-- ---- the terms of a session

terms_are : (h : Hub) (p : Pass) (l : SessionLimits) → (terms_of h p l 100 None).turns ≡ 100
terms_are h p l = refl

other_caller : (h : Hub) (p : Pass) (l : SessionLimits) → number_of p ≡ 3 → (terms_of h p l 100 None).caller ≡ 4 → ⊥
other_caller h p l three four = unlike 3 4 refl (sym three ∙ four)

-- ---- a job that was worked off

-- A link is what was said on it, and a clock is what it was read at. None fails; a link tells of no notice, a journal of nothing.
abbrev talk : List Said → Option (List Said)
talk link = Some link

abbrev faults : List Said → ℕ
faults link = 0

abbrev notices : List Said → Option (List Notice)
notices link = Some []

abbrev readings : List ℕ → Option (List ℕ)
readings clock = Some clock

abbrev held : ℕ → Option (List ℕ)
held journal = None

abbrev unput : ℕ → ℕ
unput journal = 0

abbrev Job : Type 0
Job = SessionJob (List Said) (List ℕ) ℕ

-- what is said, and how it ends: no receive may be made
abbrev said : List Said
said = Closed 1001 [] ∷ []

abbrev spent : Ended
spent = record { why = Spent; conn = None; taken = 0; empties = 0; turns = 0 }

no_connection : (c : ℕ) → ◌≡◌ {A = Option ℕ} None (Some c) → ⊥
no_connection c joined = cc

abbrev spent_session : (v : Terms) → v.turns ≡ 0 → Session v said [] [] [] spent
spent_session v none = record {
  course = record { went_on = []; last = None; stop = stop_closing Spent 1001 NoReason; turns = tt; goes_on = tt; stops = (sym none, refl) };
  talk = refl;
  readings = refl;
  reply = Left;
  entries = refl;
  replied = λ c e joined met. absurd (no_connection c joined);
  left_at = 0;
  left_lost = None;
  line = tt;
  received = refl;
  why = refl;
  conn = refl;
  taken = refl;
  empties = refl;
  made = refl;
}

-- It is told as its cause is exact, which is so of each session.
module _ (exact : CausesAreExact) (job : Job) (last : Last (List Said) (List ℕ) ℕ) (none : job.turns ≡ 0) (unlined : makes_lines job.is_recorded (policy_of job.policy) ≡ false)
    (spoke : last.link.value ≡ job.link ++ said) (read : last.clock.value ≡ job.clock) (kept : last.journal.value ≡ job.journal) where
  abbrev left : SessionEnd (List Said) (List ℕ) ℕ
  left = record { pass = job.pass; ended = spent; last = last }

  worked : Worked talk faults notices readings held unput job left
  worked = record {
    served = record {
      T = said;
      R = [];
      E = [];
      hub = refl;
      talk = spoke;
      readings = read ∙ sym (append-nil job.clock);
      goes = record {
        caller = job.of_hub;
        number = refl;
        sees = ([], sym (append-nil (seen job.pass)));
        own = sym (append-nil (own_list job.pass));
        took_in = refl;
        draws_none = refl;
      };
      session = spent_session (terms_in job) none;
      all = λ c e joined met. cc;
      is_worn = λ was. absurd (let bad : ◌≡◌ {A = Option Answer} None (Some worn) = was in cc);
    };
    noted = λ lined. absurd (let bad : false ≡ true = sym unlined ∙ lined in cc);
    unnoted = λ none_lined. (refl, kept);
    ends = (said, spoke, (tt, tt));
    caused = exact (terms_in job) spent;
    failed = λ because. absurd (let bad : ◌≡◌ {A = Why} Spent LinkFault = because in cc);
    unrecorded = λ because. absurd (let bad : ◌≡◌ {A = Why} Spent JournalFault = because in cc);
    later = lit≤ tt;
    woken = refl;
  }

-- A session that ends since its journal failed has raised the count of that.
not_worked : (job : Job) (left : SessionEnd (List Said) (List ℕ) ℕ) → left.ended.why ≡ JournalFault → Worked talk faults notices readings held unput job left → ⊥
not_worked job left because x = rests (x.unrecorded because)
  where
    rests : HasRisen 0 0 → ⊥
    rests r = ⊎_elim (λ (risen : 0 < 0). omega (arith, risen)) (λ (last : 18446744073709551615 ≤ 0). omega (arith, last)) r
