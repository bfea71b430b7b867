-- A job that was worked off, by what its serving call says.
-- It serves the clauses of `work`.
use Rattle.std.proofs.Common.{◌≡◌, ◌≤◌, ℕ, true, false, List, None, Option, sym, subst, ◌∙◌, true≢false}
use Rattle.std.specs.Arc.{arc_value}
use Rattle.bsc_outside.specs.Faults.{HasRisen}
use Rattle.bsc_hub.specs.declared.hub.Hub.{Hub}
use Rattle.bsc_edge.specs.declared.said.Said.{Said}
use Rattle.bsc_edge.specs.declared.notice.Notice.{Notice}
use Rattle.bsc_policy.specs.declared.policy.Policy.{Policy}
use Rattle.bsc_session.specs.declared.job.SessionJob.{SessionJob}
use Rattle.bsc_session.specs.declared.session_end.SessionEnd.{SessionEnd}
use Rattle.bsc_session.specs.declared.why.Why.TheVariants.{JournalFault, LinkFault}
use Rattle.bsc_session.specs.Causes.{HasExactCause}
use Rattle.bsc_session.specs.Jobs.{WorkedTo, makes_lines, policy_of, terms_in}
use Rattle.bsc_session.specs.Laws.{GrowsToFault}
use Rattle.bsc_session.specs.Serving.{terms_of}
use Rattle.bsc_session.specs.Telling.{TellsNoting, TellsUnrecorded}
use Rattle.bsc_session.specs.Worlds.{world}

module _ {L C N : Type 0} (talk : L → Option (List Said)) (faults : L → ℕ) (notices : L → Option (List Notice)) (readings : C → Option (List ℕ)) (held : N → Option (List ℕ)) (unput : N → ℕ)
    (job : SessionJob L C N) (left : SessionEnd L C N) (link : L) (clock : C) (journal : N) (h : Hub) (p : Option Policy)
    (same : h ≡ arc_value job.hub) (guards : p ≡ policy_of job.policy) where
  exactly : HasExactCause (terms_of h job.pass job.limits job.turns p) left.ended → HasExactCause (terms_in job) left.ended
  exactly c =
      subst (λ y. HasExactCause (terms_of y job.pass job.limits job.turns (policy_of job.policy)) left.ended) same
      (subst (λ q. HasExactCause (terms_of h job.pass job.limits job.turns q) left.ended) guards c)

  -- it makes lines
  pub noted_work : makes_lines job.is_recorded (policy_of job.policy) ≡ true
      → TellsNoting (terms_of h job.pass job.limits job.turns p) (world h job.pass (talk job.link) (readings job.clock) (held job.journal))
      (world h left.pass (talk link) (readings clock) (held journal)) left.ended (notices job.link) (notices link)
      → GrowsToFault (talk job.link) (talk link) → HasExactCause (terms_of h job.pass job.limits job.turns p) left.ended
      → (left.ended.why ≡ LinkFault → HasRisen (faults job.link) (faults link))
      → (left.ended.why ≡ JournalFault → HasRisen (unput job.journal) (unput journal)) → faults job.link ≤ faults link
      → WorkedTo talk faults notices readings held unput job left link clock journal
  noted_work makes told ends caused failed unrecorded later =
      let s : TellsNoting (terms_in job) (world (arc_value job.hub) job.pass (talk job.link) (readings job.clock) (held job.journal))
      (world (arc_value job.hub) left.pass (talk link) (readings clock) (held journal)) left.ended (notices job.link) (notices link) =
      subst (λ y. TellsNoting (terms_of y job.pass job.limits job.turns (policy_of job.policy)) (world y job.pass (talk job.link) (readings job.clock) (held job.journal))
      (world y left.pass (talk link) (readings clock) (held journal)) left.ended (notices job.link) (notices link)) same
      (subst (λ q. TellsNoting (terms_of h job.pass job.limits job.turns q) (world h job.pass (talk job.link) (readings job.clock) (held job.journal))
      (world h left.pass (talk link) (readings clock) (held journal)) left.ended (notices job.link) (notices link)) guards told) in
      record {
        served = s.0.serves;
        noted = λ e. (s.0.stand, s.0.records, s.0.rise);
        unnoted = λ e. absurd (true≢false (sym makes ∙ e));
        ends = ends;
        caused = exactly caused;
        failed = failed;
        unrecorded = unrecorded;
        later = later;
        woken = s.1;
      }

  -- it makes none
  pub unnoted_work : makes_lines job.is_recorded (policy_of job.policy) ≡ false
      → TellsUnrecorded (terms_of h job.pass job.limits job.turns p) (world h job.pass (talk job.link) (readings job.clock) None)
      (world h left.pass (talk link) (readings clock) None) left.ended (notices job.link) (notices link) → journal ≡ job.journal
      → GrowsToFault (talk job.link) (talk link) → HasExactCause (terms_of h job.pass job.limits job.turns p) left.ended
      → (left.ended.why ≡ LinkFault → HasRisen (faults job.link) (faults link))
      → (left.ended.why ≡ JournalFault → ⊥) → faults job.link ≤ faults link
      → WorkedTo talk faults notices readings held unput job left link clock journal
  unnoted_work makes told kept ends caused failed unrecorded later =
      let s : TellsUnrecorded (terms_in job) (world (arc_value job.hub) job.pass (talk job.link) (readings job.clock) None)
      (world (arc_value job.hub) left.pass (talk link) (readings clock) None) left.ended (notices job.link) (notices link) =
      subst (λ y. TellsUnrecorded (terms_of y job.pass job.limits job.turns (policy_of job.policy)) (world y job.pass (talk job.link) (readings job.clock) None)
      (world y left.pass (talk link) (readings clock) None) left.ended (notices job.link) (notices link)) same
      (subst (λ q. TellsUnrecorded (terms_of h job.pass job.limits job.turns q) (world h job.pass (talk job.link) (readings job.clock) None)
      (world h left.pass (talk link) (readings clock) None) left.ended (notices job.link) (notices link)) guards told) in
      record {
        served = record {
          T = s.0.serves.T;
          R = s.0.serves.R;
          E = s.0.serves.E;
          hub = s.0.serves.hub;
          talk = s.0.serves.talk;
          readings = s.0.serves.readings;
          goes = s.0.serves.goes;
          session = s.0.serves.session;
          all = s.0.serves.all;
          is_worn = s.0.serves.is_worn;
        };
        noted = λ e. absurd (true≢false (sym e ∙ makes));
        unnoted = λ e. (s.0.unlost, kept);
        ends = ends;
        caused = exactly caused;
        failed = failed;
        unrecorded = λ e. absurd (unrecorded e);
        later = later;
        woken = s.1;
      }
