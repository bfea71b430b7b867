-- Which run of a hub the command `hub` gives.
use Rattle.std.specs.Prelude.{◌≡◌, ℕ, List, Option}
use Rattle.bsc_history.specs.Marks.{entries}
use Rattle.bsc_turn.specs.declared.pass.Pass.{Pass}
use Rattle.bsc_turn.specs.Passes.{seen}
use Rattle.bsc_edge.specs.declared.notice.Notice.{Notice}
use Rattle.bsc_edge.specs.declared.said.Said.{Said}
use Rattle.bsc_edge.specs.Told.{Grows}
use Rattle.bsc_session.specs.declared.job.SessionJob.{SessionJob}
use Rattle.bsc_session.specs.Jobs.{Worked}
use Rattle.bsc_settings.specs.Parts.{identity_of, limits_of}
use Rattle.bsc_hub_command.specs.declared.place.HubPlace.{HubPlace}
use Rattle.bsc_hub_command.specs.Served.{HubRuns, HubTerms, HubWorld, telling}
use Rattle.bsc_network_of_runs.specs.Hubs.{HubRun}
use Rattle.bsc_ran_networks.specs.HubRuns.Runs.{AreSessionsOf}

module _ {L C N : Type 0} (talk : L → Option (List Said)) (faults : L → ℕ) (notices : L → Option (List Notice)) (readings : C
    → Option (List ℕ))
    (held : N → Option (List ℕ)) (unput : N → ℕ) (begins : Option (List ℕ) → ℕ → N → Type 0) where
  -- The run is that of the hub which the command made of these settings: its history is what the hub's own pass has seen at last,
  -- and its sessions are those of the jobs by which what the spawner tells has grown, in order.
  pub record IsRunBy (asked : HubTerms) (before after : HubWorld L C N) (last : Pass) (r : HubRun) : Type 0 where
    pub about : r.about ≡ record { hub = identity_of asked.settings; limits = limits_of asked.settings }
    pub history : r.history ≡ entries (seen last)
    pub jobs : List (SessionJob L C N)
    pub taken : Grows before.jobs after.jobs jobs
    pub sessions : AreSessionsOf talk faults notices readings held unput jobs r.sessions

  -- Each hub that the command made has had a run, whatever the status is. Where it wasn't served there are no sessions.
  abbrev pub HubsRan : Type 0
  HubsRan = (asked : HubTerms) (place : HubPlace N) (before after : HubWorld L C N) (s : ℕ)
      → (x : HubRuns (telling (Worked talk faults notices readings held unput) begins talk held unput) asked place before after s)
      → (r : HubRun) × IsRunBy asked before after x.last r
