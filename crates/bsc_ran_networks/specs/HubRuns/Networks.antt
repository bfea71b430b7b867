-- Networks of hubs that the command `hub` made.
use Rattle.std.specs.Prelude.{ℕ, List, Option}
use Rattle.bsc_edge.specs.declared.notice.Notice.{Notice}
use Rattle.bsc_edge.specs.declared.said.Said.{Said}
use Rattle.bsc_session.specs.Jobs.{Worked}
use Rattle.bsc_hub_command.specs.declared.place.HubPlace.{HubPlace}
use Rattle.bsc_hub_command.specs.Served.{HubRuns, HubTerms, HubWorld, telling}
use Rattle.bsc_network_of_runs.specs.Deliveries.{DeliversWhatWasSent}
use Rattle.bsc_network_of_runs.specs.Hubs.{HubRun}
use Rattle.bsc_network_of_runs.specs.Networks.{AreLinks, OtherEnd}
use Rattle.bsc_network_of_runs.specs.Nodes.{NodeRun}
use Rattle.bsc_ran_networks.specs.HubRuns.Commands.{IsRunBy}
use Rattle.bsc_ran_networks.specs.HubRuns.Runs.{InPairs}

module _ {L C N : Type 0} (talk : L → Option (List Said)) (faults : L → ℕ) (notices : L → Option (List Notice)) (readings : C
    → Option (List ℕ))
    (held : N → Option (List ℕ)) (unput : N → ℕ) (begins : Option (List ℕ) → ℕ → N → Type 0) where
  -- A hub that the command made, whatever became of it.
  pub record MadeByCommand : Type 0 where
    pub asked : HubTerms
    pub place : HubPlace N
    pub before : HubWorld L C N
    pub after : HubWorld L C N
    pub status : ℕ
    pub runs : HubRuns (telling (Worked talk faults notices readings held unput) begins talk held unput) asked place before after status

  abbrev pub IsItsRun : MadeByCommand → HubRun → Type 0
  IsItsRun x r = IsRunBy talk faults notices readings held unput begins x.asked x.before x.after x.runs.last r

  -- Whatever hubs were made so, each has had a run, and in each network of these and of nodes that ran each delivery is of a Send,
  -- and no two of one node are of the same, where its links keep order and lose only what comes last.
  abbrev pub HubsThatRanDeliver : Type 0
  HubsThatRanDeliver = (made : List MadeByCommand) → (hubs : List HubRun) × InPairs IsItsRun made hubs
      × ((nodes : List NodeRun) (other : OtherEnd) → AreLinks (record { hubs = hubs; nodes = nodes }) other
      → DeliversWhatWasSent (record { hubs = hubs; nodes = nodes }) other)
