-- Networks of hubs that the command `hub` made.
-- It serves the clauses of `hubs_that_ran_deliver`.
use Rattle.std.proofs.Common.{ℕ, List, [], ◌∷◌, Option}
use Rattle.bsc_edge.specs.declared.notice.Notice.{Notice}
use Rattle.bsc_edge.specs.declared.said.Said.{Said}
use Rattle.bsc_network_of_runs.specs.Deliveries.{RunsDeliverWhatWasSent}
use Rattle.bsc_network_of_runs.specs.Hubs.{HubRun}
use Rattle.bsc_ran_networks.specs.HubRuns.Commands.{HubsRan}
use Rattle.bsc_ran_networks.specs.HubRuns.Networks.{HubsThatRanDeliver, IsItsRun, MadeByCommand}
use Rattle.bsc_ran_networks.specs.HubRuns.Runs.{InPairs}

module _ {L C N : Type 0} (talk : L → Option (List Said)) (faults : L → ℕ) (notices : L → Option (List Notice)) (readings : C → Option (List ℕ))
    (held : N → Option (List ℕ)) (unput : N → ℕ) (begins : Option (List ℕ) → ℕ → N → Type 0) where
  abbrev MadeHub : Type 0
  MadeHub = MadeByCommand talk faults notices readings held unput begins

  runs_of : HubsRan talk faults notices readings held unput begins → (made : List MadeHub) → (hubs : List HubRun)
      × InPairs (λ (x : MadeHub) (r : HubRun). IsItsRun talk faults notices readings held unput begins x r) made hubs
  runs_of ran [] = ([], tt)
  runs_of ran (x ∷ made) =
      let one = ran x.asked x.place x.before x.after x.status x.runs in
      let rest = runs_of ran made in
      (one.0 ∷ rest.0, (one.1, rest.1))

  pub hubs_that_ran_deliver : HubsRan talk faults notices readings held unput begins → RunsDeliverWhatWasSent → HubsThatRanDeliver talk faults notices readings held unput begins
  hubs_that_ran_deliver ran deliver made =
      let k = runs_of ran made in
      (k.0, k.1, λ nodes other links. deliver (record { hubs = k.0; nodes = nodes }) other links)
