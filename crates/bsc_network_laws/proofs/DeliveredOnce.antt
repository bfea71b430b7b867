-- No two deliveries of a network are of one Send and to one node.
-- It serves the clauses of `networks_deliver_what_was_sent` and `none_is_delivered_twice`.
use Rattle.std.proofs.Common.{ℕ}
use Rattle.bsc_history.specs.Legality.{Legal}
use Rattle.bsc_network.specs.Worlds.{World, Hub, history}
use Rattle.bsc_network.specs.Networks.{world}
use Rattle.bsc_network_laws.specs.Carrying.{Sendings}
use Rattle.bsc_network_laws.specs.Deliveries.{Sends, NoneIsDeliveredTwice}
use Rattle.bsc_network_laws.specs.Naming.{Cast, cast_of}
use Rattle.bsc_network_laws.proofs.Receipts.{deliveries-apart}
use Rattle.bsc_network_laws.proofs.ComeOnce.{IsOrderly, come_once}
use Rattle.bsc_network_laws.proofs.Running.{Runs, runs}
use Rattle.bsc_lemmas.proofs.Lists.{all-at}

orderly : (cast : Cast) (S : Sendings) (T place : ℕ) (w : World) → Runs cast S T place w → IsOrderly cast w
orderly cast S T place w r = record {
  sides = r.sides;
  hubs = r.there;
  put = r.put_once;
  forwards = r.forwards;
  joins = r.joins;
  diallers = r.diallers;
  legal = λ j h here. all-at (λ (x : Hub). Legal x.about (history x)) w.hubs j h r.legally.legal here;
}

pub none_is_delivered_twice : NoneIsDeliveredTwice
none_is_delivered_twice added steps course =
    let r = runs added steps course in
    let w = world added steps in
    deliveries-apart w (come_once (cast_of added) w (orderly (cast_of added) (Sends steps) r.0 r.1 w r.2)) r.2.receipts
