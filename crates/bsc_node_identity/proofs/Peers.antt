-- A slot is established with the peer of its link, after all events that may come.
-- It serves the clauses of `npdus_pass_where_up` and `slots_have_their_peers`.
use Rattle.std.proofs.Common.{◌≡◌, ℕ, Bool, true, false, List, [], ◌++◌, Some, refl, ap, ◌∙◌}
use Rattle.std.specs.Prelude.{◌==◌, IsTrue}
use Rattle.std.proofs.lemmas.Bool.{eqb-true}
use Rattle.bsc_octets.specs.declared.identity.Identity.{Identity}
use Rattle.bsc_direct.proofs.OneMore.{both_ways}
use Rattle.bsc_node.specs.declared.link_name.LinkName.TheVariants.{Direct}
use Rattle.bsc_node.specs.declared.node_event.NodeEvent.{NodeEvent}
use Rattle.bsc_node.specs.declared.node_event.NodeEvent.TheVariants.{Came}
use Rattle.bsc_node.specs.declared.timed_event.TimedEvent.{TimedEvent}
use Rattle.bsc_node.specs.Logs.{Made, Log}
use Rattle.bsc_node.specs.Links.{was_taken, peer}
use Rattle.bsc_node.specs.Ways.{established_peer}
use Rattle.bsc_node.specs.Node.{goes_on}
use Rattle.bsc_node.specs.Conditions.{may_come}
use Rattle.bsc_node.specs.Laws.{with_event}
use Rattle.bsc_node_identity.specs.Naming.{SlotsHaveTheirPeers}
use Rattle.bsc_node_identity.proofs.Reasons.{Unmet, Sides}
use Rattle.bsc_node_identity.proofs.Settled.{Settled, kept, settled-at_first, settled-goes_on, lasting}
use Rattle.bsc_lemmas.proofs.Booleans.{eq_self as same_number}
use Rattle.bsc_node_identity.proofs.Knowing.{Awaits, keep_awaits, awaits_event, Tied, keep_tied, tied_event}
use Rattle.bsc_node_identity.proofs.Waiting.{Waits, waits_more, waits_event, waits_came}

-- ---- every event

abbrev comes_over : ℕ → NodeEvent → Bool
comes_over k (Came (Direct j) o) = j == k
comes_over k ev = false

comes_over_is : (k : ℕ) (ev : NodeEvent) → comes_over k ev ≡ true → (o : List ℕ) × (ev ≡ Came (Direct k) o)
comes_over_is k (Came (Direct j) o) h = (o, ap (λ (i : ℕ). Came (Direct i) o) (eqb-true j k h))
comes_over_is k ev h = cc

waits_goes_on : (a : Made) (L : Log) (e : TimedEvent) → IsTrue (may_come L e) → (k : ℕ) → Waits k L → Waits k (L ++ goes_on a e L)
waits_goes_on a L e may k waits = by (comes_over k e.event) refl
  where
    by : (b : Bool) → comes_over k e.event ≡ b → Waits k (L ++ goes_on a e L)
    by true c = let is = comes_over_is k e.event c in waits_came a L e may k is.0 is.1 waits (was_taken (Direct k) (with_event L e)) refl
    by false c =
        kept a L e may (Waits k) (λ N m why n. waits_more a L e k N m why (λ now v w. both_ways (comes_over k e.event) (ap (comes_over k) w.0.1 ∙ same_number k) c) n) (waits_event L e k waits)

-- A settled log whose machines that wait know no peer, and whose slots are established with the peers of their links.
pub record Knit (a : Made) (L : Log) : Type 0 where
  pub settled : Settled a L
  pub unmet : Unmet L
  pub sides : Sides L
  pub peers : (k : ℕ) (who : Identity) → established_peer k L ≡ Some who → peer L (Direct k) ≡ Some who

pub knit-at_first : (a : Made) → Knit a []
knit-at_first a = record {
  settled = settled-at_first a;
  unmet = record { accepts = λ name id h. refl; asks = λ k there taken h. refl };
  sides = record { taken = λ name t id. refl; dialled = λ name t. refl };
  peers = λ k who h. cc;
}

pub knit-goes_on : (a : Made) (L : Log) (e : TimedEvent) → Knit a L → IsTrue (may_come L e) → Knit a (L ++ goes_on a e L)
knit-goes_on a L e n may = record {
  settled = settled-goes_on a L e n.settled may;
  unmet = record { accepts = kept a L e may Awaits (keep_awaits a L e n.settled may) (awaits_event L e n.unmet.accepts); asks = λ k. waits_goes_on a L e may k (n.unmet.asks k) };
  sides = tied.sides;
  peers = tied.peers;
}
  where
    tied : Tied (L ++ goes_on a e L)
    tied = kept a L e may Tied (keep_tied a L e n.settled may n.unmet n.sides) (tied_event L e (record { sides = n.sides; peers = n.peers }))

pub slots_have_their_peers : (a : Made) → SlotsHaveTheirPeers a
slots_have_their_peers a events h = (lasting a (Knit a) (knit-at_first a) (knit-goes_on a) events h).peers
