-- A take from an outbox: what its outlet gave, and what the desk knows of it.
-- It serves clauses of functions of `hub_core` and `taking`.
use Rattle.std.proofs.Common.{◌≡◌, ◌≢◌, List, [], ◌∷◌, ℕ, length, Option, Some, None, ap, sym, ◌∙◌, subst}
use Rattle.bsc_history.specs.declared.ending.End.{End}
use Rattle.bsc_history.specs.declared.ending.End.TheVariants.{Left}
use Rattle.bsc_history.specs.declared.mark.Stamped.{Stamped}
use Rattle.bsc_history.specs.Ends.{ended}
use Rattle.bsc_history.specs.Marks.{entries}
use Rattle.bsc_ring.specs.declared.ends.Outlet.{Outlet}
use mathlib.Core.Option.{some}
use lib.ListN.{get_elem?}
use Rattle.bsc_ring.specs.declared.found.Found.TheVariants.{Ending, Tail}
use Rattle.bsc_ring.specs.declared.take.Take.TheVariants.{Empty, Closed}
use Rattle.bsc_ring.specs.Ends.{GaveAll, Took, found, given, empties_of, outlet_mark}
use Rattle.bsc_desk.specs.declared.desk.Desk.{Desk}
use Rattle.bsc_desk.specs.Meetings.{IsOutletOf}
use Rattle.bsc_desk.specs.Rows.{HasRow, IsMarkOf}
use Rattle.bsc_desk.proofs.Rowed.{has_unleft, is_mark_of}
use Rattle.bsc_hub_core.specs.declared.outbox.Outbox.{Outbox}
use Rattle.bsc_hub_core.specs.Outboxes.{OutboxMeets, OwnsOutlet, StaysMet, TookNone, empties_then}
use Rattle.bsc_desk.proofs.Common.{gave_all}
use Rattle.bsc_ring.proofs.Common.{at_end}

-- what a meeting asks
pub owns_meets : (d : Desk) (S : List Stamped) (c : ℕ) (k : Outbox) → OwnsOutlet d S c k → HasRow d c × IsMarkOf d c (outlet_mark k.outlet)
owns_meets d S c k w = (has_unleft d S c w.stands w.unleft, is_mark_of d S c (outlet_mark k.outlet) w.stands w.marked)

module _ (S : List Stamped) (c : ℕ) (d n : Desk) (i j : Outbox) (w : OwnsOutlet d S c i) (m : OutboxMeets d n c i j) where
  -- the outlet that met, and took then, owns what it did
  pub took_owns : (p : Outlet) → outlet_mark p ≡ outlet_mark j.outlet → OwnsOutlet n S c (record j { outlet = p })
  took_owns p same = record { stands = m.stands S w.stands; unleft = w.unleft; marked = w.marked ∙ ap Some (sym (same ∙ m.same.0)) }

  module _ (p : Outlet) (same : outlet_mark p ≡ outlet_mark j.outlet) (r : Desk) (k : Outbox) (again : OutboxMeets n r c (record j { outlet = p }) k) where
    -- the two ends met again
    pub stays_met : StaysMet S c d r i k
    stays_met = record {
      stands = again.stands S (m.stands S w.stands);
      about = again.about ∙ m.about;
      others = λ b o. again.others b o ∙ m.others b o;
      vmac = ap (λ (x : Outbox). x.vmac) again.becomes ∙ ap (λ (x : Outbox). x.vmac) m.becomes;
      mark = again.same.0 ∙ same ∙ m.same.0;
      outlet = subst (λ a. IsOutletOf a (entries S) c k.outlet) m.about (again.outlet S (m.stands S w.stands));
      known = again.known;
    }

    took_none : (ending : Option End) → GaveAll j.outlet ending p → ending ≡ ended (entries S) c → ending ≢ Some Left → empties_of p ≡ empties_then ending (empties_of j.outlet)
        → TookNone S c ending d r i k
    took_none ending g ends named empties = record {
      stays = stays_met;
      same = again.same.1 ∙ g.0 ∙ m.same.1;
      whole = sym m.same.1 ∙ sym g.0 ∙ gave_all d S c j.outlet p ending (m.outlet S w.stands) (m.knows S w.stands) g;
      ends = ends;
      not_left = named;
      empties = again.same.2 ∙ empties ∙ ap (empties_then ending) m.same.2;
      tags = ap (λ (x : Outbox). x.tags.items) again.becomes ∙ ap (λ (x : Outbox). x.tags.items) m.becomes;
    }

    -- it is empty, and the connection is live
    pub took_empty : Took j.outlet Empty p → TookNone S c None d r i k
    took_empty g = took_none None g.0 (sym g.1 ∙ (m.knows S w.stands).ending) (λ q. cc) g.2

    -- it is empty, and the connection has ended
    pub took_closed : (ending : End) → Took j.outlet (Closed ending) p → TookNone S c (Some ending) d r i k
    took_closed ending g =
        let at = length (found j.outlet) in
        let there : get_elem? (found k.outlet) at ≡ some (Ending (Some ending)) = ap (λ l. get_elem? l at) (again.same.3 ∙ g.0.3.0)
        ∙ at_end (found j.outlet) (Tail (length (given j.outlet)) ∷ []) (Ending (Some ending)) in
        let ends : Some ending ≡ ended (entries S) c = sym ((again.outlet S (m.stands S w.stands)).ends ending (at, there)) in
        took_none (Some ending) g.0 ends (λ q. g.1 (let z : ending ≡ Left = cc in z)) g.2
