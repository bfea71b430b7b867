-- What a node keeps to which nothing came yet.
-- It serves the clauses of `make`.
use Rattle.std.proofs.Common.{◌≡◌, ℕ, zero, suc, Bool, false, List, [], None, refl, ap, sym, ◌∙◌, subst}
use Rattle.std.specs.Prelude.{is_some, replicate, slice_get}
use Rattle.bsc_connector.specs.declared.side.Side.TheVariants.{Primary, Failover}
use Rattle.bsc_connector.specs.declared.connector.Connector.{Connector}
use Rattle.bsc_connector.specs.Standing.{ConnectorStands}
use Rattle.bsc_direct.specs.declared.bounds.TheConstants.{SLOTS}
use Rattle.bsc_direct.specs.declared.direct.Direct.{Direct as SlotTable}
use Rattle.bsc_direct.specs.Standing.{DirectStands}
use Rattle.bsc_resolve.specs.declared.resolve.Resolve.{Resolve}
use Rattle.bsc_resolve.specs.Standing.{ResolveStands}
use Rattle.bsc_node.specs.declared.link_name.LinkName.{LinkName}
use Rattle.bsc_node.specs.declared.link_name.LinkName.TheVariants.{Hub, Direct}
use Rattle.bsc_node.specs.Logs.{Made}
use Rattle.bsc_node_core.specs.declared.link.Link.{Link}
use Rattle.bsc_node_core.specs.declared.links.Links.{Links}
use Rattle.bsc_node_core.specs.Tables.{Kept, kept_of, kept_in, nothing_kept, link_at}
use Rattle.bsc_node_core.specs.declared.state.State.{State}
use Rattle.bsc_node_core.specs.Spares.{KeepsSame}
use Rattle.bsc_node_core.specs.Standing.{LinkStands}
use Rattle.bsc_node_core.proofs.Copying.{copy-agrees}
use Rattle.bsc_node_core.specs.Resolving.{BothStand}
use Rattle.bsc_node_core.specs.Node.{at_rest}

-- ---- no link ever began

none-in : (n k : ℕ) (link : Link) → kept_of link ≡ nothing_kept → kept_in (slice_get (replicate n link) k) ≡ nothing_kept
none-in zero k link h = refl
none-in (suc n) zero link h = h
none-in (suc n) (suc k) link h = none-in n k link h

pub none-in-slots : (items : List Link) (link : Link) (k : ℕ) → kept_of link ≡ nothing_kept → items ≡ replicate SLOTS link → kept_in (slice_get items k) ≡ nothing_kept
none-in-slots items link k h i = ap (λ (ls : List Link). kept_in (slice_get ls k)) i ∙ none-in SLOTS k link h

none-kept : (ls : Links) → kept_of ls.primary ≡ nothing_kept → kept_of ls.failover ≡ nothing_kept → ((k : ℕ) → kept_in (slice_get ls.slots.items k) ≡ nothing_kept) → (name : LinkName)
    → link_at ls name ≡ nothing_kept
none-kept ls p f s (Hub Primary) = p
none-kept ls p f s (Hub Failover) = f
none-kept ls p f s (Direct k) = s k

-- ---- the node

-- what a node keeps to which nothing came
abbrev pub as_made : Made → Connector → Links → SlotTable → State
as_made a c ls d = record { own = a.own; next = 1; finishing = false; renewals = 0; newest_hub = None; dropped = false; connector = c; links = ls; direct = d; direct_touched = false }

pub made-stands : (a : Made) (r : Resolve) (c : Connector) (d : SlotTable) (ls : Links) (failover : Bool) → failover ≡ is_some a.limits.failover
    → ConnectorStands c (record { failover = failover; least = a.limits.least_wait; greatest = a.limits.greatest_wait }) [] → DirectStands d [] → kept_of ls.primary ≡ nothing_kept
    → kept_of ls.failover ≡ nothing_kept → ((k : ℕ) → kept_in (slice_get ls.slots.items k) ≡ nothing_kept)
    → ResolveStands r a.limits.times.connect_wait [] → (spare : State) → KeepsSame (as_made a c ls d) spare → BothStand (at_rest a [] spare) [] (as_made a c ls d) r []
made-stands a r c d ls failover f cs ds primary other slots rs spare copy =
    let none = none-kept ls primary other slots in record {
      state = record {
        now = refl;
        own = refl;
        next = refl;
        finishing = refl;
        renewals = refl;
        newest_hub = refl;
        dropped = refl;
        connector = subst (λ (b : Bool). ConnectorStands c (record { failover = b; least = a.limits.least_wait; greatest = a.limits.greatest_wait }) []) f cs;
        direct = ds;
        asked = refl;
        links = λ name n. subst (λ (l : Kept). LinkStands a None [] name l) (sym (none name)) (record { there = refl; machine = tt; peer = refl });
        tries = λ k w. sym (ap (λ (l : Kept). l.tries) (none (Direct k)));
        spare = copy-agrees (as_made a c ls d) spare copy;
        actions = record { lines = []; log = refl; actions = refl };
      };
      resolution = rs;
    }
