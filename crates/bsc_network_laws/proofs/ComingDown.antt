-- An NPDU on the way down from a hub was passed on to the connection that joined by this link.
-- It serves clauses of functions of `laws`.
use Rattle.std.proofs.Common.{◌≡◌, ℕ, List, ◌∷◌, ◌++◌, Option, Some, None, refl, ap, sym, subst, ◌∙◌}
use Rattle.std.specs.List.{AllByRecursion}
use Rattle.std.proofs.lemmas.List.{map-append}
use Rattle.bsc_history.specs.declared.connection.Connection.{Connection}
use Rattle.bsc_history.specs.declared.entry.Entry.{Entry}
use Rattle.bsc_history.specs.Ends.{joined, live}
use Rattle.bsc_history.proofs.Lists.{In}
use Rattle.bsc_history.proofs.Connections.{found_in, joined_in}
use Rattle.bsc_history.specs.Legality.{Legal}
use Rattle.bsc_network.specs.Worlds.{World, Hub, Posted, entries, history}
use Rattle.bsc_network.specs.Outboxes.{Frame, frames}
use Rattle.bsc_network.proofs.Places.{all-mapped}
use Rattle.bsc_network_laws.specs.Carrying.{Sendings, npdus, taken_of}
use Rattle.bsc_network_laws.specs.Passing.{IsPassedOn, IsPassedTo, IsPassedBy, PassesOn, ComesDown}
use Rattle.bsc_network_laws.proofs.Taken.{SidesFit, LinkFits}
use Rattle.bsc_network_laws.proofs.Joins.{SidesJoined}
use Rattle.bsc_network_laws.proofs.Legally.{Legally}
use Rattle.bsc_network_laws.proofs.Passing.{joined_by}
use Rattle.bsc_network_laws.proofs.Numbering.{joined_longer}
use Rattle.bsc_network_laws.proofs.OutboxOnce.{all-taken}
use Rattle.bsc_lemmas.proofs.Lists.{all-at}

-- who was sent to has joined
to_has_joined : (S : Sendings) (w : World) (posted : List Posted) (to : Connection) (f : Frame) → IsPassedOn S w posted to f → In to (joined (entries posted))
to_has_joined S w posted to f p =
    let G = entries p.before in
    let there : In to (joined (G ++ entries (p.forward ∷ p.later))) = joined_longer G (entries (p.forward ∷ p.later)) to (joined_in _ G to (found_in to.number (live G) to p.receiver_live).0) in
    subst (λ (H : List Entry). In to (joined H)) (sym (ap entries p.split ∙ map-append (λ (x : Posted). x.entry) p.before (p.forward ∷ p.later))) there

-- What comes down from a hub was passed on to the connection of this link.
pub comes_down : (S : Sendings) (w : World) → SidesJoined w → Legally w → SidesFit w → PassesOn S w → ComesDown S w
comes_down S w joins legally fit passes l j h link here leads at =
    subst (AllByRecursion (IsPassedBy S w h.posted l)) (sym ((all-at (LinkFits w.hubs) w.links l link fit here j h leads at).down)) (by link.side.conn refl)
  where
    by : (o : Option ℕ) → link.side.conn ≡ o → AllByRecursion (IsPassedBy S w h.posted l) (npdus (taken_of h o link.side.taken))
    by None is = tt
    by (Some c) is =
        all-mapped (IsPassedTo S w h.posted c) (IsPassedBy S w h.posted l)
        (λ f p. (
          p.0,
          joined_by h l c p.0 (all-at (λ (x : Hub). Legal x.about (history x)) w.hubs j h legally.legal at)
              (joins l j h link c (record { hub = at; link = here; leads = leads }) is) (to_has_joined S w h.posted p.0 f p.2) p.1,
          p.2,
        ))
        (npdus (taken_of h (Some c) link.side.taken)) (all-taken (IsPassedTo S w h.posted c) link.side.taken (frames h c) (passes j h c at))
