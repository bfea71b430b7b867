-- What a node hears over a link to a hub is what the session at the other end put.
-- It serves clauses of functions of `laws`.
use Rattle.std.proofs.Common.{◌≡◌, ℕ, ◌+◌, Bool, true, false, cond, List, [], ◌∷◌, ◌++◌, length, Option, Some, None, refl, ap, sym, ◌∙◌, arith}
use Rattle.std.specs.Prelude.{flat_map, slice_get}
use Rattle.std.proofs.lemmas.Grind.{flat_map-append}
use Rattle.std.proofs.lemmas.List.Elements.{filter-append}
use Rattle.bsc_octets.specs.Functions.{is_npdu, npdus}
use Rattle.bsc_node.specs.declared.link_name.LinkName.{LinkName}
use Rattle.bsc_node.specs.declared.node_event.NodeEvent.TheVariants.{Came}
use Rattle.bsc_node.specs.declared.timed_event.TimedEvent.{TimedEvent}
use Rattle.bsc_node.specs.Events.{follows}
use Rattle.bsc_node.specs.Laws.{with_event}
use Rattle.bsc_node.specs.Logs.{Made, Line, came, Log}
use Rattle.bsc_node.specs.Meeting.{is_hub}
use Rattle.bsc_node.specs.Node.{goes_on}
use Rattle.bsc_node.proofs.Following.{goes_on-is}
use Rattle.bsc_node.proofs.Told.{same_link-self}
use Rattle.bsc_node_links.proofs.Lists.{drop-more}
use Rattle.bsc_node_links.proofs.Lives.{until-all, until-none}
use Rattle.bsc_node_links.specs.Lives.{HasBegun, LinkLife, given_by, given_by_event, given_over, lines_since, put_over, until_anew}
use Rattle.bsc_node_links.specs.Talks.{put_in}
use Rattle.bsc_network_of_runs.specs.Deliveries.{HeardFrom, HubLinksGiveWhatWasSent, SessionIn, SessionsPutWhatWasSent}
use Rattle.bsc_network_of_runs.specs.Networks.{AreLinks, Carries, Fit, HasTraffic, LinkEnd, Network, OtherEnd, SessionName, Traffic, of_node, of_session}
use Rattle.bsc_network_of_runs.specs.Nodes.{CameAt, HasNow, NodeRun, log_of}
use Rattle.bsc_lemmas.proofs.Lists.{got-left, got-split, got-within}
use Rattle.bsc_network_of_runs.proofs.Lists.{nothing_got}

-- what the event gives over this link
pub given-here : (e : TimedEvent) (name : LinkName) (o : List ℕ) → e.event ≡ Came name o → given_by name (came e) ≡ o ∷ []
given-here e name o is = ap (given_by_event name) is ∙ ap (λ (b : Bool). cond b (o ∷ []) []) (same_link-self name)

npdu-first : (o : List ℕ) (os : List (List ℕ)) → is_npdu o ≡ true → npdus (o ∷ os) ≡ o ∷ npdus os
npdu-first o os is = ap (λ (b : Bool). cond b (o ∷ npdus os) (npdus os)) is

-- In a longer log it stands at its place among what the link gave.
pub heard-in : (L B : Log) (rest : List Line) (x : LinkLife) (e : TimedEvent) (o : List ℕ) → L ≡ B ++ came e ∷ rest → e.event ≡ Came x.name o → HasNow B x → is_npdu o ≡ true
    → slice_get (npdus (given_over L x)) (length (npdus (given_over B x))) ≡ Some o
heard-in L B rest x e o split is has npdu =
    let name = x.name in
    let D = lines_since B x in
    let below = got-within B x.began has.begun.line has.begun.at in
    let since : lines_since L x ≡ D ++ came e ∷ rest = ap (λ (l : Log). lines_since l x) split ∙ drop-more (x.began + 1) B (came e ∷ rest) (omega arith) in
    let life : until_anew name (lines_since L x) ≡ D ++ came e ∷ until_anew name rest = ap (until_anew name) since ∙ until-none name D (came e ∷ rest) has.since in
    let first : until_anew name D ≡ D = until-all name D has.since in
    let front = npdus (flat_map (given_by name) D) in
    let behind = flat_map (given_by name) (until_anew name rest) in
    let all : npdus (given_over L x) ≡ front ++ o ∷ npdus behind =
    ap (λ (l : List Line). npdus (flat_map (given_by name) l)) life
    ∙ ap npdus (flat_map-append (given_by name) D (came e ∷ until_anew name rest) ∙ ap (λ (l : List (List ℕ)). flat_map (given_by name) D ++ (l ++ behind)) (given-here e name o is))
    ∙ filter-append is_npdu (flat_map (given_by name) D) (o ∷ behind)
    ∙ ap (λ (l : List (List ℕ)). front ++ l) (npdu-first o behind npdu) in
    ap (λ (l : List (List ℕ)). slice_get l (length (npdus (flat_map (given_by name) (until_anew name D))))) all
    ∙ ap (λ (l : List Line). slice_get (front ++ o ∷ npdus behind) (length (npdus (flat_map (given_by name) l)))) first
    ∙ got-split front o (npdus behind)

-- the log from an event on
pub from_event : (a : Made) (L : Log) (place : ℕ) (e : TimedEvent) (c : CameAt a L place e) → L ≡ c.before ++ came e ∷ (follows a e.event (with_event c.before e) ++ c.later)
from_event a L place e c = c.is ∙ ap (λ (l : List Line). c.before ++ (l ++ c.later)) (goes_on-is a c.before e)

pub heard-at : (a : Made) (L : Log) (x : LinkLife) (place : ℕ) (e : TimedEvent) (o : List ℕ) (c : CameAt a L place e) → e.event ≡ Came x.name o → HasNow c.before x → is_npdu o ≡ true
    → slice_get (npdus (given_over L x)) (length (npdus (given_over c.before x))) ≡ Some o
heard-at a L x place e o c is has npdu = heard-in L c.before (follows a e.event (with_event c.before e) ++ c.later) x e o (from_event a L place e c) is has npdu

module _ (law : SessionsPutWhatWasSent) (N : Network) (other : OtherEnd) (links : AreLinks N other) (k : ℕ) (node : NodeRun) (link : LinkLife) (n : ℕ) (o : List ℕ)
    (at : slice_get N.nodes k ≡ Some node) (to_hub : is_hub link.name ≡ true) where
  abbrev t : Traffic
  t = record { given = given_over (log_of node) link; put = put_over (log_of node) link }

  by_session : (z : SessionName) → other (of_node k link) ≡ Some (of_session z) → (u : Traffic) → HasTraffic N (of_session z) u → (later : List (List ℕ))
      → u.put ≡ given_over (log_of node) link ++ later
      → slice_get (npdus (given_over (log_of node) link)) n ≡ Some o → HeardFrom N other k link n o
  by_session z leads u (h, s, at_hub, at_session, is) later first got =
      let x : SessionIn N z = record { hub = h; at_hub = at_hub; session = s; at_session = at_session } in
      let put : npdus (put_in s.talk) ≡ npdus (given_over (log_of node) link) ++ npdus later = ap npdus (sym (ap (λ (v : Traffic). v.put) is) ∙ first)
      ∙ filter-append is_npdu (given_over (log_of node) link) later in
      let r = law N other links z n o x (ap (λ (l : List (List ℕ)). slice_get l n) put ∙ got-left (npdus (given_over (log_of node) link)) (npdus later) n o got) in
      record { z = z; leads = leads; sending = r.0; up = r.1 }

  direct : is_hub link.name ≡ false → ⊥
  direct h = (let both : false ≡ true = sym h ∙ to_hub in cc)

  by_end : (y : LinkEnd) → other (of_node k link) ≡ Some y → Fit (of_node k link) y → Carries N (Some y) t → slice_get (npdus (given_over (log_of node) link)) n ≡ Some o → HeardFrom N other k link n o
  by_end (of_session z) leads fit (u, has, (later, first)) got = by_session z leads u has later first got
  by_end (of_node j y) leads fit carried got = absurd (direct fit.0)

  by_other : (y : Option LinkEnd) → other (of_node k link) ≡ y → Carries N y t → slice_get (npdus (given_over (log_of node) link)) n ≡ Some o → HeardFrom N other k link n o
  by_other None leads carried got = absurd (nothing_got n o (ap (λ (l : List (List ℕ)). slice_get (npdus l) n) (sym carried) ∙ got))
  by_other (Some y) leads carried got = by_end y leads (links.fit (of_node k link) y leads) carried got

  given_from : (begun : HasBegun (log_of node) link) → slice_get (npdus (given_over (log_of node) link)) n ≡ Some o → HeardFrom N other k link n o
  given_from begun got = by_other (other (of_node k link)) refl (links.carry (of_node k link) t (node, at, begun, refl)) got

-- a link that is there began in the longer log too
pub begun_still : (a : Made) (L : Log) (x : LinkLife) (place : ℕ) (e : TimedEvent) (c : CameAt a L place e) → HasBegun c.before x → HasBegun L x
begun_still a L x place e c b = record {
  line = b.line;
  at = ap (λ (l : Log). slice_get l x.began) c.is ∙ got-left c.before (goes_on a e c.before ++ c.later) x.began b.line b.at;
  begins_it = b.begins_it;
}

pub hub_links_give_what_was_sent : SessionsPutWhatWasSent → HubLinksGiveWhatWasSent
hub_links_give_what_was_sent law N other links k node link n place o at to_hub npdu h =
    given_from law N other links k node link n o at to_hub (begun_still node.made (log_of node) link place h.e h.comes h.has.begun)
    (ap (λ (i : ℕ). slice_get (npdus (given_over (log_of node) link)) i) h.nth ∙ heard-at node.made (log_of node) link place h.e o h.comes h.brings h.has npdu)
