-- What holds of each network after any steps that may be made.
-- It serves clauses of functions of `laws`.
use Rattle.std.proofs.Common.{◌≡◌, ◌≤◌, ◌<◌, ℕ, List, [], ◌∷◌, ◌++◌, Some, refl, ap, sym, subst, ◌∙◌, append_assoc, arith}
use Rattle.std.specs.Prelude.{◌+◌, ◌^◌, fold, length, map, slice_get}
use Rattle.std.specs.List.{AllByRecursion}
use Rattle.std.proofs.lemmas.List.{length-append}
use Rattle.std.proofs.lemmas.Option.{slice_get-map}
use Rattle.bsc_octets.specs.declared.vmac.Vmac.{Vmac}
use Rattle.bsc_node.specs.declared.node_event.NodeEvent.TheVariants.{Send}
use Rattle.bsc_node.specs.Logs.{Made}
use Rattle.bsc_history.specs.declared.limits.About.{About}
use Rattle.bsc_node_identity.proofs.Peers.{knit-at_first}
use Rattle.bsc_node_identity.proofs.Timely.{Timely}
use Rattle.bsc_network.specs.declared.world_step.WorldStep.TheVariants.{Node as OfNode}
use Rattle.bsc_network.specs.declared.timed_step.TimedStep.{TimedStep}
use Rattle.bsc_network.specs.Settings.{Added, hubs, nodes}
use Rattle.bsc_network.specs.Worlds.{World, Hub, Link, Node, Posted, history, new_hub, new_node, new_world, node_at}
use Rattle.bsc_network.specs.Outboxes.{Frame, frames, frames_of}
use Rattle.bsc_network.specs.HubCalls.{taken_from}
use Rattle.bsc_network.specs.Networks.{makes, world}
use Rattle.bsc_network.specs.Courses.{MayAddAll, MayMake, MayMakeAll, IsCourse}
use Rattle.bsc_network.proofs.Places.{found-in}
use Rattle.bsc_network_laws.specs.Carrying.{Sendings, npdus}
use Rattle.bsc_network_laws.specs.Deliveries.{Sends}
use Rattle.bsc_network_laws.specs.Naming.{Cast, cast_of}
use Rattle.bsc_network_laws.proofs.Stepping.{begun, done, lets-step_from}
use Rattle.bsc_network_laws.proofs.Ways.{WaysFit, ways_fit}
use Rattle.bsc_network_laws.proofs.Holding.{EndOf, HoldsFit, holds_fit, keep-others}
use Rattle.bsc_network_laws.specs.Connecting.{IsOfLink, JoinByLinks, JoinsDiallers}
use Rattle.bsc_network_laws.specs.Passing.{IsPassedTo, PassesOn}
use Rattle.bsc_network_laws.proofs.Joins.{SidesJoined, joined-same, sides_joined}
use Rattle.bsc_network_laws.proofs.Looks.{LooksFit, looks-same}
use Rattle.bsc_network_laws.proofs.Callers.{by-still}
use Rattle.bsc_network_laws.proofs.Legally.{Legally, legally-same}
use Rattle.bsc_network_laws.proofs.Passing.{KnowsHistories, passes-still}
use Rattle.bsc_network_laws.proofs.Histories.{histories-done, passes-done}
use Rattle.bsc_network_laws.proofs.Diallers.{Inv, inv-same, IsFit, KnowsNames, kept-names, diallers_stay, nodes_fit}
use Rattle.bsc_history.specs.Ends.{joined, joined_where}
use Rattle.bsc_history.specs.Legality.{Legal}
use Rattle.bsc_history.specs.Outboxes.{looked}
use Rattle.bsc_network_laws.proofs.HubsThere.{HubsThere, hubs_there}
use Rattle.bsc_network_laws.proofs.Sources.{AllFrom, KnowsSources, from-same}
use Rattle.bsc_network_laws.proofs.BothSources.{AreWhole, KnowsHubs, sources-done}
use Rattle.bsc_network_laws.proofs.Timing.{AllTimely, all_timely, at-done}
use Rattle.bsc_network_laws.proofs.Taken.{SidesFit, down_is_taken}
use Rattle.bsc_network_laws.proofs.Beside.{Keeps}
use Rattle.bsc_network_laws.proofs.Knowing.{knows-begun, kept-step, kept-from}
use Rattle.bsc_network_laws.proofs.Casting.{Stays, Casts, casts-same, KnowsAll, kept-all, casts-done}
use Rattle.bsc_network_laws.proofs.Named.{OutboxesNameNobody, Named, named-same, named_stays}
use Rattle.bsc_network_laws.proofs.SentOnLinks.{AllSent, IsCounted, sent_stays}
use Rattle.bsc_node.specs.declared.link_name.LinkName.TheVariants.{Direct}
use Rattle.bsc_node.specs.Links.{peer}
use Rattle.bsc_network_laws.proofs.Lasting.{lasts-same}
use Rattle.bsc_network_laws.proofs.MadeWell.{MadeWell, made_well}
use Rattle.bsc_network_laws.proofs.OtherEnds.{LeadsToHub, EndsRight, ends-same, ends_stay, kept-ends}
use Rattle.bsc_network_laws.proofs.DirectLinks.{AllDirect, direct-same}
use Rattle.bsc_network_laws.proofs.Directly.{direct_stays}
use Rattle.bsc_network_laws.proofs.PutOnce.{ArePutOnce, PutBefore, OnePut, one_of-none, one_stays}
use Rattle.bsc_network_laws.proofs.Receipts.{HasReceipts, receipts-same, receipts_stay}
use Rattle.bsc_network_laws.proofs.ForwardedOnce.{ForwardAt, ForwardsFit, forwards-same, forwards_fit}
use Rattle.bsc_network_laws.proofs.HubsThere.{HubsThere, hubs_there}
use Rattle.bsc_network_laws.proofs.AllDelivered.{AllDelivered, all-new, all-same, all_stay}
use Rattle.bsc_network_laws.proofs.Reached.{reached-at_first, UpLaw}
use Rattle.bsc_lemmas.proofs.Options.{some_none_any as some_none}

-- What holds after so many steps, the last of which was at the time T.
pub record Runs (cast : Cast) (S : Sendings) (T place : ℕ) (w : World) : Type 0 where
  pub place_is : w.steps ≡ place
  pub ways : AllByRecursion WaysFit w.links
  pub holds : HoldsFit w
  pub timely : AllTimely T w
  pub sides : SidesFit w
  pub sent : AllSent S w
  pub casts : Casts cast w
  pub named : Named cast w
  pub diallers : Inv cast w
  pub joins : SidesJoined w
  pub by_links : JoinByLinks w
  pub looks : LooksFit w
  pub legally : Legally w
  pub passes : PassesOn S w
  pub made : MadeWell cast
  pub ends : EndsRight cast w
  pub direct : AllDirect S cast w
  pub put_before : PutBefore place w
  pub put_once : ArePutOnce w
  pub receipts : HasReceipts w
  pub forwards : ForwardsFit w
  pub there : HubsThere w
  pub every : AllDelivered w
  pub from : UpLaw → AreWhole S → AllFrom S w

sent-makes : (cast : Cast) (S : Sendings) (T : ℕ) (w : World) (t : TimedStep) → Runs cast S T w.steps w → T ≤ t.now → t.now < 2 ^ 62 → IsCounted S w.steps t.step → AllSent S (makes w t)
sent-makes cast S T w t r after below sends =
    kept-step (AllSent S) t w.steps (sent_stays S t.now w.steps t.step sends) w (knows-begun T w t after below r.timely r.holds r.sides) r.sent

-- all that is known at the beginning of a step
pub known : (cast : Cast) (S : Sendings) (T : ℕ) (w : World) (t : TimedStep) → Runs cast S T w.steps w → T ≤ t.now → t.now < 2 ^ 62 → KnowsAll cast t.now w.steps (begun w t)
known cast S T w t r after below = (knows-begun T w t after below r.timely r.holds r.sides, casts-same cast w (begun w t) refl refl r.casts)

named-done : (cast : Cast) (S : Sendings) (T : ℕ) (w : World) (t : TimedStep) → Runs cast S T w.steps w → T ≤ t.now → t.now < 2 ^ 62 → Named cast (done w t)
named-done cast S T w t r after below = kept-all cast (Named cast) t w.steps (named_stays cast t.now w.steps t.step) w (known cast S T w t r after below)
    (named-same cast w (begun w t) refl refl r.named)

dialled-done : (cast : Cast) → IsFit cast → (S : Sendings) (T : ℕ) (w : World) (t : TimedStep) → Runs cast S T w.steps w → T ≤ t.now → t.now < 2 ^ 62 → Inv cast (done w t)
dialled-done cast fit S T w t r after below =
    kept-names cast (Inv cast) t w.steps (diallers_stay cast fit t.now w.steps t.step) w (known cast S T w t r after below, named-same cast w (begun w t) refl refl r.named)
    (inv-same cast w (begun w t) (keep-others w (begun w t) refl refl) refl r.diallers)

-- what is known of sides and histories at the beginning of a step
histories : (cast : Cast) (S : Sendings) (T : ℕ) (w : World) (t : TimedStep) → Runs cast S T w.steps w → T ≤ t.now → t.now < 2 ^ 62 → KnowsHistories cast S t.now w.steps (begun w t)
histories cast S T w t r after below = record {
  sides = record {
    names = (known cast S T w t r after below, named-same cast w (begun w t) refl refl r.named);
    by_links = by-still w (begun w t) refl refl r.by_links;
    looks = looks-same w (begun w t) refl refl r.looks;
    joined = joined-same w (begun w t) refl refl r.joins;
  };
  legally = legally-same w (begun w t) refl refl r.legally;
  sent = r.sent;
}

histories-makes : (cast : Cast) → IsFit cast → (S : Sendings) (T : ℕ) (w : World) (t : TimedStep) → Runs cast S T w.steps w → T ≤ t.now → t.now < 2 ^ 62 → IsCounted S w.steps t.step
    → KnowsHistories cast S t.now w.steps (done w t)
histories-makes cast fit S T w t r after below sends = histories-done cast fit S t w.steps sends w (histories cast S T w t r after below)

passes-makes : (cast : Cast) → IsFit cast → (S : Sendings) (T : ℕ) (w : World) (t : TimedStep) → Runs cast S T w.steps w → T ≤ t.now → t.now < 2 ^ 62 → IsCounted S w.steps t.step
    → PassesOn S (makes w t)
passes-makes cast fit S T w t r after below sends =
    passes-still S (done w t) (makes w t) refl refl refl (passes-done cast fit S t w.steps sends w (histories cast S T w t r after below) (passes-still S w (begun w t) refl refl refl r.passes))

names-begun : (cast : Cast) (S : Sendings) (T : ℕ) (w : World) (t : TimedStep) → Runs cast S T w.steps w → T ≤ t.now → t.now < 2 ^ 62 → KnowsNames cast t.now w.steps (begun w t)
names-begun cast S T w t r after below = (known cast S T w t r after below, named-same cast w (begun w t) refl refl r.named)

ends-begun : (cast : Cast) (S : Sendings) (T : ℕ) (w : World) (t : TimedStep) → Runs cast S T w.steps w → EndsRight cast (begun w t)
ends-begun cast S T w t r = ends-same cast w (begun w t) (lasts-same w (begun w t) refl refl refl) refl r.ends

ends-done : (cast : Cast) (S : Sendings) (T : ℕ) (w : World) (t : TimedStep) → Runs cast S T w.steps w → T ≤ t.now → t.now < 2 ^ 62 → EndsRight cast (done w t)
ends-done cast S T w t r after below = kept-names cast (EndsRight cast) t w.steps (ends_stay cast r.made t.now w.steps t.step) w (names-begun cast S T w t r after below) (ends-begun cast S T w t r)

direct-done : (cast : Cast) (S : Sendings) (T : ℕ) (w : World) (t : TimedStep) → Runs cast S T w.steps w → T ≤ t.now → t.now < 2 ^ 62 → IsCounted S w.steps t.step → AllDirect S cast (done w t)
direct-done cast S T w t r after below sends =
    kept-ends cast r.made (AllDirect S cast) t w.steps (direct_stays S cast r.made t.now w.steps t.step sends) w (names-begun cast S T w t r after below, ends-begun cast S T w t r)
    (direct-same S cast w (begun w t) (lasts-same w (begun w t) refl refl refl) refl r.direct)

-- all of that at the beginning of a step
sources-begun : (cast : Cast) (S : Sendings) (T : ℕ) (w : World) (t : TimedStep) → Runs cast S T w.steps w → T ≤ t.now → t.now < 2 ^ 62
    → KnowsSources S cast t.now w.steps (KnowsHubs cast S t.now w.steps) (begun w t)
sources-begun cast S T w t r after below = (
  (names-begun cast S T w t r after below, ends-begun cast S T w t r),
  direct-same S cast w (begun w t) (lasts-same w (begun w t) refl refl refl) refl r.direct,
  record {
    histories = histories cast S T w t r after below;
    passes = passes-still S w (begun w t) refl refl refl r.passes;
    there = record { within = r.there.within };
    diallers = inv-same cast w (begun w t) (keep-others w (begun w t) refl refl) refl r.diallers;
  },
)

from-makes : (cast : Cast) → IsFit cast → (S : Sendings) (T : ℕ) (w : World) (t : TimedStep) → Runs cast S T w.steps w → T ≤ t.now → t.now < 2 ^ 62 → IsCounted S w.steps t.step
    → UpLaw → AreWhole S → AllFrom S (makes w t)
from-makes cast fit S T w t r after below sends law whole =
    from-same S (done w t) (makes w t) (lasts-same (done w t) (makes w t) refl refl refl) refl
    (sources-done law cast fit r.made S whole t w.steps sends w (sources-begun cast S T w t r after below)
    (from-same S w (begun w t) (lasts-same w (begun w t) refl refl refl) refl (r.from law whole)))

one_put : (cast : Cast) (S : Sendings) (T : ℕ) (w : World) (t : TimedStep) → Runs cast S T w.steps w → T ≤ t.now → t.now < 2 ^ 62 → OnePut w.steps (done w t)
one_put cast S T w t r after below =
    kept-from (OnePut w.steps) t w.steps w (one_stays t.now w.steps (begun w t) t.step refl r.put_before r.put_once) (knows-begun T w t after below r.timely r.holds r.sides)
    (one_of-none w.steps (begun w t) r.put_before r.put_once)

receipts-done : (cast : Cast) (S : Sendings) (T : ℕ) (w : World) (t : TimedStep) → Runs cast S T w.steps w → T ≤ t.now → t.now < 2 ^ 62 → HasReceipts (done w t)
receipts-done cast S T w t r after below =
    let begin : HasReceipts (begun w t) = receipts-same w (begun w t) refl refl r.receipts in
    kept-from HasReceipts t w.steps w (receipts_stay t.now w.steps (begun w t) t.step begin) (knows-begun T w t after below r.timely r.holds r.sides) begin

forwards-done : (cast : Cast) (S : Sendings) (T : ℕ) (w : World) (t : TimedStep) → Runs cast S T w.steps w → ForwardsFit (done w t)
forwards-done cast S T w t r =
    let begin : ForwardsFit (begun w t) = forwards-same w (begun w t) refl refl r.forwards in
    lets-step_from (Keeps ForwardsFit) t w (forwards_fit (begun w t) t.step r.put_once begin) begin

every-makes : (cast : Cast) (S : Sendings) (T : ℕ) (w : World) (t : TimedStep) → Runs cast S T w.steps w → T ≤ t.now → t.now < 2 ^ 62 → AllDelivered (makes w t)
every-makes cast S T w t r after below =
    all-same (done w t) (makes w t) refl refl
    (kept-step AllDelivered t w.steps (all_stay t.now w.steps t.step) w (knows-begun T w t after below r.timely r.holds r.sides) (all-same w (begun w t) refl refl r.every))

one_step : (cast : Cast) → IsFit cast → (S : Sendings) (T : ℕ) (w : World) (t : TimedStep) → Runs cast S T w.steps w → T ≤ t.now → t.now < 2 ^ 62 → IsCounted S w.steps t.step
    → Runs cast S t.now (w.steps + 1) (makes w t)
one_step cast fit S T w t r after below sends = record {
  place_is = ap (λ n. n + 1) (at-done T w t after below r.timely).steps;
  ways = ways_fit w t r.ways;
  holds = (holds_fit w t).holds r.holds;
  timely = all_timely T w t after below r.timely;
  sides = down_is_taken w t r.holds r.sides;
  sent = sent-makes cast S T w t r after below sends;
  casts = casts-same cast (done w t) (makes w t) refl refl (casts-done cast t w.steps w (known cast S T w t r after below));
  named = named-same cast (done w t) (makes w t) refl refl (named-done cast S T w t r after below);
  joins = sides_joined w t r.joins;
  by_links = by-still (done w t) (makes w t) refl refl (histories-makes cast fit S T w t r after below sends).sides.by_links;
  looks = looks-same (done w t) (makes w t) refl refl (histories-makes cast fit S T w t r after below sends).sides.looks;
  legally = legally-same (done w t) (makes w t) refl refl (histories-makes cast fit S T w t r after below sends).legally;
  passes = passes-makes cast fit S T w t r after below sends;
  made = r.made;
  ends = ends-same cast (done w t) (makes w t) (lasts-same (done w t) (makes w t) refl refl refl) refl (ends-done cast S T w t r after below);
  direct = direct-same S cast (done w t) (makes w t) (lasts-same (done w t) (makes w t) refl refl refl) refl (direct-done cast S T w t r after below sends);
  put_before = (one_put cast S T w t r after below).before;
  put_once = (one_put cast S T w t r after below).once;
  receipts = receipts-same (done w t) (makes w t) refl refl (receipts-done cast S T w t r after below);
  forwards = forwards-same (done w t) (makes w t) refl refl (forwards-done cast S T w t r);
  there = hubs_there w t r.there;
  from = from-makes cast fit S T w t r after below sends;
  diallers = inv-same cast (done w t) (makes w t) (keep-others (done w t) (makes w t) refl refl) refl (dialled-done cast fit S T w t r after below);
  every = every-makes cast S T w t r after below;
}

-- the step at its place among all steps
pub step-at : (before : List TimedStep) (t : TimedStep) (ts : List TimedStep) → slice_get (map (λ x. x.step) (before ++ t ∷ ts)) (length before) ≡ Some t.step
step-at [] t ts = refl
step-at (x ∷ before) t ts = step-at before t ts

pub one_longer : (before : List TimedStep) (t : TimedStep) → length before + 1 ≡ length (before ++ t ∷ [])
one_longer before t = sym (length-append before (t ∷ []))

pub runs-makes : (cast : Cast) → IsFit cast → (S : Sendings) (T place : ℕ) (w : World) (t : TimedStep) → Runs cast S T place w → T ≤ t.now → t.now < 2 ^ 62 → IsCounted S place t.step
    → Runs cast S t.now (place + 1) (makes w t)
runs-makes cast fit S T place w t r after below sends =
    subst (λ p. Runs cast S t.now (p + 1) (makes w t)) r.place_is
    (one_step cast fit S T w t (subst (λ p. Runs cast S T p w) (sym r.place_is) r) after below (subst (λ p. IsCounted S p t.step) (sym r.place_is) sends))

-- after the steps before, and then the others
runs-on : (cast : Cast) → IsFit cast → (steps before ts : List TimedStep) (T : ℕ) (w : World) → steps ≡ before ++ ts → Runs cast (Sends steps) T (length before) w → MayMakeAll T ts → (U : ℕ)
    × (place : ℕ) × Runs cast (Sends steps) U place (fold makes w ts)
runs-on cast fit steps before [] T w is r may = (T, length before, r)
runs-on cast fit steps before (t ∷ ts) T w is r may =
    let first : MayMake T t = may.0 in
    let sends = λ (k : ℕ) (dest : Vmac) (npdu : List ℕ) (own : t.step ≡ OfNode k (Send dest npdu)).
    ap (λ (xs : List TimedStep). slice_get (map (λ x. x.step) xs) (length before)) is ∙ step-at before t ts ∙ ap Some own in
    let next = runs-makes cast fit (Sends steps) T (length before) w t r first.later first.in_range sends in
    runs-on cast fit steps (before ++ t ∷ []) ts t.now (makes w t) (is ∙ sym (append_assoc before (t ∷ []) ts))
    (subst (λ p. Runs cast (Sends steps) t.now p (makes w t)) (one_longer before t) next) may.1

timely-new : (ms : List Made) → AllByRecursion (λ (n : Node). Timely 0 n.log) (map new_node ms)
timely-new [] = tt
timely-new (a ∷ ms) = (record { time = omega arith; word = refl }, timely-new ms)

holds-new : (added : List Added) → HoldsFit (new_world added)
holds-new added k n here =
    let made = found-in new_node (slice_get (nodes added) k) n (sym (slice_get-map new_node (nodes added) k) ∙ here) in
    subst (λ (m : Node). AllByRecursion (EndOf (new_world added) k) m.holds) made.2 tt

map-made : {A B : Type 0} (f : A → B) (g : B → A) → ((x : A) → g (f x) ≡ x) → (xs : List A) → map g (map f xs) ≡ xs
map-made f g back [] = refl
map-made f g back (x ∷ xs) = ap (λ y. y ∷ map g (map f xs)) (back x) ∙ ap (λ ys. x ∷ ys) (map-made f g back xs)

stays-new : (ms : List Made) → AllByRecursion (λ (n : Node). Stays n.made n.log) (map new_node ms)
stays-new [] = tt
stays-new (a ∷ ms) = (record { knit = knit-at_first a; reached = reached-at_first a; vmac = refl }, stays-new ms)

casts-new : (added : List Added) → Casts (cast_of added) (new_world added)
casts-new added = record { hubs = map-made new_hub (λ h. h.about) (λ a. refl) (hubs added); nodes = map-made new_node (λ n. n.made) (λ a. refl) (nodes added); stays = stays-new (nodes added) }

nothing-entered : (a : About) → OutboxesNameNobody (new_hub a)
unfolding frames_of
nothing-entered a c = tt

joined-new : (cast : Cast) (w : World) (abouts : List About) → AllByRecursion (JoinsDiallers cast w) (map new_hub abouts)
unfolding joined_where
joined-new cast w [] = tt
joined-new cast w (a ∷ rest) = (tt, joined-new cast w rest)

outboxes-new : (as_made : List About) → AllByRecursion OutboxesNameNobody (map new_hub as_made)
outboxes-new [] = tt
outboxes-new (a ∷ rest) = (nothing-entered a, outboxes-new rest)

-- no hub has a connection at first, and all its outboxes are empty
hub-new : (added : List Added) (j : ℕ) (h : Hub) → slice_get (new_world added).hubs j ≡ Some h → (a : About) × (h ≡ new_hub a)
hub-new added j h at =
    let made = found-in new_hub (slice_get (hubs added) j) h (sym (slice_get-map new_hub (hubs added) j) ∙ at) in
    (made.0, sym made.2)

by_links-new : (added : List Added) → JoinByLinks (new_world added)
unfolding joined_where
by_links-new added j h at = let made = hub-new added j h at in subst (λ (x : Hub). AllByRecursion (IsOfLink (new_world added) j) (joined (history x))) (sym made.1) tt

looks-new : (added : List Added) → LooksFit (new_world added)
unfolding joined_where looked
looks-new added j h c at = let made = hub-new added j h at in subst (λ (x : Hub). looked (history x) c ≤ taken_from (new_world added) x c) (sym made.1) (omega arith)

passes-new : (S : Sendings) (added : List Added) → PassesOn S (new_world added)
unfolding frames_of
passes-new S added j h c at = let made = hub-new added j h at in subst (λ (x : Hub). AllByRecursion (IsPassedTo S (new_world added) x.posted c) (npdus (frames x c))) (sym made.1) tt

legal-new : (abouts : List About) → AllByRecursion (λ (h : Hub). Legal h.about (history h)) (map new_hub abouts)
legal-new [] = tt
legal-new (a ∷ rest) = (record { lawful = tt }, legal-new rest)

-- at first no node has an end, nor a peer
ends-new : (added : List Added) → EndsRight (cast_of added) (new_world added)
ends-new added = record {
  hubs = λ k n here. let made = at_first k n here in subst (λ (m : Node). AllByRecursion (LeadsToHub (new_world added)) m.holds) made.1 tt;
  peers = λ k n s who here is. let made = at_first k n here in some_none who (sym is ∙ ap (λ (m : Node). peer m.log (Direct s)) (sym made.1));
}
  where
    at_first : (k : ℕ) (n : Node) → node_at (new_world added) k ≡ Some n → (m : Made) × (new_node m ≡ n)
    at_first k n here = let made = found-in new_node (slice_get (nodes added) k) n (sym (slice_get-map new_node (nodes added) k) ∙ here) in (made.0, made.2)

no_link : (l : ℕ) (k : Link) → slice_get [] l ≡ Some k → ⊥
no_link l k h = cc

no_posted : (p : ℕ) (q : Posted) → slice_get [] p ≡ Some q → ⊥
no_posted p q h = cc

-- no hub was handed in anything
forwards-new : (as_made : List About) (w : World) → w.hubs ≡ map new_hub as_made → ForwardsFit w
forwards-new as_made w is = record { sources = λ j p f at. absurd (none j p f at); once = λ i p f j q g a b same. absurd (none i p f a) }
  where
    none : (j p : ℕ) (f : Frame) → ForwardAt w j p f → ⊥
    none j p f at =
        let made = found-in new_hub (slice_get as_made j) at.hub (sym (slice_get-map new_hub as_made j) ∙ ap (λ (hs : List Hub). slice_get hs j) (sym is) ∙ at.here) in
        no_posted p at.posted (ap (λ (h : Hub). slice_get h.posted p) made.2 ∙ at.at)

-- Each network before its first step.
pub runs-new : (added : List Added) (steps : List TimedStep) → MayAddAll [] added → Runs (cast_of added) (Sends steps) 0 0 (new_world added)
runs-new added steps may = record {
  place_is = refl;
  ways = tt;
  holds = holds-new added;
  timely = timely-new (nodes added);
  sides = tt;
  sent = tt;
  casts = casts-new added;
  named = record { links = tt; outboxes = outboxes-new (hubs added) };
  joins = λ l j h k c side conn. absurd (no_link l k side.link);
  by_links = by_links-new added;
  looks = looks-new added;
  legally = record { legal = legal-new (hubs added); stay = λ l j h k c side conn. absurd (no_link l k side.link) };
  passes = passes-new (Sends steps) added;
  made = made_well added may;
  ends = ends-new added;
  direct = λ l x way k j d. absurd (no_link l x d.link);
  put_before = λ l way i f p. absurd (no_link l p.0 p.1);
  put_once = λ l way i f m on j g p q same. absurd (no_link l p.0 p.1);
  receipts = ([], tt);
  forwards = forwards-new (hubs added) (new_world added) refl;
  there = record { within = λ l j x here leads. absurd (no_link l x here) };
  every = all-new added;
  from = λ law whole. tt;
  diallers = joined-new (cast_of added) (new_world added) (hubs added);
}

-- Each network, after any steps that may be made.
pub runs : (added : List Added) (steps : List TimedStep) → IsCourse added steps → (T : ℕ) × (place : ℕ) × Runs (cast_of added) (Sends steps) T place (world added steps)
runs added steps course =
    runs-on (cast_of added) (nodes_fit added course.added_all) steps [] steps 0 (new_world added) refl (runs-new added steps course.added_all) course.made_all
