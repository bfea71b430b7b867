-- A node stands for its log from one event to the next.
-- It serves the clauses of `event`.
use Rattle.std.proofs.Common.{◌≡◌, ℕ, zero, suc, ◌+◌, ◌<◌, ◌≤◌, Bool, true, false, not, ◌&&◌, ◌||◌, List, [], ◌∷◌, ◌++◌, length, Some, None, refl, ap, sym, ◌∙◌, subst, arith, append_assoc}
use Rattle.std.specs.Prelude.{◌==◌, IsTrue, nat_lt, filter_map, is_some}
use Rattle.std.specs.List.{list_any, range_with_len}
use Rattle.std.proofs.lemmas.Bool.{ltb-true, ltb-false}
use Rattle.std.proofs.lemmas.List.{append-nil}
use Rattle.bsc_octets.specs.declared.identity.Identity.{Identity}
use Rattle.bsc_direct.specs.declared.bounds.TheConstants.{SLOTS}
use Rattle.bsc_direct.specs.declared.direct.Direct.{Direct as SlotTable}
use Rattle.bsc_direct.specs.declared.call.SlotCall.{SlotCall}
use Rattle.bsc_direct.specs.declared.slot.Slot.{Slot}
use Rattle.bsc_direct.specs.declared.slot.Slot.TheVariants.{Free}
use Rattle.bsc_direct.specs.Kept.{says_peer, slot_at}
use Rattle.bsc_direct.specs.Slots.{slots, established_peer}
use Rattle.bsc_direct.specs.Standing.{DirectStands}
use Rattle.bsc_resolve.specs.declared.resolve.Resolve.{Resolve}
use Rattle.bsc_resolve.specs.Standing.{IsUnchanged as IsUnchangedResolve}
use Rattle.bsc_node.specs.declared.link_name.LinkName.{LinkName}
use Rattle.bsc_node.specs.declared.link_name.LinkName.TheVariants.{Hub, Direct}
use Rattle.bsc_node.specs.declared.node_event.NodeEvent.{NodeEvent}
use Rattle.bsc_node.specs.declared.node_event.NodeEvent.TheVariants.{Opened, DialFailed, Came, CameText, Lost}
use Rattle.bsc_node.specs.declared.timed_event.TimedEvent.{TimedEvent}
use Rattle.bsc_node.specs.declared.action.Action.{Action}
use Rattle.bsc_node.specs.Logs.{Made, Line, came, Log, action_of}
use Rattle.bsc_node.specs.Links.{is_over_by, is_there, was_taken, initiating_events, request, is_in_slots}
use Rattle.bsc_node.specs.Ways.{slot_calls, resolve_calls}
use Rattle.bsc_node.specs.Events.{follows}
use Rattle.bsc_node.specs.Node.{goes_on, actions_at}
use Rattle.bsc_node.specs.Conditions.{is_dialling, is_open, has_opened, may_come}
use Rattle.bsc_node.proofs.Following.{goes_on-is}
use Rattle.bsc_node.proofs.Lasting.{Fine, fine-goes_on, there_in_slots, event_fits}
use Rattle.bsc_node_core.specs.declared.node.Node.{Node}
use Rattle.bsc_node_core.specs.declared.state.State.{State}
use Rattle.bsc_node_core.specs.Events.{MayFollow, at_time}
use Rattle.bsc_node_core.specs.Node.{NodeStands, at_rest}
use Rattle.bsc_node_core.specs.Resting.{IsAtRestFor}
use Rattle.bsc_node_core.specs.Resolving.{BothStand}
use Rattle.bsc_node_core.specs.Standing.{Base, Stands}
use Rattle.bsc_node_core.specs.Tables.{is_name}
use Rattle.bsc_node_core.specs.declared.touched.Touched.TheVariants.{Many}
use Rattle.bsc_node_core.specs.Spares.{Agrees, KeepsSame}
use Rattle.bsc_node_core.proofs.Asking.{both-still}
use Rattle.bsc_node_core.proofs.Copying.{begun-stands, restored-stands}
use Rattle.bsc_node_core.proofs.More.{taken-kept, initiating-kept}
use Rattle.bsc_lemmas.proofs.Booleans.{and_left, first_of_three}
use Rattle.bsc_lemmas.proofs.Lists.{same_rest as same-lines}
use Rattle.bsc_lemmas.proofs.Options.{some_none_any as some_none}
use Rattle.bsc_node.proofs.Common.{slot-named}
use Rattle.std.proofs.lemmas.Bool.{or_left as or_first, or_right as or_second}
use Rattle.bsc_node.proofs.There.{there-other as there-kept}

-- ---- the numbers of slots

in_range : (n a k : ℕ) → k < n → list_any (λ j. (a + k) == j) (range_with_len a n) ≡ true
in_range zero a k h = absurd (omega (arith, h))
in_range (suc n) a zero h = or_first ((a + zero) == a) (list_any (λ j. (a + zero) == j) (range_with_len (a + 1) n)) (grind arith)
in_range (suc n) a (suc k) h =
    or_second ((a + suc k) == a) (list_any (λ j. (a + suc k) == j) (range_with_len (a + 1) n))
    (subst (λ (x : ℕ). list_any (λ j. x == j) (range_with_len (a + 1) n) ≡ true) (omega arith) (in_range n (a + 1) k (omega (arith, h))))

in-slots : (k : ℕ) → k < SLOTS → is_in_slots k ≡ true
unfolding slots
in-slots k h = subst (λ (x : ℕ). list_any (λ j. x == j) (range_with_len 0 SLOTS) ≡ true) (let e : 0 + k ≡ k = omega arith in e) (in_range SLOTS 0 k h)

-- ---- what holds of the log that a node stands for

past : (items : List Slot) (k : ℕ) → length items ≤ k → slot_at items k ≡ Free
past [] k h = refl
past (s ∷ items) zero h = absurd (omega (arith, h))
past (s ∷ items) (suc k) h = past items k (omega (arith, h))

within : (d : SlotTable) (calls : List SlotCall) (k : ℕ) (who : Identity) → DirectStands d calls → established_peer calls k ≡ Some who → is_in_slots k ≡ true
within d calls k who h e = by (nat_lt k SLOTS) refl
  where
    by : (b : Bool) → nat_lt k SLOTS ≡ b → is_in_slots k ≡ true
    by true w = in-slots k (ltb-true k SLOTS w)
    by false w = some_none who (sym e ∙ (h.slots k).peer ∙ ap says_peer (past d.slots.items k (let n = ltb-false k SLOTS w in omega (arith, d.slots.ok.0, d.all, n))))

pub fine : (node : Node) (a : Made) (L : Log) → NodeStands node a L → Fine L
fine node a L h =
    let d = h.kept.state.direct in record {
      slots = record { apart = d.apart; unicast = d.unicast; within = λ k who e. within node.state.direct (slot_calls L) k who d e };
      begun = h.begun;
    }

named : (L : Log) (name : LinkName) → Fine L → is_there name L ≡ true → is_name name ≡ true
named L (Hub s) f h = refl
named L (Direct k) f h = slot-named k (there_in_slots L k f h)

-- ---- what an event that may come leaves to what follows

abbrev at : ℕ → NodeEvent → TimedEvent
at t ev = record { now = t; event = ev }

opened-kept : (L : Log) (m : Line) (name : LinkName) → initiating_events (L ++ m ∷ []) name ≡ initiating_events L name → has_opened name (L ++ m ∷ []) ≡ has_opened name L
opened-kept L m name h = ap (λ es. is_some (request es)) h

still-dialling : (L : Log) (e : TimedEvent) (name : LinkName) → is_over_by name (came e) ≡ false → is_dialling name (L ++ came e ∷ []) ≡ is_dialling name L
still-dialling L e name o =
    let M = L ++ came e ∷ [] in
    ap (λ b. b && not (was_taken name M) && not (has_opened name M)) (there-kept name L (came e) refl o)
    ∙ ap (λ b. is_there name L && not b && not (has_opened name M)) (taken-kept name L (came e) refl)
    ∙ ap (λ b. is_there name L && not (was_taken name L) && not b) (opened-kept L (came e) name (initiating-kept L (came e) name refl refl))

still-open : (L : Log) (e : TimedEvent) (name : LinkName) → is_over_by name (came e) ≡ false → is_open name (L ++ came e ∷ []) ≡ is_open name L
still-open L e name o =
    let M = L ++ came e ∷ [] in
    ap (λ b. b && (was_taken name M || has_opened name M)) (there-kept name L (came e) refl o)
    ∙ ap (λ b. is_there name L && (b || has_opened name M)) (taken-kept name L (came e) refl)
    ∙ ap (λ b. is_there name L && (was_taken name L || b)) (opened-kept L (came e) name (initiating-kept L (came e) name refl refl))

pub may-follow : (L : Log) (t : ℕ) (ev : NodeEvent) → Fine L → IsTrue (may_come L (at t ev)) → MayFollow ev (L ++ came (at t ev) ∷ [])
may-follow L t (Opened name) f h =
    let g : is_dialling name L ≡ true = event_fits L (at t (Opened name)) h in
    (named L name f (first_of_three (is_there name L) (not (was_taken name L)) (not (has_opened name L)) g), still-dialling L (at t (Opened name)) name refl ∙ g)
may-follow L t (DialFailed name) f h =
    let g : is_dialling name L ≡ true = event_fits L (at t (DialFailed name)) h in
    named L name f (first_of_three (is_there name L) (not (was_taken name L)) (not (has_opened name L)) g)
may-follow L t (Came name o) f h =
    let g : is_open name L ≡ true = event_fits L (at t (Came name o)) h in
    (named L name f (and_left (is_there name L) (was_taken name L || has_opened name L) g), still-open L (at t (Came name o)) name refl ∙ g)
may-follow L t (CameText name) f h =
    let g : is_open name L ≡ true = event_fits L (at t (CameText name)) h in
    named L name f (and_left (is_there name L) (was_taken name L || has_opened name L) g)
may-follow L t (Lost name) f h = named L name f (event_fits L (at t (Lost name)) h)
may-follow L t ev f h = tt

-- ---- from one event to the next

-- the base while an event is followed
abbrev at_event : Made → Log → ℕ → State → Base
at_event a L t spare = record { made = a; before = L; now = t; asked = resolve_calls L; busy = None; spare = spare }

rested : (a : Made) (L M : Log) (t : ℕ) (out : List Action) (s spare : State) (r : Resolve) → BothStand (at_event a L t spare) out s r M → BothStand (at_rest a M spare) [] s r M
rested a L M t out s spare r h =
    let k = h.state in record {
      state = record {
        now = refl;
        own = k.own;
        next = k.next;
        finishing = k.finishing;
        renewals = k.renewals;
        newest_hub = k.newest_hub;
        dropped = k.dropped;
        connector = k.connector;
        direct = k.direct;
        asked = refl;
        links = k.links;
        tries = k.tries;
        spare = k.spare;
        actions = record { lines = []; log = sym (append-nil M); actions = refl };
      };
      resolution = h.resolution;
    }

-- What an event comes to, by what it leaves and what follows from it.
pub answered : (old new : Node) (a : Made) (L : Log) (t : ℕ) (ev : NodeEvent) (out : List Action) (start caught mid : State) → new.limits ≡ old.limits → new.spare ≡ caught → KeepsSame old.state start
    → (Agrees old.spare old.state → KeepsSame old.state caught)
    → ((b : Base) (os : List Action) (M : Log) (u : ℕ) → Stands b os start M → Stands (at_time u b) os mid (M ++ came (record { now = u; event = ev }) ∷ []))
    → ((b : Base) (M : Log) → IsAtRestFor old.limits t b → MayFollow ev M → BothStand b [] mid old.resolve M → BothStand b out new.state new.resolve (M ++ follows b.made ev M))
    → NodeStands old a L → IsTrue (may_come L (record { now = t; event = ev }))
    → (out ≡ actions_at a L (record { now = t; event = ev })) × NodeStands new a (L ++ goes_on a (record { now = t; event = ev }) L)
answered old new a L t ev out start caught mid same spared is catches comes goes h may =
    let e = at t ev in
    let f = fine old a L h in
    let M = L ++ came e ∷ [] in
    let b = at_event a L t caught in
    let first : Stands b [] mid M = comes (at_rest a L caught) [] L t (begun-stands (at_rest a L old.spare) [] old.state start caught L is catches h.kept.state) in
    let both : BothStand b [] mid old.resolve M = both-still b [] mid old.resolve L M h.kept.resolution first in
    let last : BothStand b out new.state new.resolve (M ++ follows a ev M) = goes b M (h.limits, refl, refl) (may-follow L t ev f may) both in
    let log : M ++ follows a ev M ≡ L ++ goes_on a e L = append_assoc L (came e ∷ []) (follows a ev M) ∙ ap (λ ms. L ++ ms) (sym (goes_on-is a L e)) in
    let end : BothStand b out new.state new.resolve (L ++ goes_on a e L) = subst (λ N. BothStand b out new.state new.resolve N) log last in
    let come = end.state.actions in (
      come.actions ∙ ap (filter_map action_of) (same-lines L come.lines (goes_on a e L) (sym come.log)),
      record {
        limits = h.limits ∙ sym same;
        kept = subst (λ (x : State). BothStand (at_rest a (L ++ goes_on a e L) x) [] new.state new.resolve (L ++ goes_on a e L)) (sym spared)
            (rested a L (L ++ goes_on a e L) t out new.state caught new.resolve end);
        begun = (fine-goes_on a L e f may).begun;
      },
    )

-- Where memory was wanting, a node stands for what it stood.
pub unchanged : (old new : Node) (a : Made) (L : Log) (caught failed : State) → new.limits ≡ old.limits → (Agrees old.spare old.state → KeepsSame old.state caught)
    → KeepsSame caught new.spare → new.spare.links.touched ≡ Many
    → new.spare.direct_touched ≡ true → (Agrees failed new.spare → KeepsSame new.spare new.state) → IsUnchangedResolve old.resolve new.resolve → NodeStands old a L → NodeStands new a L
unchanged old new a L caught failed same catches marks many all brings resolve h = record {
  limits = h.limits ∙ sym same;
  kept = record {
    state = restored-stands (at_rest a L old.spare) [] old.state caught new.spare failed new.state L catches marks many all brings h.kept.state;
    resolution = resolve a.limits.times.connect_wait (resolve_calls L) h.kept.resolution;
  };
  begun = h.begun;
}
