-- What a node keeps goes on standing for its log, where a peer has named itself.
-- It serves clauses of functions of `state`.
use Rattle.std.proofs.Common.{◌≡◌, ◌⊎◌, inl, inr, ℕ, Bool, true, false, cond, List, [], ◌∷◌, ◌++◌, Option, Some, None, refl, ap, sym, ◌∙◌, subst}
use Rattle.std.proofs.lemmas.Bool.{false≢true}
use Rattle.std.proofs.lemmas.List.{append-nil}
use Rattle.bsc_octets.specs.declared.vmac.Vmac.{Vmac}
use Rattle.bsc_octets.specs.declared.identity.Identity.{Identity}
use Rattle.bsc_octets.specs.Addresses.{same_vmac, same_device}
use Rattle.bsc_connector.specs.declared.side.Side.{Side}
use Rattle.bsc_connector.specs.declared.event.ConnectorEvent.TheVariants.{Connected}
use Rattle.bsc_initiate.specs.declared.initiating.Initiating.{Initiating}
use Rattle.bsc_accept.specs.declared.accepting.Accepting.{Accepting}
use Rattle.bsc_accept.specs.declared.event.Event.TheVariants.{Joined, Refused}
use Rattle.bsc_history.specs.declared.reply.Refusal.TheVariants.{Duplicate as DuplicateRefusal}
use Rattle.bsc_direct.specs.declared.direct.Direct.{Direct as SlotTable}
use Rattle.bsc_direct.specs.declared.call.SlotCall.{SlotCall}
use Rattle.bsc_direct.specs.declared.call.SlotCall.TheVariants.{Up}
use Rattle.bsc_direct.specs.declared.establish.Establish.{Establish}
use Rattle.bsc_direct.specs.declared.establish.Establish.TheVariants.{Up as IsUp, Duplicate, WrongPeer}
use Rattle.bsc_direct.specs.Slots as Slots
use Rattle.bsc_direct.specs.Slots.{unless_rival, unless_own, unless_wrong, is_peer, established_peer, rival, of_device}
use Rattle.bsc_direct.specs.Standing.{DirectStands, DirectAnswers, and_up}
use Rattle.bsc_node.specs.declared.link_name.LinkName.{LinkName}
use Rattle.bsc_node.specs.declared.link_name.LinkName.TheVariants.{Hub, Direct}
use Rattle.bsc_node.specs.declared.note.Note.TheVariants.{DirectUp}
use Rattle.bsc_node.specs.declared.action.Action.{Action}
use Rattle.bsc_node.specs.declared.action.Action.TheVariants.{Put, Close, Tell}
use Rattle.bsc_node.specs.Logs.{Made, Line, slot, accepting, did, Log, does, tells, if_so, nothing, own_vmac, renewal_of}
use Rattle.bsc_node.specs.Links.{Outcome, puts, puts_and_closes, closes, meets, is_refused, passes_up, keeps_still, was_taken, outcome, start, accepting_events}
use Rattle.bsc_node.specs.Hubs.{is_under_way}
use Rattle.bsc_node.specs.Ways.{slot_call_of, slot_calls, slots_see, establish, awaits_peer}
use Rattle.bsc_node.specs.Ending.{carries_out_by, carries_out, ends, tells_connector, closes_link}
use Rattle.bsc_node.specs.Meeting.{wrong_peer, joins, refuses, finishes_replaced, comes_up, meets_dialled, meets_taken, meets_slot, meets_direct, meets_peer}
use Rattle.bsc_node.proofs.Calm.{is_calm, calm-joined, calm-duplicate}
use Rattle.bsc_node.proofs.Told.{outcome-accepting}
use Rattle.bsc_node_core.specs.declared.machine.Machine.{Machine}
use Rattle.bsc_node_core.specs.declared.machine.Machine.TheVariants.{Gone, Over, Dialled, Taken, Asked}
use Rattle.bsc_node_core.specs.declared.state.State.{State}
use Rattle.bsc_node_core.specs.Machines.{has_asked}
use Rattle.bsc_node_core.specs.Tables.{link_at, is_name}
use Rattle.bsc_node_core.specs.Standing.{Base, MachineStands, Stands}
use Rattle.bsc_node_core.specs.Telling.{busy_with, IsLeft, HasTold}
use Rattle.bsc_node_core.proofs.More.{own-kept}
use Rattle.bsc_node_core.proofs.Lines.{slot-stands}
use Rattle.bsc_node_core.proofs.Settling.{settles}
use Rattle.bsc_node_core.proofs.Wants.{slot-within, tell-stands}
use Rattle.bsc_node_core.proofs.Carrying.{two-is, three-then, nothing-more}
use Rattle.bsc_node.proofs.Common.{slot_calls-kept}

-- ---- whether a connection is established

-- The answer with the VMAC that is kept is that of the log.
own-answer : (b : Base) (out : List Action) (s : State) (L : Log) (k : ℕ) (who : Identity) → Stands b out s L → Slots.establish s.own.vmac (slot_calls L) k who ≡ establish b.made k who L
own-answer b out s L k who h = ap (λ (i : Identity). Slots.establish i.vmac (slot_calls L) k who) (sym h.own)

pub answer-is : (b : Base) (out : List Action) (s : State) (L : Log) (k : ℕ) (who : Identity) (answer : Establish) → answer ≡ Slots.establish s.own.vmac (slot_calls L) k who
    → Stands b out s L → establish b.made k who L ≡ answer
answer-is b out s L k who answer e h = sym (own-answer b out s L k who h) ∙ sym e

up-where : (w : Option Vmac) (who : Identity) (own : Bool) (held replaced r : Option ℕ) → unless_wrong w who (unless_own own (unless_rival held replaced)) ≡ IsUp r → r ≡ replaced
up-where w who own held replaced r h = by_rival held (by_own own (unless_rival held replaced) (by_wrong w (unless_own own (unless_rival held replaced)) h))
  where
    by_wrong : (w : Option Vmac) (e : Establish) → unless_wrong w who e ≡ IsUp r → e ≡ IsUp r
    by_wrong None e h = h
    by_wrong (Some v) e h = same (same_vmac v who.vmac) h
      where
        same : (b : Bool) → cond b e (WrongPeer v) ≡ IsUp r → e ≡ IsUp r
        same true h = h
        same false h = cc

    by_own : (b : Bool) (e : Establish) → unless_own b e ≡ IsUp r → e ≡ IsUp r
    by_own true e h = cc
    by_own false e h = h

    by_rival : (held : Option ℕ) → unless_rival held replaced ≡ IsUp r → r ≡ replaced
    by_rival (Some holder) h = cc
    by_rival None h = cc

-- A slot that is replaced has a name.
replaced-name : (own : Vmac) (calls : List SlotCall) (k : ℕ) (who : Identity) (r : Option ℕ) → Slots.establish own calls k who ≡ IsUp r → (j : ℕ) → r ≡ Some j → is_name (Direct j) ≡ true
replaced-name own calls k who r h j e =
    slot-within (λ (i : ℕ). is_peer (λ (peer : Identity). same_device peer.device who.device) (established_peer calls i)) j
    (sym (up-where (Slots.wanted calls k) who (same_vmac who.vmac own) (rival calls who) (of_device calls who.device) r h) ∙ e)

up-same : {r q : Option ℕ} → IsUp r ≡ IsUp q → r ≡ q
up-same h = cc

up-not-duplicate : {r h : Option ℕ} → IsUp r ≡ Duplicate h → ⊥
up-not-duplicate h = cc

up-not-wrong : {r : Option ℕ} {v : Vmac} → IsUp r ≡ WrongPeer v → ⊥
up-not-wrong h = cc

-- It isn't established.
abbrev pub IsDown : Establish → Type 0
IsDown e = ((holder : Option ℕ) × (e ≡ Duplicate holder)) ⊎ ((v : Vmac) × (e ≡ WrongPeer v))

pub not-up : {r : Option ℕ} (e : Establish) → IsDown e → e ≡ IsUp r → ⊥
not-up e (inl h) u = up-not-duplicate (sym u ∙ h.1)
not-up e (inr h) u = up-not-wrong (sym u ∙ h.1)

-- ---- a connection comes up

-- The slot comes up, and that is told.
up-stands : (b : Base) (out told : List Action) (s : State) (L : Log) (k : ℕ) (who : Identity) (d : SlotTable) (answer : Establish) (r : Option ℕ)
    → DirectAnswers s.direct d s.own.vmac k who answer → answer ≡ IsUp r
    → told ≡ out ++ Tell (DirectUp who.vmac) ∷ [] → Stands b out s L → Stands b told (record s { direct = d; direct_touched = true })
    ((L ++ slot (Up k who) ∷ []) ++ did (Tell (DirectUp who.vmac)) ∷ [])
up-stands b out told s L k who d answer r a e t h =
    let stands : DirectStands d (slot_calls L ++ Up k who ∷ []) = subst (λ (x : Establish). DirectStands d (and_up x (slot_calls L) k who)) e (a (slot_calls L) h.direct).1 in
    let up : Stands b out (record s { direct = d; direct_touched = true }) (L ++ slot (Up k who) ∷ []) = slot-stands b out s L (Up k who) d (λ j. refl) stands h in
    subst (λ os. Stands b os (record s { direct = d; direct_touched = true }) ((L ++ slot (Up k who) ∷ []) ++ did (Tell (DirectUp who.vmac)) ∷ [])) (sym t)
    (tell-stands b out (record s { direct = d; direct_touched = true }) (L ++ slot (Up k who) ∷ []) (DirectUp who.vmac) up)

-- The answer is the log's.
pub answered-up : (b : Base) (out : List Action) (s : State) (L : Log) (k : ℕ) (who : Identity) (d : SlotTable) (answer : Establish) (replaced : Option ℕ)
    → DirectAnswers s.direct d s.own.vmac k who answer
    → establish b.made k who L ≡ IsUp replaced → Stands b out s L → answer ≡ IsUp replaced
answered-up b out s L k who d answer replaced a e h = (a (slot_calls L) h.direct).0 ∙ own-answer b out s L k who h ∙ e

pub came-up : (b : Base) (out told later : List Action) (s s' : State) (L : Log) (k : ℕ) (who : Identity) (d : SlotTable) (answer : Establish) (r replaced : Option ℕ)
    → DirectAnswers s.direct d s.own.vmac k who answer → answer ≡ IsUp r
    → told ≡ out ++ Tell (DirectUp who.vmac) ∷ [] → establish b.made k who L ≡ IsUp replaced → Stands b out s L
    → ((M : Log) → ((j : ℕ) → r ≡ Some j → is_name (Direct j) ≡ true) → Stands b told (record s { direct = d; direct_touched = true }) M → Stands b later s' (M ++ finishes_replaced b.made r M))
    → Stands b later s' (L ++ comes_up b.made k who replaced L)
came-up b out told later s s' L k who d answer r replaced a ae t e h finishes =
    let same : r ≡ replaced = up-same (sym ae ∙ answered-up b out s L k who d answer replaced a e h) in
    let M = (L ++ slot (Up k who) ∷ []) ++ did (Tell (DirectUp who.vmac)) ∷ [] in
    three-then (λ N. Stands b later s' N) L (slots_see (Up k who)) (tells (DirectUp who.vmac)) (finishes_replaced b.made replaced)
    (subst (λ (x : Option ℕ). Stands b later s' (M ++ finishes_replaced b.made x M)) same
    (finishes M (replaced-name s.own.vmac (slot_calls L) k who r (sym (a (slot_calls L) h.direct).0 ∙ ae)) (up-stands b out told s L k who d answer r a ae t h)))

-- ---- a peer that this node dialled

pub dialled-up : (b : Base) (out : List Action) (s : State) (L : Log) (k : ℕ) (who : Identity) (r : Option ℕ) → establish b.made k who L ≡ IsUp r → Stands b out s (L ++ comes_up b.made k who r L)
    → Stands b out s (L ++ meets_dialled b.made k who (establish b.made k who L) L)
dialled-up b out s L k who r e h = subst (λ (x : Establish). Stands b out s (L ++ meets_dialled b.made k who x L)) (sym e) h

pub dialled-down : (b : Base) (out : List Action) (s : State) (L : Log) (k : ℕ) (who : Identity) (answer : Establish) → establish b.made k who L ≡ answer → IsDown answer
    → Stands b out s (L ++ closes_link b.made (Direct k) wrong_peer L) → Stands b out s (L ++ meets_dialled b.made k who (establish b.made k who L) L)
dialled-down b out s L k who answer e (inl d) h = subst (λ (x : Establish). Stands b out s (L ++ meets_dialled b.made k who x L)) (sym (e ∙ d.1)) h
dialled-down b out s L k who answer e (inr d) h = subst (λ (x : Establish). Stands b out s (L ++ meets_dialled b.made k who x L)) (sym (e ∙ d.1)) h

-- ---- a peer that dialled this node

same-slots : (a : Made) (k : ℕ) (who : Identity) (M : Log) (m : Line) → renewal_of m ≡ None → slot_call_of m ≡ None → establish a k who (M ++ m ∷ []) ≡ establish a k who M
same-slots a k who M m r s =
    ap (λ (i : Identity). Slots.establish i.vmac (slot_calls (M ++ m ∷ [])) k who) (own-kept a M m r)
    ∙ ap (λ (calls : List SlotCall). Slots.establish (own_vmac a M) calls k who) (slot_calls-kept M m s)

same-carried : (a : Made) (k : ℕ) (who : Identity) (name : LinkName) (u : Outcome) (M : Log) → establish a k who (M ++ carries_out_by name u M) ≡ establish a k who M
same-carried a k who name (puts o) M = same-slots a k who M (did (Put name o)) refl refl
same-carried a k who name (puts_and_closes o closing) M =
    ap (establish a k who) (two-is M (does (Put name o)) (does (Close name closing)))
    ∙ same-slots a k who (M ++ did (Put name o) ∷ []) (did (Close name closing)) refl refl
    ∙ same-slots a k who M (did (Put name o)) refl refl
same-carried a k who name (closes closing) M = same-slots a k who M (did (Close name closing)) refl refl
same-carried a k who name (meets x) M = ap (establish a k who) (append-nil M)
same-carried a k who name (is_refused origin code) M = ap (establish a k who) (append-nil M)
same-carried a k who name (passes_up msg) M = ap (establish a k who) (append-nil M)
same-carried a k who name keeps_still M = ap (establish a k who) (append-nil M)

-- The log once who asked was accepted, and the Connect-Accept was put.
abbrev pub with_joined : Made → ℕ → Log → Log
with_joined a k L = (L ++ joins (Direct k) L) ++ carries_out a (Direct k) (L ++ joins (Direct k) L)

pub same-joined : (a : Made) (k : ℕ) (who : Identity) (L : Log) → establish a k who (with_joined a k L) ≡ establish a k who L
same-joined a k who L =
    same-carried a k who (Direct k) (outcome a (L ++ joins (Direct k) L) (Direct k)) (L ++ joins (Direct k) L) ∙ same-slots a k who L (accepting (Direct k) Joined) refl refl

pub taken-up : (b : Base) (out : List Action) (s : State) (L : Log) (k : ℕ) (who : Identity) (r : Option ℕ) → establish b.made k who L ≡ IsUp r
    → Stands b out s (with_joined b.made k L ++ comes_up b.made k who r (with_joined b.made k L)) → Stands b out s (L ++ meets_taken b.made k who (establish b.made k who L) L)
taken-up b out s L k who r e h =
    subst (λ (x : Establish). Stands b out s (L ++ meets_taken b.made k who x L)) (sym e)
    (three-then (λ M. Stands b out s M) L (joins (Direct k)) (carries_out b.made (Direct k)) (comes_up b.made k who r) h)

-- The log once who asked was refused, and that was carried out.
abbrev pub with_refused : Made → ℕ → Log → Log
with_refused a k L = (L ++ refuses (Direct k) L) ++ carries_out a (Direct k) (L ++ refuses (Direct k) L)

pub taken-down : (b : Base) (out : List Action) (s : State) (L : Log) (k : ℕ) (who : Identity) (answer : Establish) → establish b.made k who L ≡ answer → IsDown answer
    → Stands b out s (with_refused b.made k L ++ ends b.made (Direct k) (with_refused b.made k L)) → Stands b out s (L ++ meets_taken b.made k who (establish b.made k who L) L)
taken-down b out s L k who answer e (inl d) h =
    subst (λ (x : Establish). Stands b out s (L ++ meets_taken b.made k who x L)) (sym (e ∙ d.1))
    (three-then (λ M. Stands b out s M) L (refuses (Direct k)) (carries_out b.made (Direct k)) (ends b.made (Direct k)) h)
taken-down b out s L k who answer e (inr d) h =
    subst (λ (x : Establish). Stands b out s (L ++ meets_taken b.made k who x L)) (sym (e ∙ d.1))
    (three-then (λ M. Stands b out s M) L (refuses (Direct k)) (carries_out b.made (Direct k)) (ends b.made (Direct k)) h)

-- ---- an accepting machine that has asked

asked-is : (a : Made) (busy : Option LinkName) (L : Log) (name : LinkName) (machine : Machine) (m : Accepting) → machine ≡ Asked m → MachineStands a busy L name machine
    → MachineStands a busy L name (Asked m)
asked-is a busy L name machine m e h = subst (λ (x : Machine). MachineStands a busy L name x) e h

-- Its link was taken.
pub asked-taken : (b : Base) (out : List Action) (s : State) (L : Log) (name : LinkName) (m : Accepting) → is_name name ≡ true → (link_at s.links name).machine ≡ Asked m
    → Stands (busy_with name b) out s L → was_taken name L ≡ true
asked-taken b out s L name m n e h = (asked-is b.made (Some name) L name (link_at s.links name).machine m e (h.links name n).machine).0.taken

-- It closes or asks nothing by the word on who asked.
pub calm-joins : (a : Made) (name : LinkName) (L : Log) → was_taken name L ≡ true → is_calm (outcome a (L ++ accepting name Joined ∷ []) name) ≡ true
calm-joins a name L h = ap is_calm (outcome-accepting a L name Joined h) ∙ calm-joined (start a (L ++ accepting name Joined ∷ []) name) (accepting_events L name)

pub calm-refuses : (a : Made) (name : LinkName) (L : Log) → was_taken name L ≡ true → is_calm (outcome a (L ++ accepting name (Refused (DuplicateRefusal None)) ∷ []) name) ≡ true
calm-refuses a name L h =
    ap is_calm (outcome-accepting a L name (Refused (DuplicateRefusal None)) h)
    ∙ calm-duplicate (start a (L ++ accepting name (Refused (DuplicateRefusal None)) ∷ []) name) (accepting_events L name)

-- ---- a slot that waits for its peer

-- The machine hasn't asked.
abbrev pub HasNotAsked : Machine → Type 0
HasNotAsked machine = (machine ≡ Gone) ⊎ ((machine ≡ Over) ⊎ (((m : Initiating) × (machine ≡ Dialled m)) ⊎ ((m : Accepting) × (machine ≡ Taken m))))

pub not-asked : (machine : Machine) → HasNotAsked machine → has_asked machine ≡ false
not-asked machine (inl h) = ap has_asked h
not-asked machine (inr (inl h)) = ap has_asked h
not-asked machine (inr (inr (inl h))) = ap has_asked h.1
not-asked machine (inr (inr (inr h))) = ap has_asked h.1

-- Where the machine hasn't asked, the link was dialled, and no link is busy any more.
pub told-dialled : (b : Base) (out : List Action) (s : State) (L : Log) (name : LinkName) (who : Identity) (machine : Machine) → b.busy ≡ None → machine ≡ (link_at s.links name).machine
    → has_asked machine ≡ false
    → HasTold b out s L name (meets who) → (was_taken name L ≡ false) × Stands b out s L
told-dialled b out s L name who machine none e a told = by (was_taken name L) refl told.left
  where
    by : (t : Bool) → was_taken name L ≡ t → IsLeft (meets who) t (link_at s.links name).machine → (was_taken name L ≡ false) × Stands b out s L
    by true w l = absurd (false≢true (sym a ∙ ap has_asked e ∙ l))
    by false w l = (w, settles b out s L name none l told.stands)

pub met-taken : (b : Base) (out : List Action) (s : State) (L : Log) (k : ℕ) (who : Identity) → was_taken (Direct k) L ≡ true
    → Stands b out s (L ++ meets_taken b.made k who (establish b.made k who L) L) → Stands b out s (L ++ meets_slot b.made k who L)
met-taken b out s L k who t h =
    subst (λ (x : Bool). Stands b out s (L ++ if_so x (meets_taken b.made k who (establish b.made k who L)) (meets_dialled b.made k who (establish b.made k who L)) L)) (sym t) h

pub met-dialled : (b : Base) (out : List Action) (s : State) (L : Log) (k : ℕ) (who : Identity) → was_taken (Direct k) L ≡ false
    → Stands b out s (L ++ meets_dialled b.made k who (establish b.made k who L) L) → Stands b out s (L ++ meets_slot b.made k who L)
met-dialled b out s L k who t h =
    subst (λ (x : Bool). Stands b out s (L ++ if_so x (meets_taken b.made k who (establish b.made k who L)) (meets_dialled b.made k who (establish b.made k who L)) L)) (sym t) h

pub met-awaited : (b : Base) (out : List Action) (s : State) (L : Log) (k : ℕ) (who : Identity) → awaits_peer k L ≡ true → Stands b out s (L ++ meets_slot b.made k who L)
    → Stands b out s (L ++ meets_direct b.made k who L)
met-awaited b out s L k who t h = subst (λ (x : Bool). Stands b out s (L ++ if_so x (meets_slot b.made k who) (closes_link b.made (Direct k) wrong_peer) L)) (sym t) h

pub met-unawaited : (b : Base) (out : List Action) (s : State) (L : Log) (k : ℕ) (who : Identity) → awaits_peer k L ≡ false → Stands b out s (L ++ closes_link b.made (Direct k) wrong_peer L)
    → Stands b out s (L ++ meets_direct b.made k who L)
met-unawaited b out s L k who t h = subst (λ (x : Bool). Stands b out s (L ++ if_so x (meets_slot b.made k who) (closes_link b.made (Direct k) wrong_peer) L)) (sym t) h

-- ---- a hub

hub-not-asked : (a : Made) (busy : Option LinkName) (L : Log) (s : Side) (machine : Machine) → MachineStands a busy L (Hub s) machine → has_asked machine ≡ false
hub-not-asked a busy L s Gone h = refl
hub-not-asked a busy L s Over h = refl
hub-not-asked a busy L s (Dialled m) h = refl
hub-not-asked a busy L s (Taken m) h = refl
hub-not-asked a busy L s (Asked m) h = absurd (false≢true (sym h.0.slot))

-- The hub's link was dialled: no link is busy any more.
pub hub-told : (b : Base) (out : List Action) (s : State) (L : Log) (side : Side) (who : Identity) → b.busy ≡ None → HasTold b out s L (Hub side) (meets who) → Stands b out s L
hub-told b out s L side who none told =
    (told-dialled b out s L (Hub side) who (link_at s.links (Hub side)).machine none refl
    (hub-not-asked b.made (Some (Hub side)) L side (link_at s.links (Hub side)).machine (told.stands.links (Hub side) refl).machine) told).1

pub hub-met : (b : Base) (out : List Action) (s : State) (L : Log) (side : Side) (who : Identity) → is_under_way b.made side L ≡ true
    → Stands b out s (L ++ tells_connector b.made (Connected side) L) → Stands b out s (L ++ meets_peer b.made (Hub side) who L)
hub-met b out s L side who t h = subst (λ (x : Bool). Stands b out s (L ++ if_so x (tells_connector b.made (Connected side)) nothing L)) (sym t) h

pub hub-unmet : (b : Base) (out : List Action) (s : State) (L : Log) (side : Side) (who : Identity) → is_under_way b.made side L ≡ false → Stands b out s L
    → Stands b out s (L ++ meets_peer b.made (Hub side) who L)
hub-unmet b out s L side who t h = subst (λ (x : Bool). Stands b out s (L ++ if_so x (tells_connector b.made (Connected side)) nothing L)) (sym t) (nothing-more b out s L h)

-- ---- a link of either kind

pub met-as : (b : Base) (out out' : List Action) (s s' : State) (L : Log) (name other : LinkName) (who : Identity) → name ≡ other
    → (HasTold b out s L other (meets who) → Stands b out' s' (L ++ meets_peer b.made other who L))
    → HasTold b out s L name (meets who) → Stands b out' s' (L ++ meets_peer b.made name who L)
met-as b out out' s s' L name other who e goes = subst (λ (x : LinkName). HasTold b out s L x (meets who) → Stands b out' s' (L ++ meets_peer b.made x who L)) (sym e) goes
