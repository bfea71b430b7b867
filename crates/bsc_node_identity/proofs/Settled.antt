-- What holds of the log of a node between two events, whatever came: it stays so by each event that may come.
-- It serves clauses of functions of `laws`.
use Rattle.std.proofs.Common.{◌≡◌, inl, inr, ℕ, Bool, true, false, not, ◌&&◌, ◌||◌, List, [], ◌∷◌, ◌++◌, Option, Some, None, refl, ap, sym, ◌∙◌, subst}
use Rattle.std.specs.Prelude.{⊤, ◌==◌, IsTrue, fold, map}
use Rattle.std.specs.List.{list_any}
use Rattle.std.proofs.lemmas.Bool.{or_parts, eqb-true}
use Rattle.std.proofs.lemmas.List.{append_assoc}
use Rattle.bsc_octets.specs.declared.vmac.Vmac.{Vmac}
use Rattle.bsc_octets.specs.declared.identity.Identity.{Identity}
use Rattle.bsc_connector.specs.declared.side.Side.TheVariants.{Primary, Failover}
use Rattle.bsc_connector.specs.Back.{first_of, until}
use Rattle.bsc_connector.proofs.BackLemmas.{until-begun, until-other}
use Rattle.bsc_initiate.specs.declared.event.InitEvent.{InitEvent}
use Rattle.bsc_initiate.specs.declared.event.InitEvent.TheVariants.{Opened as MachineOpened, Message as InitMessage, Finish as InitFinish, Tick as InitTick}
use Rattle.bsc_direct.specs.Slots.{slots}
use Rattle.bsc_direct.proofs.OneMore.{both_ways}
use Rattle.bsc_node.specs.declared.link_name.LinkName.{LinkName}
use Rattle.bsc_node.specs.declared.link_name.LinkName.TheVariants.{Hub, Direct}
use Rattle.bsc_node.specs.declared.node_event.NodeEvent.{NodeEvent}
use Rattle.bsc_node.specs.declared.node_event.NodeEvent.TheVariants.{Opened, DialFailed, Random}
use Rattle.bsc_node.specs.declared.timed_event.TimedEvent.{TimedEvent}
use Rattle.bsc_node.specs.declared.action.Action.TheVariants.{Draw}
use Rattle.bsc_node.specs.Logs.{Made, Line, came, did, initiating, Log, renewal_in, own_vmac, now}
use Rattle.bsc_node.specs.Links.{names, begins, is_there, none_there, was_taken, initiating_events, accepts_by, is_in_slots}
use Rattle.bsc_node.specs.Ways.{established_peer}
use Rattle.bsc_node.specs.Events.{follows}
use Rattle.bsc_node.specs.Node.{goes_on, log}
use Rattle.bsc_node.specs.Conditions.{has_opened, is_draw, awaits_word, brings_word, fits, may_come, Watched, may_all_come}
use Rattle.bsc_node.specs.Laws.{with_event}
use Rattle.bsc_node.proofs.Told.{at_last-more}
use Rattle.bsc_node.proofs.Following.{goes_on-is}
use Rattle.bsc_node.proofs.Lasting.{Fine, fine-goes_on, fine-log, there_in_slots, event_fits, watch, was_fine}
use Rattle.bsc_node_laws.proofs.There.{there-before, opened-other}
use Rattle.bsc_node_identity.proofs.Each.{keeps}
use Rattle.bsc_node_identity.proofs.Reasons.{was_open, NoneAccepts, Why, WhyBegun}
use Rattle.bsc_node_identity.proofs.OneMore.{open-stays, opened-stays, established-same, own_vmac-same, initiating-same, initiating-begun}
use Rattle.bsc_node_identity.proofs.Followed.{each-why}
use Rattle.bsc_node_identity.proofs.Lines.{renewal_none, begun-why, begun-no_call, Stays, established-before, none-told, is_opening, OpensUnaccepted}
use Rattle.bsc_lemmas.proofs.Booleans.{and_right, not_true}
use Rattle.bsc_lemmas.proofs.Options.{some_none_any as some_none}
use Rattle.bsc_node.proofs.Common.{word_awaited}
use Rattle.bsc_node.proofs.There.{there-other}

-- A link that is there began with the VMAC that the node has.
abbrev pub VmacsStand : Made → Log → Type 0
VmacsStand a L = (name : LinkName) → is_there name L ≡ true → own_vmac a (until (begins name) L) ≡ own_vmac a L

-- The link of an established slot was taken or has opened.
abbrev pub SlotsAreOpen : Log → Type 0
SlotsAreOpen L = (k : ℕ) (who : Identity) → established_peer k L ≡ Some who → was_open (Direct k) L ≡ true

-- Over a link that hasn't opened no accept came.
abbrev pub UnopenedAreUnaccepted : Log → Type 0
UnopenedAreUnaccepted L = (name : LinkName) → has_opened name L ≡ false → NoneAccepts (initiating_events L name)

-- While a word is awaited no link is there.
abbrev pub WordsAreAlone : Log → Type 0
WordsAreAlone L = awaits_word L ≡ true → (name : LinkName) → is_there name L ≡ false

pub record Settled (a : Made) (L : Log) : Type 0 where
  pub fine : Fine L
  pub word : WordsAreAlone L
  pub vmac : VmacsStand a L
  pub opened : SlotsAreOpen L
  pub unaccepted : UnopenedAreUnaccepted L

-- ---- an event and what follows from it

-- What an event keeps, and each line that has its reason, the event and what follows from it keep.
pub kept : (a : Made) (L : Log) (e : TimedEvent) → IsTrue (may_come L e) → (I : Log → Type 0) → ((N : Log) (m : Line) → Why a L e N m → I N → I (N ++ m ∷ [])) → I (with_event L e)
    → I (L ++ goes_on a e L)
kept a L e may I keep i =
    subst I (sym (ap (λ (lines : List Line). L ++ lines) (goes_on-is a L e) ∙ sym (append_assoc L (came e ∷ []) (follows a e.event (with_event L e)))))
    (keeps (Why a L e) I keep (with_event L e) (follows a e.event (with_event L e)) (each-why a L e may) i)

pub fitting : (L : Log) (e : TimedEvent) → IsTrue (may_come L e) → (ev : NodeEvent) → e.event ≡ ev → fits L ev ≡ true
fitting L e may ev is = sym (ap (fits L) is) ∙ event_fits L e may

-- ---- the VMAC

pub keep-vmac : (a : Made) (L : Log) (e : TimedEvent) (N : Log) (m : Line) → Why a L e N m → VmacsStand a N → VmacsStand a (N ++ m ∷ [])
keep-vmac a L e N m why v name there = by (begins name m) refl
  where
    same : own_vmac a (N ++ m ∷ []) ≡ own_vmac a N
    same = own_vmac-same a N m (renewal_none a L e N m why)

    by : (b : Bool) → begins name m ≡ b → own_vmac a (until (begins name) (N ++ m ∷ [])) ≡ own_vmac a (N ++ m ∷ [])
    by true b = ap (own_vmac a) (until-begun (begins name) N m b) ∙ sym same
    by false b = ap (own_vmac a) (until-other (begins name) N m b) ∙ v name (there-before name N m b there) ∙ sym same

-- An event that brings no word leaves the node's VMAC as it was.
pub vmac-goes_on : (a : Made) (L : Log) (e : TimedEvent) → IsTrue (may_come L e) → renewal_in e.event ≡ None → own_vmac a (L ++ goes_on a e L) ≡ own_vmac a L
vmac-goes_on a L e may none = kept a L e may (λ (N : Log). own_vmac a N ≡ own_vmac a L) (λ N m why h. own_vmac-same a N m (renewal_none a L e N m why) ∙ h) (own_vmac-same a L (came e) none)

brings_by : (ev : NodeEvent) (v : Vmac) → renewal_in ev ≡ Some v → brings_word ev ≡ true
brings_by (Random w) v h = refl
brings_by ev v h = cc

-- A word comes where no link is there.
pub vmac-event : (a : Made) (L : Log) (e : TimedEvent) → IsTrue (may_come L e) → Settled a L → VmacsStand a (with_event L e)
vmac-event a L e may s name there = by (renewal_in e.event) refl
  where
    before : is_there name L ≡ true
    before = there-before name L (came e) refl there

    by : (o : Option Vmac) → renewal_in e.event ≡ o → own_vmac a (until (begins name) (with_event L e)) ≡ own_vmac a (with_event L e)
    by None is = ap (own_vmac a) (until-other (begins name) L (came e) refl) ∙ s.vmac name before ∙ sym (own_vmac-same a L (came e) is)
    by (Some v) is = both_ways (is_there name L) before (s.word (word_awaited L e may (brings_by e.event v is)) name)

-- ---- accepts

unaccepted_more : (a : Made) (L : Log) (e : TimedEvent) (N : Log) (m : Line) (name : LinkName) → Why a L e N m → begins name m ≡ false → has_opened name N ≡ false
    → has_opened name (N ++ m ∷ []) ≡ false → NoneAccepts (initiating_events N name)
    → NoneAccepts (initiating_events (N ++ m ∷ []) name)
unaccepted_more a L e N (initiating other call) name why b before after none id =
    none-told N other name call id (none id) (λ same. silent call (subst (λ (n : LinkName). Why a L e N (initiating n call)) same why)
    (subst (λ (n : LinkName). has_opened name (N ++ initiating n call ∷ []) ≡ false) same after))
  where
    silent : (c : InitEvent) → Why a L e N (initiating name c) → has_opened name (N ++ initiating name c ∷ []) ≡ false → accepts_by id c ≡ None
    silent (MachineOpened now i) w after = refl
    silent (InitMessage now v) w after = both_ways (was_open name N) w.2 (ap (λ (p : Bool). p || has_opened name N) w.1 ∙ before)
    silent (InitFinish now i) w after = refl
    silent (InitTick now i) w after = refl
unaccepted_more a L e N m name why b before after none id = ap (first_of (accepts_by id)) (initiating-same name N m b refl) ∙ none id

keep_unaccepted : (a : Made) (L : Log) (e : TimedEvent) (N : Log) (m : Line) → Why a L e N m → UnopenedAreUnaccepted N → UnopenedAreUnaccepted (N ++ m ∷ [])
keep_unaccepted a L e N m why u name after id = by (begins name m) refl
  where
    unopened : begins name m ≡ false → (d : Bool) → has_opened name N ≡ d → d ≡ false
    unopened b false h = refl
    unopened b true h = sym (opened-stays name N m b h) ∙ after

    by : (b : Bool) → begins name m ≡ b → first_of (accepts_by id) (initiating_events (N ++ m ∷ []) name) ≡ None
    by true b = ap (first_of (accepts_by id)) (initiating-begun name N m b)
    by false b = let before : has_opened name N ≡ false = unopened b (has_opened name N) refl in unaccepted_more a L e N m name why b before after (u name before) id

unaccepted_event : (L : Log) (e : TimedEvent) → UnopenedAreUnaccepted L → UnopenedAreUnaccepted (with_event L e)
unaccepted_event L e u name closed id = ap (first_of (accepts_by id)) (initiating-same name L (came e) refl refl) ∙ u name (sym (opened-other name L (came e) refl refl) ∙ closed) id

-- Where a machine is told that its link opened, none has accepted.
pub opens-unaccepted : (a : Made) (L : Log) (e : TimedEvent) → IsTrue (may_come L e) → UnopenedAreUnaccepted L → (N : Log) (m : Line) → Why a L e N m → OpensUnaccepted N m
opens-unaccepted a L e may u N (initiating name call) why = by call why
  where
    last_of_three : (p q r : Bool) → (p && not q && not r) ≡ true → r ≡ false
    last_of_three true false false h = refl
    last_of_three true false true h = cc
    last_of_three true true r h = cc
    last_of_three false q r h = cc

    by : (c : InitEvent) → Why a L e N (initiating name c) → is_opening c ≡ true → NoneAccepts (initiating_events N name)
    by (MachineOpened now id) w o =
        let closed : has_opened name L ≡ false = last_of_three (is_there name L) (was_taken name L) (has_opened name L) (fitting L e may (Opened name) w.0) in
        unaccepted_event' w.1 closed
      where
        unaccepted_event' : N ≡ with_event L e → has_opened name L ≡ false → NoneAccepts (initiating_events N name)
        unaccepted_event' is closed = subst (λ (M : Log). NoneAccepts (initiating_events M name)) (sym is) (unaccepted_event L e u name (opened-other name L (came e) refl refl ∙ closed))
    by c w o = cc
opens-unaccepted a L e may u N m why = tt

-- ---- slots

-- A slot whose link begins isn't established.
pub begun-alone : (L : Log) (e : TimedEvent) → IsTrue (may_come L e) → SlotsAreOpen L → (N : Log) (k : ℕ) → WhyBegun L e N k → established_peer k N ≡ None
begun-alone L e may s N k (beginning, inl none) = none
begun-alone L e may s N k (beginning, inr (failed, is)) =
    ap (established_peer k) is ∙ established-same k L (came e) refl ∙ by (established_peer k L) refl
  where
    neither : (p q r : Bool) → (p && not q && not r) ≡ true → (q || r) ≡ false
    neither true false false h = refl
    neither true false true h = cc
    neither true true r h = cc
    neither false q r h = cc

    by : (o : Option Identity) → established_peer k L ≡ o → o ≡ None
    by None h = refl
    by (Some who) h = both_ways (was_open (Direct k) L) (s k who h) (neither (is_there (Direct k) L) (was_taken (Direct k) L) (has_opened (Direct k) L)
        (fitting L e may (DialFailed (Direct k)) failed))

keep_open : (a : Made) (L : Log) (e : TimedEvent) → IsTrue (may_come L e) → SlotsAreOpen L → (N : Log) (m : Line) → Why a L e N m → SlotsAreOpen N → SlotsAreOpen (N ++ m ∷ [])
keep_open a L e may s N m why i k who h = by (begins (Direct k) m) refl
  where
    before : Stays a L e N k who → was_open (Direct k) N ≡ true
    before (inl was) = i k who was
    before (inr now) = now.1

    by : (b : Bool) → begins (Direct k) m ≡ b → was_open (Direct k) (N ++ m ∷ []) ≡ true
    by true b = some_none who (sym h ∙ established-same k N m (begun-no_call (Direct k) m b) ∙ begun-alone L e may s N k (begun-why a L e N m k b why))
    by false b = open-stays (Direct k) N m b (before (established-before a L e N m k who why h))

open_event : (L : Log) (e : TimedEvent) → SlotsAreOpen L → SlotsAreOpen (with_event L e)
open_event L e s k who h = open-stays (Direct k) L (came e) refl (s k who (sym (established-same k L (came e) refl) ∙ h))

-- ---- words

-- the names that there are
abbrev IsName : LinkName → Type 0
IsName (Hub s) = ⊤
IsName (Direct k) = is_in_slots k ≡ true

none_of : (N : Log) (k : ℕ) (ks : List ℕ) → list_any (λ name. is_there name N) (map (λ j. Direct j) ks) ≡ false → list_any (λ j. k == j) ks ≡ true → is_there (Direct k) N ≡ false
none_of N k [] h here = cc
none_of N k (j ∷ ks) h here = by (k == j) refl here (none_of N k ks parts.1)
  where
    parts : (is_there (Direct j) N ≡ false) × (list_any (λ name. is_there name N) (map (λ i. Direct i) ks) ≡ false)
    parts = or_parts (is_there (Direct j) N) (list_any (λ name. is_there name N) (map (λ i. Direct i) ks)) h

    by : (b : Bool) → (k == j) ≡ b → (b || list_any (λ i. k == i) ks) ≡ true → (list_any (λ i. k == i) ks ≡ true → is_there (Direct k) N ≡ false) → is_there (Direct k) N ≡ false
    by true is g later = ap (λ (i : ℕ). is_there (Direct i) N) (eqb-true k j is) ∙ parts.0
    by false is g later = later g

none_named : (N : Log) (name : LinkName) → none_there N ≡ true → IsName name → is_there name N ≡ false
none_named N name none is = by name is
  where
    all : list_any (λ n. is_there n N) names ≡ false
    all = not_true (list_any (λ n. is_there n N) names) none

    first : (is_there (Hub Primary) N ≡ false) × (list_any (λ n. is_there n N) (Hub Failover ∷ map (λ k. Direct k) slots) ≡ false)
    first = or_parts (is_there (Hub Primary) N) (list_any (λ n. is_there n N) (Hub Failover ∷ map (λ k. Direct k) slots)) all

    second : (is_there (Hub Failover) N ≡ false) × (list_any (λ n. is_there n N) (map (λ k. Direct k) slots) ≡ false)
    second = or_parts (is_there (Hub Failover) N) (list_any (λ n. is_there n N) (map (λ k. Direct k) slots)) first.1

    by : (n : LinkName) → IsName n → is_there n N ≡ false
    by (Hub Primary) i = first.0
    by (Hub Failover) i = second.0
    by (Direct k) i = none_of N k slots second.1 i

abbrev NamesAreAlone : Log → Type 0
NamesAreAlone N = awaits_word N ≡ true → (name : LinkName) → IsName name → is_there name N ≡ false

keep_word : (a : Made) (L : Log) (e : TimedEvent) (N : Log) (m : Line) → Why a L e N m → NamesAreAlone N → NamesAreAlone (N ++ m ∷ [])
keep_word a L e N (did Draw) why i h name is = there-other name N (did Draw) refl refl ∙ none_named N name why is
keep_word a L e N m why i h name is = let no : false ≡ true = sym (at_last-more (λ before x. is_draw x) false N m) ∙ h in cc

word_event : (L : Log) (e : TimedEvent) → NamesAreAlone (with_event L e)
word_event L e h name is = let no : false ≡ true = sym (at_last-more (λ before x. is_draw x) false L (came e)) ∙ h in cc

all_alone : (L : Log) → Fine L → NamesAreAlone L → WordsAreAlone L
all_alone L f n w (Hub s) = n w (Hub s) tt
all_alone L f n w (Direct k) = by (is_there (Direct k) L) refl
  where
    by : (b : Bool) → is_there (Direct k) L ≡ b → b ≡ false
    by false h = refl
    by true h = sym h ∙ n w (Direct k) (there_in_slots L k f h)

-- ---- every event

pub settled-at_first : (a : Made) → Settled a []
settled-at_first a = record {
  fine = fine-log a [] refl;
  word = λ w. cc;
  vmac = λ name there. cc;
  opened = λ k who h. cc;
  unaccepted = λ name closed id. refl;
}

-- A settled log stays so by an event that may come.
pub settled-goes_on : (a : Made) (L : Log) (e : TimedEvent) → Settled a L → IsTrue (may_come L e) → Settled a (L ++ goes_on a e L)
settled-goes_on a L e s may = record {
  fine = fine;
  word = all_alone (L ++ goes_on a e L) fine (kept a L e may NamesAreAlone (keep_word a L e) (word_event L e));
  vmac = kept a L e may (VmacsStand a) (keep-vmac a L e) (vmac-event a L e may s);
  opened = kept a L e may SlotsAreOpen (keep_open a L e may s.opened) (open_event L e s.opened);
  unaccepted = kept a L e may UnopenedAreUnaccepted (keep_unaccepted a L e) (unaccepted_event L e s.unaccepted);
}
  where
    fine : Fine (L ++ goes_on a e L)
    fine = fine-goes_on a L e s.fine may

-- ---- all events

lasts : (a : Made) (I : Log → Type 0) → ((L : Log) (e : TimedEvent) → I L → IsTrue (may_come L e) → I (L ++ goes_on a e L))
    → (events : List TimedEvent) (w : Watched) → I w.log → (fold (watch a) w events).fine ≡ true → I (fold (λ (L : Log) (e : TimedEvent). L ++ goes_on a e L) w.log events)
lasts a I keep [] w i h = i
lasts a I keep (e ∷ events) w i h = lasts a I keep events (watch a w e) (keep w.log e i (and_right w.fine (may_come w.log e) (was_fine a events (watch a w e) h))) h

-- What the first log has, and each event that may come keeps, every log has to which only such events came.
pub lasting : (a : Made) (I : Log → Type 0) → I [] → ((L : Log) (e : TimedEvent) → I L → IsTrue (may_come L e) → I (L ++ goes_on a e L)) → (events : List TimedEvent)
    → IsTrue (may_all_come a events) → I (log a events)
lasting a I first keep events h = lasts a I keep events (record { log = []; fine = true }) first h

pub settled-log : (a : Made) (events : List TimedEvent) → IsTrue (may_all_come a events) → Settled a (log a events)
settled-log a events h = lasting a (Settled a) (settled-at_first a) (settled-goes_on a) events h
