-- A turn of a node, and what there is outside it, written out. The node counts what it is told, and does nothing else.
-- No clause needs it: worked examples.
use Rattle.std.proofs.Common.{◌≡◌, ℕ, suc, ◌<◌, ◌≤◌, ⊎_elim, Bool, true, false, List, [], ◌∷◌, Option, Some, None, refl, sym, ap, subst, ◌∙◌, arith, inl, lit<, lit≤}
use Rattle.std.specs.Prelude.{slice_index, ⊤}
use Rattle.bsc_connector.specs.declared.side.Side.TheVariants.{Primary, Failover}
use Rattle.bsc_edge.specs.declared.dialled.Dialled.{Dialled}
use Rattle.bsc_edge.specs.declared.kind.Kind.TheVariants.{Hub}
use Rattle.bsc_edge.specs.declared.said.Said.{Said}
use Rattle.bsc_node.specs.declared.action.Action.{Action}
use Rattle.bsc_node.specs.declared.action.Action.TheVariants.{Draw}
use Rattle.bsc_node.specs.declared.link_name.LinkName.{LinkName}
use Rattle.bsc_node.specs.declared.link_name.LinkName.TheVariants.{Hub as HubLink}
use Rattle.bsc_node.specs.declared.node_event.NodeEvent.{NodeEvent}
use Rattle.bsc_node.specs.declared.node_event.NodeEvent.TheVariants.{Start, Tick, Finish, Random, NoRandom}
use Rattle.bsc_node_run.specs.declared.due.Due.{Due}
use Rattle.bsc_node_run.specs.declared.link_set.LinkSet.{LinkSet}
use Rattle.bsc_node_run.specs.declared.turn_end.TurnEnd.{TurnEnd}
use Rattle.bsc_node_run.specs.declared.turn_start.TurnStart.{TurnStart}
use Rattle.bsc_node_run.specs.Drawing.{Draws, GivesNext, GoesDrawing, at_rest}
use Rattle.bsc_node_run.specs.Moments.{Moment, moment}
use Rattle.bsc_node_run.specs.Scripts.{Wish, wish_of}
use Rattle.bsc_node_run.specs.Turning.{Gives, HearsEach, IsNotDue, Turn, TurnsTo, names, passed_by}
use Rattle.bsc_node_run.specs.Worlds.{Admitting, Dialling, Same, World, admitting, dialling, world_of}
use Rattle.bsc_outside.specs.Faults.{HasRisen}
use Rattle.bsc_witnesses.proofs.Pieces.{unlike}

-- ---- one turn

-- Whatever it is told, it does nothing, and is one further.
abbrev counts : ℕ → ℕ → NodeEvent → List Action → ℕ → Type 0
counts n now e actions m = (actions ≡ []) × (m ≡ suc n)

-- It has no links, and none tells anything.
abbrev silent : ℕ → Option (List Said)
silent link = None

abbrev quiet : World ℕ
quiet = record {
  link = λ name. None;
  arrived = None;
  over = [];
  due = [];
  waiting = [];
  finished = false;
  dialled = record { calls = Some []; left = Some []; came = Some []; faults = 0 };
  held = Some [];
}

abbrev door : Admitting ℕ
door = record { left = Some []; came = Some []; waits = Some [] }

same : Same quiet quiet
same = record { link = λ name. refl; arrived = refl; over = refl; due = refl; waiting = refl; finished = refl; dialled = refl; held = refl }

-- what is due at once, and what is due a tenth of a second later
abbrev first : Due
first = record { at = 0; event = Finish; octets = refl }

abbrev later : Due
later = record { at = 100; event = Finish; octets = refl }

tells : (n : ℕ) (e : NodeEvent) → Gives counts silent 5 e n quiet (suc n) quiet
tells n e = ([], suc n, quiet, (refl, refl), same, (refl, same))

hears_none : (all : List LinkName) → HearsEach counts silent 5 all 3 quiet 3 quiet
hears_none [] = (refl, same)
hears_none (name ∷ all) = (3, quiet, (refl, same), hears_none all)

-- The node is told that it starts, that time has passed, and what is due.
turn : Turn counts silent 5 None (first ∷ later ∷ []) (later ∷ []) false (moment 0 quiet door) (moment 3 quiet door)
turn = record {
  news = [];
  lines = first ∷ [];
  world_begun = quiet;
  world_started = quiet;
  world_ticked = quiet;
  world_told = quiet;
  world_given = quiet;
  world_heard = quiet;
  node_started = 1;
  node_ticked = 2;
  node_told = 2;
  node_given = 3;
  node_heard = 3;
  begins = same;
  starts = tells 0 Start;
  ticks = tells 1 Tick;
  told = (refl, refl, same);
  parts = refl;
  due = (lit≤ tt, tt);
  next = lit< tt;
  given = (3, quiet, tells 2 Finish, (refl, same));
  heard = hears_none names;
  admits = (refl, same, refl);
}

turns : (from : TurnStart) (end : TurnEnd) → end.time ≡ 5 → from.start ≡ None → from.script.now ≡ first ∷ later ∷ [] → end.left.now ≡ later ∷ [] → from.listens ≡ false
    → TurnsTo counts silent from (moment 0 quiet door) (moment 3 quiet door) end
turns from end time start script left listens =
    subst (λ (t : ℕ). Turn counts silent t from.start from.script.now end.left.now from.listens (moment 0 quiet door) (moment 3 quiet door)) (sym time)
    (subst (λ (s : Option ℕ). Turn counts silent 5 s from.script.now end.left.now from.listens (moment 0 quiet door) (moment 3 quiet door)) (sym start)
    (subst (λ (l : List Due). Turn counts silent 5 None l end.left.now from.listens (moment 0 quiet door) (moment 3 quiet door)) (sym script)
    (subst (λ (l : List Due). Turn counts silent 5 None (first ∷ later ∷ []) l from.listens (moment 0 quiet door) (moment 3 quiet door)) (sym left)
    (subst (λ (b : Bool). Turn counts silent 5 None (first ∷ later ∷ []) (later ∷ []) b (moment 0 quiet door) (moment 3 quiet door)) (sym listens) turn))))

-- What is due isn't left.
not_left : (from : TurnStart) (end : TurnEnd) (more : List Due) (before after : Moment ℕ ℕ) → end.left.now ≡ first ∷ more → TurnsTo counts silent from before after end → ⊥
not_left from end more before after left x =
    let early : passed_by from.start end.time < 0 = subst (IsNotDue (passed_by from.start end.time)) left x.next in
    omega (arith, early)

-- ---- random words

-- words that are handed out in order
abbrev in_order : List ℕ → Option ℕ → List ℕ → Type 0
in_order words word left = GivesNext false words word left

abbrev no_faults : List ℕ → ℕ
no_faults words = 0

draws : Draws in_order no_faults (Random 7) (7 ∷ 8 ∷ []) (8 ∷ [])
draws = refl

draws_another : Draws in_order no_faults (Random 9) (7 ∷ []) [] → ⊥
draws_another h = unlike 7 9 refl (ap (λ (l : List ℕ). slice_index l 0) h)

draws_at_a_tick : Draws in_order no_faults Tick (7 ∷ []) [] → ⊥
draws_at_a_tick h = h

-- A call that fails is counted.
abbrev any : ℕ → Option ℕ → ℕ → Type 0
any before word after = ⊤

abbrev counted : ℕ → ℕ
counted faults = faults

draws_none : Draws any counted NoRandom 3 4
draws_none = (tt, inl (lit< tt))

draws_none_without_a_fault : Draws any counted NoRandom 3 3 → ⊥
draws_none_without_a_fault h = rests h.1
  where
    rests : HasRisen 3 3 → ⊥
    rests r = ⊎_elim (λ (risen : 3 < 3). omega (arith, risen)) (λ (last : 18446744073709551615 ≤ 3). omega (arith, last)) r

-- A node that waits for a word is told it next.
abbrev steps : ℕ → ℕ → NodeEvent → List Action → ℕ → Type 0
steps n now e actions m = m ≡ suc n

waits : GoesDrawing steps (Draws in_order no_faults) (at_rest 0 (7 ∷ [])) 5 Start (Draw ∷ []) (record { node = 1; words = 7 ∷ []; awaits = true })
waits = (refl, refl, refl)

has_drawn : GoesDrawing steps (Draws in_order no_faults) (record { node = 1; words = 7 ∷ []; awaits = true }) 5 (Random 7) [] (at_rest 2 [])
has_drawn = (refl, refl, refl)

waits_for_nothing : GoesDrawing steps (Draws in_order no_faults) (at_rest 0 (7 ∷ [])) 5 Start [] (record { node = 1; words = 7 ∷ []; awaits = true }) → ⊥
waits_for_nothing h = (let bad : true ≡ false = h.2 in cc)

forgets_the_word : GoesDrawing steps (Draws in_order no_faults) (record { node = 1; words = 7 ∷ []; awaits = true }) 5 Tick [] (at_rest 2 []) → ⊥
forgets_the_word h = h.1

rests_so : (at_rest {N = ℕ} {W = List ℕ} 0 (7 ∷ [])).awaits ≡ true → ⊥
rests_so h = (let bad : false ≡ true = h in cc)

-- ---- what there is outside, as objects tell it

abbrev call : Dialled
call = record { uri = 119 ∷ []; kind = Hub; came = true }

dialled : dialling {D = ℕ} {L = ℕ} (λ d. Some (call ∷ [])) (λ d. None) (λ d. Some (7 ∷ [])) (λ d. d) 3 ≡ record { calls = Some (call ∷ []); left = None; came = Some (7 ∷ []); faults = 3 }
dialled = refl

not_dialled : (dialling {D = ℕ} {L = ℕ} (λ d. Some []) (λ d. None) (λ d. Some []) (λ d. d) 3).faults ≡ 4 → ⊥
not_dialled h = unlike 3 4 refl h

admits : admitting {A = ℕ} {L = ℕ} (λ a. Some (a ∷ [])) (λ a. None) (λ a. Some (0 ∷ [])) 7 ≡ record { left = Some (7 ∷ []); came = None; waits = Some (0 ∷ []) }
admits = refl

admits_another : (admitting {A = ℕ} {L = ℕ} (λ a. Some (a ∷ [])) (λ a. None) (λ a. None) 7).left ≡ Some (8 ∷ []) → ⊥
admits_another h = (let bad : ◌≡◌ {A = Option (List ℕ)} (Some (7 ∷ [])) (Some (8 ∷ [])) = h in cc)

wishes : wish_of later ≡ record { at = 100; event = Finish }
wishes = refl

wishes_at_once : wish_of later ≡ record { at = 0; event = Finish } → ⊥
wishes_at_once h = unlike 100 0 refl (ap (λ (w : Wish). w.at) h)

-- What a run has in its hands: the link of the primary hub.
in_hands : (s : LinkSet ℕ) (d : Dialling ℕ) (held : Option (List ℕ)) → s.primary ≡ Some 7 → (world_of s d held).link (HubLink Primary) ≡ Some 7
in_hands s d held seven = seven

not_in_hands : (s : LinkSet ℕ) (d : Dialling ℕ) (held : Option (List ℕ)) → s.failover ≡ None → (world_of s d held).link (HubLink Failover) ≡ Some 7 → ⊥
not_in_hands s d held none seven = (let bad : ◌≡◌ {A = Option ℕ} None (Some 7) = sym none ∙ seven in cc)
