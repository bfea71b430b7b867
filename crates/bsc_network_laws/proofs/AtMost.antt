-- Where at most one action of an event passes a test: what holds up to that action, and what holds from then on.
-- It serves clauses of functions of `laws`.
use Rattle.std.proofs.Common.{◌≡◌, ◌<◌, ◌⊎◌, inl, inr, ℕ, Bool, true, false, cond, List, [], ◌∷◌, ◌++◌, Option, refl, ap, sym, subst, ◌∙◌}
use Rattle.std.specs.Prelude.{◌^◌, IsTrue, if◌then◌else◌, filter, filter_map, map}
use Rattle.std.specs.List.{list_any}
use Rattle.std.proofs.lemmas.List.Elements.{filter-append}
use Rattle.bsc_node.specs.declared.node_event.NodeEvent.{NodeEvent}
use Rattle.bsc_node.specs.declared.node_event.NodeEvent.TheVariants.{NoRandom}
use Rattle.bsc_node.specs.declared.timed_event.TimedEvent.{TimedEvent}
use Rattle.bsc_node.specs.declared.action.Action.{Action}
use Rattle.bsc_node.specs.Logs.{Made, Log, action_of, in_order as rules_in_order}
use Rattle.bsc_node.specs.Laws.{draws}
use Rattle.bsc_node.specs.Node.{goes_on, actions_at}
use Rattle.bsc_node.specs.Conditions.{fits, may_come, brings_word}
use Rattle.bsc_node_laws.proofs.Drawn.{draws_at}
use Rattle.bsc_node_identity.proofs.Timely.{Timely, may_then}
use Rattle.bsc_network.specs.declared.arrival.Arrival.{Arrival}
use Rattle.bsc_network.specs.Worlds.{World}
use Rattle.bsc_network.specs.Changes.{in_order}
use Rattle.bsc_network.specs.NodeEvents.{carries_out, brings_about}
use Rattle.bsc_network_laws.proofs.Acting.{Among, LetsActs, acts_one, acts_each}
use Rattle.bsc_network_laws.proofs.Beside.{Keeps}
use Rattle.bsc_network_laws.proofs.Events.{actions-one, actions-two}
use Rattle.bsc_network_laws.proofs.Sent.{among-filter}
use Rattle.bsc_node.proofs.Common.{no_word_then}
use Rattle.bsc_node.proofs.Moments.{now_then}

-- ---- actions

-- an action that doesn't pass
abbrev pub Fails : (Action → Bool) → Action → Type 0
Fails test action = test action ≡ false

fails_among : (test : Action → Bool) (actions : List Action) → filter test actions ≡ [] → (action : Action) → Among action actions → Fails test action
fails_among test actions none action among = by (test action) refl
  where
    by : (b : Bool) → test action ≡ b → Fails test action
    by false is = is
    by true is = absurd (subst (Among action) none (among-filter test action actions is among))

-- Where none passes, what each that doesn't pass keeps is kept.
pub acts-none : (k : ℕ) (by : Option Arrival) (test : Action → Bool) (R : World → World → Type 0) → LetsActs k by (Fails test) R → (actions : List Action) (w : World)
    → filter test actions ≡ [] → R w (in_order (map (carries_out k by) actions) w)
acts-none k by test R M actions w none = acts_each k by (Fails test) R M actions w (fails_among test actions none)

same_head : {A : Type 0} (x y : A) (xs ys : List A) → x ∷ xs ≡ y ∷ ys → x ≡ y
same_head x y xs ys h = cc

same_tail : {A : Type 0} (x y : A) (xs ys : List A) → x ∷ xs ≡ y ∷ ys → xs ≡ ys
same_tail x y xs ys h = cc

-- Where one passes, and leads from P to Q, which those that don't pass keep.
pub acts-once : (k : ℕ) (by : Option Arrival) (test : Action → Bool) (P Q : World → Type 0) → LetsActs k by (Fails test) (Keeps P) → LetsActs k by (Fails test) (Keeps Q) → (x : Action)
    → ((w : World) → P w → Q (carries_out k by x w))
    → (actions : List Action) (w : World) → filter test actions ≡ x ∷ [] → P w → Q (in_order (map (carries_out k by) actions) w)
acts-once k by test P Q MP MQ x leads [] w is p = cc
acts-once k by test P Q MP MQ x leads (action ∷ actions) w is p = at (λ later p. acts-once k by test P Q MP MQ x leads actions (carries_out k by action w) later p) (test action) refl is
  where
    at : (filter test actions ≡ x ∷ [] → P (carries_out k by action w) → Q (in_order (map (carries_out k by) actions) (carries_out k by action w))) → (b : Bool) → test action ≡ b
        → cond b (action ∷ filter test actions) (filter test actions) ≡ x ∷ [] → Q (in_order (map (carries_out k by) actions) (carries_out k by action w))
    at goes false fails later = goes later (acts_one k by (Fails test) (Keeps P) MP w action fails p)
    at goes true passes here =
        acts-none k by test (Keeps Q) MQ actions (carries_out k by action w) (same_tail action x (filter test actions) [] here)
        (subst (λ (y : Action). Q (carries_out k by y w)) (sym (same_head action x (filter test actions) [] here)) (leads w p))

-- ---- the actions of an event of a step

-- None of the actions passes, or one does, of which this holds.
abbrev pub AtMostOne : (Action → Bool) → (Action → Type 0) → List Action → Type 0
AtMostOne test Of actions = (filter test actions ≡ []) ⊎ ((x : Action) × (filter test actions ≡ x ∷ []) × Of x)

first_of : (test : Action → Bool) (Of : Action → Type 0) (xs ys : List Action) → AtMostOne test Of xs → filter test ys ≡ [] → AtMostOne test Of (xs ++ ys)
first_of test Of xs ys (inl none) more = inl (filter-append test xs ys ∙ ap (λ zs. zs ++ filter test ys) none ∙ more)
first_of test Of xs ys (inr (x, is, of)) more = inr (x, filter-append test xs ys ∙ ap (λ zs. zs ++ filter test ys) is ∙ ap (λ zs. x ∷ zs) more, of)

-- What holds of each event that may come, and of none that brings no word, holds of an event of a step with its answer.
pub at_most-one : (test : Action → Bool) (Of : Made → Log → TimedEvent → Action → Type 0) (T : ℕ) (a : Made) (L : Log) (e : NodeEvent) → T < 2 ^ 62 → Timely T L → brings_word e ≡ false
    → fits L e ≡ true
    → ((M : Log) (x : TimedEvent) → IsTrue (may_come M x) → AtMostOne test (Of a M x) (actions_at a M x))
    → ((M : Log) (x : TimedEvent) (action : Action) → x.event ≡ NoRandom → Of a M x action → ⊥)
    → AtMostOne test (Of a L (record { now = T; event = e })) (filter_map action_of (brings_about a (record { now = T; event = e }) L))
at_most-one test Of T a L e below timely word fit law never = by (list_any draws (actions_at a L event)) refl
  where
    event : TimedEvent
    event = record { now = T; event = e }

    none : TimedEvent
    none = record { now = T; event = NoRandom }

    may : IsTrue (may_come L event)
    may = may_then T L e below timely word fit

    nothing_then : (M : Log) → IsTrue (may_come M none) → filter test (actions_at a M none) ≡ []
    nothing_then M then_may = elim (law M none then_may) [ inl h ↦ h | inr h ↦ absurd (never M none h.0 refl h.2) ]

    by : (b : Bool) → list_any draws (actions_at a L event) ≡ b → AtMostOne test (Of a L event)
        (filter_map action_of (rules_in_order (map (goes_on a) (if b then event ∷ none ∷ [] else event ∷ [])) L))
    by false drawn = subst (AtMostOne test (Of a L event)) (sym (actions-one a event L)) (law L event may)
    by true drawn =
        let M = L ++ goes_on a event L in
        subst (AtMostOne test (Of a L event)) (sym (actions-two a event none L))
        (first_of test (Of a L event) (actions_at a L event) (actions_at a M none) (law L event may)
        (nothing_then M (no_word_then T M below (now_then a L event may) (draws_at a L event may ∙ drawn))))
