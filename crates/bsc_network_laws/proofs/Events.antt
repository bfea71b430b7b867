-- The log of a node over an event of a step: the event, and then, where a word was drawn, that there is none. What each of the two
-- keeps they keep together, and what holds of the actions of each holds of all.
-- It serves clauses of functions of `laws`.
use Rattle.std.proofs.Common.{◌≡◌, ◌<◌, ◌⊎◌, inl, inr, ℕ, Bool, true, false, List, [], ◌∷◌, ◌++◌, None, refl, ap, sym, subst, ◌∙◌, append_assoc}
use Rattle.std.specs.Prelude.{◌^◌, IsTrue, if◌then◌else◌, filter_map, map}
use Rattle.std.specs.List.{list_any}
use Rattle.std.proofs.lemmas.List.Elements.{filter_map-append}
use Rattle.bsc_node.specs.declared.node_event.NodeEvent.{NodeEvent}
use Rattle.bsc_node.specs.declared.node_event.NodeEvent.TheVariants.{Random, NoRandom}
use Rattle.bsc_node.specs.declared.timed_event.TimedEvent.{TimedEvent}
use Rattle.bsc_node.specs.declared.action.Action.{Action}
use Rattle.bsc_node.specs.Logs.{Made, Log, action_of, in_order, renewal_in}
use Rattle.bsc_node.specs.Laws.{draws}
use Rattle.bsc_node.specs.Node.{goes_on, actions_at}
use Rattle.bsc_node.specs.Conditions.{fits, may_come, brings_word}
use Rattle.bsc_node_laws.proofs.Drawn.{draws_at}
use Rattle.bsc_node_identity.proofs.Timely.{Timely, may_then}
use Rattle.bsc_network.specs.NodeEvents.{brings_about}
use Rattle.bsc_network_laws.proofs.Acting.{Among}
use Rattle.bsc_node.proofs.Common.{no_word_then}
use Rattle.bsc_node.proofs.Following.{brought-one, brought-two}
use Rattle.bsc_node.proofs.Moments.{now_then}

-- An event that may come then at this time, and brings no word: this one, or that there is no word.
pub record IsOf (T : ℕ) (e : NodeEvent) (L : Log) (x : TimedEvent) : Type 0 where
  pub now : x.now ≡ T
  pub same : (x.event ≡ e) ⊎ (x.event ≡ NoRandom)
  pub wordless : renewal_in x.event ≡ None
  pub may : IsTrue (may_come L x)

no_renewal : (e : NodeEvent) → brings_word e ≡ false → renewal_in e ≡ None
no_renewal (Random w) h = cc
no_renewal e h = refl

-- ---- the log

pub by-events : (P : Log → Type 0) (T : ℕ) (a : Made) (L : Log) (e : NodeEvent) → T < 2 ^ 62 → Timely T L → brings_word e ≡ false → fits L e ≡ true
    → ((M : Log) (x : TimedEvent) → IsOf T e M x → P M → P (M ++ goes_on a x M)) → P L → P (L ++ brings_about a (record { now = T; event = e }) L)
by-events P T a L e below timely word fit keeps before = by (list_any draws (actions_at a L event)) refl
  where
    event : TimedEvent
    event = record { now = T; event = e }

    none : TimedEvent
    none = record { now = T; event = NoRandom }

    may : IsTrue (may_come L event)
    may = may_then T L e below timely word fit

    by : (b : Bool) → list_any draws (actions_at a L event) ≡ b → P (L ++ in_order (map (goes_on a) (if b then event ∷ none ∷ [] else event ∷ [])) L)
    by false drawn = subst (λ lines. P (L ++ lines)) (sym (brought-one a event L)) (keeps L event (record { now = refl; same = inl refl; wordless = no_renewal e word; may = may }) before)
    by true drawn =
        let M = L ++ goes_on a event L in
        let next = no_word_then T M below (now_then a L event may) (draws_at a L event may ∙ drawn) in
        subst (λ lines. P (L ++ lines)) (sym (brought-two a event none L))
        (subst P (append_assoc L (goes_on a event L) (goes_on a none M))
        (keeps M none (record { now = refl; same = inr refl; wordless = refl; may = next }) (keeps L event (record { now = refl; same = inl refl; wordless = no_renewal e word; may = may }) before)))

-- ---- the actions

pub among-both : {A : Type 0} (x : A) (xs ys : List A) → Among x (xs ++ ys) → Among x xs ⊎ Among x ys
among-both x [] ys h = inr h
among-both x (y ∷ xs) ys (inl same) = inl (inl same)
among-both x (y ∷ xs) ys (inr later) = next (among-both x xs ys later)
  where
    next : Among x xs ⊎ Among x ys → Among x (y ∷ xs) ⊎ Among x ys
    next (inl g) = inl (inr g)
    next (inr g) = inr g

pub actions-one : (a : Made) (e : TimedEvent) (L : Log) → filter_map action_of (in_order (goes_on a e ∷ []) L) ≡ actions_at a L e
actions-one a e L = ap (filter_map action_of) (brought-one a e L)

pub actions-two : (a : Made) (e r : TimedEvent) (L : Log) → filter_map action_of (in_order (goes_on a e ∷ goes_on a r ∷ []) L) ≡ actions_at a L e ++ actions_at a (L ++ goes_on a e L) r
actions-two a e r L =
    ap (filter_map action_of) (brought-two a e r L)
    ∙ filter_map-append action_of (goes_on a e L) (goes_on a r (L ++ goes_on a e L))

pub by-actions : (P : Log → Type 0) (Q : Action → Type 0) (T : ℕ) (a : Made) (L : Log) (e : NodeEvent) → T < 2 ^ 62 → Timely T L → brings_word e ≡ false → fits L e ≡ true
    → ((M : Log) (x : TimedEvent) → IsOf T e M x → P M → P (M ++ goes_on a x M)) → ((M : Log) (x : TimedEvent) → IsOf T e M x → P M → (action : Action) → Among action (actions_at a M x) → Q action)
    → P L → (action : Action) → Among action (filter_map action_of (brings_about a (record { now = T; event = e }) L)) → Q action
by-actions P Q T a L e below timely word fit keeps gives before action among = by (list_any draws (actions_at a L event)) refl among
  where
    event : TimedEvent
    event = record { now = T; event = e }

    none : TimedEvent
    none = record { now = T; event = NoRandom }

    may : IsTrue (may_come L event)
    may = may_then T L e below timely word fit

    first : IsOf T e L event
    first = record { now = refl; same = inl refl; wordless = no_renewal e word; may = may }

    either_of : IsOf T e (L ++ goes_on a event L) none → Among action (actions_at a L event) ⊎ Among action (actions_at a (L ++ goes_on a event L) none) → Q action
    either_of next (inl h) = gives L event first before action h
    either_of next (inr h) = gives (L ++ goes_on a event L) none next (keeps L event first before) action h

    by : (b : Bool) → list_any draws (actions_at a L event) ≡ b → Among action (filter_map action_of (in_order (map (goes_on a) (if b then event ∷ none ∷ [] else event ∷ [])) L)) → Q action
    by false drawn h = gives L event first before action (subst (Among action) (actions-one a event L) h)
    by true drawn h =
        either_of (record { now = refl; same = inr refl; wordless = refl; may = no_word_then T (L ++ goes_on a event L) below (now_then a L event may) (draws_at a L event may ∙ drawn) })
        (among-both action (actions_at a L event) (actions_at a (L ++ goes_on a event L) none) (subst (Among action) (actions-two a event none L) h))
