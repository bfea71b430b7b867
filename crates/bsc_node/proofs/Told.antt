-- What a link's machine was told, and its newest step, once it is told something more.
-- It serves clauses of functions of `laws`.
use Rattle.std.proofs.Common.{◌≡◌, Bool, true, false, cond, List, [], ◌∷◌, ◌++◌, refl, ap, ◌∙◌}
use Rattle.std.specs.Prelude.{filter_map, unwrap_or}
use Rattle.std.proofs.lemmas.List.{reverse-append, reverse-reverse}
use Rattle.std.proofs.lemmas.List.Elements.{filter_map-append}
use Rattle.bsc_connector.specs.declared.side.Side.TheVariants.{Primary, Failover}
use Rattle.bsc_connector.specs.Back.{at_last, at_last_of}
use Rattle.bsc_connector.proofs.BackLemmas.{newest_of-more, since-more}
use Rattle.bsc_accept.specs.declared.event.Event.{Event}
use Rattle.bsc_accept.specs.Past as Accepting
use Rattle.bsc_accept.specs.Steps as AcceptingSteps
use Rattle.bsc_initiate.specs.declared.event.InitEvent.{InitEvent}
use Rattle.bsc_initiate.specs.Steps as InitiatingSteps
use Rattle.bsc_node.specs.declared.link_name.LinkName.{LinkName}
use Rattle.bsc_node.specs.declared.link_name.LinkName.TheVariants.{Hub, Direct}
use Rattle.bsc_node.specs.Logs.{Made, Line, initiating, accepting, Log}
use Rattle.bsc_node.specs.Links.{same_link, beginning_of, begins, life, was_taken, start, initiating_event, accepting_event, initiating_events, accepting_events, Outcome}
use Rattle.bsc_node.specs.Links.{keeps_still, initiating_outcome, accepting_outcome, outcome_by, outcome}
use Rattle.bsc_lemmas.proofs.Booleans.{eq_self as same_number}

pub at_last-more : {A B : Type 0} (f : List A → A → B) (d : B) (xs : List A) (x : A) → at_last f d (xs ++ x ∷ []) ≡ f xs x
at_last-more f d xs x = ap (λ ys. at_last_of f d ys) (reverse-append xs (x ∷ [])) ∙ ap (λ ys. f ys x) (reverse-reverse xs)

pub same_link-self : (name : LinkName) → same_link name name ≡ true
same_link-self (Hub Primary) = refl
same_link-self (Hub Failover) = refl
same_link-self (Direct k) = same_number k

pub life-more : (L : Log) (m : Line) (name : LinkName) → begins name m ≡ false → life (L ++ m ∷ []) name ≡ life L name ++ m ∷ []
life-more L m name h = since-more (begins name) L m ∙ ap (λ (b : Bool). cond b [] (life L name ++ m ∷ [])) h

pub initiating_events-more : (L : Log) (name : LinkName) (e : InitEvent) → initiating_events (L ++ initiating name e ∷ []) name ≡ initiating_events L name ++ e ∷ []
initiating_events-more L name e =
    ap (filter_map (initiating_event name)) (life-more L (initiating name e) name refl)
    ∙ filter_map-append (initiating_event name) (life L name) (initiating name e ∷ [])
    ∙ rw (same_link-self name) refl

pub accepting_events-more : (L : Log) (name : LinkName) (e : Event) → accepting_events (L ++ accepting name e ∷ []) name ≡ accepting_events L name ++ e ∷ []
accepting_events-more L name e =
    ap (filter_map (accepting_event name)) (life-more L (accepting name e) name refl)
    ∙ filter_map-append (accepting_event name) (life L name) (accepting name e ∷ [])
    ∙ rw (same_link-self name) refl

pub was_taken-initiating : (L : Log) (name other : LinkName) (e : InitEvent) → was_taken name (L ++ initiating other e ∷ []) ≡ was_taken name L
was_taken-initiating L name other e = ap (λ o. unwrap_or o false) (newest_of-more (beginning_of name) L (initiating other e))

pub was_taken-accepting : (L : Log) (name other : LinkName) (e : Event) → was_taken name (L ++ accepting other e ∷ []) ≡ was_taken name L
was_taken-accepting L name other e = ap (λ o. unwrap_or o false) (newest_of-more (beginning_of name) L (accepting other e))

-- what an event came to, by the machine of the link in this log
abbrev stepping : Made → Log → LinkName → List InitEvent → InitEvent → Outcome
stepping a M name E e = initiating_outcome e (InitiatingSteps.step (start a M name) E e)

abbrev stepping_taken : Made → Log → LinkName → List Event → Event → Outcome
stepping_taken a M name E e = accepting_outcome (Accepting.standing E) e (AcceptingSteps.step (start a M name) E e)

-- The newest step of the machine of a link that was dialled is that at what it was told last.
pub outcome-initiating : (a : Made) (L : Log) (name : LinkName) (e : InitEvent) → was_taken name L ≡ false
    → outcome a (L ++ initiating name e ∷ []) name ≡ initiating_outcome e (InitiatingSteps.step (start a (L ++ initiating name e ∷ []) name) (initiating_events L name) e)
outcome-initiating a L name e h =
    ap (λ (b : Bool). outcome_by b a (L ++ initiating name e ∷ []) name) (was_taken-initiating L name name e ∙ h)
    ∙ ap (at_last (stepping a (L ++ initiating name e ∷ []) name) keeps_still) (initiating_events-more L name e)
    ∙ at_last-more (stepping a (L ++ initiating name e ∷ []) name) keeps_still (initiating_events L name) e

pub outcome-accepting : (a : Made) (L : Log) (name : LinkName) (e : Event) → was_taken name L ≡ true
    → outcome a (L ++ accepting name e ∷ []) name
    ≡ accepting_outcome (Accepting.standing (accepting_events L name)) e (AcceptingSteps.step (start a (L ++ accepting name e ∷ []) name) (accepting_events L name) e)
outcome-accepting a L name e h =
    ap (λ (b : Bool). outcome_by b a (L ++ accepting name e ∷ []) name) (was_taken-accepting L name name e ∙ h)
    ∙ ap (at_last (stepping_taken a (L ++ accepting name e ∷ []) name) keeps_still) (accepting_events-more L name e)
    ∙ at_last-more (stepping_taken a (L ++ accepting name e ∷ []) name) keeps_still (accepting_events L name) e
