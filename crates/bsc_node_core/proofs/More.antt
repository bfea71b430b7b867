-- What a log says with one line more.
-- It serves clauses of most source files here.
use Rattle.std.proofs.Common.{◌≡◌, ℕ, ◌+◌, Bool, true, false, cond, ◌||◌, List, [], ◌∷◌, ◌++◌, Option, Some, None, unwrap_or, refl, ap, ◌∙◌, arith}
use Rattle.std.specs.Prelude.{◌%◌, filter_map, count_by}
use Rattle.std.specs.List.{list_any}
use Rattle.std.specs.Option.{option_or, option_map}
use Rattle.std.proofs.lemmas.List.Elements.{filter_map-append}
use Rattle.bsc_connector.specs.declared.side.Side.TheVariants.{Primary, Failover}
use Rattle.bsc_connector.specs.declared.event.HubEvent.{HubEvent}
use Rattle.bsc_connector.specs.Back.{newest_of, since}
use Rattle.bsc_connector.specs.Sides as Sides
use Rattle.bsc_connector.proofs.BackLemmas.{newest_of-more, since-more, count_by-more, list_any-more, until-other as until-kept}
use Rattle.bsc_node.specs.declared.link_name.LinkName.{LinkName}
use Rattle.bsc_node.specs.declared.link_name.LinkName.TheVariants.{Hub, Direct}
use Rattle.bsc_node.specs.declared.timed_event.TimedEvent.{TimedEvent}
use Rattle.bsc_node.specs.Logs.{Made, Line, Log, event_of, now, is_numbered, next_id, renewal_of, own, is_finish, is_finishing}
use Rattle.bsc_node.specs.Links.{beginning_of, begins, life, was_taken, start, initiating_event, accepting_event, initiating_events, accepting_events}
use Rattle.bsc_node.specs.Hubs.{hub_event_of, hub_events, is_dropped}
use Rattle.bsc_node.specs.Ways.{is_claim_of, tries}
use Rattle.bsc_node.specs.Meeting.{is_renewal, is_accept_of_hub, renewals, hub_message_of, refusing_side}
use Rattle.bsc_node.proofs.Told.{life-more}
use Rattle.bsc_lemmas.proofs.Lists.{filter_map_none as filter-kept}
use Rattle.bsc_node.proofs.Common.{hub_events-kept}

-- ---- looking back

newest-kept : {A B : Type 0} (f : A → Option B) (xs : List A) (x : A) → f x ≡ None → newest_of f (xs ++ x ∷ []) ≡ newest_of f xs
newest-kept f xs x h = newest_of-more f xs x ∙ ap (λ o. option_or o (newest_of f xs)) h

any-kept : {A : Type 0} (test : A → Bool) (xs : List A) (x : A) → test x ≡ false → list_any test (xs ++ x ∷ []) ≡ list_any test xs
any-kept test xs x h = list_any-more test xs x ∙ ap (λ b. list_any test xs || b) h ∙ or_none (list_any test xs)
  where
    or_none : (b : Bool) → (b || false) ≡ b
    or_none true = refl
    or_none false = refl

pub since-kept : {A : Type 0} (test : A → Bool) (xs : List A) (x : A) → test x ≡ false → since test (xs ++ x ∷ []) ≡ since test xs ++ x ∷ []
since-kept test xs x h = since-more test xs x ∙ ap (λ (b : Bool). cond b [] (since test xs ++ x ∷ [])) h

pub since-now : {A : Type 0} (test : A → Bool) (xs : List A) (x : A) → test x ≡ true → since test (xs ++ x ∷ []) ≡ []
since-now test xs x h = since-more test xs x ∙ ap (λ (b : Bool). cond b [] (since test xs ++ x ∷ [])) h

pub count-kept : {A : Type 0} (test : A → Bool) (xs : List A) (x : A) → test x ≡ false → count_by test (xs ++ x ∷ []) ≡ count_by test xs
count-kept test xs x h = count_by-more test xs x ∙ ap (λ (b : Bool). count_by test xs + cond b 1 0) h ∙ omega arith

pub count-one_more : {A : Type 0} (test : A → Bool) (xs : List A) (x : A) → test x ≡ true → count_by test (xs ++ x ∷ []) ≡ count_by test xs + 1
count-one_more test xs x h = count_by-more test xs x ∙ ap (λ (b : Bool). count_by test xs + cond b 1 0) h

pub filter-one_more : {A B : Type 0} (f : A → Option B) (xs : List A) (x : A) (y : B) → f x ≡ Some y → filter_map f (xs ++ x ∷ []) ≡ filter_map f xs ++ y ∷ []
filter-one_more f xs x y h = filter_map-append f xs (x ∷ []) ∙ ap (λ ys. filter_map f xs ++ ys) (rw h refl)

-- ---- the time, the node itself, its numbers

pub now-kept : (L : Log) (m : Line) → event_of m ≡ None → now (L ++ m ∷ []) ≡ now L
now-kept L m h = ap (λ o. unwrap_or (option_map (λ (e : TimedEvent). e.now) o) 0) (newest-kept event_of L m h)

pub own-kept : (a : Made) (L : Log) (m : Line) → renewal_of m ≡ None → own a (L ++ m ∷ []) ≡ own a L
own-kept a L m h = ap (λ o. record a.own { vmac = unwrap_or o a.own.vmac }) (newest-kept renewal_of L m h)

pub next-kept : (L : Log) (m : Line) → is_numbered m ≡ false → next_id (L ++ m ∷ []) ≡ next_id L
next-kept L m h = ap (λ n. (n + 1) % 65536) (count-kept is_numbered L m h)

pub finishing-kept : (L : Log) (m : Line) → is_finish m ≡ false → is_finishing (L ++ m ∷ []) ≡ is_finishing L
finishing-kept L m h = any-kept is_finish L m h

pub renewals-kept : (L : Log) (m : Line) → is_renewal m ≡ false → is_accept_of_hub m ≡ false → renewals (L ++ m ∷ []) ≡ renewals L
renewals-kept L m h g = ap (count_by is_renewal) (since-kept is_accept_of_hub L m g) ∙ count-kept is_renewal (since is_accept_of_hub L) m h

pub refusing-kept : (L : Log) (m : Line) → hub_message_of m ≡ None → refusing_side (L ++ m ∷ []) ≡ refusing_side L
refusing-kept L m h = newest-kept hub_message_of L m h

-- ---- the parts

pub dropped-kept : (L : Log) (m : Line) → begins (Hub Failover) m ≡ false → hub_event_of m ≡ None → is_dropped Failover (L ++ m ∷ []) ≡ is_dropped Failover L
dropped-kept L m h g = ap (λ ys. list_any (λ (e : HubEvent). Sides.connects Primary e.event) (hub_events ys)) (life-more L m (Hub Failover) h)
    ∙ ap (λ ys. list_any (λ (e : HubEvent). Sides.connects Primary e.event) ys) (hub_events-kept (life L (Hub Failover)) m g)

pub tries-kept : (k : ℕ) (L : Log) (m : Line) → begins (Direct k) m ≡ false → is_claim_of k m ≡ false → tries k (L ++ m ∷ []) ≡ tries k L
tries-kept k L m h g = ap (count_by (begins (Direct k))) (since-kept (is_claim_of k) L m g) ∙ count-kept (begins (Direct k)) (since (is_claim_of k) L) m h

-- ---- links

pub taken-kept : (name : LinkName) (L : Log) (m : Line) → beginning_of name m ≡ None → was_taken name (L ++ m ∷ []) ≡ was_taken name L
taken-kept name L m h = ap (λ o. unwrap_or o false) (newest-kept (beginning_of name) L m h)

pub start-kept : (a : Made) (L : Log) (m : Line) (name : LinkName) → begins name m ≡ false → start a (L ++ m ∷ []) name ≡ start a L name
start-kept a L m name h = ap (λ (M : Log). record { own = own a M; times = a.limits.times; at = now M }) (until-kept (begins name) L m h)

pub initiating-kept : (L : Log) (m : Line) (name : LinkName) → begins name m ≡ false → initiating_event name m ≡ None → initiating_events (L ++ m ∷ []) name ≡ initiating_events L name
initiating-kept L m name h g = ap (filter_map (initiating_event name)) (life-more L m name h) ∙ filter-kept (initiating_event name) (life L name) m g

pub accepting-kept : (L : Log) (m : Line) (name : LinkName) → begins name m ≡ false → accepting_event name m ≡ None → accepting_events (L ++ m ∷ []) name ≡ accepting_events L name
accepting-kept L m name h g = ap (filter_map (accepting_event name)) (life-more L m name h) ∙ filter-kept (accepting_event name) (life L name) m g
