-- How many hubs lines dial, and how the failover is put aside: rules that dial so many hubs at most.
-- It serves the clauses of `failures_are_all_heard`.
use Rattle.std.proofs.Common.{◌≡◌, ◌≤◌, ℕ, ◌+◌, Bool, true, false, cond, not, ◌&&◌, ◌||◌, List, [], ◌∷◌, ◌++◌, length, Option, Some, None, refl, ap, sym, subst, ◌∙◌, append_assoc, append-nil, arith}
use Rattle.std.specs.Prelude.{⊤, filter_map, map, is_none, unwrap_or}
use Rattle.std.specs.List.{list_all, list_any}
use Rattle.std.proofs.lemmas.List.{length-append}
use Rattle.std.proofs.lemmas.List.Elements.{filter_map-append}
use Rattle.std.proofs.lemmas.List.Folds.{list_all-append}
use Rattle.bsc_connector.specs.declared.side.Side.{Side}
use Rattle.bsc_connector.specs.declared.side.Side.TheVariants.{Primary, Failover}
use Rattle.bsc_connector.specs.declared.event.ConnectorEvent.{ConnectorEvent}
use Rattle.bsc_connector.specs.declared.event.ConnectorEvent.TheVariants.{Start, Connected, Failed, Lost, Tick}
use Rattle.bsc_connector.specs.declared.event.HubEvent.{HubEvent}
use Rattle.bsc_connector.specs.declared.waits.Waits.{Waits}
use Rattle.bsc_connector.specs.Sides.{is_tried, is_up, due, fails, trouble}
use Rattle.bsc_connector.specs.Steps.{has_come, dials_primary, dials_failover, connector_step}
use Rattle.bsc_connector.specs.Back.{at_last}
use Rattle.bsc_connector.specs.declared.step.ConnectorStep.{ConnectorStep}
use Rattle.bsc_connector.proofs.SideLemmas.{tried-failover}
use Rattle.bsc_accept.specs.Steps.{normal}
use Rattle.bsc_node.specs.declared.link_name.LinkName.TheVariants.{Hub}
use Rattle.bsc_node.specs.declared.action.Action.TheVariants.{Dial, Close}
use Rattle.bsc_node.specs.Logs.{Made, Line, connector, did, Log, Rule, nothing, in_order, if_so, either, when, where_found, with_some, does, now, is_finishing, action_of}
use Rattle.bsc_node.specs.Links.{is_there}
use Rattle.bsc_node.specs.Hubs.{waits, hub_event_of, hub_events, newest_step, no_step, told}
use Rattle.bsc_node.specs.Meeting.{is_hub}
use Rattle.bsc_node.specs.Ending.{dials_primary as dials_primary_hub, dials_failover as dials_failover_hub, tells_use, drops_failover, tells_connector}
use Rattle.bsc_node.proofs.Order.{in_order-brought, in_order-cons}
use Rattle.bsc_node.proofs.Told.{at_last-more}
use Rattle.bsc_node.proofs.Common.{hub_events-kept}
use Rattle.bsc_network_laws.proofs.Undialled.{is_plain, Plain, dial_in, dialled_in, plain-dials, plain-tells, plain-tells_use, plain-drops_failover}
use Rattle.std.proofs.lemmas.Bool.{and_from as both}

-- ---- what is spent

abbrev pub of_not : Bool → ℕ
of_not b = cond b 0 1

-- 1 where the failover isn't tried, so that the primary hub's end may dial it; else 0
abbrev pub spare_of : Waits → List HubEvent → ℕ
spare_of w E = of_not (is_tried w Failover E)

abbrev pub spare : Made → Log → ℕ
spare a L = spare_of (waits a) (hub_events L)

-- Behind the log L these lines dial hubs alone: n at most, and one more for the failover, where it wasn't tried and is then.
pub record Spent (a : Made) (n : ℕ) (L : Log) (lines : List Line) : Type 0 where
  pub hubs : list_all is_hub (dialled_in lines) ≡ true
  pub within : length (dialled_in lines) + spare a (L ++ lines) ≤ n + spare a L

-- So a rule does, whatever the log.
abbrev pub Spends : Made → ℕ → Rule → Type 0
Spends a n rule = (L : Log) → Spent a n L (rule L)

dialled-append : (xs ys : List Line) → dialled_in (xs ++ ys) ≡ dialled_in xs ++ dialled_in ys
dialled-append xs ys = ap (filter_map dial_in) (filter_map-append action_of xs ys) ∙ filter_map-append dial_in (filter_map action_of xs) (filter_map action_of ys)

hub_events-append : (L : Log) (lines : List Line) → hub_events (L ++ lines) ≡ hub_events L ++ hub_events lines
hub_events-append L lines = filter_map-append hub_event_of L lines

-- lines that tell the connector nothing leave the failover as it was
pub same_spare : (a : Made) (L : Log) (lines : List Line) → hub_events lines ≡ [] → spare a (L ++ lines) ≡ spare a L
same_spare a L lines h = ap (spare_of (waits a)) (hub_events-append L lines ∙ ap (λ (E : List HubEvent). hub_events L ++ E) h ∙ append-nil (hub_events L))

pub spent-plain : (a : Made) (L : Log) (lines : List Line) → list_all is_plain lines ≡ true → Spent a 0 L lines
spent-plain a L lines h = record {
  hubs = ap (list_all is_hub) (plain-dials lines h);
  within = let none = ap length (plain-dials lines h) in let same = same_spare a L lines (plain-tells lines h) in omega (arith, none, same);
}

pub spent-none : (a : Made) (L : Log) → Spent a 0 L []
spent-none a L = spent-plain a L [] refl

pub spent-more : (a : Made) (n m : ℕ) (L : Log) (lines : List Line) → n ≤ m → Spent a n L lines → Spent a m L lines
spent-more a n m L lines h s = record { hubs = s.hubs; within = let within = s.within in omega (arith, h, within) }

pub spent-then : (a : Made) (n m : ℕ) (L : Log) (xs ys : List Line) → Spent a n L xs → Spent a m (L ++ xs) ys → Spent a (n + m) L (xs ++ ys)
spent-then a n m L xs ys s t = record {
  hubs = ap (list_all is_hub) (dialled-append xs ys) ∙ list_all-append is_hub (dialled_in xs) (dialled_in ys)
      ∙ both (list_all is_hub (dialled_in xs)) (list_all is_hub (dialled_in ys)) s.hubs t.hubs;
  within =
      let sum = ap length (dialled-append xs ys) ∙ length-append (dialled_in xs) (dialled_in ys) in
      let same = ap (spare a) (append_assoc L xs ys) in
      let first = s.within in
      let second = t.within in
      omega (arith, sum, same, first, second);
}

-- ---- rules

pub spends-plain : (a : Made) (rule : Rule) → Plain rule → Spends a 0 rule
spends-plain a rule p L = spent-plain a L (rule L) (p L)

pub spends-more : (a : Made) (n m : ℕ) (rule : Rule) → n ≤ m → Spends a n rule → Spends a m rule
spends-more a n m rule h s L = spent-more a n m L (rule L) h (s L)

pub spends-end : (a : Made) → Spends a 0 (in_order [])
spends-end a L = subst (Spent a 0 L) (sym (in_order-brought [] L)) (spent-none a L)

pub spent-cons : (a : Made) (n m : ℕ) (rule : Rule) (rules : List Rule) (L : Log) → Spent a n L (rule L) → Spent a m (L ++ rule L) (in_order rules (L ++ rule L))
    → Spent a (n + m) L (in_order (rule ∷ rules) L)
spent-cons a n m rule rules L s t = subst (Spent a (n + m) L) (sym (in_order-cons rule rules L)) (spent-then a n m L (rule L) (in_order rules (L ++ rule L)) s t)

pub spends-cons : (a : Made) (n m : ℕ) (rule : Rule) (rules : List Rule) → Spends a n rule → Spends a m (in_order rules) → Spends a (n + m) (in_order (rule ∷ rules))
spends-cons a n m rule rules s t L = spent-cons a n m rule rules L (s L) (t (L ++ rule L))

-- rules of which none dials but the failover in its turn
abbrev pub AllFree : Made → List Rule → Type 0
AllFree a [] = ⊤
AllFree a (rule ∷ rules) = Spends a 0 rule × AllFree a rules

-- such rules, and then others
pub spends-then : (a : Made) (n : ℕ) (rules others : List Rule) → AllFree a rules → Spends a n (in_order others) → Spends a n (in_order (rules ++ others))
spends-then a n [] others f s = s
spends-then a n (rule ∷ rules) others f s =
    spends-more a (0 + n) n (in_order (rule ∷ rules ++ others)) (omega arith) (spends-cons a 0 n rule (rules ++ others) f.0 (spends-then a n rules others f.1 s))

pub free-order : (a : Made) (rules : List Rule) → AllFree a rules → Spends a 0 (in_order rules)
free-order a [] f = spends-end a
free-order a (rule ∷ rules) f = spends-cons a 0 0 rule rules f.0 (free-order a rules f.1)

pub free-mapped : {A : Type 0} (a : Made) (rule : A → Rule) (xs : List A) → ((x : A) → Spends a 0 (rule x)) → AllFree a (map rule xs)
free-mapped a rule [] f = tt
free-mapped a rule (x ∷ xs) f = (f x, free-mapped a rule xs f)

pub spent-if : (a : Made) (n : ℕ) (b : Bool) (rule other : Rule) (L : Log) → Spent a n L (rule L) → Spent a n L (other L) → Spent a n L (if_so b rule other L)
spent-if a n true rule other L s t = s
spent-if a n false rule other L s t = t

pub spends-either : (a : Made) (n : ℕ) (asks : Log → Bool) (rule other : Rule) → Spends a n rule → Spends a n other → Spends a n (either asks rule other)
spends-either a n asks rule other s t L = spent-if a n (asks L) rule other L (s L) (t L)

zero_least : (n : ℕ) → 0 ≤ n
zero_least n = omega arith

pub spends-nothing : (a : Made) (n : ℕ) → Spends a n nothing
spends-nothing a n L = spent-more a 0 n L [] (zero_least n) (spent-none a L)

pub spends-when : (a : Made) (n : ℕ) (asks : Log → Bool) (rule : Rule) → Spends a n rule → Spends a n (when asks rule)
spends-when a n asks rule s L = spent-if a n (asks L) rule nothing L (s L) (spends-nothing a n L)

pub spends-found : {A : Type 0} (a : Made) (n : ℕ) (look : Log → Option A) (rule : A → Rule) (other : Rule) → ((x : A) → Spends a n (rule x)) → Spends a n other
    → Spends a n (where_found look rule other)
spends-found {A = A} a n look rule other s t L = by (look L)
  where
    by : (o : Option A) → Spent a n L (with_some o rule other L)
    by (Some x) = s x L
    by None = t L

-- ---- the connector

-- What it costs at most that the connector is told this.
abbrev pub price : ConnectorEvent → ℕ
price Start = 1
price (Connected s) = 1
price (Failed s) = 0
price (Lost s) = 0
price Tick = 2

abbrev of_bool : Bool → ℕ
of_bool b = cond b 1 0

-- the failover's dial where the primary hub ends
begun : (f x u n : Bool) → of_bool ((((f && not u) && not (((f && x) && not u) && n)) && n) || false) + of_not (f && (x || true)) ≤ of_not (f && x)
begun false x u n = omega arith
begun true true true n = omega arith
begun true true false true = omega arith
begun true true false false = omega arith
begun true false true n = omega arith
begun true false false true = omega arith
begun true false false false = omega arith

same_tried : (f x : Bool) → (f && (x || false)) ≡ (f && x)
same_tried f true = refl
same_tried f false = refl

small : (b : Bool) → of_bool b ≤ 1
small true = omega arith
small false = omega arith

spare_small : (b : Bool) → of_not b ≤ 1
spare_small true = omega arith
spare_small false = omega arith

abbrev troubled : List HubEvent → Bool
troubled E = list_any (λ x. fails Primary x.event) (trouble Primary E)

-- The dials that the connector asks for when it is told this, by what it costs.
priced : (w : Waits) (E : List HubEvent) (t : ℕ) (e : ConnectorEvent)
    → (of_bool (dials_primary w E (record { now = t; event = e })) + of_bool (dials_failover w E (record { now = t; event = e }))) + spare_of w (E ++ record { now = t; event = e } ∷ [])
    ≤ price e + spare_of w E
priced w E t Start =
    let tried = ap of_not (tried-failover w E (record { now = t; event = Start }) refl ∙ same_tried w.failover (troubled E)) in
    omega (arith, tried)
priced w E t (Connected s) = let s = spare_small (is_tried w Failover (E ++ record { now = t; event = Connected s } ∷ [])) in omega (arith, s)
priced w E t (Failed Primary) =
    let tried = ap of_not (tried-failover w E (record { now = t; event = Failed Primary }) refl) in
    let paid = begun w.failover (troubled E) (is_up Failover E) (is_none (due w Failover E)) in
    omega (arith, tried, paid)
priced w E t (Failed Failover) =
    let tried = ap of_not (tried-failover w E (record { now = t; event = Failed Failover }) refl ∙ same_tried w.failover (troubled E)) in
    omega (arith, tried)
priced w E t (Lost Primary) =
    let tried = ap of_not (tried-failover w E (record { now = t; event = Lost Primary }) refl) in
    let paid = begun w.failover (troubled E) (is_up Failover E) (is_none (due w Failover E)) in
    omega (arith, tried, paid)
priced w E t (Lost Failover) =
    let tried = ap of_not (tried-failover w E (record { now = t; event = Lost Failover }) refl ∙ same_tried w.failover (troubled E)) in
    omega (arith, tried)
priced w E t Tick =
    let tried = ap of_not (tried-failover w E (record { now = t; event = Tick }) refl ∙ same_tried w.failover (troubled E)) in
    let first = small (has_come t (due w Primary E)) in
    let second = small (has_come t (due w Failover E) && not (is_up Primary E)) in
    omega (arith, tried, first, second)

-- ---- its dials

dial_spent : (a : Made) (s : Side) (uri : List ℕ) (M : Log) → Spent a 1 M (did (Dial (Hub s) uri) ∷ [])
dial_spent a s uri M = record {
  hubs = refl;
  within = let same = ap (spare_of (waits a)) (hub_events-kept M (did (Dial (Hub s) uri)) refl) in omega (arith, same);
}

-- a rule that costs 1, where the connector asks for it and the node isn't to end
spent_asked : (a : Made) (p f : Bool) (rule : Rule) (M : Log) → Spent a 1 M (rule M) → Spent a (of_bool p) M (if_so (p && not f) rule nothing M)
spent_asked a true false rule M s = s
spent_asked a true true rule M s = spends-nothing a 1 M
spent_asked a false f rule M s = spends-nothing a 0 M

spent_primary : (a : Made) (M : Log) → Spent a (of_bool (newest_step a M).dial_primary) M (dials_primary_hub a M)
spent_primary a M = spent_asked a (newest_step a M).dial_primary (is_finishing M) (does (Dial (Hub Primary) a.limits.primary)) M (dial_spent a Primary a.limits.primary M)

spent_failover : (a : Made) (M : Log) → Spent a (of_bool (newest_step a M).dial_failover) M (dials_failover_hub a M)
spent_failover a M =
    spent_asked a (newest_step a M).dial_failover (is_finishing M) (in_order (close ∷ dial ∷ [])) M
    (spends-cons a 0 1 close (dial ∷ []) (spends-when a 0 (is_there (Hub Failover)) (does (Close (Hub Failover) normal)) (spends-plain a (does (Close (Hub Failover) normal)) (λ L. refl)))
    (spends-cons a 1 0 dial [] (dial_spent a Failover (unwrap_or a.limits.failover [])) (spends-end a)) M)
  where
    close : Rule
    close = when (is_there (Hub Failover)) (does (Close (Hub Failover) normal))

    dial : Rule
    dial = does (Dial (Hub Failover) (unwrap_or a.limits.failover []))

-- the primary hub's dial tells the connector nothing
primary_tells : (a : Made) (M : Log) → hub_events (M ++ dials_primary_hub a M) ≡ hub_events M
primary_tells a M = by ((newest_step a M).dial_primary && not (is_finishing M))
  where
    by : (b : Bool) → hub_events (M ++ if_so b (does (Dial (Hub Primary) a.limits.primary)) nothing M) ≡ hub_events M
    by true = hub_events-kept M (did (Dial (Hub Primary) a.limits.primary)) refl
    by false = ap hub_events (append-nil M)

-- the connector's newest step, by what it was told
abbrev step_by : Made → List HubEvent → ConnectorStep
step_by a E = at_last (connector_step (waits a)) no_step E

step_told : (a : Made) (L : Log) (e : HubEvent) → newest_step a (L ++ connector e ∷ []) ≡ connector_step (waits a) (hub_events L) e
step_told a L e = ap (step_by a) (hub_events-append L (connector e ∷ [])) ∙ at_last-more (connector_step (waits a)) no_step (hub_events L) e

-- The connector is told something: that costs its price at most.
pub spends-tells_connector : (a : Made) (event : ConnectorEvent) → Spends a (price event) (tells_connector a event)
spends-tells_connector a event L = subst (Spent a (price event) L) (sym (in_order-cons (told event) (dials_primary_hub a ∷ dials_failover_hub a ∷ tells_use ∷ drops_failover a ∷ []) L)) (record {
  hubs = rest.hubs;
  within =
      let is = step_told a L e in
      let one = ap (λ s. of_bool s.dial_primary) is in
      let two = ap (λ s. of_bool s.dial_failover) is in
      let cost = priced (waits a) (hub_events L) (now L) event in
      let first = rest.within in
      let then_spare = ap (spare_of (waits a)) (hub_events-append L (connector e ∷ [])) in
      let same = ap (spare a) (append_assoc L (connector e ∷ []) lines) in
      omega (arith, one, two, cost, first, then_spare, same);
})
  where
    e : HubEvent
    e = record { now = now L; event = event }

    M : Log
    M = L ++ connector e ∷ []

    lines : List Line
    lines = in_order (dials_primary_hub a ∷ dials_failover_hub a ∷ tells_use ∷ drops_failover a ∷ []) M

    second : Spent a (of_bool (newest_step a M).dial_failover) (M ++ dials_primary_hub a M) (dials_failover_hub a (M ++ dials_primary_hub a M))
    second = subst (λ (E : List HubEvent). Spent a (of_bool (step_by a E).dial_failover) (M ++ dials_primary_hub a M) (dials_failover_hub a (M ++ dials_primary_hub a M))) (primary_tells a M)
        (spent_failover a (M ++ dials_primary_hub a M))

    rest : Spent a (of_bool (newest_step a M).dial_primary + (of_bool (newest_step a M).dial_failover + 0)) M lines
    rest =
        spent-cons a (of_bool (newest_step a M).dial_primary) (of_bool (newest_step a M).dial_failover + 0) (dials_primary_hub a)
        (dials_failover_hub a ∷ tells_use ∷ drops_failover a ∷ []) M (spent_primary a M)
        (spent-cons a (of_bool (newest_step a M).dial_failover) 0 (dials_failover_hub a) (tells_use ∷ drops_failover a ∷ []) (M ++ dials_primary_hub a M) second
        (free-order a (tells_use ∷ drops_failover a ∷ []) (spends-plain a tells_use plain-tells_use, (spends-plain a (drops_failover a) (plain-drops_failover a), tt))
        ((M ++ dials_primary_hub a M) ++ dials_failover_hub a (M ++ dials_primary_hub a M))))
