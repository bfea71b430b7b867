-- Rules whose lines fit where they stand, behind a tied log: how rules are put together, and what follows where a hub
-- connection changes and where a link ends.
-- It serves the clauses of `links_begin_anew`.
use Rattle.std.proofs.Common.{◌≡◌, ℕ, Bool, true, false, not, ◌&&◌, List, [], ◌∷◌, ◌++◌, Option, Some, None, refl, ap, sym, ◌∙◌, subst}
use Rattle.std.specs.Prelude.{⊤, map, unwrap_or}
use Rattle.std.specs.List.{list_all}
use Rattle.std.proofs.lemmas.List.{append-nil}
use Rattle.bsc_octets.specs.declared.identity.Identity.{Identity}
use Rattle.bsc_connector.specs.declared.side.Side.{Side}
use Rattle.bsc_connector.specs.declared.side.Side.TheVariants.{Primary, Failover}
use Rattle.bsc_connector.specs.declared.event.ConnectorEvent.{ConnectorEvent}
use Rattle.bsc_connector.specs.declared.event.ConnectorEvent.TheVariants.{Failed, Lost}
use Rattle.bsc_connector.specs.Sides.{is_start}
use Rattle.bsc_accept.specs.declared.closing.Closing.{Closing}
use Rattle.bsc_accept.specs.Steps.{normal}
use Rattle.bsc_direct.specs.declared.call.SlotCall.TheVariants.{Release}
use Rattle.bsc_node.specs.declared.link_name.LinkName.{LinkName}
use Rattle.bsc_node.specs.declared.link_name.LinkName.TheVariants.{Hub, Direct}
use Rattle.bsc_node.specs.declared.note.Note.TheVariants.{DirectDown, Finished}
use Rattle.bsc_node.specs.declared.action.Action.TheVariants.{Dial, Close}
use Rattle.bsc_node.specs.Logs.{Made, Line, did, Log, Rule, nothing, in_order, if_so, either, when, with_some, where_found, does, tells, is_finishing}
use Rattle.bsc_node.specs.Links.{begins, is_there, none_there}
use Rattle.bsc_node.specs.Hubs.{is_up, is_under_way, is_dropped, told}
use Rattle.bsc_node.specs.Ways.{established_peer, slots_see}
use Rattle.bsc_node.specs.Ending.{dials, finishes_machine, dials_primary, dials_failover, tells_use, drops_failover, tells_connector}
use Rattle.bsc_node.specs.Ending.{ends_hub, ends_slot, tells_finished, ends_by, ends, closes_link, finishes_link}
use Rattle.bsc_node.proofs.Order.{in_order-brought, in_order-cons}
use Rattle.bsc_node.proofs.Passing.{pass-found, pass-nothing, pass-when}
use Rattle.bsc_node_laws.proofs.Tied.{Tied, FitsHub, EachFits}
use Rattle.bsc_node_laws.proofs.There.{gone-stays_all}
use Rattle.bsc_node_laws.proofs.Tying.{keeps_each, fits_append, dials_when_gone}
use Rattle.bsc_node_laws.proofs.Plain.{is_plain, Plain, plain-fits, plain-finishes_machine, plain-tells_use, plain-drops_failover}
use Rattle.bsc_lemmas.proofs.Booleans.{and_left}
use Rattle.bsc_node.proofs.There.{closed-gone}

-- ---- how rules are put together

-- Behind each tied log the rule's lines fit.
abbrev pub FitsAlways : Made → Rule → Type 0
FitsAlways a rule = (L : Log) → Tied a L → EachFits a L (rule L)

abbrev pub FitEach : Made → List Rule → Type 0
FitEach a [] = ⊤
FitEach a (rule ∷ rules) = FitsAlways a rule × FitEach a rules

-- A plain rule's lines fit behind every log.
pub fit-plain : (a : Made) (rule : Rule) → Plain rule → FitsAlways a rule
fit-plain a rule p L t = plain-fits a L (rule L) (p L)

pub fit-none : (a : Made) (L : Log) → EachFits a L (in_order [] L)
fit-none a L = subst (EachFits a L) (sym (in_order-brought [] L)) tt

-- a rule, and then others behind the log that it left
pub fit-cons : (a : Made) (rule : Rule) (rules : List Rule) (L : Log) → EachFits a L (rule L) → EachFits a (L ++ rule L) (in_order rules (L ++ rule L)) → EachFits a L (in_order (rule ∷ rules) L)
fit-cons a rule rules L p q = subst (EachFits a L) (sym (in_order-cons rule rules L)) (fits_append a L (rule L) (in_order rules (L ++ rule L)) p q)

-- the same, where the log before it is tied, and so the one behind it
pub fit-then : (a : Made) (rule : Rule) (rules : List Rule) (L : Log) → Tied a L → EachFits a L (rule L)
    → (Tied a (L ++ rule L) → EachFits a (L ++ rule L) (in_order rules (L ++ rule L))) → EachFits a L (in_order (rule ∷ rules) L)
fit-then a rule rules L t p q = fit-cons a rule rules L p (q (keeps_each a L (rule L) t p))

pub fit-last : (a : Made) (rule : Rule) (L : Log) → EachFits a L (rule L) → EachFits a L (in_order (rule ∷ []) L)
fit-last a rule L p = fit-cons a rule [] L p (fit-none a (L ++ rule L))

pub fit-in_order : (a : Made) (rules : List Rule) → FitEach a rules → FitsAlways a (in_order rules)
fit-in_order a [] f L t = fit-none a L
fit-in_order a (rule ∷ rules) f L t = fit-then a rule rules L t (f.0 L t) (λ u. fit-in_order a rules f.1 (L ++ rule L) u)

pub fit-if : (a : Made) (b : Bool) (rule other : Rule) (L : Log) → (b ≡ true → EachFits a L (rule L)) → (b ≡ false → EachFits a L (other L)) → EachFits a L (if_so b rule other L)
fit-if a true rule other L p q = p refl
fit-if a false rule other L p q = q refl

pub fit-when : (a : Made) (asks : Log → Bool) (rule : Rule) (L : Log) → (asks L ≡ true → EachFits a L (rule L)) → EachFits a L (when asks rule L)
fit-when a asks rule L p = fit-if a (asks L) rule nothing L p (λ h. tt)

pub fit-either : (a : Made) (asks : Log → Bool) (rule other : Rule) (L : Log)
    → (asks L ≡ true → EachFits a L (rule L)) → (asks L ≡ false → EachFits a L (other L)) → EachFits a L (either asks rule other L)
fit-either a asks rule other L p q = fit-if a (asks L) rule other L p q

pub fit-some : {A : Type 0} (a : Made) (o : Option A) (rule : A → Rule) (other : Rule) (L : Log)
    → ((x : A) → o ≡ Some x → EachFits a L (rule x L)) → EachFits a L (other L) → EachFits a L (with_some o rule other L)
fit-some a (Some x) rule other L p q = p x refl
fit-some a None rule other L p q = q

pub fit-mapped : {A : Type 0} (a : Made) (rule : A → Rule) (xs : List A) → ((x : A) → FitsAlways a (rule x)) → FitEach a (map rule xs)
fit-mapped a rule [] p = tt
fit-mapped a rule (x ∷ xs) p = (p x, fit-mapped a rule xs p)

pub fit-each_append : (a : Made) (rules others : List Rule) → FitEach a rules → FitEach a others → FitEach a (rules ++ others)
fit-each_append a [] others p q = q
fit-each_append a (rule ∷ rules) others p q = (p.0, fit-each_append a rules others p.1 q)

-- ---- hub connections

-- the failover's link isn't there once it is closed where it was there
failover_gone : (L : Log) (b : Bool) → is_there (Hub Failover) L ≡ b → is_there (Hub Failover) (L ++ if_so b (does (Close (Hub Failover) normal)) nothing L) ≡ false
failover_gone L true h = closed-gone (Hub Failover) L normal
failover_gone L false h = ap (is_there (Hub Failover)) (append-nil L) ∙ h

-- The failover is dialled only where its link isn't there.
fit_dials_failover : (a : Made) → FitsAlways a (dials_failover a)
fit_dials_failover a L t =
    fit-when a (dials a Failover) (in_order (closes_first ∷ dials_it ∷ [])) L
    (λ d. fit-cons a closes_first (dials_it ∷ []) L (fit-plain a closes_first (pass-when is_plain (is_there (Hub Failover)) (does (Close (Hub Failover) normal)) (λ M. refl)) L t)
    (fit-last a dials_it (L ++ closes_first L) ((failover_gone L (is_there (Hub Failover) L) refl, refl), tt)))
  where
    closes_first : Rule
    closes_first = when (is_there (Hub Failover)) (does (Close (Hub Failover) normal))

    dials_it : Rule
    dials_it = does (Dial (Hub Failover) (unwrap_or a.limits.failover []))

-- What follows where the connector is told something that isn't the start, and of the primary hub's end only once its
-- link isn't there.
pub fit-tells_connector : (a : Made) (event : ConnectorEvent) (L : Log) → Tied a L → is_start event ≡ false → FitsHub L event → EachFits a L (tells_connector a event L)
fit-tells_connector a event L t s f =
    fit-then a (told event) (dials_primary a ∷ dials_failover a ∷ tells_use ∷ drops_failover a ∷ []) L t (f, tt)
    (λ u. fit-then a (dials_primary a) (dials_failover a ∷ tells_use ∷ drops_failover a ∷ []) (L ++ told event L) u
    (fit-when a (dials a Primary) (does (Dial (Hub Primary) a.limits.primary)) (L ++ told event L) (λ d. ((dials_when_gone a L event t s d, refl), tt)))
    (λ v. fit-in_order a (dials_failover a ∷ tells_use ∷ drops_failover a ∷ [])
    (fit_dials_failover a, (fit-plain a tells_use plain-tells_use, (fit-plain a (drops_failover a) (plain-drops_failover a), tt)))
    ((L ++ told event L) ++ dials_primary a (L ++ told event L)) v))

-- ---- a link is over

-- The link is over, where that matters: nothing is asked of the failover's.
abbrev pub OverAt : LinkName → Log → Type 0
OverAt (Hub Failover) L = ⊤
OverAt name L = is_there name L ≡ false

pub over : (name : LinkName) (L : Log) → is_there name L ≡ false → OverAt name L
over (Hub Failover) L h = tt
over (Hub Primary) L h = h
over (Direct k) L h = h

lost_fits : (s : Side) (L : Log) → OverAt (Hub s) L → FitsHub L (Lost s)
lost_fits Primary L o = o
lost_fits Failover L o = tt

failed_fits : (s : Side) (L : Log) → OverAt (Hub s) L → FitsHub L (Failed s)
failed_fits Primary L o = o
failed_fits Failover L o = tt

fit_ends_hub : (a : Made) (s : Side) (L : Log) → Tied a L → OverAt (Hub s) L → EachFits a L (ends_hub a s L)
fit_ends_hub a s L t o =
    fit-either a (is_dropped s) nothing (either (is_up s) (tells_connector a (Lost s)) (when (is_under_way a s) (tells_connector a (Failed s)))) L (λ d. tt)
    (λ d. fit-either a (is_up s) (tells_connector a (Lost s)) (when (is_under_way a s) (tells_connector a (Failed s))) L
    (λ u. fit-tells_connector a (Lost s) L t refl (lost_fits s L o))
    (λ u. fit-when a (is_under_way a s) (tells_connector a (Failed s)) L (λ h. fit-tells_connector a (Failed s) L t refl (failed_fits s L o))))

-- A slot is released only once its link isn't there.
fit_ends_slot : (a : Made) (k : ℕ) (L : Log) → is_there (Direct k) L ≡ false → EachFits a L (ends_slot k L)
fit_ends_slot a k L gone =
    fit-cons a tells_down (slots_see (Release k) ∷ []) L (plain-fits a L (tells_down L) (tells_only is_plain (λ who. refl)))
    (fit-last a (slots_see (Release k)) (L ++ tells_down L) (gone-stays_all (Direct k) L (tells_down L) (tells_only (λ m. not (begins (Direct k) m)) (λ who. refl)) gone, tt))
  where
    tells_down : Rule
    tells_down = where_found (established_peer k) (λ (who : Identity). tells (DirectDown who.vmac)) nothing

    tells_only : (test : Line → Bool) → ((who : Identity) → list_all test (tells (DirectDown who.vmac) L) ≡ true) → list_all test (tells_down L) ≡ true
    tells_only test h = pass-found test (established_peer k) (λ (who : Identity). tells (DirectDown who.vmac)) nothing (λ who M. h who) (pass-nothing test) L

pub fit-tells_finished : (a : Made) → FitsAlways a tells_finished
fit-tells_finished a L t = fit-when a (λ M. is_finishing M && none_there M) (tells Finished) L (λ h. (and_left (is_finishing L) (none_there L) h, tt))

fit_ends_by : (a : Made) (name : LinkName) (L : Log) → Tied a L → OverAt name L → EachFits a L (ends_by a name L)
fit_ends_by a (Hub s) L t o = fit_ends_hub a s L t o
fit_ends_by a (Direct k) L t o = fit_ends_slot a k L o

-- What follows where a link is over.
pub fit-ends : (a : Made) (name : LinkName) (L : Log) → Tied a L → OverAt name L → EachFits a L (ends a name L)
fit-ends a name L t o =
    fit-then a (ends_by a name) (tells_finished ∷ []) L t (fit_ends_by a name L t o) (λ u. fit-last a tells_finished (L ++ ends_by a name L) (fit-tells_finished a (L ++ ends_by a name L) u))

pub fit-closes_link : (a : Made) (name : LinkName) (closing : Closing) → FitsAlways a (closes_link a name closing)
fit-closes_link a name closing L t =
    fit-then a (does (Close name closing)) (ends a name ∷ []) L t (tt, tt) (λ u. fit-last a (ends a name) closed (fit-ends a name closed u (over name closed (closed-gone name L closing))))
  where
    closed : Log
    closed = L ++ did (Close name closing) ∷ []

-- A link is over where it was told to finish and isn't there any more.
fit_over_then : (a : Made) (name : LinkName) → FitsAlways a (either (is_there name) nothing (ends a name))
fit_over_then a name L t = fit-either a (is_there name) nothing (ends a name) L (λ h. tt) (λ h. fit-ends a name L t (over name L h))

pub fit-finishes_link : (a : Made) (name : LinkName) → FitsAlways a (finishes_link a name)
fit-finishes_link a name L t =
    fit-when a (is_there name) (in_order (finishes_machine a name ∷ either (is_there name) nothing (ends a name) ∷ [])) L
    (λ h. fit-in_order a (finishes_machine a name ∷ either (is_there name) nothing (ends a name) ∷ [])
    (fit-plain a (finishes_machine a name) (plain-finishes_machine a name), (fit_over_then a name, tt)) L t)
