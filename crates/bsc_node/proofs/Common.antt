-- Lemmas that crates above cite too.
-- It serves the clauses of `broadcasts_keep_off_slots`, `draws_last` and `slots_keep_apart`.
use Rattle.bsc_accept.specs.Messages.{duplicate_vmac_code}
use Rattle.bsc_accept.specs.declared.event.Event.{Event}
use Rattle.bsc_connector.proofs.BackLemmas.{since-more}
use Rattle.bsc_connector.proofs.Common.{first_of-more, first_of-more as first-more}
use Rattle.bsc_connector.specs.Back.{first_of}
use Rattle.bsc_connector.specs.declared.side.Side.TheVariants.{Failover, Primary}
use Rattle.bsc_direct.specs.declared.bounds.TheConstants.{SLOTS}
use Rattle.bsc_direct.specs.Slots.{slots}
use Rattle.bsc_initiate.specs.Past.{request_at}
use Rattle.bsc_initiate.specs.declared.event.InitEvent.{InitEvent}
use Rattle.bsc_lemmas.proofs.Booleans.{and_right, and_left, all_four, if_so as the_word}
use Rattle.bsc_lemmas.proofs.Lists.{range_below as below, filter_map_none as filter-kept}
use Rattle.bsc_lemmas.proofs.Options.{or_none as or_last, or_none}
use Rattle.bsc_node.specs.Conditions.{may_come, awaits_word, fits, brings_word}
use Rattle.bsc_node.specs.Hubs.{hub_events, hub_event_of}
use Rattle.bsc_node.specs.Links.{meets, same_link, who_accepted, request, accepts_by, asks_by, who_asked, none_there, begins, life, is_in_slots}
use Rattle.bsc_node.specs.Logs.{Line, Log, is_finishing, now}
use Rattle.bsc_node.specs.Meeting.{may_draw, is_hub, renewals}
use Rattle.bsc_node.specs.Ways.{slot_call_of, slot_calls, resolve_call_of, resolve_calls}
use Rattle.bsc_node.specs.declared.bounds.TheConstants.{RENEWALS}
use Rattle.bsc_node.specs.declared.link_name.LinkName.{LinkName}
use Rattle.bsc_node.specs.declared.link_name.LinkName.TheVariants.{Direct, Hub}
use Rattle.bsc_node.specs.declared.node_event.NodeEvent.TheVariants.{NoRandom}
use Rattle.bsc_node.specs.declared.timed_event.TimedEvent.{TimedEvent}
use Rattle.bsc_octets.specs.declared.identity.Identity.{Identity}
use Rattle.std.proofs.Common.{◌≡◌, Some, true, arith, ℕ, refl, ap, None, ◌∷◌, ◌++◌, [], Option, List, ◌∙◌, not, ◌&&◌, Bool, cond, false, ◌≤◌, subst, sym, ◌<◌}
use Rattle.std.proofs.lemmas.Bool.{lt-ltb, false≢true, eqb-true, le-leb}
use Rattle.std.specs.Option.{option_or, option_and_then}
use Rattle.std.specs.Prelude.{nat_lt, ◌==◌, if◌then◌else◌, IsTrue, ◌^◌, nat_le}

pub same_who : (x y : Identity) → meets x ≡ meets y → Some x ≡ Some y
same_who x y h = cc

pub slot-named : (k : ℕ) → is_in_slots k ≡ true → nat_lt k SLOTS ≡ true
unfolding slots
slot-named k h = lt-ltb k SLOTS (let w = below SLOTS 0 k h in omega (arith, w))

pub same_link-is : (name other : LinkName) → same_link name other ≡ true → name ≡ other
same_link-is (Hub Primary) (Hub Primary) h = refl
same_link-is (Hub Failover) (Hub Failover) h = refl
same_link-is (Hub Primary) (Hub Failover) h = absurd (false≢true h)
same_link-is (Hub Failover) (Hub Primary) h = absurd (false≢true h)
same_link-is (Direct k) (Direct j) h = ap (λ n. Direct n) (eqb-true k j h)
same_link-is (Hub s) (Direct k) h = absurd (false≢true h)
same_link-is (Direct k) (Hub s) h = absurd (false≢true h)

pub hub_events-kept : (L : Log) (m : Line) → hub_event_of m ≡ None → hub_events (L ++ m ∷ []) ≡ hub_events L
hub_events-kept L m h = filter-kept hub_event_of L m h

pub slot_calls-kept : (L : Log) (m : Line) → slot_call_of m ≡ None → slot_calls (L ++ m ∷ []) ≡ slot_calls L
slot_calls-kept L m h = filter-kept slot_call_of L m h

pub resolve_calls-kept : (L : Log) (m : Line) → resolve_call_of m ≡ None → resolve_calls (L ++ m ∷ []) ≡ resolve_calls L
resolve_calls-kept L m h = filter-kept resolve_call_of L m h

pub accepted-kept : (E : List InitEvent) (call : InitEvent) → request_at call ≡ None → ((id : ℕ) → accepts_by id call ≡ None) → who_accepted (E ++ call ∷ []) ≡ who_accepted E
accepted-kept E call r n =
    ap (λ (o : Option ℕ). option_and_then (λ id. first_of (accepts_by id) (E ++ call ∷ [])) o)
    (first_of-more request_at E call ∙ ap (λ (o : Option ℕ). option_or (request E) o) r ∙ or_last (request E)) ∙ by (request E)
  where
    by : (o : Option ℕ) → option_and_then (λ id. first_of (accepts_by id) (E ++ call ∷ [])) o ≡ option_and_then (λ id. first_of (accepts_by id) E) o
    by None = refl
    by (Some id) = first_of-more (accepts_by id) E call ∙ ap (λ (o : Option Identity). option_or (first_of (accepts_by id) E) o) (n id) ∙ or_last (first_of (accepts_by id) E)

pub asked-kept : (E : List Event) (e : Event) → asks_by e ≡ None → who_asked (E ++ e ∷ []) ≡ who_asked E
asked-kept E e n = first-more asks_by E e ∙ ap (λ o. option_or (who_asked E) o) n ∙ or_none (who_asked E)

pub draws_where_none : (name : LinkName) (code : ℕ) (C : Log) → may_draw name code C ≡ true → none_there C ≡ true
draws_where_none name code C h =
    and_right (is_hub name && (code == duplicate_vmac_code)) (none_there C)
    (and_left (is_hub name && (code == duplicate_vmac_code) && none_there C) (not (is_finishing C))
    (and_left (is_hub name && (code == duplicate_vmac_code) && none_there C && not (is_finishing C)) (nat_lt (renewals C) RENEWALS) h))

pub life_begun : (name : LinkName) (L : Log) (m : Line) → begins name m ≡ true → life (L ++ m ∷ []) name ≡ []
life_begun name L m b = since-more (begins name) L m ∙ ap (λ (d : Bool). cond d [] (life L name ++ m ∷ [])) b

pub word_awaited : (L : Log) (e : TimedEvent) → IsTrue (may_come L e) → brings_word e.event ≡ true → awaits_word L ≡ true
word_awaited L e h w = by (brings_word e.event) w (third (nat_le (now L) e.now) (nat_lt e.now (2 ^ 62)) (if brings_word e.event then awaits_word L else not (awaits_word L)) (fits L e.event) h)
  where
    third : (p q r s : Bool) → (p && q && r && s) ≡ true → r ≡ true
    third true true true s g = refl
    third true true false s g = g
    third true false r s g = cc
    third false q r s g = cc

    by : (b : Bool) → b ≡ true → (if b then awaits_word L else not (awaits_word L)) ≡ true → awaits_word L ≡ true
    by true d g = g
    by false d g = cc

pub no_word_then : (T : ℕ) (L : Log) → T < 2 ^ 62 → now L ≡ T → awaits_word L ≡ true → IsTrue (may_come L (record { now = T; event = NoRandom }))
no_word_then T L below is awaits =
    all_four (nat_le (now L) T) (nat_lt T (2 ^ 62)) (if true then awaits_word L else not (awaits_word L)) true (le-leb (now L) T (subst (λ t. t ≤ T) (sym is) (omega arith)))
    (lt-ltb T (2 ^ 62) below) (the_word true (awaits_word L) refl awaits) refl
