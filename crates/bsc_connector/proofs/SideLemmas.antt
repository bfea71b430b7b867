-- How the facts of a side change by one event more.
-- It serves clauses of functions of `connector` and `laws`.
use Rattle.std.proofs.Common.{◌≡◌, ℕ, ◌+◌, Bool, true, false, cond, ◌||◌, ◌&&◌, List, [], ◌∷◌, ◌++◌, Option, Some, None, refl, ap, ◌∙◌}
use native.Mathlib.Omega.{arith}
use native.Mathlib.Numerals.{unary_clauses}
use Rattle.std.specs.Prelude.{◌*◌, ◌^◌, ◌-◌, min}
use Rattle.std.specs.Prelude.{nat_le}
use Rattle.std.specs.List.{list_any}
use Rattle.std.specs.Option.{option_map}
use Rattle.bsc_connector.specs.declared.side.Side.{Side}
use Rattle.bsc_connector.specs.declared.side.Side.TheVariants.{Primary, Failover}
use Rattle.bsc_connector.specs.declared.event.HubEvent.{HubEvent}
use Rattle.bsc_connector.specs.declared.waits.Waits.{Waits}
use Rattle.bsc_connector.specs.Back.{newest, since}
use Rattle.bsc_connector.specs.Sides.{is_start, is_tick, fails, loses, connects, clears, is_up, due, is_tried, failures, wait, trouble, next_attempt, same_side, redials, unless_dialled}
use Rattle.bsc_connector.proofs.BackLemmas.{newest-more, since-more, count_by-more, list_any-more}

-- An event that neither accepts nor ends the connection leaves the side up or not, as it was.
pub up-stays : (s : Side) (E : List HubEvent) (e : HubEvent) → (clears s e.event || loses s e.event) ≡ false → is_up s (E ++ e ∷ []) ≡ is_up s E
up-stays s E e h = rw (newest-more (λ x. clears s x.event || loses s x.event) E e, h) refl

-- One that does says so.
pub up-said : (s : Side) (E : List HubEvent) (e : HubEvent) → (clears s e.event || loses s e.event) ≡ true → is_up s (E ++ e ∷ []) ≡ connects s e.event
up-said s E e h = rw (newest-more (λ x. clears s x.event || loses s x.event) E e, h) refl

pub trouble-cleared : (s : Side) (E : List HubEvent) (e : HubEvent) → clears s e.event ≡ true → trouble s (E ++ e ∷ []) ≡ []
trouble-cleared s E e h = rw (since-more (λ x. clears s x.event) E e, h) refl

pub trouble-more : (s : Side) (E : List HubEvent) (e : HubEvent) → clears s e.event ≡ false → trouble s (E ++ e ∷ []) ≡ trouble s E ++ e ∷ []
trouble-more s E e h = rw (since-more (λ x. clears s x.event) E e, h) refl

-- ---- failures

pub failures-cleared : (s : Side) (E : List HubEvent) (e : HubEvent) → clears s e.event ≡ true → failures s (E ++ e ∷ []) ≡ 0
failures-cleared s E e h = rw (trouble-cleared s E e h) refl

pub failures-more : (s : Side) (E : List HubEvent) (e : HubEvent) → clears s e.event ≡ false → failures s (E ++ e ∷ []) ≡ failures s E + cond (fails s e.event) 1 0
failures-more s E e h = rw (trouble-more s E e h) (count_by-more (λ x. fails s x.event) (trouble s E) e)

-- ---- the next attempt

pub due-cleared : (w : Waits) (s : Side) (E : List HubEvent) (e : HubEvent) → clears s e.event ≡ true → due w s (E ++ e ∷ []) ≡ None
due-cleared w s E e h = rw (trouble-cleared s E e h) refl

pub failures-same : (s : Side) (E : List HubEvent) (e : HubEvent) → clears s e.event ≡ false → fails s e.event ≡ false → failures s (E ++ e ∷ []) ≡ failures s E
failures-same s E e h f = rw (failures-more s E e h, f) (omega arith)

pub failures-one_more : (s : Side) (E : List HubEvent) (e : HubEvent) → clears s e.event ≡ false → fails s e.event ≡ true → failures s (E ++ e ∷ []) ≡ failures s E + 1
failures-one_more s E e h f = rw (failures-more s E e h, f) refl

newest-same : (s : Side) (E : List HubEvent) (e : HubEvent) → clears s e.event ≡ false → fails s e.event ≡ false
    → newest (λ x. fails s x.event) (trouble s (E ++ e ∷ [])) ≡ newest (λ x. fails s x.event) (trouble s E)
newest-same s E e h f = rw (trouble-more s E e h, newest-more (λ x. fails s x.event) (trouble s E) e, f) refl

attempt_at : Waits → ℕ → Option HubEvent → Option ℕ
attempt_at w n o = option_map (λ (x : HubEvent). x.now + wait w n) o

next-same : (w : Waits) (s : Side) (E : List HubEvent) (e : HubEvent) → clears s e.event ≡ false → fails s e.event ≡ false → next_attempt w s (E ++ e ∷ []) ≡ next_attempt w s E
unfolding attempt_at
next-same w s E e h f =
    ap (λ n. attempt_at w n (newest (λ x. fails s x.event) (trouble s (E ++ e ∷ [])))) (failures-same s E e h f) ∙ ap (λ o. attempt_at w (failures s E) o) (newest-same s E e h f)

redialled-more : (s : Side) (at : ℕ) (E : List HubEvent) (e : HubEvent) → fails s e.event ≡ false
    → list_any (redials s at) (since (λ x. fails s x.event) (E ++ e ∷ [])) ≡ (list_any (redials s at) (since (λ x. fails s x.event) E) || redials s at e)
redialled-more s at E e f = rw (since-more (λ x. fails s x.event) E e, f) (list_any-more (redials s at) (since (λ x. fails s x.event) E) e)

-- the time, unless it has come
abbrev pub unless_come : ℕ → Option ℕ → Option ℕ
unless_come now None = None
unless_come now (Some at) = cond (nat_le at now) None (Some at)

kept : (t : Bool) (at : ℕ) → cond (t || false) None (Some at) ≡ cond t None (Some at)
kept true at = refl
kept false at = refl

-- whether the event is a start, for the primary hub
abbrev pub starts : Side → HubEvent → Bool
starts s e = is_start e.event && same_side s Primary

unless-kept : (s : Side) (E : List HubEvent) (e : HubEvent) (o : Option ℕ) → fails s e.event ≡ false → is_tick e.event ≡ false → starts s e ≡ false
    → unless_dialled s (E ++ e ∷ []) o ≡ unless_dialled s E o
unless-kept s E e None f t g = refl
unless-kept s E e (Some at) f t g = rw (redialled-more s at E e f, t, g) (kept (list_any (redials s at) (since (λ x. fails s x.event) E)) at)

come : (t l : Bool) (at now : ℕ) → nat_le at now ≡ l → cond (t || (l || false)) None (Some at) ≡ unless_come now (cond t None (Some at))
come true l at now h = refl
come false true at now h = rw h refl
come false false at now h = rw h refl

unless-ticked : (s : Side) (E : List HubEvent) (e : HubEvent) (o : Option ℕ) → fails s e.event ≡ false → is_tick e.event ≡ true → starts s e ≡ false
    → unless_dialled s (E ++ e ∷ []) o ≡ unless_come e.now (unless_dialled s E o)
unless-ticked s E e None f t g = refl
unless-ticked s E e (Some at) f t g = rw (redialled-more s at E e f, t, g) (come (list_any (redials s at) (since (λ x. fails s x.event) E)) (nat_le at e.now) at e.now refl)

begun_again : (t l : Bool) (at : ℕ) → cond (t || (l || true)) None (Some at) ≡ None
begun_again true l at = refl
begun_again false true at = refl
begun_again false false at = refl

unless-started : (s : Side) (E : List HubEvent) (e : HubEvent) (o : Option ℕ) → fails s e.event ≡ false → starts s e ≡ true → unless_dialled s (E ++ e ∷ []) o ≡ None
unless-started s E e None f g = refl
unless-started s E e (Some at) f g = rw (redialled-more s at E e f, g) (begun_again (list_any (redials s at) (since (λ x. fails s x.event) E)) (is_tick e.event && nat_le at e.now) at)

pub due-same : (w : Waits) (s : Side) (E : List HubEvent) (e : HubEvent) → clears s e.event ≡ false → fails s e.event ≡ false → is_tick e.event ≡ false → starts s e ≡ false
    → due w s (E ++ e ∷ []) ≡ due w s E
due-same w s E e h f t g = ap (λ o. unless_dialled s (E ++ e ∷ []) o) (next-same w s E e h f) ∙ unless-kept s E e (next_attempt w s E) f t g

pub due-ticked : (w : Waits) (s : Side) (E : List HubEvent) (e : HubEvent) → clears s e.event ≡ false → fails s e.event ≡ false → is_tick e.event ≡ true → starts s e ≡ false
    → due w s (E ++ e ∷ []) ≡ unless_come e.now (due w s E)
due-ticked w s E e h f t g = ap (λ o. unless_dialled s (E ++ e ∷ []) o) (next-same w s E e h f) ∙ unless-ticked s E e (next_attempt w s E) f t g

pub due-started : (w : Waits) (s : Side) (E : List HubEvent) (e : HubEvent) → fails s e.event ≡ false → starts s e ≡ true → due w s (E ++ e ∷ []) ≡ None
due-started w s E e f g = unless-started s E e (next_attempt w s (E ++ e ∷ [])) f g

newest-failed : (s : Side) (E : List HubEvent) (e : HubEvent) → clears s e.event ≡ false → fails s e.event ≡ true → newest (λ x. fails s x.event) (trouble s (E ++ e ∷ [])) ≡ Some e
newest-failed s E e h f = rw (trouble-more s E e h, newest-more (λ x. fails s x.event) (trouble s E) e, f) refl

unless-failed : (s : Side) (E : List HubEvent) (e : HubEvent) (at : ℕ) → fails s e.event ≡ true → unless_dialled s (E ++ e ∷ []) (Some at) ≡ Some at
unless-failed s E e at f = rw (since-more (λ x. fails s x.event) E e, f) refl

pub due-failed : (w : Waits) (s : Side) (E : List HubEvent) (e : HubEvent) → clears s e.event ≡ false → fails s e.event ≡ true → due w s (E ++ e ∷ []) ≡ Some (e.now + wait w (failures s E + 1))
unfolding attempt_at
due-failed w s E e h f =
    ap (λ n. unless_dialled s (E ++ e ∷ []) (attempt_at w n (newest (λ x. fails s x.event) (trouble s (E ++ e ∷ []))))) (failures-one_more s E e h f)
    ∙ ap (λ o. unless_dialled s (E ++ e ∷ []) (attempt_at w (failures s E + 1) o)) (newest-failed s E e h f)
    ∙ unless-failed s E e (e.now + wait w (failures s E + 1)) f

-- ---- whether it is tried

pub tried-primary : (w : Waits) (E : List HubEvent) (e : HubEvent) → is_tried w Primary (E ++ e ∷ []) ≡ (is_tried w Primary E || is_start e.event)
tried-primary w E e = list_any-more (λ x. is_start x.event) E e

pub tried-failover : (w : Waits) (E : List HubEvent) (e : HubEvent) → clears Primary e.event ≡ false
    → is_tried w Failover (E ++ e ∷ []) ≡ (w.failover && (list_any (λ x. fails Primary x.event) (trouble Primary E) || fails Primary e.event))
tried-failover w E e h = rw (trouble-more Primary E e h, list_any-more (λ x. fails Primary x.event) (trouble Primary E) e) refl

pub tried-cleared : (w : Waits) (E : List HubEvent) (e : HubEvent) → clears Primary e.event ≡ true → is_tried w Failover (E ++ e ∷ []) ≡ (w.failover && false)
tried-cleared w E e h = rw (trouble-cleared Primary E e h) refl

-- ---- how long to wait

doubled : (g x : ℕ) → min g (2 * x) ≡ min g (2 * min g x)
doubled g x = omega arith

powers : (l n : ℕ) → l * 2 ^ (n + 1) ≡ 2 * (l * 2 ^ n)
powers l n = simp unary_clauses (grind arith)

pub wait-doubled : (w : Waits) (n : ℕ) → wait w (n + 1 + 1) ≡ min w.greatest (2 * wait w (n + 1))
wait-doubled w n =
    let a : n + 1 + 1 - 1 ≡ n + 1 = omega arith in
    let b : n + 1 - 1 ≡ n = omega arith in
    rw (a, b, powers w.least n) (doubled w.greatest (w.least * 2 ^ n))

pub wait-first : (w : Waits) → wait w (0 + 1) ≡ min w.greatest w.least
wait-first w = omega arith
