-- It is looked whether the stop is asked for.
-- It serves the clauses of `accept_all` and `requests_need_askers`.
use Rattle.std.proofs.Common.{⊎_elim, ◌≡◌, ℕ, ◌+◌, ◌≤◌, List, [], ◌∷◌, ◌++◌, Bool, true, false, Option, map, refl, ap, ap₂, sym, ◌∙◌, subst, arith, append-nil}
use Rattle.std.specs.Prelude.{◌<◌, replicate}
use Rattle.std.proofs.lemmas.List.{map-append, replicate_more}
use Rattle.bsc_history.specs.declared.counts.Counts.{Counts}
use Rattle.bsc_history.specs.declared.entry.Entry.{Entry}
use Rattle.bsc_outside.specs.Faults.{HasRisen}
use Rattle.bsc_outside.proofs.Common.{risen_from}
use Rattle.bsc_edge.specs.Told.{Grows}
use Rattle.bsc_edge.proofs.Common.{grows_none, grows_then}
use Rattle.bsc_serve.specs.declared.bounds.TheConstants.{WAIT_MS}
use Rattle.bsc_serve.specs.declared.end.ServeEnd.TheVariants.{Requested}
use Rattle.bsc_serve.specs.declared.session_look.SessionLook.{SessionLook}
use Rattle.bsc_serve.specs.Asking.{Asking, EndsAfter, Looked, RequestsNeedAskers, look_at}
use Rattle.bsc_serve.proofs.Arrivals.{asks_once}

-- before the first look
pub looked_none : (e : List Entry) (waits : Option (List ℕ)) (a : Asking) → Looked e waits waits a a false
looked_none e waits a = record {
  asks = 0;
  waited = grows_none waits;
  looks = grows_none a.looks;
  rose = λ e. absurd (let k : false ≡ true = e in cc);
  later = omega arith;
  endings = refl;
}

looks_then : (e : List Entry) (a b c : Option (List SessionLook)) (n : ℕ) (xs : List Bool) → Grows a b (map (look_at e) (replicate n false ++ [])) → Grows b c (map (look_at e) xs)
    → Grows a c (map (look_at e) (replicate n false ++ xs))
looks_then e a b c n xs one more =
    subst (λ (l : List SessionLook). Grows a c l) (sym (map-append (look_at e) (replicate n false) xs))
    (grows_then a b c (map (look_at e) (replicate n false)) (map (look_at e) xs)
    (subst (λ (l : List Bool). Grows a b (map (look_at e) l)) (append-nil (replicate n false)) one) more)

-- a look told as it was
looks_so : (e own : List Entry) (b c : Option (List SessionLook)) (answer is : Bool) → own ≡ e → answer ≡ is → Grows b c (look_at own answer ∷ []) → Grows b c (look_at e is ∷ [])
looks_so e own b c answer is same found told = subst (λ (l : SessionLook). Grows b c (l ∷ [])) (ap₂ (λ (x : List Entry) (y : Bool). look_at x y) same found) told

-- it wasn't asked for, and the acceptor was asked
pub looked_more : (e own : List Entry) (w m v : Option (List ℕ)) (a b c : Asking) (answer : Bool) → Looked e w m a b false → own ≡ e → Grows m v (WAIT_MS ∷ [])
    → answer ≡ false → Grows b.looks c.looks (look_at own answer ∷ []) → b.asked ≤ c.asked → c.endings ≡ b.endings → Looked e w v a c false
looked_more e own w m v a b c answer l same_own asked is told later same = record {
  asks = l.asks + 1;
  waited = asks_once w m v l.asks l.waited asked;
  looks = subst (λ (x : List Bool). Grows a.looks c.looks (map (look_at e) x)) (replicate_more l.asks false ∙ sym (append-nil (replicate (l.asks + 1) false)))
      (looks_then e a.looks b.looks c.looks l.asks (false ∷ []) l.looks (looks_so e own b.looks c.looks answer false same_own is told));
  rose = λ e. absurd (let k : false ≡ true = e in cc);
  later = (let k = l.later in omega (arith, k, later));
  endings = same ∙ l.endings;
}

-- it was
pub looked_last : (e own : List Entry) (w m : Option (List ℕ)) (a b c : Asking) (answer : Bool) → Looked e w m a b false → own ≡ e → answer ≡ true
    → Grows b.looks c.looks (look_at own answer ∷ []) → HasRisen b.asked c.asked → b.asked ≤ c.asked → c.endings ≡ b.endings → Looked e w m a c true
looked_last e own w m a b c answer l same_own is told rose later same = record {
  asks = l.asks;
  waited = l.waited;
  looks = looks_then e a.looks b.looks c.looks l.asks (true ∷ []) l.looks (looks_so e own b.looks c.looks answer true same_own is told);
  rose = λ e. risen_from a.asked b.asked c.asked l.later rose;
  later = (let k = l.later in omega (arith, k, later));
  endings = same ∙ l.endings;
}

-- where the count of the asker stands at 0, no end says that it asked
pub needs_asker : RequestsNeedAskers
needs_asker entered waits waits' before after counts u none s = by s.is_asked s.looked s.ends
  where
    by : (is : Bool) → Looked entered waits waits' before after is → EndsAfter is (Requested counts u) → ⊥
    by true l e =
        ⊎_elim
        (λ (k : before.asked < after.asked). (let bad : ⊥ = omega (arith, none, k) in bad))
        (λ (k : 18446744073709551615 ≤ after.asked). (let bad : ⊥ = omega (arith, none, k) in bad))
        (l.rose refl)
    by false l e = e
