-- Where the Stop stands, and that all are woken with that place.
-- It serves the clauses of `serve_on` and `stop_first`.
use Rattle.std.proofs.Common.{◌≡◌, ℕ, ◌+◌, List, [], ◌∷◌, ◌++◌, length, take, Bool, true, false, ◌||◌, cond, Option, Some, None, Ok, Err, refl, ap, sym, ◌∙◌, arith, append_assoc, true≢false}
use Rattle.std.specs.Prelude.{Result, position}
use Rattle.std.specs.List.{list_any, position_from}
use Rattle.std.proofs.lemmas.Bool.{false_from_ne_true}
use Rattle.std.proofs.lemmas.List.{length-map, map-append, take_at}
use Rattle.std.proofs.lemmas.Iterator.Adapters.{position_from-zero}
use Rattle.bsc_history.specs.declared.counts.Counts.{Counts}
use Rattle.bsc_history.specs.declared.told.AlreadyStopped.{AlreadyStopped}
use Rattle.bsc_history.specs.declared.told.Told.{Told}
use Rattle.bsc_history.specs.declared.entry.Entry.{Entry}
use Rattle.bsc_history.specs.declared.mark.Stamped.{Stamped}
use Rattle.bsc_history.specs.Entries.{stops}
use Rattle.bsc_history.specs.Marks.{entries}
use Rattle.bsc_history.specs.Replies.{is_stopped}
use Rattle.bsc_history.proofs.More.{entries-more}
use Rattle.bsc_turn.specs.declared.pass.Pass.{Pass}
use Rattle.bsc_turn.specs.Histories.{StartsWith}
use Rattle.bsc_turn.specs.Passes.{number_of, seen}
use Rattle.bsc_hub.specs.declared.hub.Hub.{Hub}
use Rattle.bsc_hub.specs.Calls.{stop_stamped}
use Rattle.bsc_edge.specs.Told.{Grows}
use Rattle.bsc_serve.specs.Inner.{Stopped}
use Rattle.bsc_serve.specs.Waking.{LastIs, stop_place}
use Rattle.bsc_serve.proofs.Ending.{place_on}

-- the first that passes stands behind those that don't
first_place : (test : Entry → Bool) (i : ℕ) (xs ys : List Entry) (y : Entry) → list_any test xs ≡ false → test y ≡ true
    → position_from test i (xs ++ y ∷ ys) ≡ Some (i + length xs)
first_place test i [] ys y none is =
    let k : i ≡ i + 0 = omega arith in
    ap (λ b. cond b (Some i) (position_from test (i + 1) ys)) is ∙ ap (λ n. Some n) k
first_place test i (x ∷ xs) ys y none is = by (test x) (λ rest. first_place test (i + 1) xs ys y rest is) none
  where
    by : (b : Bool) → (list_any test xs ≡ false → position_from test (i + 1) (xs ++ y ∷ ys) ≡ Some (i + 1 + length xs))
        → (b || list_any test xs) ≡ false → cond b (Some i) (position_from test (i + 1) (xs ++ y ∷ ys)) ≡ Some (i + length (x ∷ xs))
    by true onward bad = absurd (true≢false bad)
    by false onward rest =
        let k : i + 1 + length xs ≡ i + length (x ∷ xs) = omega arith in
        onward rest ∙ ap (λ n. Some n) k

-- where the Stop stands in what a pass has seen later
pub stands_at : (h : Hub) (m v q : Pass) (r : Result (Told Counts) AlreadyStopped) → Stopped h m v r → StartsWith (seen q) (seen v)
    → position stops (entries (seen q)) ≡ Some (stop_place r)
stands_at h m v q (Err e) s more =
    let all : entries (seen q) ≡ entries (seen v) ++ entries more.0 = ap entries more.1 ∙ map-append (λ (x : Stamped). x.entry) (seen v) more.0 in
    ap (λ (H : List Entry). position stops H) all ∙ (position_from-zero stops (entries (seen v) ++ entries more.0)
    ∙ place_on stops 0 (entries (seen v)) (entries more.0) e.at (sym (position_from-zero stops (entries (seen v))) ∙ s.place))
stands_at h m v q (Ok t) s more =
    let one = s.passed.makes in
    let x : Stamped = stop_stamped (number_of m) t.said in
    let before : List Entry = entries one.before in
    let split : entries (seen v) ≡ before ++ x.entry ∷ [] = ap entries one.ends ∙ entries-more one.before x in
    let all : entries (seen q) ≡ before ++ x.entry ∷ entries more.0 =
    ap entries more.1 ∙ (map-append (λ (y : Stamped). y.entry) (seen v) more.0
    ∙ (ap (λ (H : List Entry). H ++ entries more.0) split ∙ append_assoc before (x.entry ∷ []) (entries more.0))) in
    let place : length before ≡ t.at = length-map one.before (λ (y : Stamped). y.entry) ∙ sym one.place in
    let found : take t.at (entries (seen v)) ≡ before = ap (λ (H : List Entry). take t.at H) split ∙ take_at before (x.entry ∷ []) t.at place in
    let running : is_stopped (take t.at (entries (seen v))) ≡ false =
    false_from_ne_true (is_stopped (take t.at (entries (seen v)))) (λ e. (let k : false ≡ true = s.refused.1 e in cc)) in
    let none : list_any stops before ≡ false = ap (λ (H : List Entry). is_stopped H) (sym found) ∙ running in
    let last : 0 + length before ≡ t.at = omega (arith, place) in
    ap (λ (H : List Entry). position stops H) all ∙ (position_from-zero stops (before ++ x.entry ∷ entries more.0)
    ∙ (first_place stops 0 before (entries more.0) x.entry none refl ∙ ap (λ n. Some n) last))

-- what was told grew by one
pub last_told : {A : Type 0} (old new : Option (List A)) (x : A) → Grows old new (x ∷ []) → LastIs new x
last_told old None x g = tt
last_told None (Some n) x g = absurd g
last_told (Some o) (Some n) x g = (o, g)
