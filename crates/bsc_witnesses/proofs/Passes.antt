-- Passes of a hub, written out: whatever hub it is, and with it what a pass of it knows.
use Rattle.std.proofs.Common.{◌≡◌, ◌≢◌, ℕ, ◌≤◌, true, false, cond, List, [], ◌∷◌, refl, sym, ap, ◌∙◌, arith, lit≤, ne_eqb}
use Rattle.std.specs.List.{AllByRecursion}
use Rattle.std.proofs.lemmas.List.Elements.{All-push}
use mathlib.Core.Option.{some}
use lib.ListN.{get_elem?}
use Rattle.bsc_history.specs.declared.entry.Entry.{Entry}
use Rattle.bsc_history.specs.declared.mark.Stamped.{Stamped}
use Rattle.bsc_turn.specs.declared.pass.Pass.{Pass}
use Rattle.bsc_turn.specs.declared.phase.SeatPhase.TheVariants.{Outside}
use Rattle.bsc_turn.specs.declared.view.EndedCaller.{EndedCaller}
use Rattle.bsc_turn.specs.declared.view.View.{View}
use Rattle.bsc_turn.specs.Callers.{AreUpTo, NobodyElse, Rises, callers_in, has}
use Rattle.bsc_turn.specs.Effects.{IsConsistent}
use Rattle.bsc_turn.specs.Histories.{own_of}
use Rattle.bsc_turn.specs.Passes.{IsPassOf, callers_of, first_state}
use Rattle.bsc_turn.specs.Rule.{first_view}
use Rattle.bsc_hub.specs.declared.hub.Hub.{Hub}
use Rattle.bsc_hub.specs.Passing.{fixed_of}

-- ---- lists

pub nothing_at : (i : ℕ) (e : EndedCaller) → get_elem? {A = EndedCaller} [] i ≡ some e → ⊥
nothing_at i e at = cc

pub none_rise : Rises []
none_rise = λ i j d lt within. absurd (omega (arith, within))

pub one_rises : (n : ℕ) → Rises (n ∷ [])
one_rises n = λ i j d lt within. absurd (omega (arith, lt, within))

pub none_up_to : (n : ℕ) → AreUpTo n []
none_up_to n = λ i d within. absurd (omega (arith, within))

pub one_up_to : (n m : ℕ) → m ≤ n → AreUpTo n (m ∷ [])
one_up_to n m le = All-push (λ (k : ℕ). k ≤ n) [] m (none_up_to n) le

-- ---- whose entries

-- entries of caller 0 are of no other
none_of : (S : List Stamped) → AllByRecursion (λ (s : Stamped). s.entry.caller ≡ 0) S → (n : ℕ) → 0 ≢ n → own_of S n ≡ []
none_of [] all n other = refl
none_of (s ∷ S) all n other =
    ap (λ b. cond b (s.entry ∷ own_of S n) (own_of S n)) (ne_eqb s.entry.caller n (λ (e : s.entry.caller ≡ n). other (sym all.0 ∙ e))) ∙ none_of S all.1 n other

pub nobody_but_0 : (v : View) → AllByRecursion (λ (s : Stamped). s.entry.caller ≡ 0) v.seen → NobodyElse v
nobody_but_0 v mine all n none =
    none_of v.seen mine n (λ (e : 0 ≡ n). let bad : true ≡ false = sym all.0 ∙ (ap (λ (m : ℕ). has (callers_in v) m) e ∙ none) in cc)

-- ---- passes

module _ (h : Hub) where
  -- what caller 0 knows that has seen this much, and entered this
  abbrev pub view : List Stamped → List Entry → View
  view seen own = record (first_view (fixed_of (first_state h.turn)) (callers_of h.turn)) { seen = seen; own = own }

  -- a pass of the hub that knows this, from any pass
  abbrev pub knowing : Pass → View → Pass
  knowing p v = record p { badge = record (p.badge) { table_id = h.turn.table.shared.table_id; views = v ∷ [] }; number = v.number }

  pub is_pass : (p : Pass) (v : View) → v.live ≡ true → v.phase ≡ Outside → v.about ≡ fixed_of (first_state h.turn) → v.callers ≡ callers_of h.turn → IsConsistent v
      → IsPassOf fixed_of h.turn (knowing p v)
  is_pass p v live phase about callers consistent = (refl, (refl, (live, phase, refl, about, callers, consistent)))

  -- A view without other callers says of itself what the rule says.
  pub consistent : (seen : List Stamped) (own : List Entry) → own_of seen 0 ≡ own → AllByRecursion (λ (s : Stamped). s.entry.caller ≡ 0) seen → IsConsistent (view seen own)
  consistent seen own owns mine = (
    owns,
    λ i e at. absurd (nothing_at i e at),
    lit≤ tt,
    λ i e at. absurd (nothing_at i e at),
    nobody_but_0 (view seen own) mine,
    none_rise,
    none_up_to 0,
  )
