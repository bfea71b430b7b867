-- Notes between the two ends keep the rule, and what the ends know of each other after them.
-- It serves the clauses of `load_head` and `tell_each_other`.
use Rattle.std.proofs.Common.{◌≡◌, ℕ, ◌≤◌, Bool, true, false, List, [], ◌∷◌, ◌++◌, length, drop, set, is_some, Option, Some, None, refl, sym, ◌∙◌, ap, subst, arith, append-nil, slice_index}
use Rattle.std.proofs.lemmas.List.{drop_at}
use Rattle.std.proofs.lemmas.Bool.{true≢false}
use mathlib.Core.Option.{some, none, some-ne-none}
use lib.ListN.{get_elem?}
use Rattle.atomic_table.specs.Table.{State, step, keeps, Allows, Splits, Joins}
use Rattle.atomic_table.proofs.Lists.{set_else}
use Rattle.bsc_history.specs.declared.ending.End.{End}
use Rattle.bsc_ring.specs.declared.found.Found.TheVariants.{Ending}
use Rattle.bsc_ring.specs.declared.view.View.{View}
use Rattle.bsc_ring.specs.Lists.{Item, StartsWith}
use Rattle.bsc_ring.specs.Rule.{count_given, SeatFits, is_inlet, is_outlet, RingKept}
use Rattle.bsc_ring.specs.Effects.{Seated, longer, either_end, note, spent_view, inlet_note, outlet_note, inlet_hears, outlet_hears, IsConsistent, Confirms, inlet_met, outlet_met, Agree}
use Rattle.bsc_ring.proofs.Keeping.{other_views}
use Rattle.bsc_ring.proofs.Views.{starts_trans, changed, split_all, one_after, one_split}

-- of two lists that one list begins with, the longer is such a list too
pub starts_longer : (whole a b : List Item) → StartsWith whole a → StartsWith whole b → StartsWith whole (longer a b)
starts_longer whole [] b h k = k
starts_longer whole (x ∷ xs) [] h k = subst (StartsWith whole) (sym (append-nil (x ∷ xs))) h
starts_longer whole (x ∷ xs) (y ∷ ys) h k =
    let rests : xs ++ h.0 ≡ ys ++ k.0 = ap (λ (l : List Item). drop 1 l) (sym h.1 ∙ k.1) in
    let ih = starts_longer (xs ++ h.0) xs ys (h.0, refl) (k.0, rests) in
    (ih.0, h.1 ∙ ap (λ (l : List Item). x ∷ l) ih.1)

pub longer_is : (a b : List Item) → StartsWith b a → longer a b ≡ b
longer_is a b h = ap (λ (l : List Item). a ++ drop (length a) l) h.1 ∙ ap (λ (l : List Item). a ++ l) (drop_at a h.0 (length a) refl) ∙ sym h.1

pub either_fits : (a b ending : Option End) → ((e : End) → a ≡ Some e → ending ≡ Some e) → ((e : End) → b ≡ Some e → ending ≡ Some e) → (e : End) → either_end a b ≡ Some e → ending ≡ Some e
either_fits None b ending f g e h = g e h
either_fits (Some d) b ending f g e h = f e h

pub either_is : (a b : Option End) → ((e : End) → a ≡ Some e → b ≡ Some e) → either_end a b ≡ b
either_is None b f = refl
either_is (Some d) b f = sym (f d refl)

either_keeps : (a b : Option End) (e : End) → a ≡ Some e → either_end a b ≡ Some e
either_keeps None b e h = absurd (let bad : None ≡ Some e = h in cc)
either_keeps (Some d) b e h = h

module _ (s : State (Option Item) View) (k : RingKept s) where
  abbrev Fit : View → Type 0
  Fit v = SeatFits k.head k.pushed k.ending k.writing k.reading v

  -- a new seat with a note
  noted : (id : ℕ) (v : View) (least : ℕ) (known : List Item) (whole : Bool) (heard : Option End) → get_elem? s.views id ≡ some v → StartsWith k.pushed known → least ≤ k.head
      → ((e : End) → heard ≡ Some e → k.ending ≡ Some e) → (whole ≡ true → (known ≡ k.pushed) × (is_some k.ending ≡ true))
      → RingKept (record { words = s.words; homes = s.homes; views = set s.views id v ++ note least known whole heard ∷ [] })
  noted id v least known whole heard at b l h t =
      other_views s k s.words k.words (set s.views id v ++ note least known whole heard ∷ [])
      (split_all s.views id v (note least known whole heard) Fit (k.fits id v at)
      (record {
        begins = b;
        gave = (known, refl);
        low = l;
        heard = h;
        recalls = λ i e bad. absurd (some-ne-none (Ending (Some e)) (sym bad));
        whole = t;
        inlet = λ bad. absurd (true≢false (sym bad));
        outlet = λ bad. absurd (true≢false (sym bad));
      })
      k.fits)
      (one_split is_inlet s.views id v at k.one_inlet v (note least known whole heard) (λ h. h) (λ bad. absurd (true≢false (sym bad))))
      (one_split is_outlet s.views id v at k.one_outlet v (note least known whole heard) (λ h. h) (λ bad. absurd (true≢false (sym bad))))

  spent_fits : Fit spent_view
  spent_fits = record {
    begins = (k.pushed, refl);
    gave = ([], refl);
    low = omega arith;
    heard = λ e bad. absurd (let clash : None ≡ Some e = bad in cc);
    recalls = λ i e bad. absurd (some-ne-none (Ending (Some e)) (sym bad));
    whole = λ bad. absurd (true≢false (sym bad));
    inlet = λ bad. absurd (true≢false (sym bad));
    outlet = λ bad. absurd (true≢false (sym bad));
  }

  heard_fits : (v w : View) → Fit v → Fit w → Fit (outlet_hears v w)
  heard_fits v w f g =
      record {
        begins = starts_longer k.pushed v.known w.known f.begins g.begins;
        gave = starts_trans (longer v.known w.known) v.known v.given (drop (length v.known) w.known, refl) f.gave;
        low = let a = f.low in let b = g.low in omega (arith, a, b);
        heard = either_fits v.heard w.heard k.ending f.heard g.heard;
        recalls = λ i e at. either_keeps v.heard w.heard e (f.recalls i e at);
        whole = λ h. let t = g.whole h in (ap (λ (l : List Item). longer v.known l) t.0 ∙ longer_is v.known k.pushed f.begins, t.1);
        inlet = f.inlet;
        outlet = f.outlet;
      }

  inlet_fits : (v w : View) → v.outlet ≡ false → Fit v → Fit w → Fit (inlet_hears v w)
  inlet_fits v w not_outlet f g =
      record {
        begins = g.begins;
        gave = (w.known, refl);
        low = let a = f.low in let b = g.low in omega (arith, a, b);
        heard = g.heard;
        recalls = λ i e bad. absurd (some-ne-none (Ending (Some e)) (sym bad));
        whole = g.whole;
        inlet = f.inlet;
        outlet = λ bad. absurd (true≢false (sym bad ∙ not_outlet));
      }

  joined : (id : ℕ) (v : View) (other : ℕ) (w both : View) → get_elem? s.views id ≡ some v → ¬ (other ≡ id) → get_elem? (set s.views id both) other ≡ some w
      → (Fit v → Fit w → Fit both) → (both.inlet ≡ true → v.inlet ≡ true) → (both.outlet ≡ true → v.outlet ≡ true)
      → RingKept (record { words = s.words; homes = s.homes; views = set (set s.views id both) other spent_view })
  joined id v other w both at apart there_ fit i o =
      let there' : get_elem? s.views other ≡ some w = sym (set_else s.views id other both apart) ∙ there_ in
      let fits' = changed s.views id both Fit (fit (k.fits id v at) (k.fits other w there')) (λ j x _ got. k.fits j x got) in
      other_views s k s.words k.words (set (set s.views id both) other spent_view)
      (changed (set s.views id both) other spent_view Fit spent_fits (λ j x _ got. fits' j x got))
      (one_after is_inlet (set s.views id both) other w there_ (one_after is_inlet s.views id v at k.one_inlet both i) spent_view (λ bad. absurd (true≢false (sym bad))))
      (one_after is_outlet (set s.views id both) other w there_ (one_after is_outlet s.views id v at k.one_outlet both o) spent_view (λ bad. absurd (true≢false (sym bad))))

pub notes_inlet : (id : ℕ) (v : View) → v.inlet ≡ true → Splits RingKept id v v (inlet_note v)
notes_inlet id v is s k at =
    let mine = k.fits id v at in
    let own = mine.inlet is in
    noted s k id v v.least v.pushed (is_some v.ended) v.ended at ([], sym own.0 ∙ sym (append-nil v.pushed)) mine.low (λ e h. sym own.1 ∙ h)
    (λ h. (own.0, ap (λ (e : Option End). is_some e) (sym own.1) ∙ h))

pub notes_outlet : (id : ℕ) (v : View) → v.outlet ≡ true → v.reading ≡ false → Splits RingKept id v v (outlet_note v)
notes_outlet id v is idle s k at =
    let mine = k.fits id v at in
    let own = mine.outlet is in
    let count : length v.given ≡ k.head = own.0 ∙ ap (λ (b : Bool). count_given b k.head) (sym own.1 ∙ idle) in
    noted s k id v (length v.given) v.known v.whole v.heard at mine.begins (omega (arith, count)) mine.heard mine.whole

pub joins_inlet : (id : ℕ) (v : View) (other : ℕ) (w : View) → v.outlet ≡ false → Joins RingKept id v other w (inlet_hears v w) spent_view
joins_inlet id v other w not_outlet s k at apart there_ = joined s k id v other w (inlet_hears v w) at apart there_ (inlet_fits s k v w not_outlet) (λ h. h) (λ h. h)

pub joins_outlet : (id : ℕ) (v : View) (other : ℕ) (w : View) → Joins RingKept id v other w (outlet_hears v w) spent_view
joins_outlet id v other w s k at apart there_ = joined s k id v other w (outlet_hears v w) at apart there_ (heard_fits s k v w) (λ h. h) (λ h. h)

consistent : (s : State (Option Item) View) (k : RingKept s) (id : ℕ) (v : View) → get_elem? s.views id ≡ some v → IsConsistent v
consistent s k id v at =
    let mine = k.fits id v at in (
      mine.gave,
      mine.recalls,
      (λ is. let own = mine.inlet is in (subst (λ (l : List Item). StartsWith l v.known) (sym own.0) mine.begins, (λ h. (mine.whole h).0 ∙ sym own.0), λ e h. own.1 ∙ mine.heard e h)),
      λ is idle.
          let own = mine.outlet is in
          let count : length v.given ≡ k.head = own.0 ∙ ap (λ (b : Bool). count_given b k.head) (sym own.1 ∙ idle) in
          let l = mine.low in omega (arith, count, l),
    )

pub confirms : (id slots : ℕ) (me : Seated) → Allows RingKept slots id me 0 (λ n. n) (Confirms (step slots 0 0 0 none) me)
confirms id slots me s k wide at small =
    let kept : RingKept (record { words = set s.words 0 (slice_index s.words 0); homes = s.homes; views = set s.views id me.0 }) =
    other_views s k (set s.words 0 (slice_index s.words 0)) (ap (λ (ws : List ℕ). set ws 0 (slice_index ws 0)) k.words) (set s.views id me.0)
    (changed s.views id me.0 (Fit s k) (k.fits id me.0 at) (λ i x _ got. k.fits i x got))
    (one_after is_inlet s.views id me.0 at k.one_inlet me.0 (λ h. h))
    (one_after is_outlet s.views id me.0 at k.one_outlet me.0 (λ h. h)) in
    (me.0, keeps, tt, kept, (refl, consistent s k id me.0 at))

pub agrees : (v w : View) → v.inlet ≡ true → w.outlet ≡ true → w.reading ≡ false → IsConsistent (inlet_met v w) → IsConsistent (outlet_met v w) → Agree v w (inlet_met v w) (outlet_met v w)
agrees v w is os idle t u =
    let a = t.2 is in
    let b = u.3 os idle in
    let known : longer w.known v.pushed ≡ v.pushed = longer_is w.known v.pushed a.0 in
    record {
      begins = subst (λ (l : List Item). StartsWith l w.given) known u.0;
      least = omega (arith, b);
      known = known;
      heard = either_is w.heard v.ended a.2;
      set = a.2;
      recalls = u.1;
      whole = a.1;
    }
