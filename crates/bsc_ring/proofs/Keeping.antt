-- Each step keeps the rule.
-- It serves clauses of functions of `steps`.
use Rattle.std.proofs.Common.{◌≡◌, ◌≢◌, ℕ, suc, ◌+◌, ◌%◌, ◌<◌, ◌≤◌, Bool, true, false, List, [], ◌∷◌, ◌++◌, length, set, is_some, Option, Some, None, ⊎_elim, refl, sym, ◌∙◌, ap}
use Rattle.std.proofs.Common.{subst, arith, length-append, append-nil, slice_index, slice_set}
use Rattle.std.proofs.lemmas.Bool.{true≢false}
use mathlib.Core.Option.{some, none}
use mathlib.Core.Logic.{dite}
use native.Mathlib.Decide.{ℕ_discrete}
use lib.ListN.{get_elem?}
use Rattle.atomic_table.specs.Table.{State, step, Act, keeps, takes, gives, Allows, Valid, homes_after, carried_after, put_back}
use Rattle.atomic_table.proofs.Lists.{at_snoc}
use Rattle.bsc_history.specs.declared.ending.End.{End}
use Rattle.bsc_history.specs.declared.ending.End.TheVariants.{Left, Replaced, Full, Stopped}
use Rattle.bsc_ring.specs.declared.found.Found.{Found}
use Rattle.bsc_ring.specs.declared.found.Found.TheVariants.{Ending, Tail}
use Rattle.bsc_ring.specs.declared.view.View.{View}
use Rattle.bsc_ring.specs.Lists.{Item, StartsWith}
use Rattle.bsc_ring.specs.Rule.{Homes, end_number, count_given, Stored, SeatFits, AtMostOne, is_inlet, is_outlet, RingKept, Recalls, end_in}
use Rattle.bsc_ring.specs.Effects.{Seated, in_hand, LoadsHead, StoresTail, after_end, LoadsEnd, after_none, LoadsTail, StoresHead, StoresEnd}
use Rattle.bsc_ring.proofs.Slots.{there, tail_home, tail_out, tail_back, head_home, head_out, head_back}
use Rattle.bsc_ring.proofs.Views.{starts_whole, next_starts, starts_length, longer_starts, starts_trans, changed, one_after}
use Rattle.bsc_history.proofs.Common.{end_is as some_once}

pub end_in_number : (e : Option End) → end_in (end_number e) ≡ e
end_in_number None = refl
end_in_number (Some Left) = refl
end_in_number (Some Replaced) = refl
end_in_number (Some Full) = refl
end_in_number (Some Stopped) = refl

abbrev recalls_in : List Found → Option End → Type 0
recalls_in found h = (i : ℕ) (e : End) → get_elem? found i ≡ some (Ending (Some e)) → h ≡ Some e

recalls_tail : (found : List Found) (n : ℕ) (h : Option End) → recalls_in found h → recalls_in (found ++ Tail n ∷ []) h
recalls_tail found n h old i e at = ⊎_elim (λ there_. old i e there_) (λ bad. absurd (tail_not n (Some e) bad)) (at_snoc found (Tail n) (Ending (Some e)) i at)
  where
    tail_not : (n : ℕ) (d : Option End) → Tail n ≡ Ending d → ⊥
    tail_not n d bad = cc

heard_some : (h ending : Option End) → ((e : End) → h ≡ Some e → ending ≡ Some e) → is_some h ≡ true → is_some ending ≡ true
heard_some None ending f bad = absurd (true≢false (sym bad))
heard_some (Some d) ending f h = ap (λ (e : Option End). is_some e) (f d refl)

abbrev found_end : Option End → Found → Option End
found_end d (Ending e) = e
found_end d (Tail n) = d

recalls_end : (v : View) (h : Option End) → ((d : End) → v.heard ≡ Some d → h ≡ Some d) → Recalls v → Recalls (after_end h v)
recalls_end v h keeps_ old i e at = ⊎_elim (λ there_. keeps_ e (old i e there_)) (λ new. ap (λ (f : Found). found_end h f) new) (at_snoc v.found (Ending h) (Ending (Some e)) i at)

-- the rule where only the views are others, and the words say the same
pub other_views : (s : State (Option Item) View) (k : RingKept s) (ws : List ℕ) → ws ≡ k.head ∷ length k.pushed ∷ end_number k.ending ∷ [] → (views : List View)
    → ((i : ℕ) (v : View) → get_elem? views i ≡ some v → SeatFits k.head k.pushed k.ending k.writing k.reading v) → AtMostOne is_inlet views → AtMostOne is_outlet views
    → RingKept (record { words = ws; homes = s.homes; views = views })
other_views s k ws words views fits one_inlet one_outlet =
    record {
      cap = k.cap;
      head = k.head;
      pushed = k.pushed;
      ending = k.ending;
      writing = k.writing;
      reading = k.reading;
      words = words;
      named = k.named;
      stored = k.stored;
      fits = fits;
      one_inlet = one_inlet;
      one_outlet = one_outlet;
    }

module _ (id slots : ℕ) (me : Seated) (s : State (Option Item) View) (k : RingKept s) (wide : length s.homes ≡ slots) (at : get_elem? s.views id ≡ some me.0) where
  abbrev homes : Homes
  homes = s.homes

  abbrev views : List View
  views = s.views

  abbrev head : ℕ
  head = k.head

  abbrev pushed : List Item
  pushed = k.pushed

  abbrev ending : Option End
  ending = k.ending

  abbrev writing : Bool
  writing = k.writing

  abbrev reading : Bool
  reading = k.reading

  abbrev words : List ℕ
  words = head ∷ length pushed ∷ end_number ending ∷ []

  -- as many slots as the step sees
  stored : Stored slots head pushed writing reading homes
  stored = subst (λ (c : ℕ). Stored c head pushed writing reading homes) (sym k.stored.size ∙ wide) k.stored

  -- the rule still holds when the word i of the words ws is n and the seat has its new view
  abbrev KeepsRule : ℕ → ℕ → (Seated → Type 0) → List ℕ → Type 0
  KeepsRule i n told ws =
      (w : View) × (a : Act (Option Item)) × Valid homes me.1 a
      × RingKept (record { words = slice_set ws i n; homes = homes_after homes me.1 a; views = slice_set views id w })
      × told (w, carried_after me.1 a)

  mine : SeatFits head pushed ending writing reading me.0
  mine = k.fits id me.0 at

  others_inlet : me.0.inlet ≡ true → (i : ℕ) (x : View) → i ≢ id → get_elem? views i ≡ some x → x.inlet ≡ true → ⊥
  others_inlet is i x other got has = other (k.one_inlet i id x me.0 got at has is)

  others_outlet : me.0.outlet ≡ true → (i : ℕ) (x : View) → i ≢ id → get_elem? views i ≡ some x → x.outlet ≡ true → ⊥
  others_outlet is i x other got has = other (k.one_outlet i id x me.0 got at has is)

  remade : (head' : ℕ) (pushed' : List Item) (ending' : Option End) (writing' reading' : Bool) (ws : List ℕ) (homes' : Homes) (w : View)
      → ws ≡ head' ∷ length pushed' ∷ end_number ending' ∷ [] → ending' ≢ Some Left → Stored slots head' pushed' writing' reading' homes'
      → SeatFits head' pushed' ending' writing' reading' w
      → ((i : ℕ) (x : View) → i ≢ id → get_elem? views i ≡ some x → SeatFits head' pushed' ending' writing' reading' x)
      → (w.inlet ≡ true → me.0.inlet ≡ true) → (w.outlet ≡ true → me.0.outlet ≡ true)
      → RingKept (record { words = ws; homes = homes'; views = set views id w })
  remade head' pushed' ending' writing' reading' ws homes' w e n st here there i o =
      record {
        cap = slots;
        head = head';
        pushed = pushed';
        ending = ending';
        writing = writing';
        reading = reading';
        words = e;
        named = n;
        stored = st;
        fits = changed views id w (SeatFits head' pushed' ending' writing' reading') here there;
        one_inlet = one_after is_inlet views id me.0 at k.one_inlet w i;
        one_outlet = one_after is_outlet views id me.0 at k.one_outlet w o;
      }

  module _ (empty : me.1 ≡ []) (is : me.0.inlet ≡ true) (idle : me.0.writing ≡ false) where
    head_at : KeepsRule 0 head (LoadsHead (step slots 0 0 0 none) me head) words
    head_at =
        let own = mine.inlet is in
        let same : length me.0.pushed ≡ length pushed = ap (λ (l : List Item). length l) own.0 in
        let free : writing ≡ false = sym own.2 ∙ idle in
        let behind = stored.behind in
        let within = stored.within in
        let a : me.0.least ≤ head = mine.low in
        let b : head ≤ length me.0.pushed = omega (arith, behind, same) in
        let c : length me.0.pushed ≤ head + slots = omega (arith, within, same) in
        dite (ℕ_discrete (length me.0.pushed) (head + slots))
        (λ (full : length me.0.pushed ≡ head + slots).
        let w : View = record me.0 { loads = me.0.loads ++ head ∷ []; least = head } in (
          w,
          keeps,
          tt,
          remade head pushed ending writing reading words homes w refl k.named stored
              (record { begins = mine.begins; gave = mine.gave; low = omega arith; heard = mine.heard; recalls = mine.recalls; whole = mine.whole; inlet = mine.inlet; outlet = mine.outlet })
              (λ i x _ got. k.fits i x got) (λ h. h) (λ h. h),
          (a, b, c, (λ _. ap (λ (m : List (ℕ × Option Item)). (w, m)) empty), λ no. absurd (no full)),
        ))
        (λ (roomy : length me.0.pushed ≢ head + slots).
        let room : length pushed < head + slots = omega (arith, roomy, same, within) in
        let w : View = record me.0 { loads = me.0.loads ++ head ∷ []; least = head; writing = true } in (
          w,
          takes (length pushed % slots) None,
          tail_home slots head pushed writing reading homes stored free room,
          remade head pushed ending true reading words (set homes (length pushed % slots) none) w refl k.named (tail_out slots head pushed writing reading homes stored room)
              (record {
                begins = mine.begins;
                gave = mine.gave;
                low = omega arith;
                heard = mine.heard;
                recalls = mine.recalls;
                whole = mine.whole;
                inlet = λ _. (own.0, own.1, refl);
                outlet = mine.outlet;
              })
              (λ i x other got. let f = k.fits i x got in record {
                begins = f.begins;
                gave = f.gave;
                low = f.low;
                heard = f.heard;
                recalls = f.recalls;
                whole = f.whole;
                inlet = λ has. absurd (others_inlet is i x other got has);
                outlet = f.outlet;
              })
              (λ h. h) (λ h. h),
          (a, b, c, (λ full. absurd (roomy full)), λ _. ap (λ (m : List (ℕ × Option Item)). (w, (length pushed % slots, None) ∷ m)) empty ∙ ap (λ (n : ℕ). (w, (n % slots, None) ∷ [])) (sym same)),
        ))

  module _ (x : Item) (carried : me.1 ≡ (length me.0.pushed % slots, Some x) ∷ []) (is : me.0.inlet ≡ true) (busy : me.0.writing ≡ true) (open_ : me.0.ended ≡ None) where
    still_open : {b : Bool} {known : List Item} → b ≡ true → (b ≡ true → (known ≡ pushed) × (is_some ending ≡ true)) → ⊥
    still_open h f = true≢false (sym (f h).1 ∙ ap (λ (e : Option End). is_some e) (sym (mine.inlet is).1 ∙ open_))

    tail_put : KeepsRule 1 (length me.0.pushed + 1) (StoresTail (step slots 1 (length me.0.pushed + 1) 0 none) me (length me.0.pushed + 1)) words
    tail_put =
        let own = mine.inlet is in
        let same : length me.0.pushed ≡ length pushed = ap (λ (l : List Item). length l) own.0 in
        let out : writing ≡ true = sym own.2 ∙ busy in
        let pushed' : List Item = pushed ++ x ∷ [] in
        let more : length me.0.pushed + 1 ≡ length pushed' = omega (arith, same, length-append pushed (x ∷ [])) in
        let w : View = record me.0 { pushed = me.0.pushed ++ in_hand me.1; writing = false } in
        let new : me.0.pushed ++ in_hand me.1 ≡ pushed' = ap (λ (m : List (ℕ × Option Item)). me.0.pushed ++ in_hand m) carried ∙ ap (λ (l : List Item). l ++ x ∷ []) own.0 in
        let slot : me.1 ≡ (length pushed % slots, Some x) ∷ [] = carried ∙ ap (λ (n : ℕ). (n % slots, Some x) ∷ []) same in (
          w,
          gives,
          tt,
          remade head pushed' ending false reading (head ∷ (length me.0.pushed + 1) ∷ end_number ending ∷ []) (put_back homes me.1) w (ap (λ (n : ℕ). head ∷ n ∷ end_number ending ∷ []) more) k.named
              (subst (λ (m : List (ℕ × Option Item)). Stored slots head pushed' false reading (put_back homes m)) (sym slot) (tail_back slots head pushed writing reading homes stored x out))
              (record {
                begins = longer_starts pushed me.0.known (x ∷ []) mine.begins;
                gave = mine.gave;
                low = mine.low;
                heard = mine.heard;
                recalls = mine.recalls;
                whole = λ h. absurd (still_open h mine.whole);
                inlet = λ _. (new, own.1, refl);
                outlet = mine.outlet;
              })
              (λ i y other got. let f = k.fits i y got in record {
                begins = longer_starts pushed y.known (x ∷ []) f.begins;
                gave = f.gave;
                low = f.low;
                heard = f.heard;
                recalls = f.recalls;
                whole = λ h. absurd (still_open h f.whole);
                inlet = λ has. absurd (others_inlet is i y other got has);
                outlet = f.outlet;
              })
              (λ h. h) (λ h. h),
          ap (λ (m : List (ℕ × Option Item)). (w, Rattle.atomic_table.specs.Table.rest m)) carried,
        )

  module _ (n : ℕ) (e : End) (means : n ≡ end_number (Some e)) (right : e ≢ Left) (is : me.0.inlet ≡ true) (open_ : me.0.ended ≡ None) where
    end_put : KeepsRule 2 n (StoresEnd (step slots 2 n 0 none) me n) words
    end_put =
        let own = mine.inlet is in
        let none_yet : ending ≡ None = sym own.1 ∙ open_ in
        let same : end_in n ≡ Some e = ap end_in means ∙ end_in_number (Some e) in
        let w : View = record me.0 { ended = end_in n } in
        let never : (d : End) → ending ≡ Some d → Some e ≡ Some d = λ d h. absurd (let clash : None ≡ Some d = sym none_yet ∙ h in cc) in (
          w,
          keeps,
          tt,
          remade head pushed (Some e) writing reading (head ∷ length pushed ∷ n ∷ []) homes w (ap (λ (m : ℕ). head ∷ length pushed ∷ m ∷ []) means) (λ bad. right (some_once e Left bad)) stored
              (record {
                begins = mine.begins;
                gave = mine.gave;
                low = mine.low;
                heard = λ d h. never d (mine.heard d h);
                recalls = mine.recalls;
                whole = λ h. ((mine.whole h).0, refl);
                inlet = λ _. (own.0, same, own.2);
                outlet = mine.outlet;
              })
              (λ i x other got. let f = k.fits i x got in record {
                begins = f.begins;
                gave = f.gave;
                low = f.low;
                heard = λ d h. never d (f.heard d h);
                recalls = f.recalls;
                whole = λ h. ((f.whole h).0, refl);
                inlet = λ has. absurd (others_inlet is i x other got has);
                outlet = f.outlet;
              })
              (λ h. h) (λ h. h),
          refl,
        )

  module _ (is : me.0.outlet ≡ true) where
    end_asked : KeepsRule 2 (end_number ending) (LoadsEnd (step slots 2 0 0 none) me (end_number ending)) words
    end_asked =
        let same : end_in (end_number ending) ≡ ending = end_in_number ending in
        let w : View = after_end (end_in (end_number ending)) me.0 in (
          w,
          keeps,
          tt,
          remade head pushed ending writing reading words homes w refl k.named stored
              (record {
                begins = mine.begins;
                gave = mine.gave;
                low = mine.low;
                heard = λ e h. sym same ∙ h;
                recalls = recalls_end me.0 (end_in (end_number ending)) (λ d h. same ∙ mine.heard d h) mine.recalls;
                whole = mine.whole;
                inlet = mine.inlet;
                outlet = mine.outlet;
              })
              (λ i x _ got. k.fits i x got) (λ h. h) (λ h. h),
          ((λ bad. k.named (sym same ∙ bad)), (λ h. ap (λ (e : Option End). is_some e) same ∙ (mine.whole h).1), (λ d h. same ∙ mine.heard d h), refl),
        )

    module _ (empty : me.1 ≡ []) (idle : me.0.reading ≡ false) where
      tail_at : KeepsRule 1 (length pushed) (LoadsTail (step slots 1 0 0 none) me (length pushed)) words
      tail_at =
          let own = mine.outlet is in
          let free : reading ≡ false = sym own.1 ∙ idle in
          let count : length me.0.given ≡ head = own.0 ∙ ap (λ (b : Bool). count_given b head) free in
          let whole : StartsWith pushed me.0.given = starts_trans pushed me.0.known me.0.given mine.begins mine.gave in
          let self : StartsWith pushed pushed = ([], sym (append-nil pushed)) in
          let behind = stored.behind in
          dite (ℕ_discrete (length pushed) (length me.0.given))
          (λ (none_left : length pushed ≡ length me.0.given).
          let all : pushed ≡ me.0.given = starts_whole pushed me.0.given whole none_left in
          let w : View = after_none me.0 in (
            w,
            keeps,
            tt,
            remade head pushed ending writing reading words homes w refl k.named stored
                (record {
                  begins = whole;
                  gave = ([], sym (append-nil me.0.given));
                  low = mine.low;
                  heard = mine.heard;
                  recalls = recalls_tail me.0.found (length me.0.given) me.0.heard mine.recalls;
                  whole = λ h. (sym all, heard_some me.0.heard ending mine.heard h);
                  inlet = mine.inlet;
                  outlet = mine.outlet;
                })
                (λ i x _ got. k.fits i x got) (λ h. h) (λ h. h),
            (
              (λ _. (subst (λ (l : List Item). StartsWith l me.0.known) all mine.begins, (λ h. sym all ∙ sym (mine.whole h).0), ap (λ (m : List (ℕ × Option Item)). (w, m)) empty)),
              λ no. absurd (no none_left),
            ),
          ))
          (λ (more : length pushed ≢ length me.0.given).
          let left : head < length pushed = omega (arith, more, count, behind) in
          let next = there pushed head left in
          let x : Item = next.0 in
          let one_more : StartsWith pushed (me.0.given ++ x ∷ []) = next_starts pushed me.0.given x whole (subst (λ (n : ℕ). get_elem? pushed n ≡ some x) (sym count) next.1) in
          let w : View = record me.0 { known = pushed; whole = is_some me.0.heard; found = me.0.found ++ Tail (length pushed) ∷ []; given = me.0.given ++ x ∷ []; reading = true } in (
            w,
            takes (head % slots) (Some x),
            head_home slots head pushed writing reading homes stored x free next.1,
            remade head pushed ending writing true words (set homes (head % slots) none) w refl k.named (head_out slots head pushed writing reading homes stored left)
                (record {
                  begins = self;
                  gave = one_more;
                  low = mine.low;
                  heard = mine.heard;
                  recalls = recalls_tail me.0.found (length pushed) me.0.heard mine.recalls;
                  whole = λ h. (refl, heard_some me.0.heard ending mine.heard h);
                  inlet = mine.inlet;
                  outlet = λ _. (omega (arith, length-append me.0.given (x ∷ []), count), refl);
                })
                (λ i y other got. let f = k.fits i y got in record {
                  begins = f.begins;
                  gave = f.gave;
                  low = f.low;
                  heard = f.heard;
                  recalls = f.recalls;
                  whole = f.whole;
                  inlet = f.inlet;
                  outlet = λ has. absurd (others_outlet is i y other got has);
                })
                (λ h. h) (λ h. h),
            (
              (λ same. absurd (more same)),
              λ _. (
                pushed,
                x,
                (mine.begins, (λ h. sym (mine.whole h).0), refl, one_more, omega (arith, left, count)),
                ap (λ (m : List (ℕ × Option Item)). (w, (head % slots, Some x) ∷ m)) empty ∙ ap (λ (n : ℕ). (w, (n % slots, Some x) ∷ [])) (sym count),
              ),
            ),
          ))

    module _ (n : ℕ) (counted : n + 1 ≡ length me.0.given) (carried : me.1 ≡ (n % slots, None) ∷ []) (busy : me.0.reading ≡ true) where
      head_freed : KeepsRule 0 (n + 1) (StoresHead (step slots 0 (n + 1) 0 none) me (n + 1)) words
      head_freed =
          let own = mine.outlet is in
          let out : reading ≡ true = sym own.1 ∙ busy in
          let count : length me.0.given ≡ suc head = own.0 ∙ ap (λ (b : Bool). count_given b head) out in
          let whole : StartsWith pushed me.0.given = starts_trans pushed me.0.known me.0.given mine.begins mine.gave in
          let below = starts_length pushed me.0.given whole in
          let left : head < length pushed = omega (arith, below, count) in
          let same : n ≡ head = omega (arith, counted, count) in
          let w : View = record me.0 { reading = false } in
          let slot : me.1 ≡ (head % slots, None) ∷ [] = carried ∙ ap (λ (m : ℕ). (m % slots, None) ∷ []) same in (
            w,
            gives,
            tt,
            remade (suc head) pushed ending writing false ((n + 1) ∷ length pushed ∷ end_number ending ∷ []) (put_back homes me.1) w
                (ap (λ (m : ℕ). m ∷ length pushed ∷ end_number ending ∷ []) (omega (arith, same))) k.named
                (subst (λ (m : List (ℕ × Option Item)). Stored slots (suc head) pushed writing false (put_back homes m)) (sym slot) (head_back slots head pushed writing reading homes stored left))
                (record {
                  begins = mine.begins;
                  gave = mine.gave;
                  low = let l = mine.low in omega (arith, l);
                  heard = mine.heard;
                  recalls = mine.recalls;
                  whole = mine.whole;
                  inlet = mine.inlet;
                  outlet = λ _. (count, refl);
                })
                (λ i y other got. let f = k.fits i y got in record {
                  begins = f.begins;
                  gave = f.gave;
                  low = let l = f.low in omega (arith, l);
                  heard = f.heard;
                  recalls = f.recalls;
                  whole = f.whole;
                  inlet = f.inlet;
                  outlet = λ has. absurd (others_outlet is i y other got has);
                })
                (λ h. h) (λ h. h),
            ap (λ (m : List (ℕ × Option Item)). (w, Rattle.atomic_table.specs.Table.rest m)) carried,
          )

module _ (id slots : ℕ) (me : Seated) where
  pub loads_head : me.1 ≡ [] → me.0.inlet ≡ true → me.0.writing ≡ false → Allows RingKept slots id me 0 (λ n. n) (LoadsHead (step slots 0 0 0 none) me)
  loads_head empty is idle s k wide at small =
      subst (λ (ws : List ℕ). KeepsRule id slots me s k wide at 0 (slice_index ws 0) (LoadsHead (step slots 0 0 0 none) me (slice_index ws 0)) ws)
      (sym k.words)
      (head_at id slots me s k wide at empty is idle)

  stores_next : (x : Item) → me.1 ≡ (length me.0.pushed % slots, Some x) ∷ [] → me.0.inlet ≡ true → me.0.writing ≡ true → me.0.ended ≡ None
      → Allows RingKept slots id me 1 (λ _. length me.0.pushed + 1) (λ _. StoresTail (step slots 1 (length me.0.pushed + 1) 0 none) me (length me.0.pushed + 1))
  stores_next x carried is busy open_ s k wide at small =
      subst (λ (ws : List ℕ). KeepsRule id slots me s k wide at 1 (length me.0.pushed + 1) (StoresTail (step slots 1 (length me.0.pushed + 1) 0 none) me (length me.0.pushed + 1)) ws)
      (sym k.words)
      (tail_put id slots me s k wide at x carried is busy open_)

  pub stores_tail : (n i cap : ℕ) (x : Item) → n ≡ length me.0.pushed → cap ≡ slots → me.1 ≡ (n % cap, Some x) ∷ [] → me.0.inlet ≡ true → me.0.writing ≡ true → me.0.ended ≡ None
      → Allows RingKept slots id me 1 (λ _. n + 1) (λ _. StoresTail (step slots 1 (n + 1) 0 none) me (n + 1))
  stores_tail n i cap x e f carried is busy open_ =
      subst (λ (m : ℕ). Allows RingKept slots id me 1 (λ _. m + 1) (λ _. StoresTail (step slots 1 (m + 1) 0 none) me (m + 1))) (sym e)
      (stores_next x (carried ∙ ap (λ (m : ℕ). (m % cap, Some x) ∷ []) e ∙ ap (λ (m : ℕ). (length me.0.pushed % m, Some x) ∷ []) f) is busy open_)

module _ (id slots : ℕ) (me : Seated) where
  pub stores_end : (n : ℕ) (e : End) → n ≡ end_number (Some e) → e ≢ Left → me.0.inlet ≡ true → me.0.ended ≡ None → Allows RingKept slots id me 2 (λ _. n) (λ _. StoresEnd (step slots 2 n 0 none) me n)
  stores_end n e means right is open_ s k wide at small =
      subst (λ (ws : List ℕ). KeepsRule id slots me s k wide at 2 n (StoresEnd (step slots 2 n 0 none) me n) ws)
      (sym k.words)
      (end_put id slots me s k wide at n e means right is open_)

module _ (id slots : ℕ) (me : Seated) (is : me.0.outlet ≡ true) where
  pub loads_end : Allows RingKept slots id me 2 (λ n. n) (LoadsEnd (step slots 2 0 0 none) me)
  loads_end s k wide at small =
      subst (λ (ws : List ℕ). KeepsRule id slots me s k wide at 2 (slice_index ws 2) (LoadsEnd (step slots 2 0 0 none) me (slice_index ws 2)) ws)
      (sym k.words)
      (end_asked id slots me s k wide at is)

  pub loads_tail : me.1 ≡ [] → me.0.reading ≡ false → Allows RingKept slots id me 1 (λ n. n) (LoadsTail (step slots 1 0 0 none) me)
  loads_tail empty idle s k wide at small =
      subst (λ (ws : List ℕ). KeepsRule id slots me s k wide at 1 (slice_index ws 1) (LoadsTail (step slots 1 0 0 none) me (slice_index ws 1)) ws)
      (sym k.words)
      (tail_at id slots me s k wide at is empty idle)

  pub stores_head_of : (n cap : ℕ) → n + 1 ≡ length me.0.given → cap ≡ slots → me.1 ≡ (n % cap, None) ∷ [] → me.0.reading ≡ true
      → Allows RingKept slots id me 0 (λ _. n + 1) (λ _. StoresHead (step slots 0 (n + 1) 0 none) me (n + 1))
  stores_head_of n cap counted e carried busy s k wide at small =
      subst (λ (ws : List ℕ). KeepsRule id slots me s k wide at 0 (n + 1) (StoresHead (step slots 0 (n + 1) 0 none) me (n + 1)) ws)
      (sym k.words)
      (head_freed id slots me s k wide at is n counted (carried ∙ ap (λ (m : ℕ). (n % m, None) ∷ []) e) busy)

-- the slot in hand after a load of the tail that found more
pub item_in_hand : (slots n taken cap : ℕ) (v w : Seated) → LoadsTail (step slots 1 0 0 none) v n w → n ≢ taken → taken ≡ length v.0.given → cap ≡ slots → (x : Option Item)
    × (w.1 ≡ (taken % cap, x) ∷ Rattle.atomic_table.specs.Table.rest w.1)
item_in_hand slots n taken cap v w h more e f =
    let got = h.1 (λ same. more (same ∙ sym e)) in
    let is : w.1 ≡ (taken % cap, Some got.1) ∷ [] = ap (λ (m : Seated). m.1) got.3 ∙ ap (λ (m : ℕ). (m % slots, Some got.1) ∷ []) (sym e) ∙ ap (λ (m : ℕ). (taken % m, Some got.1) ∷ []) (sym f) in
    (Some got.1, is ∙ ap (λ (m : List (ℕ × Option Item)). (taken % cap, Some got.1) ∷ Rattle.atomic_table.specs.Table.rest m) (sym is))

-- the seat when that slot was emptied
pub stores_head : (id slots n taken cap : ℕ) (v w u : Seated) → LoadsTail (step slots 1 0 0 none) v n w → n ≢ taken → taken ≡ length v.0.given → cap ≡ slots → v.0.outlet ≡ true
    → u ≡ (w.0, (taken % cap, None) ∷ Rattle.atomic_table.specs.Table.rest w.1) → Allows RingKept slots id u 0 (λ _. taken + 1) (λ _. StoresHead (step slots 0 (taken + 1) 0 none) u (taken + 1))
stores_head id slots n taken cap v w u h more e f is after =
    let got = h.1 (λ same. more (same ∙ sym e)) in
    let now : u ≡ (w.0, (taken % cap, None) ∷ []) = after ∙ ap (λ (m : Seated). (w.0, (taken % cap, None) ∷ Rattle.atomic_table.specs.Table.rest m.1)) got.3 in
    let is' : u.0.outlet ≡ true = ap (λ (m : Seated). m.0.outlet) now ∙ ap (λ (m : Seated). m.0.outlet) got.3 ∙ is in
    let busy : u.0.reading ≡ true = ap (λ (m : Seated). m.0.reading) now ∙ ap (λ (m : Seated). m.0.reading) got.3 in
    let list : length u.0.given ≡ length (v.0.given ++ got.1 ∷ []) = ap (λ (m : Seated). length m.0.given) now ∙ ap (λ (m : Seated). length m.0.given) got.3 in
    let counted : taken + 1 ≡ length u.0.given = omega (arith, list, e, length-append v.0.given (got.1 ∷ [])) in
    stores_head_of id slots u is' taken cap counted f (ap (λ (m : Seated). m.1) now) busy
