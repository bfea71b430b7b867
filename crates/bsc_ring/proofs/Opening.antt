-- A ring begins, and its first seat becomes an inlet's and an outlet's.
-- It serves the clauses of `lay_out`.
use Rattle.std.proofs.Common.{◌≡◌, ℕ, zero, suc, ◌%◌, ◌<◌, true, false, [], ◌∷◌, ◌++◌, set, replicate, map, Option, Some, None, refl, sym, ◌∙◌, subst, arith, mod-lt}
use Rattle.std.proofs.lemmas.List.{length-map, length-replicate}
use Rattle.std.proofs.lemmas.Bool.{true≢false}
use mathlib.Core.Option.{some, some-ne-none}
use lib.ListN.{get_elem?}
use Rattle.atomic_table.specs.Table.{opening, Splits}
use Rattle.bsc_ring.specs.declared.found.Found.TheVariants.{Ending}
use Rattle.bsc_ring.specs.declared.view.View.{View}
use Rattle.bsc_ring.specs.Lists.{Item}
use Rattle.bsc_ring.specs.Rule.{SeatFits, is_inlet, is_outlet, RingKept, first_view, inlet_part, outlet_part}
use Rattle.bsc_ring.proofs.Keeping.{other_views}
use Rattle.bsc_ring.proofs.Views.{split_all, one_split}
use Rattle.bsc_lemmas.proofs.Lists.{get_of_one as single}

abbrev vacant : Option Item
vacant = None

vacant_at : (n i : ℕ) → i < n → get_elem? (map some (replicate n vacant)) i ≡ some (some vacant)
vacant_at zero i h = absurd (omega arith)
vacant_at (suc n) zero h = refl
vacant_at (suc n) (suc i) h = vacant_at n i (omega arith)

pub opens : (cap : ℕ) → 0 < cap → RingKept (opening (0 ∷ 0 ∷ 0 ∷ []) (replicate cap None) first_view)
opens cap pos =
    record {
      cap = cap;
      head = 0;
      pushed = [];
      ending = None;
      writing = false;
      reading = false;
      words = refl;
      named = λ e. cc;
      stored = record {
        size = length-map (replicate cap vacant) some ∙ length-replicate cap vacant;
        some_slot = pos;
        behind = omega arith;
        within = omega arith;
        writes = λ bad. absurd (true≢false (sym bad));
        full = λ p x _ _ at. absurd (some-ne-none x (sym at));
        free = λ p _ _ _. vacant_at cap (p % cap) (mod-lt p pos);
      };
      fits = λ id v at. subst (SeatFits 0 [] None false false) (single first_view id v at).1
          (record {
            begins = ([], refl);
            gave = ([], refl);
            low = omega arith;
            heard = λ e bad. absurd cc;
            recalls = λ i e bad. absurd (some-ne-none (Ending (Some e)) (sym bad));
            whole = λ bad. absurd (true≢false (sym bad));
            inlet = λ _. (refl, refl, refl);
            outlet = λ _. (refl, refl);
          });
      one_inlet = λ i j v w at at2 _ _. (single first_view i v at).0 ∙ sym (single first_view j w at2).0;
      one_outlet = λ i j v w at at2 _ _. (single first_view i v at).0 ∙ sym (single first_view j w at2).0;
    }

-- a seat that was both ends becomes two, one of each
pub cuts_in_two : (id : ℕ) (v : View) → v.inlet ≡ true → v.outlet ≡ true → Splits RingKept id v (inlet_part v) (outlet_part v)
cuts_in_two id v is os s k at =
    let mine = k.fits id v at in
    let left : SeatFits k.head k.pushed k.ending k.writing k.reading (inlet_part v) =
    record {
      begins = mine.begins;
      gave = mine.gave;
      low = mine.low;
      heard = mine.heard;
      recalls = mine.recalls;
      whole = mine.whole;
      inlet = mine.inlet;
      outlet = λ bad. absurd (true≢false (sym bad));
    } in
    let right : SeatFits k.head k.pushed k.ending k.writing k.reading (outlet_part v) =
    record {
      begins = mine.begins;
      gave = mine.gave;
      low = mine.low;
      heard = mine.heard;
      recalls = mine.recalls;
      whole = mine.whole;
      inlet = λ bad. absurd (true≢false (sym bad));
      outlet = mine.outlet;
    } in
    other_views s k s.words k.words (set s.views id (inlet_part v) ++ outlet_part v ∷ [])
    (split_all s.views id (inlet_part v) (outlet_part v) (SeatFits k.head k.pushed k.ending k.writing k.reading) left right k.fits)
    (one_split is_inlet s.views id v at k.one_inlet (inlet_part v) (outlet_part v) (λ h. h) (λ bad. absurd (true≢false (sym bad))))
    (one_split is_outlet s.views id v at k.one_outlet (inlet_part v) (outlet_part v) (λ _. os) (λ _. (os, refl)))
