use Rattle.std.proofs.Common.{◌≡◌, ◌<◌, ◌∙◌, ◌+◌, ◌*◌, ◌^◌, ◌++◌, nat_le, ap, sym, subst, true, List, map, filter, option_to_list, not, refl, Bool, ◌||◌, arith, length}
use Rattle.std.specs.List.{list_all}
use Rattle.bsc_history.specs.declared.counts.Counts.{Counts}
use Rattle.bsc_history.specs.Counting.{counts_of, plus}
use Rattle.bsc_history.specs.Entries.{connection_of, stops}
use Rattle.bsc_history.specs.Ends.{leaves}
use Rattle.bsc_legality.specs.declared.row.Row.{Row}
use Rattle.bsc_legality.specs.Bounds.{AreAtMost}
use Rattle.bsc_legality.specs.Following.{new_row, rows_after}
use Rattle.bsc_legality.proofs.Bounded.{accepted_short, counts_more, entered_within, few_entered, small_more}
use Rattle.bsc_legality.proofs.legality.Legality.follow.Goals.{then-self, else-self}
use Rattle.bsc_legality.proofs.legality.Legality.follow.Goals as goal

pub plus-self-requires-clause-small : goal.plus-self-requires-clause-small
plus-self-requires-clause-small c =
    let l = c.args.self.now in
    let e = c.args.entry.now in
    let few : length l.rows.items < 2 ^ 31 = (let h = l.few_rows in omega (arith, h, c.requires.few, l.rows.ok.0)) in
    subst (λ (k : Counts). AreAtMost k (2 ^ 31)) (sym c.counts_of.ensures) (small_more e (length l.rows.items) (accepted_short l e c.requires.rising c.requires.accepted) few)

pub follow_all-requires-clause-few : goal.follow_all-requires-clause-few
follow_all-requires-clause-few c = let l = c.args.self.now in few_entered l.entries l.rows.items c.requires.few l.few_frames

pub follow_all-requires-clause-once : goal.follow_all-requires-clause-once
follow_all-requires-clause-once c = (accepted_short c.args.self.now c.args.entry.now c.requires.rising c.requires.accepted).names_once

pub returns : goal.returns
returns c =
    let l = c.args.self.now in
    let e = c.args.entry.now in
    let stays = λ (rows : List Row). filter (λ (r : Row). not (leaves r.connection.number e)) rows in
    let rows : c.push_new.new.rows.items ≡ rows_after e l.rows.items = c.push_new.ensures.items
    ∙ ap (λ (xs : List Row). xs ++ map new_row (option_to_list (connection_of e))) (c.drop_left.ensures.items ∙ ap stays c.follow_all.ensures.items) in
    let stop : c.if-self.self ≡ (l.stopped || stops e) = elim c.if-self.branch [
      | then-self w ↦ w.self-is ∙ w.if-self.true ∙ sym (ap (λ (b : Bool). b || stops e) w.if-self.true)
      | else-self w ↦ w.self-is ∙ w.is_stop-self.ensures ∙ sym (ap (λ (b : Bool). b || stops e) w.if-self.false)
    ] in
    record {
      about = refl;
      stop = stop;
      entry = refl;
      count = c.plus-self.ensures ∙ ap (plus l.counts) c.counts_of.ensures;
      rows = rows;
    }

pub invariant_of-self-clause-few_frames : goal.invariant_of-self-clause-few_frames
invariant_of-self-clause-few_frames c =
    let l = c.args.self.now in
    let e = c.args.entry.now in
    let stays = λ (rows : List Row). filter (λ (r : Row). not (leaves r.connection.number e)) rows in
    let rows : c.push_new.new.rows.items ≡ rows_after e l.rows.items = c.push_new.ensures.items
    ∙ ap (λ (xs : List Row). xs ++ map new_row (option_to_list (connection_of e))) (c.drop_left.ensures.items ∙ ap stays c.follow_all.ensures.items) in
    subst (λ (xs : List Row). list_all (λ r. nat_le r.entered (l.entries + 1)) xs ≡ true) (sym rows) (entered_within l.entries e l.rows.items l.few_frames)

pub invariant_of-self-clause-bounded : goal.invariant_of-self-clause-bounded
invariant_of-self-clause-bounded c =
    let l = c.args.self.now in
    let e = c.args.entry.now in
    let few : length l.rows.items < 2 ^ 31 = (let h = l.few_rows in omega (arith, h, c.requires.few, l.rows.ok.0)) in
    let small = small_more e (length l.rows.items) (accepted_short l e c.requires.rising c.requires.accepted) few in
    subst (λ (k : Counts). AreAtMost k ((l.entries + 1) * 2 ^ 31)) (sym (c.plus-self.ensures ∙ ap (plus l.counts) c.counts_of.ensures)) (counts_more l.counts (counts_of e) l.entries l.bounded small)
