use Rattle.std.proofs.Common.{◌∙◌, ◌+◌, sym, subst, ℕ}
use Rattle.bsc_legality.specs.Deciding.{is_long_at, is_meant_with}
use Rattle.bsc_legality.specs.Rows.{number}
use Rattle.bsc_legality.proofs.Matches.{Matches, matched, passed_over}
use Rattle.bsc_legality.proofs.matching.are_skipped.Goals.{then-is_skipped+else-not-stands_at, else-is_skipped}
use Rattle.bsc_legality.proofs.matching.are_skipped.Goals as goal

pub loop-row-preserved : goal.loop-row-preserved
loop-row-preserved c =
    let f = number in
    let p = is_meant_with c.args.sender (is_long_at c.args.size) in
    let ks = c.args.numbers.now in
    let xs = c.args.rows.now in
    let i = c.loop-row.row-index in
    elim c.if-is_skipped.branch [
      | then-is_skipped+else-not-stands_at w ↦ subst (λ (n : ℕ). Matches f p ks n xs (i + 1)) (sym w.at-is)
          (matched f p ks c.loop-row.at xs i c.row-item.result c.loop-row-test.true c.row-item.is (sym c.is_skipped.ensures ∙ w.if-is_skipped.true)
          (sym w.stands_at.ensures ∙ w.if-not-stands_at.false) c.loop-row.invariant)
      | else-is_skipped w ↦ subst (λ (n : ℕ). Matches f p ks n xs (i + 1)) (sym w.at-is)
          (passed_over f p ks c.loop-row.at xs i c.row-item.result c.loop-row-test.true c.row-item.is (sym c.is_skipped.ensures ∙ w.if-is_skipped.false) c.loop-row.invariant)
    ]
