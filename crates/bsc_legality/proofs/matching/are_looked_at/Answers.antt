use Rattle.std.proofs.Common.{◌∙◌, ◌+◌, not, sym, subst, ℕ}
use Rattle.bsc_legality.specs.declared.row.Row.{Row}
use Rattle.bsc_legality.specs.Deciding.{conns, is_long_at, is_meant_with}
use Rattle.bsc_legality.specs.Rows.{number}
use Rattle.bsc_legality.proofs.Matches.{Matches, matched, passed_over}
use Rattle.bsc_legality.proofs.matching.are_looked_at.Goals.{then-is_looked_at+else-not-is_look_at, else-is_looked_at}
use Rattle.bsc_legality.proofs.matching.are_looked_at.Goals as goal

pub loop-row-preserved : goal.loop-row-preserved
loop-row-preserved c =
    let f = number in
    let p = is_meant_with c.args.sender (λ (r : Row). not (is_long_at c.args.size r)) in
    let ks = conns c.args.looks.now in
    let xs = c.args.rows.now in
    let i = c.loop-row.row-index in
    elim c.if-is_looked_at.branch [
      | then-is_looked_at+else-not-is_look_at w ↦ subst (λ (n : ℕ). Matches f p ks n xs (i + 1)) (sym w.at-is)
          (matched f p ks c.loop-row.at xs i c.row-item.result c.loop-row-test.true c.row-item.is (sym c.is_looked_at.ensures ∙ w.if-is_looked_at.true)
          (sym w.is_look_at.ensures ∙ w.if-not-is_look_at.false) c.loop-row.invariant)
      | else-is_looked_at w ↦ subst (λ (n : ℕ). Matches f p ks n xs (i + 1)) (sym w.at-is)
          (passed_over f p ks c.loop-row.at xs i c.row-item.result c.loop-row-test.true c.row-item.is (sym c.is_looked_at.ensures ∙ w.if-is_looked_at.false) c.loop-row.invariant)
    ]
