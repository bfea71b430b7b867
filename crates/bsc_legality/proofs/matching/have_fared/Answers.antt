use Rattle.std.proofs.Common.{◌∙◌, ◌+◌, sym, subst, ℕ}
use Rattle.bsc_history.specs.declared.looks.Look.{Look}
use Rattle.bsc_legality.specs.Deciding.{fares_so}
use Rattle.bsc_legality.proofs.Matches.{Matches, matched_at, passed_over_at}
use Rattle.bsc_legality.proofs.matching.have_fared.Goals.{then-fares_so+else-not-stands_at, else-fares_so}
use Rattle.bsc_legality.proofs.matching.have_fared.Goals as goal

pub loop-look-preserved : goal.loop-look-preserved
loop-look-preserved c =
    let f = (λ (k : Look). k.conn) in
    let p = fares_so c.args.full c.args.outbox c.args.rows.now in
    let ks = c.args.numbers.now in
    let xs = c.args.looks.now in
    let i = c.loop-look.look-index in
    elim c.if-fares_so.branch [
      | then-fares_so+else-not-stands_at w ↦ subst (λ (n : ℕ). Matches f p ks n xs (i + 1)) (sym w.at-is)
          (matched_at f p ks c.loop-look.at xs i _ c.loop-look-test.true (sym c.fares_so.ensures ∙ w.if-fares_so.true) (sym w.stands_at.ensures ∙ w.if-not-stands_at.false) c.loop-look.invariant)
      | else-fares_so w ↦ subst (λ (n : ℕ). Matches f p ks n xs (i + 1)) (sym w.at-is)
          (passed_over_at f p ks c.loop-look.at xs i _ c.loop-look-test.true (sym c.fares_so.ensures ∙ w.if-fares_so.false) c.loop-look.invariant)
    ]
