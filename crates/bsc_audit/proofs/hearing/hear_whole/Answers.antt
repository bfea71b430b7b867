-- A piece with its LF is heard or bad, and a rest that is too long already is bad.
use Rattle.std.proofs.Common.{◌≡◌, ◌<◌, ◌+◌, ◌-◌, ℕ, true, length, drop, refl, ap, subst, sym, ◌∙◌, ⊎_elim, inl, inr, arith, length-drop}
use Rattle.bsc_text.specs.Lines.{has_no_lf}
use Rattle.bsc_journal.specs.declared.bounds.TheConstants.{MOST_IN_ALL, MOST_IN_LINE}
use Rattle.bsc_audit.specs.Hearing.{IsBadAnyhow}
use Rattle.bsc_audit.proofs.Bad.{bad_piece_at, bad_rest}
use Rattle.bsc_audit.proofs.SoFar.{heard_piece_at}
use Rattle.bsc_audit.proofs.hearing.hear_whole.Goals as goal

pub loop-n-preserved : goal.loop-n-preserved
loop-n-preserved c =
    heard_piece_at c.args.octets.now c.after.result.now c.loop-n.heard c.hear.new.heard c.in-Some.n c.after.ensures c.loop-n.invariant c.in-Some.ensures c.in_default-hear.ensures.heard

pub returns-in-Err-clause-refused : goal.returns-in-Err-clause-refused
returns-in-Err-clause-refused c = λ e.
    subst (λ (n : ℕ). IsBadAnyhow (n + 1) c.args.octets.now) (sym (c.in-Err.ensures.unchanged e))
    (bad_piece_at c.args.octets.now c.after.result.now c.loop-n.heard c.in-Some.n c.after.ensures c.loop-n.invariant c.in-Some.ensures (c.in-Err.ensures.refused e))

pub returns-then-cannot_fit-clause-refused : goal.returns-then-cannot_fit-clause-refused
returns-then-cannot_fit-clause-refused c = λ e.
    let o = c.args.octets.now in
    let h = c.loop-n.heard in
    let size = length-drop h.at o in
    let no_lf : has_no_lf (drop h.at o) ≡ true = ap has_no_lf (sym c.after.ensures) ∙ c.in_default.ensures in
    bad_rest o h h.lines c.loop-n.invariant refl no_lf h.in_journal
    (⊎_elim (λ (k : MOST_IN_LINE + 1 < length o - h.at). inl (omega (arith, size, k))) (λ (k : MOST_IN_ALL < h.at + (length o - h.at)). inr (omega (arith, size, k)))
    (c.cannot_fit.ensures.cannot c.if-cannot_fit.true))
