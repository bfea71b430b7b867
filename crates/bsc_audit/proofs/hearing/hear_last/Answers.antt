-- Nothing is left, or the last piece, which has no LF.
use Rattle.std.proofs.Common.{◌<◌, ◌+◌, ℕ, length, refl, subst, sym, arith}
use Rattle.bsc_audit.specs.Hearing.{HasHeardAll, HearsPiece}
use Rattle.bsc_audit.specs.Verdicts.{IsFirstBad}
use Rattle.bsc_audit.proofs.Bad.{bad_last}
use Rattle.bsc_audit.proofs.SoFar.{heard_all, heard_last, on_ok}
use Rattle.bsc_audit.proofs.hearing.hear_last.Goals as goal

pub returns-then-heard-octets-clause-heard : goal.returns-then-heard-octets-clause-heard
returns-then-heard-octets-clause-heard c = heard_all c.args.octets.now c.args.heard.now c.requires.heard c.if-heard-octets.true

pub returns-clause-heard : goal.returns-clause-heard
returns-clause-heard c =
    let o = c.args.octets.now in
    let within = c.requires.heard.within in
    let less : c.args.heard.now.at < length o = omega (arith, within, c.if-heard-octets.false) in
    on_ok c.hear.result (HearsPiece o c.args.heard.now c.hear.new.heard (length o)) (HasHeardAll o c.hear.new.heard) c.hear.ensures.heard
    (λ h. heard_last o c.args.heard.now c.hear.new.heard c.requires.heard c.requires.rest less h)

pub returns-clause-refused : goal.returns-clause-refused
returns-clause-refused c = λ e.
    let o = c.args.octets.now in
    let within = c.requires.heard.within in
    let less : c.args.heard.now.at < length o = omega (arith, within, c.if-heard-octets.false) in
    subst (λ (n : ℕ). IsFirstBad (n + 1) o) (sym (c.hear.ensures.unchanged e))
    (bad_last o c.args.heard.now c.args.heard.now.lines c.requires.heard refl c.requires.rest less (c.hear.ensures.refused e))
