use Rattle.std.proofs.Common.{ℕ, List, ◌++◌, codes}
use Rattle.bsc_lines.specs.Lines.{then_number}
use Rattle.bsc_lines.proofs.Chains.{behind}
use Rattle.bsc_audit_diagnostics.proofs.texts.put_range.Goals as goal

pub returns : goal.returns
returns c =
    let o = c.put_then-2.result in
    let z = c.put_then-2.new.text.items in
    let r3 : List ℕ = then_number c.args.most in
    let r2 : List ℕ = codes " to" ++ r3 in
    let r1 : List ℕ = then_number c.args.least ++ r2 in
    behind o c.args.text.now.items c.put_words.new.text.items (codes ", and should be from") r1 z c.in_ok-put_words.ensures
    (behind o c.put_words.new.text.items c.put_then.new.text.items (then_number c.args.least) r2 z c.in_ok-put_then.ensures
    (behind o c.put_then.new.text.items c.put_words-2.new.text.items (codes " to") r3 z c.in_ok-put_words-2.ensures c.put_then-2.ensures))
