use Rattle.std.proofs.Common.{ℕ, List, ◌++◌, codes}
use Rattle.bsc_lines.specs.Lines.{reply_text}
use Rattle.bsc_lines.proofs.Chains.{behind}
use Rattle.bsc_audit_diagnostics.specs.Texts.{breach_text}
use Rattle.bsc_audit_diagnostics.proofs.texts.put_due.Goals as goal

pub returns : goal.returns
unfolding breach_text
returns c =
    let o = c.put_reply-2.result in
    let z = c.put_reply-2.new.text.items in
    let was : List ℕ = reply_text c.args.entry.now.reply in
    let r3 : List ℕ = reply_text c.args.reply.now in
    let r2 : List ℕ = codes ", and should be " ++ r3 in
    behind o c.args.text.now.items c.put_words.new.text.items (codes "reply was ") (was ++ r2) z c.in_ok-put_words.ensures
    (behind o c.put_words.new.text.items c.put_reply.new.text.items was r2 z c.in_ok-put_reply.ensures
    (behind o c.put_reply.new.text.items c.put_words-2.new.text.items (codes ", and should be ") r3 z c.in_ok-put_words-2.ensures c.put_reply-2.ensures))
