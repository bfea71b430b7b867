use Rattle.std.proofs.Common.{ℕ, List, ◌++◌, ◌∙◌, ap, codes, decimal}
use Rattle.bsc_lines.specs.Lines.{call_text, entry_line, reply_text, then_number}
use Rattle.bsc_lines.proofs.Chains.{behind}
use Rattle.bsc_session.specs.Notes.Noting.{entry_of}
use Rattle.bsc_session.proofs.NoteFacts.Callers.{caller_is}
use Rattle.bsc_session.proofs.notes.writing.put_entry.Goals as goal

pub returns : goal.returns
unfolding entry_line
returns c =
    let o = c.put_reply.result in
    let z = c.put_reply.new.text.items in
    let e = entry_of c.args.caller c.args.made.now in
    let r5 : List ℕ = reply_text e.reply in
    let r4 : List ℕ = codes " " ++ r5 in
    let w4 : List ℕ = call_text e.call e.looks in
    let r3 : List ℕ = w4 ++ r4 in
    let r2 : List ℕ = codes " " ++ r3 in
    let w2 : List ℕ = then_number e.caller in
    let r1 : List ℕ = w2 ++ r2 in
    behind o c.args.text.now.items c.put_number.new.text.items (decimal c.args.at) r1 z c.in_ok-put_number.ensures
    (behind o c.put_number.new.text.items c.put_then.new.text.items w2 r2 z
    (c.in_ok-put_then.ensures ∙ ap (λ (n : ℕ). c.put_number.new.text.items ++ then_number n) (caller_is c.args.caller c.args.made.now))
    (behind o c.put_then.new.text.items c.put_words.new.text.items (codes " ") r3 z c.in_ok-put_words.ensures
    (behind o c.put_words.new.text.items c.put_call.new.text.items w4 r4 z (c.in_ok-put_call.ensures c.args.caller)
    (behind o c.put_call.new.text.items c.put_words-2.new.text.items (codes " ") r5 z c.in_ok-put_words-2.ensures (c.put_reply.ensures c.args.caller)))))
