use Rattle.std.proofs.Common.{◌≡◌, ℕ, List, ◌++◌, codes, ap, subst, ◌∙◌}
use Rattle.std.specs.Prelude.{IfOk}
use Rattle.bsc_history.specs.declared.looks.Look.{Look}
use Rattle.bsc_lines.specs.Lines.{looks_text}
use Rattle.bsc_lines.specs.Replies.{list_words}
use Rattle.bsc_lines.proofs.Chains.{behind}
use Rattle.bsc_audit_diagnostics.specs.Texts.{breach_text}
use Rattle.bsc_audit_diagnostics.proofs.texts.put_outboxes.Goals as goal

pub returns : goal.returns
unfolding breach_text
returns c =
    let o = c.put_list.result in
    let a = c.args.text.now.items in
    let z = c.put_list.new.text.items in
    let was : List ℕ = looks_text c.args.entry.now.looks in
    let r3 : List ℕ = list_words c.as_slice-2.result.now in
    let r2 : List ℕ = codes ", and should be at " ++ r3 in
    subst (λ (due : List ℕ). IfOk o (λ done. z ≡ a ++ (codes "looks were " ++ (was ++ (codes ", and should be at " ++ list_words due))))) c.as_slice-2.ensures
    (behind o a c.put_words.new.text.items (codes "looks were ") (was ++ r2) z c.in_ok-put_words.ensures
    (behind o c.put_words.new.text.items c.put_looks.new.text.items was r2 z
    (c.in_ok-put_looks.ensures ∙ ap (λ (l : List Look). c.put_words.new.text.items ++ looks_text l) c.as_slice.ensures)
    (behind o c.put_looks.new.text.items c.put_words-2.new.text.items (codes ", and should be at ") r3 z c.in_ok-put_words-2.ensures c.put_list.ensures)))
