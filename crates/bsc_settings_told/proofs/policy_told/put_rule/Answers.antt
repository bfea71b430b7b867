use Rattle.std.proofs.Common.{ℕ, List, ◌++◌, codes}
use Rattle.bsc_lines.proofs.Chains.{behind}
use Rattle.bsc_settings.specs.Table.{rule_do_row, rule_from_row, rule_to_row}
use Rattle.bsc_settings.specs.Values.{allows, text}
use Rattle.bsc_settings_told.specs.Written.{row_line}
use Rattle.bsc_settings_told.specs.Told.{rule_lines}
use Rattle.bsc_settings_told.proofs.Rows.{ended, same_text, text_if as same_value, text_of}
use Rattle.bsc_settings_told.proofs.policy_told.put_rule.Goals as goal

pub returns : goal.returns
unfolding rule_lines
returns c =
    let o = c.put_text-2.result in
    let z = c.put_text-2.new.text.items in
    let t = c.args.text.now.items in
    let r = c.args.rule.now in
    let head : List ℕ = codes "[[policy.rule]]\n" in
    let does = row_line rule_do_row (allows r.allows) in
    let from = row_line rule_from_row (text r.from) in
    let to = row_line rule_to_row (text r.to) in
    same_text o z t (head ++ (does ++ (from ++ to))) (rule_lines r) (ended head does from to)
    (behind o t c.put_words.new.text.items head (does ++ (from ++ to)) z c.in_ok-put_words.ensures
    (behind o c.put_words.new.text.items c.put_allows.new.text.items does (from ++ to) z c.in_ok-put_allows.ensures
    (behind o c.put_allows.new.text.items c.put_text.new.text.items from to z
    (text_of c.put_allows.new.text.items c.put_text.new.text.items (codes "from") c.as_slice.result.now r.from c.as_slice.ensures c.in_ok-put_text.ensures)
    (same_value o c.put_text.new.text.items z (codes "to") c.as_slice-2.result.now r.to c.as_slice-2.ensures c.put_text-2.ensures))))
