use Rattle.std.proofs.Common.{List, ℕ, ◌++◌, codes}
use Rattle.bsc_lines.proofs.Chains.{behind}
use Rattle.bsc_settings_told.specs.Lines.{unset_line}
use Rattle.bsc_settings_told.proofs.setting.put_unset.Goals as goal

pub returns : goal.returns
unfolding unset_line
returns c =
    let o = c.put_words-3.result in
    let z = c.put_words-3.new.text.items in
    let end : List ℕ = codes " isn't set # default\n" in
    behind o c.args.text.now.items c.put_words.new.text.items (codes "# ") (c.args.word.now ++ end) z c.in_ok-put_words.ensures
    (behind o c.put_words.new.text.items c.put_words-2.new.text.items c.args.word.now end z c.in_ok-put_words-2.ensures c.put_words-3.ensures)
