use Rattle.std.proofs.Common.{ℕ, List, ◌++◌, codes, flat_map}
use Rattle.bsc_lines.proofs.Chains.{behind}
use Rattle.bsc_settings.specs.Fields.{fields_of}
use Rattle.bsc_settings.specs.Table.{hub_table}
use Rattle.bsc_settings_told.specs.Lines.{lines_of}
use Rattle.bsc_settings_told.specs.Written.{line_of}
use Rattle.bsc_settings_told.proofs.Rows.{same_text}
use Rattle.bsc_settings_told.proofs.hub_told.put_hub.Goals as goal

pub returns : goal.returns
returns c =
    let o = c.put_lines.result in
    let z = c.put_lines.new.text.items in
    let head : List ℕ = codes "[hub]\n" in
    let lines = lines_of hub_table (fields_of c.args.hub.now) in
    behind o c.args.text.now.items c.put_words.new.text.items head lines z c.in_ok-put_words.ensures
    (same_text o z c.put_words.new.text.items (flat_map line_of c.hub_rows-rows.result) lines c.hub_rows-rows.ensures c.put_lines.ensures)
