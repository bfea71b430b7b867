use Rattle.std.proofs.Common.{ℕ, List, ◌++◌, codes, flat_map, is_some}
use Rattle.bsc_lines.proofs.Chains.{behind}
use Rattle.bsc_settings.specs.Fields.{node_fields_of}
use Rattle.bsc_settings.specs.Table.{node_table}
use Rattle.bsc_settings_told.specs.Lines.{lines_of}
use Rattle.bsc_settings_told.specs.Written.{line_of}
use Rattle.bsc_settings_told.proofs.Rows.{same_text}
use Rattle.bsc_settings_told.proofs.node_told.put_node.Goals as goal

pub returns : goal.returns
returns c =
    let o = c.put_lines.result in
    let z = c.put_lines.new.text.items in
    let head : List ℕ = codes "[node]\n" in
    let lines = lines_of (node_table (is_some c.args.node.now.direct_port) c.args.node.now.least_reconnect_ms) (node_fields_of c.args.node.now) in
    behind o c.args.text.now.items c.put_words.new.text.items head lines z c.in_ok-put_words.ensures
    (same_text o z c.put_words.new.text.items (flat_map line_of c.node_rows-rows.result) lines c.node_rows-rows.ensures c.put_lines.ensures)
