use Rattle.std.proofs.Common.{◌∙◌, codes, refl}
use Rattle.toml.specs.View.{table_view}
use Rattle.toml.proofs.Views.{table_get}
use Rattle.bsc_settings.specs.Documents.{has_key, node_rows_of}
use Rattle.bsc_settings.proofs.Keys.{all_keys}
use Rattle.bsc_settings.proofs.known.is_node_known.Goals as goal

pub returns-in_default : goal.returns-in_default
returns-in_default c =
    let found = table_get c.get.result (codes "node") c.args.doc.now.entries c.get.ensures.value in
    rw (← rw c.in_default.is at found) refl

pub returns-in-Some-as_table : goal.returns-in-Some-as_table
returns-in-Some-as_table c =
    let found = table_get c.get.result (codes "node") c.args.doc.now.entries c.get.ensures.value in
    let known = c.has_node_keys.ensures ∙ all_keys (has_key (node_rows_of (table_view c.in-Some-as_table.table.now))) c.in-Some-as_table.table.now.entries in
    rw (← rw c.in-Some.is at found, ← rw c.in-Some-as_table.is at c.as_table.ensures, ← known) refl

pub returns-in-None : goal.returns-in-None
returns-in-None c =
    let found = table_get c.get.result (codes "node") c.args.doc.now.entries c.get.ensures.value in
    rw (← rw c.in-Some.is at found, ← rw c.in-None.is at c.as_table.ensures) refl
