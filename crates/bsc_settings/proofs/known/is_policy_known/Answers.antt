use Rattle.std.proofs.Common.{◌∙◌, codes, refl}
use Rattle.toml.proofs.Views.{table_get}
use Rattle.bsc_settings.proofs.known.is_policy_known.Goals as goal

pub returns-in_default : goal.returns-in_default
returns-in_default c =
    let found = table_get c.get.result (codes "policy") c.args.doc.now.entries c.get.ensures.value in
    rw (← rw c.in_default.is at found) refl

pub returns-in-Some-as_table : goal.returns-in-Some-as_table
returns-in-Some-as_table c =
    let found = table_get c.get.result (codes "policy") c.args.doc.now.entries c.get.ensures.value in
    c.has_policy_keys.ensures ∙ rw (← rw c.in-Some.is at found, ← rw c.in-Some-as_table.is at c.as_table.ensures) refl

pub returns-in-None : goal.returns-in-None
returns-in-None c =
    let found = table_get c.get.result (codes "policy") c.args.doc.now.entries c.get.ensures.value in
    rw (← rw c.in-Some.is at found, ← rw c.in-None.is at c.as_table.ensures) refl
