use Rattle.toml.proofs.Views.{table_get}
use Rattle.bsc_settings.proofs.Defaults.{otherwise-default_of}
use Rattle.bsc_settings.proofs.values.given.Goals as goal

pub returns-in-Some : goal.returns-in-Some
returns-in-Some c =
    let found = table_get c.get.result c.args.row.word.now c.args.table.now.entries c.get.ensures.value in
    rw (← rw c.in-Some.is at found, c.natural.ensures, c.as_integer.ensures)

pub returns-in-None : goal.returns-in-None
returns-in-None c =
    let found = table_get c.get.result c.args.row.word.now c.args.table.now.entries c.get.ensures.value in
    rw (← rw c.in-None.is at found) (otherwise-default_of c.args.row.default)
