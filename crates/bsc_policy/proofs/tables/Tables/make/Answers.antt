use Rattle.std.proofs.Common.{ap₂, ◌∙◌}
use Rattle.bsc_policy.specs.Filing.{rows_of}
use Rattle.bsc_policy.proofs.Told.{are_tables}
use Rattle.bsc_policy.proofs.tables.Tables.make.Goals as goal

pub returns : goal.returns
returns c =
    let is = c.in_ok-numbers.ensures ∙ ap₂ (rows_of c.args.rules.now) c.deref.ensures.value c.deref-2.ensures.value in
    are_tables c.args.members.now c.args.rules.now c.in_ok-names.names (record { directory = c.in_ok-directory.directory; numbers = c.in_ok-numbers.numbers })
    c.in_ok-names.ensures c.in_ok-directory.ensures is
