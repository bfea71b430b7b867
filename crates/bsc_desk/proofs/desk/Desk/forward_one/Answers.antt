use Rattle.std.proofs.Common.{List, find, ap, sym, ◌∙◌}
use Rattle.bsc_desk.specs.declared.row.Row.{Row}
use Rattle.bsc_desk.specs.Live.{end_in}
use Rattle.bsc_desk.proofs.Walks.{has_number}
use Rattle.bsc_desk.proofs.desk.Desk.forward_one.Goals as goal
use Rattle.bsc_lemmas.proofs.Options.{none_if}

pub drop_one-requires-in-Some-clause-unserved : goal.drop_one-requires-in-Some-clause-unserved
drop_one-requires-in-Some-clause-unserved c = (
  none_if c.args.self.now.stopped_at (sym c.is_some.ensures ∙ c.if-is_some.false),
  sym (c.end_at.ensures ∙ ap (λ (rs : List Row). end_in (find (has_number c.args.conn) rs)) c.as_slice.ensures.value) ∙ c.in-Some.is,
)
