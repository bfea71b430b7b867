use Rattle.std.proofs.Common.{sym, ◌∙◌}
use Rattle.bsc_resolve.proofs.Following.{learnt_at, learnt_nowhere}
use Rattle.bsc_resolve.proofs.resolve.Resolve.uris.Goals as goal

pub returns-in-Some : goal.returns-in-Some
returns-in-Some c = λ wait calls s. c.as_ref.ensures.value ∙ learnt_at c.args.self.now c.args.v c.in-Some.place c.index.result.now wait calls
    (rw c.deref.ensures.value at (sym c.in-Some.ensures)) c.index.ensures s

pub returns-in-None : goal.returns-in-None
returns-in-None c = λ wait calls s. learnt_nowhere c.args.self.now c.args.v wait calls (rw c.deref.ensures.value at (sym c.in-None.ensures)) s
