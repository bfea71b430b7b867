use Rattle.std.proofs.Common.{refl}
use Rattle.std.proofs.lemmas.Bool.{both_ways}
use Rattle.bsc_history.specs.Marks.{entries}
use Rattle.bsc_history.specs.Replies.{is_stopped}
use Rattle.bsc_desk.proofs.Leaves.{never_stopped, stopped_before}
use Rattle.bsc_desk.proofs.desk.Desk.stop.Goals as goal

pub returns-in-Some-clause-refused : goal.returns-in-Some-clause-refused
returns-in-Some-clause-refused c S p = (λ e. stopped_before c.args.self.now S c.in-Some.at p c.in-Some.is, λ e. refl)

pub returns-in-None-clause-refused : goal.returns-in-None-clause-refused
returns-in-None-clause-refused c S p = (λ e. cc, λ e. absurd (both_ways (is_stopped (entries S)) (never_stopped c.args.self.now S p c.in-None.is) e))
