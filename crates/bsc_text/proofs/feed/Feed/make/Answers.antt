-- A new feed adds nothing to what is left.
use Rattle.std.proofs.Common.{List, ℕ, [], ◌++◌, ap}
use Rattle.bsc_text.proofs.Giving.{rest_of-empty}
use Rattle.bsc_text.proofs.feed.Feed.make.Goals as goal

pub returns-clause-rest : goal.returns-clause-rest
returns-clause-rest c = λ left. rest_of-empty _ left (ap (λ (x : List ℕ). x ++ []) c.new.ensures.items)
