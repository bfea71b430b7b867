use Rattle.std.proofs.Common.{ℕ, Bool, not, cond, ◌&&◌, length, Some, None, ap, ◌∙◌}
use Rattle.std.specs.Prelude.{nat_lt}
use Rattle.bsc_script.specs.Carrying.{quietly}
use Rattle.bsc_script.specs.Running.{most_names}
use Rattle.bsc_script.specs.States.{new_peer, with_opened}
use Rattle.bsc_script.proofs.laws.opens_2048_names.Goals as goal

pub returns-clause-refused : goal.returns-clause-refused
returns-clause-refused c = λ s name closed many.
    ap (λ (b : Bool). cond (not b && nat_lt (length s.peers) most_names) (Some (quietly (with_opened (new_peer name s.clock) s))) None) closed
    ∙ ap (λ (n : ℕ). cond (nat_lt n most_names) (Some (quietly (with_opened (new_peer name s.clock) s))) None) many

pub returns-clause-opened : goal.returns-clause-opened
returns-clause-opened c = λ s name closed many.
    ap (λ (b : Bool). cond (not b && nat_lt (length s.peers) most_names) (Some (quietly (with_opened (new_peer name s.clock) s))) None) closed
    ∙ ap (λ (n : ℕ). cond (nat_lt n most_names) (Some (quietly (with_opened (new_peer name s.clock) s))) None) many
