use Rattle.std.proofs.Common.{◌≡◌, take, flat_map}
use Rattle.toml.specs.View.{view}
use Rattle.bsc_settings.specs.Listed.{one_of}
use Rattle.bsc_settings.specs.Policies.{member_said}
use Rattle.bsc_settings.proofs.listing.list_members.Given as goal

abbrev pub invariant-loop-value : goal.invariant-loop-value
invariant-loop-value l = l.members.items ≡ flat_map (λ v. one_of (member_said (view v))) (take l.value-index l.values)
