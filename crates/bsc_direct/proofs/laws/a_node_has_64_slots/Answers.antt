use Rattle.std.proofs.Common.{refl}
use Rattle.bsc_direct.specs.Slots.{slots}
use Rattle.bsc_direct.proofs.laws.a_node_has_64_slots.Goals as goal

pub returns-clause-none_is_free : goal.returns-clause-none_is_free
unfolding slots
returns-clause-none_is_free c = refl

pub returns-clause-last_is_free : goal.returns-clause-last_is_free
unfolding slots
returns-clause-last_is_free c = refl
