use Rattle.std.proofs.Common.{◌≡◌, ◌++◌, take, flat_map}
use Rattle.bsc_settings_told.specs.Told.{member_lines}
use Rattle.bsc_settings_told.proofs.policy_told.put_members.Given as goal

abbrev pub invariant-loop-member : goal.invariant-loop-member
invariant-loop-member l = l.text.items ≡ l.fn.text.items ++ flat_map member_lines (take l.member-index l.members)
