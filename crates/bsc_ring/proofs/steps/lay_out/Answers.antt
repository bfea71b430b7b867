use Rattle.std.proofs.Common.{rules}
use Rattle.bsc_ring.proofs.Opening.{opens, cuts_in_two}
use Rattle.bsc_ring.proofs.steps.lay_out.Goals as goal

pub vacant-requires : goal.vacant-requires
vacant-requires c = opens c.args.capacity c.requires

pub split_seat-other-requires : goal.split_seat-other-requires
split_seat-other-requires c = (search rules, search rules, cuts_in_two c.in_ok-table.seat.id c.in_ok-table.seat.me.0 (search rules) (search rules))
