use Rattle.std.proofs.Common.{rules, refl}
use Rattle.bsc_frame.proofs.First.{not_so}
use Rattle.bsc_checks.proofs.HeadParts.{is_head, wrong_in, wrong_of}
use Rattle.bsc_checks.proofs.head.placed.Goals as goal

pub returns-then-has_wrong_addresses : goal.returns-then-has_wrong_addresses
returns-then-has_wrong_addresses c =
    let head = is_head c.args.m.now c.args.head c.requires.spells c.requires.whole (search rules) c.requires.read in
    (refl, wrong_in c.args.m.now c.args.head c.args.place.now head (c.has_wrong_addresses.ensures.0 c.if-has_wrong_addresses.true))

pub returns : goal.returns
returns c =
    let head = is_head c.args.m.now c.args.head c.requires.spells c.requires.whole (search rules) c.requires.read in
    (head, (λ wrong. not_so _ c.has_wrong_addresses.result c.has_wrong_addresses.ensures.1 c.if-has_wrong_addresses.false (wrong_of c.args.m.now c.args.head c.args.place.now head wrong)))
