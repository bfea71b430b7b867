use Rattle.std.proofs.Common.{◌≡◌, ◌-◌, length, take, drop, arith, length-drop, take_all}
use Rattle.bsc_log.proofs.Naks.{some_nak}
use Rattle.bsc_log.proofs.nak.nak_in.Goals as goal

pub returns-clause-found : goal.returns-clause-found
returns-clause-found c =
    let m = c.args.m.now in
    let behind : take (length m - 4) (drop 4 m) ≡ drop 4 m = take_all (length m - 4) (drop 4 m) (omega (arith, length-drop 4 m)) in
    some_nak m _ c.nak_by.result (λ i. let f = c.type_inv.m i in omega (arith, f)) (omega arith) (omega arith) (omega arith) behind c.nak_by.ensures.found
