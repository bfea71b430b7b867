use Rattle.std.proofs.Common.{ap, ◌∙◌, arith}
use Rattle.std.proofs.lemmas.List.{take_rest}
use Rattle.byteorder.specs.Endian.{big_number}
use Rattle.bsc_log.proofs.Naks.{payload_spelled}
use Rattle.bsc_log.proofs.nak.nak_by.Goals as goal

pub returns-clause-found : goal.returns-clause-found
returns-clause-found c =
    let p = c.args.p.now in
    let class = c.read_u16.ensures ∙ ap (big_number 2) (take_rest p 3) in
    let code = c.read_u16-2.ensures ∙ ap (big_number 2) (take_rest p 5) in
    payload_spelled p c.read_u16.result c.read_u16-2.result (λ i. let f = c.type_inv.p i in omega (arith, f)) (omega arith) (omega arith) (omega arith) class code
