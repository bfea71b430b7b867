use Rattle.std.proofs.Common.{◌<◌, length, drop, ap, ◌∙◌, arith}
use Rattle.byteorder.specs.Endian.{big_number}
use Rattle.bsc_options.proofs.Missing.{cut_length, cut_data}
use Rattle.bsc_options.proofs.first.first_data.Goals as goal

pub returns-then-o-lt2-clause-none : goal.returns-then-o-lt2-clause-none
returns-then-o-lt2-clause-none c = cut_length c.args.present c.args.o.now c.if-not-present.false c.if-o-lt2.true (λ i. let f = c.type_inv.o i in omega (arith, f))

pub returns-then-rest-length-clause-none : goal.returns-then-rest-length-clause-none
returns-then-rest-length-clause-none c =
    let short : length (drop 2 c.args.o.now) < c.read_u16-length.result = omega (arith, ap length c.split_at.ensures.back, c.if-rest-length.true) in
    cut_data c.args.present c.args.o.now c.read_u16-length.result c.if-not-present.false c.if-o-lt2.false (λ i. let f = c.type_inv.o i in omega (arith, f))
    (c.read_u16-length.ensures ∙ ap (big_number 2) c.split_at.ensures.front) short
