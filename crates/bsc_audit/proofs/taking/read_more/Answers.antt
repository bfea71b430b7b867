-- There was no memory for what the read gave.
use Rattle.std.proofs.Common.{rules, ◌<◌, length, take, arith}
use Rattle.std.proofs.lemmas.List.{length-take-le}
use Rattle.bsc_text.proofs.Taking.{gave_one}
use Rattle.bsc_audit.proofs.Told.{without_memory}
use Rattle.bsc_audit.proofs.taking.read_more.Goals as goal

pub returns-in_err-keep-clause-once : goal.returns-in_err-keep-clause-once
returns-in_err-keep-clause-once g c =
    let n = c.in-Ok.n in
    let into = c.read.new.into in
    let long = length-take-le n into c.in-Ok.ensures.within in
    let some : 0 < length (take n into) = omega (arith, long, c.if-n-eq0.false) in
    without_memory (g.S.Source.reads c.args.source.now) (g.S.Source.reads c.read.new.self) c.from_residual.result (take n into) c.args.octets.now.items c.keep.new.octets.items
    (search rules) some (gave_one (g.S.Source.reads c.args.source.now) (g.S.Source.reads c.read.new.self) n into c.in-Ok.ensures.gave)
