use Rattle.std.proofs.Common.{◌≡◌, List, map, length, Ok, Err, sym, ap, ◌∙◌, arith}
use Rattle.std.proofs.lemmas.Bool.{eqb-true}
use Rattle.bsc_node_run.specs.declared.due.Due.{Due}
use Rattle.bsc_node_run.specs.Scripts.{wish_of}
use Rattle.bsc_node_run.proofs.Behind.{emptied, if_ok, read_all, read_bad, read_more, read_unended}
use Rattle.bsc_node_run.proofs.reading.read_script.Goals as goal

pub returns-in-Err-Refused-clause-refused : goal.returns-in-Err-Refused-clause-refused
returns-in-Err-Refused-clause-refused c = λ n is.
    let k = c.loop-left.invariant.so_far in
    let same : c.loop-left.line ≡ n = cc in
    let bad = c.read_piece.ensures.refused (c.in-Err-Refused.is ∙ ap Err c.in-Err-Refused.field-0-is) k.done k.count k.kept in
    read_bad c.args.octets.now c.loop-left.left.now c.first_piece.result.0.now c.first_piece.result.1.now c.loop-left.before c.loop-left.line c.loop-left.reading.at c.loop-left.reading.ended
    (map wish_of c.loop-left.reading.lines.items) k c.first_piece.ensures.cut bad
    ∙ ap Err same

pub loop-left-preserved : goal.loop-left-preserved
loop-left-preserved c =
    let k = c.loop-left.invariant.so_far in
    let t = c.in-Ok.ensures.taken k.done k.count k.kept in
    record {
      so_far = read_more c.args.octets.now c.loop-left.left.now c.first_piece.result.0.now c.first_piece.result.1.now c.loop-left.before c.loop-left.line c.loop-left.reading.at
          c.read_piece.new.self.at c.loop-left.reading.ended c.read_piece.new.self.ended (map wish_of c.loop-left.reading.lines.items)
          (map wish_of c.read_piece.new.self.lines.items) k c.first_piece.ensures.cut t.0 t.1;
      within = c.in-Ok.ensures.fits;
      number = omega (arith, c.loop-left.invariant.number, c.first_piece.ensures.some);
    }

pub returns-clause-read : goal.returns-clause-read
returns-clause-read c =
    let none = emptied c.loop-left.left.now (eqb-true (length c.loop-left.left.now) 0 (sym c.is_empty.ensures ∙ c.loop-left-test.false)) in
    if_ok c.end.result c.end.ensures.read (λ s h.
    read_all c.args.octets.now c.loop-left.left.now c.loop-left.before c.loop-left.line c.loop-left.reading.at c.loop-left.reading.ended
    (map wish_of c.loop-left.reading.lines.items) c.loop-left.invariant.so_far none h.0
    ∙ ap (λ (x : List Due). Ok (map wish_of x)) (sym h.1))

pub returns-clause-refused : goal.returns-clause-refused
returns-clause-refused c = λ n is.
    let none = emptied c.loop-left.left.now (eqb-true (length c.loop-left.left.now) 0 (sym c.is_empty.ensures ∙ c.loop-left-test.false)) in
    let h = c.end.ensures.refused n is in
    read_unended c.args.octets.now c.loop-left.left.now c.loop-left.before c.loop-left.line c.loop-left.reading.at c.loop-left.reading.ended
    (map wish_of c.loop-left.reading.lines.items) c.loop-left.invariant.so_far none h.0
    ∙ ap Err (sym h.1)
