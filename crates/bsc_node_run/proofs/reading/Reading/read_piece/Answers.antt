use Rattle.std.proofs.Common.{◌≡◌, map, Some, sym, ap, ◌∙◌}
use Rattle.bsc_text.specs.Lines.{line_in}
use Rattle.bsc_node_run.specs.Saying.{line_of}
use Rattle.bsc_node_run.specs.Scripts.{lines_in, wish_of}
use Rattle.bsc_node_run.proofs.Behind.{fits_piece, kept_piece, on_ok}
use Rattle.bsc_node_run.proofs.reading.Reading.read_piece.Goals as goal

pub returns-clause-taken : goal.returns-clause-taken
returns-clause-taken c = on_ok c.take_in.result c.take_in.ensures.taken (λ taken pieces count k.
    let piece = c.args.piece.now in
    let l = c.in_ok-line.line in
    let says : line_of (line_in piece) ≡ Some l = ap line_of (sym c.line_in.ensures.line) ∙ c.in_ok-line.ensures.read in
    let t = taken (lines_in pieces) k in (
      fits_piece pieces piece c.args.before l count (sym c.is_too_big.ensures ∙ c.if-is_too_big.false) says t.0,
      kept_piece c.take_in.new.self.at c.take_in.new.self.ended (map wish_of c.take_in.new.self.lines.items) pieces piece l says t.1,
    ))
