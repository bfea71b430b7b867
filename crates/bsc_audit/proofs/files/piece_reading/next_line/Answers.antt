-- A piece that says nothing is a bad line.
use Rattle.std.proofs.Common.{rules, ◌≡◌, ◌<◌, ℕ, List, take, ap, subst, sym}
use Rattle.bsc_text.specs.Lines.{line_in}
use Rattle.bsc_audit.specs.Pieces.{file_at}
use Rattle.bsc_audit.specs.Together.{IsGoodLine}
use Rattle.bsc_audit.specs.declared.files.piece_reading.Stop.{Stop}
use Rattle.bsc_audit.specs.declared.files.piece_reading.Stop.TheVariants.{Bad}
use Rattle.bsc_audit.proofs.FileFacts.PieceLines.{gives_bad}
use Rattle.bsc_audit.proofs.files.piece_reading.next_line.Goals as goal
use Rattle.std.specs.Prelude.{Err}

pub returns-in-Err-said_in-clause-bad : goal.returns-in-Err-said_in-clause-bad
returns-in-Err-said_in-clause-bad g c = λ e fs holds.
    let o = c.read_piece.new.room.octets.items in
    let n = c.in-Ok.n in
    let is : c.in-Err-said_in.stop ≡ Bad = cc in
    let piece : c.split_at.result.0.now ≡ take n o = search rules in
    let bad = c.in-Err-said_in.ensures.bad (ap (λ (s : Stop). Err s) is) in
    let some : 0 < n = search rules in
    gives_bad (file_at fs c.args.file) c.args.at n o some (c.in-Ok.ensures.piece fs holds)
    (λ s good. bad s (subst (λ (x : List ℕ). IsGoodLine (line_in x) s) (sym piece) good))
