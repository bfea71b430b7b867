-- A piece ends with an LF, with a CR and an LF, or with neither.
use Rattle.std.proofs.Common.{◌++◌, ℕ, List, [], ◌∷◌, sym, ◌∙◌, ap}
use Rattle.bsc_text.specs.Lines.{line_in}
use Rattle.bsc_text.proofs.Reading.{line_in-stays, line_in-lf, line_in-crlf}
use Rattle.bsc_text.proofs.pieces.line_in.Goals as goal

pub returns-in-None-clause-line : goal.returns-in-None-clause-line
returns-in-None-clause-line c = sym (line_in-stays c.args.piece.now c.in-None.ensures)

pub returns-in-None-before_last-clause-line : goal.returns-in-None-before_last-clause-line
returns-in-None-before_last-clause-line c = sym (ap line_in c.in-Some.ensures ∙ line_in-lf c.in-Some.front.now c.in-None-before_last.ensures)

pub returns-in-Some-before_last-clause-line : goal.returns-in-Some-before_last-clause-line
returns-in-Some-before_last-clause-line c = sym (ap line_in (c.in-Some.ensures ∙ ap (λ (x : List ℕ). x ++ 10 ∷ []) c.in-Some-before_last.ensures) ∙ line_in-crlf c.in-Some-before_last.line.now)
