-- The first line ends with the first LF, or is all that there is.
use Rattle.std.proofs.Common.{ℕ, List, [], ◌∷◌, ap, sym, ◌∙◌}
use Rattle.bsc_diagnostics.proofs.FirstLine.{alone, ended, lines}
use Rattle.bsc_diagnostics.proofs.cutting.next_line.Goals as goal

pub returns-in-Some-clause-line : goal.returns-in-Some-clause-line
returns-in-Some-clause-line c =
    ended c.args.text.now c.split_at.result.0.now c.split_at.result.1.now c.in-Some.n c.in-Some.ensures c.split_at.ensures.front c.split_at.ensures.back
    ∙ ap (λ (l : List ℕ). l ∷ lines c.split_at.result.1.now) (sym c.line_in.ensures.line)

pub returns-in-None-clause-line : goal.returns-in-None-clause-line
returns-in-None-clause-line c =
    alone c.args.text.now (sym c.is_empty.ensures ∙ c.if-is_empty.false) c.in-None.ensures ∙ ap (λ (l : List ℕ). l ∷ []) (sym c.line_in-in-None.ensures.line)
