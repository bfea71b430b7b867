use Rattle.std.proofs.Common.{ℕ, ◌+◌, List, ◌∷◌, drop, sym, ap, ◌∙◌}
use Rattle.bsc_text.specs.Lines.{pieces_of}
use Rattle.bsc_node_run.proofs.Pieces.{first_whole, first_last}
use Rattle.bsc_node_run.proofs.reading.first_piece.Goals as goal

pub returns-then-n-octets-clause-cut : goal.returns-then-n-octets-clause-cut
returns-then-n-octets-clause-cut c =
    let o = c.args.octets.now in
    let n = c.lf_at-n.result in
    first_whole o n c.if-n-octets.true c.lf_at-n.ensures.before (c.lf_at-n.ensures.found c.if-n-octets.true)
    ∙ ap (λ (x : List ℕ). x ∷ pieces_of (drop (n + 1) o)) (sym c.split_at.ensures.front)
    ∙ ap (λ (x : List ℕ). c.split_at.result.0.now ∷ pieces_of x) (sym c.split_at.ensures.back)

pub returns-else-n-octets-clause-cut : goal.returns-else-n-octets-clause-cut
returns-else-n-octets-clause-cut c = first_last c.args.octets.now c.lf_at-n.result c.lf_at-n.ensures.within c.if-n-octets.false c.lf_at-n.ensures.before c.requires
