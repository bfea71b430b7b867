-- An LF is found, or there is none.
use Rattle.std.proofs.Common.{sym, ap, ◌∙◌}
use Rattle.std.proofs.lemmas.List.{take_all}
use Rattle.bsc_text.specs.Lines.{has_no_lf}
use Rattle.bsc_text.proofs.Cutting.{has_no_lf-before}
use Rattle.bsc_text.proofs.pieces.first_lf.Goals as goal
use Rattle.bsc_lemmas.proofs.Lists.{line_cut as cut}

pub returns-then-n-octets : goal.returns-then-n-octets
returns-then-n-octets c = record {
  within = c.if-n-octets.true;
  no_lf = has_no_lf-before c.lf_at-n.result c.args.octets.now c.lf_at-n.ensures.within c.lf_at-n.ensures.before;
  cut = cut c.args.octets.now c.lf_at-n.result c.if-n-octets.true (c.lf_at-n.ensures.found c.if-n-octets.true);
}

pub returns-else-n-octets : goal.returns-else-n-octets
returns-else-n-octets c =
    ap has_no_lf (sym (take_all c.lf_at-n.result c.args.octets.now c.if-n-octets.false))
    ∙ has_no_lf-before c.lf_at-n.result c.args.octets.now c.lf_at-n.ensures.within c.lf_at-n.ensures.before
