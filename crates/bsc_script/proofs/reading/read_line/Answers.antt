use Rattle.bsc_script.proofs.Fitting.{fits_if_ok}
use Rattle.bsc_script.proofs.reading.read_line.Goals as goal

pub returns-clause-fit : goal.returns-clause-fit
returns-clause-fit c = fits_if_ok c.args.line.now c.parse_line.result c.parse_line.ensures.read
