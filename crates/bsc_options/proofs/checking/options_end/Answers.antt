use Rattle.std.proofs.lemmas.List.{take_rest}
use Rattle.bsc_options.proofs.Ends.{ends_within, whole_not_cut}
use Rattle.bsc_options.proofs.checking.options_end.Goals as goal

pub returns-clause-within : goal.returns-clause-within
returns-clause-within c = ends_within c.args.m.now _ c.args.at c.in_ok-length.length (take_rest c.args.m.now c.args.at) c.requires c.in_ok-length.ensures.found

pub returns-clause-none : goal.returns-clause-none
returns-clause-none c = ((λ h. absurd cc), (λ cut. absurd (whole_not_cut c.args.m.now _ c.args.at c.in_ok-length.length (take_rest c.args.m.now c.args.at) c.in_ok-length.ensures.found cut)))
