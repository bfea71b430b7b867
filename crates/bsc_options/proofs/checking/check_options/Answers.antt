use Rattle.bsc_options.proofs.Ends.{end_found, end_within, end_only, end_cut_then, end_cut_if, end_bad_kind_then, end_bad_kind_if, end_bad_shape_then, end_bad_shape_if, end_memory}
use Rattle.bsc_options.proofs.checking.check_options.Goals as goal

pub returns : goal.returns
returns c =
    let m = c.args.m.now in
    let at = c.args.at in
    let r = c.look_at.result in
    let f = c.look_at.ensures in
    record {
      found = end_found m at r f;
      only = end_only m at r f;
      within = end_within m at r c.requires f;
      cut = (end_cut_then m at r f, end_cut_if m at r f);
      bad_kind = (end_bad_kind_then m at r f, end_bad_kind_if m at r f);
      bad_shape = (end_bad_shape_then m at r f, end_bad_shape_if m at r f);
      memory = end_memory m at r f;
    }
