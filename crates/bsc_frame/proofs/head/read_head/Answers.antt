use Rattle.bsc_frame.proofs.Heads.{first_short, first_cut}
use Rattle.bsc_frame.proofs.head.read_head.Goals as goal

pub returns-in-Err-Short : goal.returns-in-Err-Short
returns-in-Err-Short c = first_short c.args.m.now (c.read_envelope.ensures.short.0 (cc (c.in-Err-Short.is, c.in-Err-Short.field-0-is)))

pub returns-in-Err-Cut : goal.returns-in-Err-Cut
returns-in-Err-Cut c = let lack = c.read_envelope.ensures.cut.0 (cc (c.in-Err-Cut.is, c.in-Err-Cut.field-0-is)) in first_cut c.args.m.now lack.0 lack.1
