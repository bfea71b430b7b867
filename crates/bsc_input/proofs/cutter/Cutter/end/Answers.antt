use Rattle.std.proofs.Common.{rules}
use Rattle.bsc_input.proofs.Cut.{no_more}
use Rattle.bsc_input.proofs.cutter.Cutter.end.Goals as goal

pub returns-then-is_empty : goal.returns-then-is_empty
returns-then-is_empty c =
    no_more c.args.self.read.items c.args.self.lines.items c.args.self.begun.items c.args.self.front.items c.args.self.cut (search rules)
