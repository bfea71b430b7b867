use Rattle.std.proofs.Common.{rules}
use Rattle.bsc_input.proofs.Cut.{line_ends_so}
use Rattle.bsc_input.proofs.cutter.Cutter.end_line.Goals as goal

pub invariant_of-self-2 : goal.invariant_of-self-2
invariant_of-self-2 c = record {
  cut = line_ends_so c.args.self.now.read.items c.args.self.now.lines.items c.args.self.now.begun.items c.args.self.now.front.items
      c.add.new.self.items c.add-2.new.self.items c.new-2.result.items c.replace-piece.new.dest.items c.handed-line.result c.args.self.now.cut
      (search rules) (search rules) (search rules) (search rules) (search rules);
}
