use Rattle.std.proofs.Common.{rules}
use Rattle.bsc_input.proofs.Cut.{kept_more_so, kept_same_so}
use Rattle.bsc_input.proofs.cutter.Cutter.keep.Goals as goal

pub invariant_of-self-then-len-lt-MOST_KEPT : goal.invariant_of-self-then-len-lt-MOST_KEPT
invariant_of-self-then-len-lt-MOST_KEPT c = record {
  cut = kept_more_so c.args.self.now.read.items c.args.self.now.lines.items c.args.self.now.begun.items c.args.self.now.front.items
      c.add-then-len-lt-MOST_KEPT.new.self.items c.add.new.self.items c.push.new.self.items c.args.octet c.args.self.now.cut
      (search rules) (search rules) (search rules) (search rules) (search rules);
}

pub invariant_of-self-2 : goal.invariant_of-self-2
invariant_of-self-2 c = record {
  cut = kept_same_so c.args.self.now.read.items c.args.self.now.lines.items c.args.self.now.begun.items c.args.self.now.front.items
      c.add-3.new.self.items c.add-2.new.self.items c.args.octet c.args.self.now.cut
      (search rules) (search rules) (search rules) (search rules);
}
