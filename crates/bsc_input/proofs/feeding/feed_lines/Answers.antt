use Rattle.std.proofs.Common.{◌∙◌}
use Rattle.bsc_ring.specs.Ends.{pushed}
use Rattle.bsc_input.proofs.Fed.{fed_all, fed_front, fed_none}
use Rattle.bsc_input.proofs.feeding.feed_lines.Goals as goal

pub returns-in_default-clause-fed : goal.returns-in_default-clause-fed
returns-in_default-clause-fed g c =
    fed_none (g.S.Source.reads c.args.source.now) c.new-feed.result.cutter.read.items c.new-feed.result.cutter.lines.items (pushed c.close.result)
    c.new-feed.result.cutter.begun.items c.new-feed.result.cutter.front.items c.new-feed.ensures.read (c.close.ensures.items ∙ c.new-feed.result.same)
    c.new-feed.result.cutter.cut

pub returns-in-All-clause-fed : goal.returns-in-All-clause-fed
returns-in-All-clause-fed g c =
    fed_all (g.S.Source.reads c.args.source.now) (g.S.Source.reads c.read_all.new.source) c.new-feed.result.cutter.read.items
    c.read_all.new.self.cutter.read.items (pushed c.end-inlet.result) (pushed c.close-in-All.result)
    c.new-feed.ensures.read c.close-in-All.ensures.items c.end-inlet.ensures.all (c.read_all.ensures.all c.in-All.is)

pub returns-in_default-read_all : goal.returns-in_default-read_all
returns-in_default-read_all g c = record {
  fed = fed_front (g.S.Source.reads c.args.source.now) (g.S.Source.reads c.read_all.new.source) c.new-feed.result.cutter.read.items
      c.read_all.new.self.cutter.read.items c.read_all.new.self.cutter.lines.items (pushed c.close-in_default-read_all.result)
      c.read_all.new.self.cutter.begun.items c.read_all.new.self.cutter.front.items c.read_all.result
      c.new-feed.ensures.read (c.close-in_default-read_all.ensures.items ∙ c.read_all.new.self.same) c.read_all.new.self.cutter.cut
      c.in_default-read_all.not-All c.read_all.ensures.front;
  ended = λ is. absurd (c.in_default-read_all.not-All is);
  cut_short = λ other. c.close-in_default-read_all.ensures.ended;
  failed = c.read_all.ensures.failed;
  mark = c.close-in_default-read_all.ensures.mark ∙ c.read_all.ensures.mark ∙ c.new-feed.ensures.mark;
}
