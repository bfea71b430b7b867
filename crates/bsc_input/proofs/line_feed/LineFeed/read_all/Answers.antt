use Rattle.std.proofs.Common.{rules, [], ◌∷◌, ◌++◌}
use Rattle.bsc_input.proofs.Fed.{read_end, read_front, read_more, whole_front}
use Rattle.bsc_input.proofs.line_feed.LineFeed.read_all.Goals as goal

pub loop-preserved : goal.loop-preserved
loop-preserved g c =
    let more = read_more (g.S.Source.reads c.args.source.now) (g.S.Source.reads c.loop.source) (g.S.Source.reads c.read_once.new.source) c.loop.invariant.2.gave
    c.args.self.now.cutter.read.items c.loop.self.cutter.read.items c.read_once.new.self.cutter.read.items
    c.loop.invariant.2.told c.loop.invariant.2.read c.in-Ok-true.ensures.read in (
      tt,
      tt,
      record {
        gave = c.loop.invariant.2.gave ++ c.in-Ok-true.ensures.read.0 ∷ [];
        told = more.0;
        read = more.1;
        mark = search rules;
        room = search rules;
        later = search rules;
      },
    )

pub returns-in-Ok-false-clause-all : goal.returns-in-Ok-false-clause-all
returns-in-Ok-false-clause-all g c is =
    let end = c.in-Ok-false.ensures.ended (search rules) in
    read_end (g.S.Source.reads c.args.source.now) (g.S.Source.reads c.loop.source) (g.S.Source.reads c.read_once.new.source) c.loop.invariant.2.gave
    c.args.self.now.cutter.read.items c.loop.self.cutter.read.items c.read_once.new.self.cutter.read.items
    c.loop.invariant.2.told c.loop.invariant.2.read end.0 end.1

pub returns-in-Ok-false-clause-front : goal.returns-in-Ok-false-clause-front
returns-in-Ok-false-clause-front g c =
    let end = c.in-Ok-false.ensures.ended (search rules) in
    whole_front (g.S.Source.reads c.args.source.now) (g.S.Source.reads c.read_once.new.source) c.args.self.now.cutter.read.items c.read_once.new.self.cutter.read.items
    (read_end (g.S.Source.reads c.args.source.now) (g.S.Source.reads c.loop.source) (g.S.Source.reads c.read_once.new.source) c.loop.invariant.2.gave
    c.args.self.now.cutter.read.items c.loop.self.cutter.read.items c.read_once.new.self.cutter.read.items
    c.loop.invariant.2.told c.loop.invariant.2.read end.0 end.1)

pub returns-in-Err-clause-front : goal.returns-in-Err-clause-front
returns-in-Err-clause-front g c =
    read_front (g.S.Source.reads c.args.source.now) (g.S.Source.reads c.loop.source) (g.S.Source.reads c.read_once.new.source) c.loop.invariant.2.gave
    c.args.self.now.cutter.read.items c.loop.self.cutter.read.items c.read_once.new.self.cutter.read.items
    c.loop.invariant.2.told c.loop.invariant.2.read c.in-Err.ensures.front
