use Rattle.bsc_input.proofs.Fed.{err_read}
use Rattle.bsc_input.proofs.line_feed.LineFeed.read_once.Goals as goal

pub returns-in-Err-clause-front : goal.returns-in-Err-clause-front
returns-in-Err-clause-front g c =
    err_read (g.S.Source.reads c.args.source.now) (g.S.Source.reads c.read.new.self) c.in-Ok.n c.read.new.into
    c.args.self.now.cutter.read.items c.chunk.new.self.cutter.read.items c.in-Ok.ensures.gave c.in-Err.ensures.front
