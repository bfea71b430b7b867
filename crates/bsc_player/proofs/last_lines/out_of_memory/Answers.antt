use Rattle.bsc_player.specs.LastLines.{memory_line}
use Rattle.bsc_player.proofs.Ran.{tried}
use Rattle.bsc_player.proofs.last_lines.out_of_memory.Goals as goal

pub returns-clause-tried : goal.returns-clause-tried
returns-clause-tried g c = tried (g.K.Sink.held c.args.sink.now) (g.K.Sink.held c.write.new.self) memory_line c.write.result c.write.ensures.ok c.write.ensures.err
