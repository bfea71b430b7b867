use Rattle.bsc_edge.proofs.Reading.{gave_alone_if}
use Rattle.bsc_hub_command.proofs.command.read_file.Goals as goal

pub returns-clause-gave : goal.returns-clause-gave
returns-clause-gave g c = gave_alone_if g.F.Files.holds g.F.Files.loads c.args.files.now c.load.new.self c.args.path.now c.load.result c.load.ensures.given c.load.ensures.told

pub returns-clause-once : goal.returns-clause-once
returns-clause-once g c = (c.load.result, c.load.ensures.told)
