use Rattle.bsc_player.proofs.Ran.{tells, tells_of_reads}
use Rattle.bsc_commands.specs.Commands.{played_by}
use Rattle.bsc_commands.proofs.playing.play.Goals as goal

pub returns-clause-played : goal.returns-clause-played
returns-clause-played g c o t left held =
    let left' = g.S.Source.left c.play_command-end.new.source in
    let mid = g.K.Sink.held c.play_command-end.new.sink in
    let ended = c.play_command-end.result in
    let played = c.play_command-end.ensures.played o t left held in
    tells (played_by c.args.command) c.end_play.result o t left' mid (g.K.Sink.held c.end_play.new.sink) (g.S.Source.faults c.args.source.now)
    (g.S.Source.faults c.play_command-end.new.source) ended c.play_command-end.ensures.read_fault played c.end_play.ensures.ends

pub returns-clause-took : goal.returns-clause-took
returns-clause-took g c t held =
    let mid = g.K.Sink.held c.play_command-end.new.sink in
    tells_of_reads (played_by c.args.command) c.end_play.result t (g.S.Source.reads c.args.source.now) (g.S.Source.reads c.play_command-end.new.source) mid
    (g.K.Sink.held c.end_play.new.sink) (g.S.Source.faults c.args.source.now)
    (g.S.Source.faults c.play_command-end.new.source) c.play_command-end.result c.play_command-end.ensures.read_fault (c.play_command-end.ensures.took t held) c.end_play.ensures.ends
