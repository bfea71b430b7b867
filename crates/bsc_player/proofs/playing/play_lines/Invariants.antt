use Rattle.std.proofs.Common.{◌≤◌}
use Rattle.bsc_text.specs.Feeding.{fuel}
use Rattle.bsc_player.proofs.Looping.{PlaysOn}
use Rattle.bsc_player.proofs.Reading.{ReadsOn}
use Rattle.bsc_player.proofs.playing.play_lines.Given as goal

abbrev pub invariant-loop-line : goal.invariant-loop-line
invariant-loop-line g l = PlaysOn g.L.Language.means (g.L.Language.stands_for l.fn.language) (g.S.Source.left l.fn.source) (g.K.Sink.held l.fn.sink) (g.S.Source.left l.source)
    (g.K.Sink.held l.sink) l.feed l.number (g.L.Language.stands_for l.language) l.text.items
    × (g.S.Source.faults l.fn.source ≤ g.S.Source.faults l.source) × (g.K.Sink.faults l.fn.sink ≤ g.K.Sink.faults l.sink)
    × ReadsOn g.L.Language.means (g.L.Language.stands_for l.fn.language) (g.S.Source.reads l.fn.source) (g.S.Source.reads l.source) (g.K.Sink.held l.fn.sink)
    (g.K.Sink.held l.sink) l.feed l.number (g.L.Language.stands_for l.language) l.text.items

abbrev pub decreases-loop-line : goal.decreases-loop-line
decreases-loop-line g l = fuel l.feed
