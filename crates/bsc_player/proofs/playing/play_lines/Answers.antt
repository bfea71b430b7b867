use Rattle.std.proofs.Common.{ℕ, List, Option, ◌+◌, ◌∙◌, ap, refl, arith}
use Rattle.bsc_player.specs.declared.play_end.PlayEnd.TheVariants.{ReadFault, WriteFault}
use Rattle.bsc_text.specs.Lines.{has_no_lf}
use Rattle.bsc_player.proofs.Looping.{PlaysOn, loop_begins, loop_plays, loop_hands_over, loop_fills, loop_breaks_off, loop_faults, loop_refuses, loop_refuses_big, loop_runs_out, loop_ends}
use Rattle.bsc_player.proofs.Reading.{reading_begins, reading_keeps, reading_fills, reading_faults, reading_ends, reading_none}
use Rattle.bsc_player.proofs.playing.play_lines.Goals as goal

pub loop-line-init : goal.loop-line-init
loop-line-init g c = (
  loop_begins g.L.Language.means (g.L.Language.stands_for c.args.language.now) (g.S.Source.left c.args.source.now)
      (g.K.Sink.held c.args.sink.now) c.in-Ok.feed c.new-text.result.items c.requires.some c.in-Ok.ensures.unread c.in-Ok.ensures.used_up.1 c.in-Ok.ensures.count c.new-text.ensures.items,
  omega arith,
  omega arith,
  reading_begins g.L.Language.means (g.L.Language.stands_for c.args.language.now) (g.S.Source.reads c.args.source.now)
      (g.K.Sink.held c.args.sink.now) c.in-Ok.feed c.new-text.result.items c.requires.some c.in-Ok.ensures.unread c.in-Ok.ensures.used_up.1 c.in-Ok.ensures.count c.new-text.ensures.items,
)

pub returns-in-Err-Refused-clause-played : goal.returns-in-Err-Refused-clause-played
returns-in-Err-Refused-clause-played g c = loop_refuses g.L.Language.means (g.L.Language.stands_for c.args.language.now) (g.S.Source.left c.args.source.now) (g.K.Sink.held c.args.sink.now)
    (g.S.Source.left c.loop-line.source) (g.K.Sink.held c.loop-line.sink) (g.K.Sink.held c.stop.new.sink) c.loop-line.feed c.next_line.new.self c.loop-line.number
    (g.L.Language.stands_for c.loop-line.language)
    (g.L.Language.stands_for c.play.new.language) c.loop-line.text.items c.play.new.text.items c.in-Line.line c.stop.result c.in-Err-Refused.field-0 c.loop-line.invariant.0
    c.in-Line.ensures.fed c.in-Err-Refused.field-0-is c.in-Err-Refused.ensures.played c.in-Err-Refused.ensures.kept c.stop.ensures.stopped

pub returns-in-Err-Refused-clause-took : goal.returns-in-Err-Refused-clause-took
returns-in-Err-Refused-clause-took g c = reading_ends g.L.Language.means (g.L.Language.stands_for c.args.language.now) (g.S.Source.reads c.args.source.now)
    (g.S.Source.reads c.loop-line.source) (g.K.Sink.held c.args.sink.now) (g.K.Sink.held c.loop-line.sink) (g.K.Sink.held c.stop.new.sink) c.loop-line.feed c.loop-line.number
    (g.L.Language.stands_for c.loop-line.language) c.loop-line.text.items c.stop.result c.loop-line.invariant.3
    (λ lb left on. loop_refuses g.L.Language.means (g.L.Language.stands_for c.args.language.now) lb (g.K.Sink.held c.args.sink.now) left (g.K.Sink.held c.loop-line.sink)
    (g.K.Sink.held c.stop.new.sink) c.loop-line.feed c.next_line.new.self c.loop-line.number (g.L.Language.stands_for c.loop-line.language)
    (g.L.Language.stands_for c.play.new.language) c.loop-line.text.items c.play.new.text.items c.in-Line.line c.stop.result c.in-Err-Refused.field-0 on c.in-Line.ensures.fed
    c.in-Err-Refused.field-0-is c.in-Err-Refused.ensures.played c.in-Err-Refused.ensures.kept c.stop.ensures.stopped)

pub returns-in-Err-NoMemory-clause-played : goal.returns-in-Err-NoMemory-clause-played
returns-in-Err-NoMemory-clause-played g c = loop_runs_out g.L.Language.means (g.L.Language.stands_for c.args.language.now) (g.S.Source.left c.args.source.now) (g.K.Sink.held c.args.sink.now)
    (g.S.Source.left c.loop-line.source) (g.K.Sink.held c.loop-line.sink) (g.K.Sink.held c.stop-in-Err-NoMemory.new.sink) c.loop-line.feed c.loop-line.number
    (g.L.Language.stands_for c.loop-line.language) c.loop-line.text.items c.play.new.text.items c.stop-in-Err-NoMemory.result c.loop-line.invariant.0 c.in-Err-NoMemory.ensures.kept
    c.stop-in-Err-NoMemory.ensures.stopped

pub returns-in-Err-NoMemory-clause-took : goal.returns-in-Err-NoMemory-clause-took
returns-in-Err-NoMemory-clause-took g c = reading_ends g.L.Language.means (g.L.Language.stands_for c.args.language.now) (g.S.Source.reads c.args.source.now)
    (g.S.Source.reads c.loop-line.source) (g.K.Sink.held c.args.sink.now) (g.K.Sink.held c.loop-line.sink) (g.K.Sink.held c.stop-in-Err-NoMemory.new.sink) c.loop-line.feed c.loop-line.number
    (g.L.Language.stands_for c.loop-line.language) c.loop-line.text.items c.stop-in-Err-NoMemory.result c.loop-line.invariant.3
    (λ lb left on. loop_runs_out g.L.Language.means (g.L.Language.stands_for c.args.language.now) lb (g.K.Sink.held c.args.sink.now) left (g.K.Sink.held c.loop-line.sink)
    (g.K.Sink.held c.stop-in-Err-NoMemory.new.sink) c.loop-line.feed c.loop-line.number
    (g.L.Language.stands_for c.loop-line.language) c.loop-line.text.items c.play.new.text.items c.stop-in-Err-NoMemory.result on c.in-Err-NoMemory.ensures.kept c.stop-in-Err-NoMemory.ensures.stopped)

pub returns-in-End-clause-played : goal.returns-in-End-clause-played
returns-in-End-clause-played g c = loop_ends g.L.Language.means (g.L.Language.stands_for c.args.language.now) (g.S.Source.left c.args.source.now) (g.K.Sink.held c.args.sink.now)
    (g.S.Source.left c.loop-line.source) (g.K.Sink.held c.loop-line.sink) (g.K.Sink.held c.stop-in-End.new.sink) c.loop-line.feed c.next_line.new.self c.loop-line.number
    (g.L.Language.stands_for c.loop-line.language) c.loop-line.text.items c.stop-in-End.result c.end_of.result c.may_end.result c.loop-line.invariant.0 c.in-End.ensures.fed
    c.in-End.ensures.ended c.may_end.ensures.may c.end_of.ensures.is c.stop-in-End.ensures.stopped

pub returns-in-End-clause-took : goal.returns-in-End-clause-took
returns-in-End-clause-took g c = reading_ends g.L.Language.means (g.L.Language.stands_for c.args.language.now) (g.S.Source.reads c.args.source.now) (g.S.Source.reads c.loop-line.source)
    (g.K.Sink.held c.args.sink.now) (g.K.Sink.held c.loop-line.sink) (g.K.Sink.held c.stop-in-End.new.sink) c.loop-line.feed c.loop-line.number
    (g.L.Language.stands_for c.loop-line.language) c.loop-line.text.items c.stop-in-End.result c.loop-line.invariant.3
    (λ lb left on. loop_ends g.L.Language.means (g.L.Language.stands_for c.args.language.now) lb (g.K.Sink.held c.args.sink.now) left (g.K.Sink.held c.loop-line.sink)
    (g.K.Sink.held c.stop-in-End.new.sink) c.loop-line.feed c.next_line.new.self c.loop-line.number
    (g.L.Language.stands_for c.loop-line.language) c.loop-line.text.items c.stop-in-End.result c.end_of.result c.may_end.result on c.in-End.ensures.fed c.in-End.ensures.ended
    c.may_end.ensures.may c.end_of.ensures.is c.stop-in-End.ensures.stopped)

pub returns-in-Refused-clause-played : goal.returns-in-Refused-clause-played
returns-in-Refused-clause-played g c = loop_refuses_big g.L.Language.means (g.L.Language.stands_for c.args.language.now) (g.S.Source.left c.args.source.now) (g.K.Sink.held c.args.sink.now)
    (g.S.Source.left c.loop-line.source) (g.K.Sink.held c.loop-line.sink) (g.K.Sink.held c.stop-in-Refused.new.sink) c.loop-line.feed c.next_line.new.self c.loop-line.number
    (g.L.Language.stands_for c.loop-line.language) c.loop-line.text.items c.stop-in-Refused.result c.loop-line.invariant.0 c.in-Refused.ensures.fed c.stop-in-Refused.ensures.stopped

pub returns-in-Refused-clause-took : goal.returns-in-Refused-clause-took
returns-in-Refused-clause-took g c = reading_ends g.L.Language.means (g.L.Language.stands_for c.args.language.now) (g.S.Source.reads c.args.source.now) (g.S.Source.reads c.loop-line.source)
    (g.K.Sink.held c.args.sink.now) (g.K.Sink.held c.loop-line.sink) (g.K.Sink.held c.stop-in-Refused.new.sink) c.loop-line.feed c.loop-line.number
    (g.L.Language.stands_for c.loop-line.language) c.loop-line.text.items c.stop-in-Refused.result c.loop-line.invariant.3
    (λ lb left on. loop_refuses_big g.L.Language.means (g.L.Language.stands_for c.args.language.now) lb (g.K.Sink.held c.args.sink.now) left (g.K.Sink.held c.loop-line.sink)
    (g.K.Sink.held c.stop-in-Refused.new.sink) c.loop-line.feed c.next_line.new.self c.loop-line.number
    (g.L.Language.stands_for c.loop-line.language) c.loop-line.text.items c.stop-in-Refused.result on c.in-Refused.ensures.fed c.stop-in-Refused.ensures.stopped)

pub returns-in-NoMemory-clause-played : goal.returns-in-NoMemory-clause-played
returns-in-NoMemory-clause-played g c = loop_runs_out g.L.Language.means (g.L.Language.stands_for c.args.language.now) (g.S.Source.left c.args.source.now) (g.K.Sink.held c.args.sink.now)
    (g.S.Source.left c.loop-line.source) (g.K.Sink.held c.loop-line.sink) (g.K.Sink.held c.stop-in-NoMemory.new.sink) c.loop-line.feed c.loop-line.number
    (g.L.Language.stands_for c.loop-line.language) c.loop-line.text.items c.loop-line.text.items c.stop-in-NoMemory.result c.loop-line.invariant.0 refl c.stop-in-NoMemory.ensures.stopped

pub returns-in-NoMemory-clause-took : goal.returns-in-NoMemory-clause-took
returns-in-NoMemory-clause-took g c = reading_ends g.L.Language.means (g.L.Language.stands_for c.args.language.now) (g.S.Source.reads c.args.source.now) (g.S.Source.reads c.loop-line.source)
    (g.K.Sink.held c.args.sink.now) (g.K.Sink.held c.loop-line.sink) (g.K.Sink.held c.stop-in-NoMemory.new.sink) c.loop-line.feed c.loop-line.number
    (g.L.Language.stands_for c.loop-line.language) c.loop-line.text.items c.stop-in-NoMemory.result c.loop-line.invariant.3
    (λ lb left on. loop_runs_out g.L.Language.means (g.L.Language.stands_for c.args.language.now) lb (g.K.Sink.held c.args.sink.now) left (g.K.Sink.held c.loop-line.sink)
    (g.K.Sink.held c.stop-in-NoMemory.new.sink) c.loop-line.feed c.loop-line.number
    (g.L.Language.stands_for c.loop-line.language) c.loop-line.text.items c.loop-line.text.items c.stop-in-NoMemory.result on refl c.stop-in-NoMemory.ensures.stopped)

pub loop-line-preserved-in_default : goal.loop-line-preserved-in_default
loop-line-preserved-in_default g c =
    let carried : (lb left : Option (List ℕ)) → PlaysOn g.L.Language.means (g.L.Language.stands_for c.args.language.now) lb (g.K.Sink.held c.args.sink.now) left
    (g.K.Sink.held c.loop-line.sink) c.loop-line.feed c.loop-line.number (g.L.Language.stands_for c.loop-line.language) c.loop-line.text.items
    → PlaysOn g.L.Language.means (g.L.Language.stands_for c.args.language.now) lb (g.K.Sink.held c.args.sink.now) left (g.K.Sink.held c.relieve.new.sink) c.next_line.new.self
    (c.loop-line.number + 1) (g.L.Language.stands_for c.play.new.language) c.relieve.new.text.items = λ lb left on. (
    let played = loop_plays g.L.Language.means (g.L.Language.stands_for c.args.language.now) lb (g.K.Sink.held c.args.sink.now) left
    (g.K.Sink.held c.loop-line.sink) c.loop-line.feed c.next_line.new.self c.loop-line.number (g.L.Language.stands_for c.loop-line.language)
    (g.L.Language.stands_for c.play.new.language) c.loop-line.text.items c.play.new.text.items c.in-Line.line on c.in-Line.ensures.fed c.in-Line.ensures.ended
    (c.in-Line.ensures.on c.in-Line.line refl) c.in-Ok-play.ensures.some c.in-Ok-play.ensures.played in
    loop_hands_over g.L.Language.means (g.L.Language.stands_for c.args.language.now) lb (g.K.Sink.held c.args.sink.now) left (g.K.Sink.held c.loop-line.sink)
    (g.K.Sink.held c.relieve.new.sink) c.next_line.new.self (c.loop-line.number + 1)
    (g.L.Language.stands_for c.play.new.language) c.play.new.text.items c.relieve.new.text.items played c.in_default.ensures.over) in (
      carried (g.S.Source.left c.args.source.now) (g.S.Source.left c.loop-line.source) c.loop-line.invariant.0,
      omega (arith, c.loop-line.invariant.1),
      omega (arith, c.loop-line.invariant.2, c.relieve.ensures.later),
      reading_keeps g.L.Language.means (g.L.Language.stands_for c.args.language.now) (g.S.Source.reads c.args.source.now) (g.S.Source.reads c.loop-line.source)
          (g.K.Sink.held c.args.sink.now) (g.K.Sink.held c.loop-line.sink) (g.K.Sink.held c.relieve.new.sink) c.loop-line.feed c.next_line.new.self c.loop-line.number
          (c.loop-line.number + 1) (g.L.Language.stands_for c.loop-line.language)
          (g.L.Language.stands_for c.play.new.language) c.loop-line.text.items c.relieve.new.text.items c.loop-line.invariant.3 c.in-Line.ensures.ended carried,
    )

pub returns-in-Err-relieve-clause-played : goal.returns-in-Err-relieve-clause-played
returns-in-Err-relieve-clause-played g c =
    let played = loop_plays g.L.Language.means (g.L.Language.stands_for c.args.language.now) (g.S.Source.left c.args.source.now) (g.K.Sink.held c.args.sink.now)
    (g.S.Source.left c.loop-line.source) (g.K.Sink.held c.loop-line.sink) c.loop-line.feed c.next_line.new.self c.loop-line.number (g.L.Language.stands_for c.loop-line.language)
    (g.L.Language.stands_for c.play.new.language) c.loop-line.text.items c.play.new.text.items c.in-Line.line c.loop-line.invariant.0 c.in-Line.ensures.fed c.in-Line.ensures.ended
    (c.in-Line.ensures.on c.in-Line.line refl) c.in-Ok-play.ensures.some c.in-Ok-play.ensures.played in
    loop_breaks_off g.L.Language.means (g.L.Language.stands_for c.args.language.now) (g.S.Source.left c.args.source.now) (g.K.Sink.held c.args.sink.now) (g.S.Source.left c.loop-line.source)
    (g.K.Sink.held c.loop-line.sink) (g.K.Sink.held c.relieve.new.sink) c.next_line.new.self (c.loop-line.number + 1)
    (g.L.Language.stands_for c.play.new.language) c.play.new.text.items played c.in-Err-relieve.ensures.part

pub returns-in-Err-relieve-clause-took : goal.returns-in-Err-relieve-clause-took
returns-in-Err-relieve-clause-took g c = reading_ends g.L.Language.means (g.L.Language.stands_for c.args.language.now) (g.S.Source.reads c.args.source.now)
    (g.S.Source.reads c.loop-line.source) (g.K.Sink.held c.args.sink.now) (g.K.Sink.held c.loop-line.sink) (g.K.Sink.held c.relieve.new.sink) c.loop-line.feed c.loop-line.number
    (g.L.Language.stands_for c.loop-line.language) c.loop-line.text.items WriteFault c.loop-line.invariant.3
    (λ lb left on. loop_breaks_off g.L.Language.means (g.L.Language.stands_for c.args.language.now) lb (g.K.Sink.held c.args.sink.now) left (g.K.Sink.held c.loop-line.sink)
    (g.K.Sink.held c.relieve.new.sink) c.next_line.new.self (c.loop-line.number + 1) (g.L.Language.stands_for c.play.new.language) c.play.new.text.items
    (loop_plays g.L.Language.means (g.L.Language.stands_for c.args.language.now) lb (g.K.Sink.held c.args.sink.now) left
    (g.K.Sink.held c.loop-line.sink) c.loop-line.feed c.next_line.new.self c.loop-line.number (g.L.Language.stands_for c.loop-line.language)
    (g.L.Language.stands_for c.play.new.language) c.loop-line.text.items c.play.new.text.items c.in-Line.line on c.in-Line.ensures.fed c.in-Line.ensures.ended
    (c.in-Line.ensures.on c.in-Line.line refl) c.in-Ok-play.ensures.some c.in-Ok-play.ensures.played) c.in-Err-relieve.ensures.part)

pub returns-in-Err-hand_over-clause-played : goal.returns-in-Err-hand_over-clause-played
returns-in-Err-hand_over-clause-played g c = loop_breaks_off g.L.Language.means (g.L.Language.stands_for c.args.language.now) (g.S.Source.left c.args.source.now)
    (g.K.Sink.held c.args.sink.now) (g.S.Source.left c.loop-line.source) (g.K.Sink.held c.loop-line.sink) (g.K.Sink.held c.hand_over.new.sink) c.loop-line.feed c.loop-line.number
    (g.L.Language.stands_for c.loop-line.language) c.loop-line.text.items c.loop-line.invariant.0 c.in-Err-hand_over.ensures.part

pub returns-in-Err-hand_over-clause-took : goal.returns-in-Err-hand_over-clause-took
returns-in-Err-hand_over-clause-took g c = reading_ends g.L.Language.means (g.L.Language.stands_for c.args.language.now) (g.S.Source.reads c.args.source.now)
    (g.S.Source.reads c.loop-line.source) (g.K.Sink.held c.args.sink.now) (g.K.Sink.held c.loop-line.sink) (g.K.Sink.held c.hand_over.new.sink) c.loop-line.feed c.loop-line.number
    (g.L.Language.stands_for c.loop-line.language) c.loop-line.text.items WriteFault c.loop-line.invariant.3
    (λ lb left on. loop_breaks_off g.L.Language.means (g.L.Language.stands_for c.args.language.now) lb (g.K.Sink.held c.args.sink.now) left (g.K.Sink.held c.loop-line.sink)
    (g.K.Sink.held c.hand_over.new.sink) c.loop-line.feed c.loop-line.number (g.L.Language.stands_for c.loop-line.language) c.loop-line.text.items on c.in-Err-hand_over.ensures.part)

pub loop-line-preserved : goal.loop-line-preserved
loop-line-preserved g c = (
  loop_fills g.L.Language.means (g.L.Language.stands_for c.args.language.now) (g.S.Source.left c.args.source.now) (g.K.Sink.held c.args.sink.now) (g.S.Source.left c.loop-line.source)
      (g.S.Source.left c.fill.new.source) (g.K.Sink.held c.loop-line.sink) (g.K.Sink.held c.hand_over.new.sink) c.loop-line.feed c.next_line.new.self c.fill.new.self c.loop-line.number
      (g.L.Language.stands_for c.loop-line.language) c.loop-line.text.items c.hand_over.new.text.items c.loop-line.invariant.0 c.in-More.ensures.fed c.in-More.ensures.ended
      c.in_default-hand_over.ensures.over c.in_default-hand_over.ensures.empty c.fill.ensures.kept c.fill.ensures.ended c.in_default-fill.ensures.filled.count,
  omega (arith, c.loop-line.invariant.1, c.fill.ensures.later),
  omega (arith, c.loop-line.invariant.2, c.hand_over.ensures.later),
  reading_fills g.L.Language.means (g.L.Language.stands_for c.args.language.now) (g.S.Source.reads c.args.source.now) (g.S.Source.reads c.loop-line.source)
      (g.S.Source.reads c.fill.new.source) (g.K.Sink.held c.args.sink.now) (g.K.Sink.held c.loop-line.sink)
      (g.K.Sink.held c.hand_over.new.sink) c.loop-line.feed c.next_line.new.self c.fill.new.self c.loop-line.number
      (g.L.Language.stands_for c.loop-line.language) c.loop-line.text.items c.hand_over.new.text.items c.loop-line.invariant.3 c.in-More.ensures.fed c.in-More.ensures.ended
      c.in_default-hand_over.ensures.over c.in_default-hand_over.ensures.empty c.in_default-fill.ensures.took c.in_default-fill.ensures.filled.count,
)

pub returns-in-Err-fill-clause-played : goal.returns-in-Err-fill-clause-played
returns-in-Err-fill-clause-played g c =
    let filled = loop_fills g.L.Language.means (g.L.Language.stands_for c.args.language.now) (g.S.Source.left c.args.source.now) (g.K.Sink.held c.args.sink.now)
    (g.S.Source.left c.loop-line.source) (g.S.Source.left c.fill.new.source) (g.K.Sink.held c.loop-line.sink)
    (g.K.Sink.held c.hand_over.new.sink) c.loop-line.feed c.next_line.new.self c.fill.new.self c.loop-line.number
    (g.L.Language.stands_for c.loop-line.language) c.loop-line.text.items c.hand_over.new.text.items c.loop-line.invariant.0 c.in-More.ensures.fed c.in-More.ensures.ended
    c.in_default-hand_over.ensures.over c.in_default-hand_over.ensures.empty c.fill.ensures.kept c.fill.ensures.ended c.in-Err-fill.ensures.count in
    loop_faults g.L.Language.means (g.L.Language.stands_for c.args.language.now) (g.S.Source.left c.args.source.now) (g.K.Sink.held c.args.sink.now) (g.S.Source.left c.fill.new.source)
    (g.K.Sink.held c.hand_over.new.sink) c.fill.new.self c.loop-line.number
    (g.L.Language.stands_for c.loop-line.language) c.hand_over.new.text.items filled c.in_default-hand_over.ensures.empty c.in-Err-fill.ensures.used_up.1
    (ap has_no_lf c.in-Err-fill.ensures.unread ∙ c.in-More.ensures.fed.no_lf)

pub returns-in-Err-fill-clause-took : goal.returns-in-Err-fill-clause-took
returns-in-Err-fill-clause-took g c =
    let filled = reading_faults g.L.Language.means (g.L.Language.stands_for c.args.language.now) (g.S.Source.reads c.args.source.now) (g.S.Source.reads c.loop-line.source)
    (g.S.Source.reads c.fill.new.source) (g.K.Sink.held c.args.sink.now) (g.K.Sink.held c.loop-line.sink)
    (g.K.Sink.held c.hand_over.new.sink) c.loop-line.feed c.next_line.new.self c.fill.new.self c.loop-line.number
    (g.L.Language.stands_for c.loop-line.language) c.loop-line.text.items c.hand_over.new.text.items c.loop-line.invariant.3 c.in-More.ensures.fed c.in-More.ensures.ended
    c.in_default-hand_over.ensures.over c.in_default-hand_over.ensures.empty c.in-Err-fill.ensures.gave_none c.in-Err-fill.ensures.unread c.in-Err-fill.ensures.used_up.1
    c.in-Err-fill.ensures.count in
    reading_ends g.L.Language.means (g.L.Language.stands_for c.args.language.now) (g.S.Source.reads c.args.source.now) (g.S.Source.reads c.fill.new.source) (g.K.Sink.held c.args.sink.now)
    (g.K.Sink.held c.hand_over.new.sink) (g.K.Sink.held c.hand_over.new.sink) c.fill.new.self c.loop-line.number
    (g.L.Language.stands_for c.loop-line.language) c.hand_over.new.text.items ReadFault filled
    (λ lb left on. loop_faults g.L.Language.means (g.L.Language.stands_for c.args.language.now) lb (g.K.Sink.held c.args.sink.now) left
    (g.K.Sink.held c.hand_over.new.sink) c.fill.new.self c.loop-line.number
    (g.L.Language.stands_for c.loop-line.language) c.hand_over.new.text.items on c.in_default-hand_over.ensures.empty c.in-Err-fill.ensures.used_up.1
    (ap has_no_lf c.in-Err-fill.ensures.unread ∙ c.in-More.ensures.fed.no_lf))

pub returns-in-Err-clause-took : goal.returns-in-Err-clause-took
returns-in-Err-clause-took g c = λ s t start held_is. reading_none g.L.Language.means (g.S.Source.reads c.args.source.now) (g.K.Sink.held c.args.sink.now) s t held_is
