use Rattle.std.proofs.Common.{ap, ◌∙◌}
use Rattle.bsc_live_lines.specs.Waiting.{asked_by_answers}
use Rattle.bsc_live_lines.proofs.More.{answers_so}
use Rattle.bsc_live_lines.proofs.live_lines.LiveLinesApplication.next.Goals as goal

pub invariant_of-self : goal.invariant_of-self
invariant_of-self g c = record {
  all = ap asked_by_answers c.note.ensures
      ∙ answers_so c.args.self.now.answers.items c.args.self.now.lines.reading.asked.items c.next-answer.new.self.reading.asked.items
      c.next-answer.result c.args.self.now.all c.next-answer.ensures.asked c.next-answer.ensures.none;
}
