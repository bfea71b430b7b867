-- A line that is given is short, and uses something up.
use Rattle.bsc_text.proofs.Spending.{fed-line, line-short, line-on, line-less}
use Rattle.bsc_text.proofs.feed.Feed.next_line.Goals as goal

pub returns-in-Some-clause-short : goal.returns-in-Some-clause-short
returns-in-Some-clause-short c = λ l e.
    line-short c.args.self.now c.next_whole.new.self l _ _ (fed-line _ _ c.next_whole.result l c.next_whole.ensures.fed e)

pub returns-in-Some-clause-on : goal.returns-in-Some-clause-on
returns-in-Some-clause-on c = λ l e.
    line-on c.args.self.now c.next_whole.new.self l _ _ (fed-line _ _ c.next_whole.result l c.next_whole.ensures.fed e)

pub returns-in-Some-clause-less : goal.returns-in-Some-clause-less
returns-in-Some-clause-less c = λ l e.
    line-less c.args.self.now c.next_whole.new.self l (fed-line _ _ c.next_whole.result l c.next_whole.ensures.fed e) c.next_whole.ensures.ended

pub returns-in-None-clause-short : goal.returns-in-None-clause-short
returns-in-None-clause-short c = λ l e.
    line-short c.args.self.now c.keep_rest.new.self l _ _ (fed-line _ _ c.keep_rest.result l c.keep_rest.ensures.fed e)

pub returns-in-None-clause-on : goal.returns-in-None-clause-on
returns-in-None-clause-on c = λ l e.
    line-on c.args.self.now c.keep_rest.new.self l _ _ (fed-line _ _ c.keep_rest.result l c.keep_rest.ensures.fed e)

pub returns-in-None-clause-less : goal.returns-in-None-clause-less
returns-in-None-clause-less c = λ l e.
    line-less c.args.self.now c.keep_rest.new.self l (fed-line _ _ c.keep_rest.result l c.keep_rest.ensures.fed e) c.keep_rest.ensures.ended
