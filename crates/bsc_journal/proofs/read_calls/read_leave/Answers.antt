use Rattle.std.proofs.Common.{Some, sym, ◌∙◌}
use Rattle.bsc_text.specs.Words.{words_of}
use Rattle.bsc_journal.specs.Reading.{asked, read}
use Rattle.bsc_journal.proofs.CallsIn.{leave_all, leave_second, leave_third}
use Rattle.bsc_journal.proofs.read_calls.read_leave.Goals as goal

pub returns-in_default-number_in-clause-refused : goal.returns-in_default-number_in-clause-refused
returns-in_default-number_in-clause-refused c refused =
    leave_second (words_of c.args.words.now) c.in-Some.conn (words_of c.in-Some.words.now) c.in-Some.ensures.read c.in_default-number_in.ensures.read

pub returns-in_default-number_in-2-clause-refused : goal.returns-in_default-number_in-2-clause-refused
returns-in_default-number_in-2-clause-refused c refused =
    leave_third (words_of c.args.words.now) c.in-Some.conn (words_of c.in-Some.words.now) c.in-Some-number_in.taken (words_of c.in-Some-number_in.words.now)
    c.in-Some.ensures.read c.in-Some-number_in.ensures.read c.in_default-number_in-2.ensures.read

pub returns-clause-read : goal.returns-clause-read
returns-clause-read c =
    let all = leave_all (words_of c.args.words.now) c.in-Some.conn (words_of c.in-Some.words.now) c.in-Some-number_in.taken
    (words_of c.in-Some-number_in.words.now) c.in-Some-number_in-2.empties (words_of c.in-Some-number_in-2.words.now)
    c.in-Some.ensures.read c.in-Some-number_in.ensures.read c.in-Some-number_in-2.ensures.read in
    let call = sym c.without_looks.ensures.0 in
    let looks = sym c.without_looks.ensures.1 in
    let rest = sym c.without_looks.ensures.2 in
    all ∙ (λ i. Some (read (asked (call i) (looks i)) (words_of (rest i))))
