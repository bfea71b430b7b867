use Rattle.std.proofs.Common.{◌≡◌, Bool, None, ap, sym, ◌∙◌, rules}
use Rattle.bsc_text.specs.Words.{words_of}
use Rattle.bsc_journal.specs.Reading.{call_in, reply_in}
use Rattle.bsc_journal.proofs.EntriesIn.{entry_all, entry_call, entry_reply, entry_second}
use Rattle.bsc_journal.proofs.finding.read_words.Goals as goal

pub returns-in_default-number_in-clause-refused : goal.returns-in_default-number_in-clause-refused
returns-in_default-number_in-clause-refused c refused =
    entry_second (words_of c.args.words.now) c.in-Some.place (words_of c.in-Some.words.now) c.in-Some.ensures.read c.in_default-number_in.ensures.read

pub returns-in_err-call-clause-refused : goal.returns-in_err-call-clause-refused
returns-in_err-call-clause-refused c refused =
    let none : call_in (words_of c.in-Some-number_in.words.now) ≡ None = search rules in
    entry_call (words_of c.args.words.now) c.in-Some.place (words_of c.in-Some.words.now) c.in-Some-number_in.caller (words_of c.in-Some-number_in.words.now)
    c.in-Some.ensures.read c.in-Some-number_in.ensures.read none

pub returns-in_err-reply-clause-refused : goal.returns-in_err-reply-clause-refused
returns-in_err-reply-clause-refused c refused =
    let none : reply_in c.is_connect.result (words_of c.in_ok-call.words.now) ≡ None = search rules in
    let by_call = ap (λ (b : Bool). reply_in b (words_of c.in_ok-call.words.now)) (sym c.is_connect.ensures) ∙ none in
    entry_reply (words_of c.args.words.now) c.in-Some.place (words_of c.in-Some.words.now) c.in-Some-number_in.caller (words_of c.in-Some-number_in.words.now)
    c.in_ok-call.call c.in_ok-call.looks (words_of c.in_ok-call.words.now) c.in-Some.ensures.read c.in-Some-number_in.ensures.read c.in_ok-call.ensures.read by_call

pub returns-clause-read : goal.returns-clause-read
returns-clause-read c =
    let by_call = ap (λ (b : Bool). reply_in b (words_of c.in_ok-call.words.now)) (sym c.is_connect.ensures) ∙ c.in_ok-reply.ensures.read in
    entry_all (words_of c.args.words.now) c.in-Some.place (words_of c.in-Some.words.now) c.in-Some-number_in.caller (words_of c.in-Some-number_in.words.now)
    c.in_ok-call.call c.in_ok-call.looks (words_of c.in_ok-call.words.now) c.in_ok-reply.reply
    c.in-Some.ensures.read c.in-Some-number_in.ensures.read c.in_ok-call.ensures.read by_call
