-- A word is cut off where its length says.
use Rattle.std.proofs.Common.{◌<◌, length, sym, ◌∙◌, arith}
use Rattle.std.proofs.lemmas.Bool.{eqb-false}
use Rattle.bsc_text.proofs.Spelling.{words_of-cut, has_word}
use Rattle.bsc_text.proofs.words.next_word.Goals as goal

pub returns-clause-word : goal.returns-clause-word
returns-clause-word c =
    let line = c.skip_spaces-line.result.now in
    let some : 0 < length line = omega (arith, eqb-false (length line) 0 (sym c.is_empty.ensures ∙ c.if-is_empty.false)) in
    let cut = words_of-cut c.word_len.result line
    (has_word c.word_len.result line c.skip_spaces-line.ensures.starts c.word_len.ensures.ended some) c.word_len.ensures.within c.word_len.ensures.word c.word_len.ensures.ended in
    grind (arith, cut)
