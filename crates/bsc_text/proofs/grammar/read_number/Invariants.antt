-- The digits so far, and the number that they write.
use Rattle.std.proofs.Common.{◌≡◌, ◌^◌, ◌<◌, true, take}
use Rattle.std.specs.List.{list_all}
use Rattle.bsc_text.specs.Grammar.{is_digit, decimal_value}
use Rattle.bsc_text.proofs.grammar.read_number.Given as goal

abbrev pub invariant-loop-digit : goal.invariant-loop-digit
invariant-loop-digit l = record {
  digits : list_all is_digit (take l.digit-index l.word) ≡ true;
  number : l.number ≡ decimal_value (take l.digit-index l.word);
  small : l.number < 10 ^ l.digit-index;
}
