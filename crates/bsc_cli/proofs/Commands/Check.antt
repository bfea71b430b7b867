-- The command `check`, which takes no words.
-- It serves clauses of functions of `beside`, `laws` and `reading`.
use Rattle.std.proofs.Common.{[], ◌∷◌, ◌≡◌, Some, codes, refl, sym, true≢false}
use Rattle.clap.proofs.OnLiterals.{clap_on_literals}
use Rattle.bsc_cli.specs.declared.asked.Way.TheVariants as way
use Rattle.bsc_cli.specs.Words.{asked_by, check}
use Rattle.bsc_cli.proofs.Alone.{alone_long, alone_plain, alone_short, alone_simple, alone_taken}
use Rattle.bsc_cli.proofs.Ways.{Reads}

pub check_reads : Reads way.Check
check_reads = record {
  simple = alone_simple (codes "check") check;
  plain = alone_plain (codes "check") check;
  taken = λ name words n s h. alone_taken (codes "check") check name words s;
  apart = λ name words s h. absurd (true≢false (sym s));
  long_help = alone_long (codes "check") check;
  short_help = alone_short (codes "check") check;
  fits = λ ended rows. tt;
}

-- ---- worked by hand

checks : asked_by (codes "check" ∷ []) ≡ Some check
unfolding clap_on_literals
checks = refl
