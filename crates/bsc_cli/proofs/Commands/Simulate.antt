-- The command `simulate`, which takes no words.
-- It serves clauses of functions of `beside`, `laws` and `reading`.
use Rattle.std.proofs.Common.{[], ◌∷◌, ◌≡◌, None, Some, codes, refl, sym, true≢false}
use Rattle.clap.proofs.OnLiterals.{clap_on_literals}
use Rattle.bsc_cli.specs.declared.asked.Way.TheVariants as way
use Rattle.bsc_cli.specs.Words.{asked_by, simulate}
use Rattle.bsc_cli.proofs.Alone.{alone_long, alone_plain, alone_short, alone_simple, alone_taken}
use Rattle.bsc_cli.proofs.Ways.{Reads}

pub simulate_reads : Reads way.Simulate
simulate_reads = record {
  simple = alone_simple (codes "simulate") simulate;
  plain = alone_plain (codes "simulate") simulate;
  taken = λ name words n s h. alone_taken (codes "simulate") simulate name words s;
  apart = λ name words s h. absurd (true≢false (sym s));
  long_help = alone_long (codes "simulate") simulate;
  short_help = alone_short (codes "simulate") simulate;
  fits = λ ended rows. tt;
}

-- ---- worked by hand

simulates : asked_by (codes "simulate" ∷ []) ≡ Some simulate
unfolding clap_on_literals
simulates = refl

simulates_a_file : asked_by (codes "simulate" ∷ codes "a" ∷ []) ≡ None
unfolding clap_on_literals
simulates_a_file = refl
