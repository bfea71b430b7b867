-- The command `replay`, which takes no words.
-- It serves clauses of functions of `beside`, `laws` and `reading`.
use Rattle.std.proofs.Common.{[], ◌∷◌, ◌≡◌, None, Some, codes, refl, sym, true≢false}
use Rattle.clap.proofs.OnLiterals.{clap_on_literals}
use Rattle.bsc_cli.specs.declared.asked.Way.TheVariants as way
use Rattle.bsc_cli.specs.Words.{asked_by, replay}
use Rattle.bsc_cli.proofs.Alone.{alone_long, alone_plain, alone_short, alone_simple, alone_taken}
use Rattle.bsc_cli.proofs.Ways.{Reads}

pub replay_reads : Reads way.Replay
replay_reads = record {
  simple = alone_simple (codes "replay") replay;
  plain = alone_plain (codes "replay") replay;
  taken = λ name words n s h. alone_taken (codes "replay") replay name words s;
  apart = λ name words s h. absurd (true≢false (sym s));
  long_help = alone_long (codes "replay") replay;
  short_help = alone_short (codes "replay") replay;
  fits = λ ended rows. tt;
}

-- ---- worked by hand

replays : asked_by (codes "replay" ∷ []) ≡ Some replay
unfolding clap_on_literals
replays = refl

replays_more : asked_by (codes "replay" ∷ codes "replay" ∷ []) ≡ None
unfolding clap_on_literals
replays_more = refl

replays_to_the_end : asked_by (codes "replay" ∷ codes "--" ∷ []) ≡ Some replay
unfolding clap_on_literals
replays_to_the_end = refl
