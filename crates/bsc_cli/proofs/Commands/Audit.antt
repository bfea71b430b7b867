-- The command `audit`, which takes no words.
-- It serves clauses of functions of `beside`, `laws` and `reading`.
use Rattle.std.proofs.Common.{[], ◌∷◌, ◌≡◌, None, Some, codes, refl, sym, true≢false}
use Rattle.clap.proofs.OnLiterals.{clap_on_literals}
use Rattle.bsc_cli.specs.declared.asked.Way.TheVariants as way
use Rattle.bsc_cli.specs.Words.{asked_by, audit}
use Rattle.bsc_cli.proofs.Alone.{alone_long, alone_plain, alone_short, alone_simple, alone_taken}
use Rattle.bsc_cli.proofs.Ways.{Reads}

pub audit_reads : Reads way.Audit
audit_reads = record {
  simple = alone_simple (codes "audit") audit;
  plain = alone_plain (codes "audit") audit;
  taken = λ name words n s h. alone_taken (codes "audit") audit name words s;
  apart = λ name words s h. absurd (true≢false (sym s));
  long_help = alone_long (codes "audit") audit;
  short_help = alone_short (codes "audit") audit;
  fits = λ ended rows. tt;
}

-- ---- worked by hand

audits : asked_by (codes "audit" ∷ []) ≡ Some audit
unfolding clap_on_literals
audits = refl

audits_a_file : asked_by (codes "audit" ∷ codes "a" ∷ []) ≡ None
unfolding clap_on_literals
audits_a_file = refl
