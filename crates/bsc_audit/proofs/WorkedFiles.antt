-- Small journals in files, and what an audit of them comes to, worked by hand: A and B join a hub, and A sends to B.
-- No clause needs it: worked examples.
use Rattle.std.proofs.Common.{◌≡◌, ℕ, ◌<◌, ◌≤◌, List, [], ◌∷◌, ◌++◌, length, codes, refl, arith}
use Rattle.std.proofs.lemmas.Bool.{leb-true}
use Rattle.std.specs.Prelude.{⊤}
use Rattle.bsc_script.proofs.OnLiterals.{script_on_literals}
use Rattle.bsc_journal.specs.declared.journal_record.JournalRecord.{JournalRecord}
use Rattle.bsc_journal.specs.declared.journal_record.JournalRecord.TheVariants.{Hub, Entry as AnEntry, Denial}
use Rattle.bsc_journal.specs.Journals.{most_in_line}
use Rattle.bsc_journal.specs.Saying.{IsLineOf, Says}
use Rattle.bsc_journal.proofs.OnLiterals.{journals_on_literals}
use Rattle.bsc_journal.proofs.WorkedPieces.{the_hub, a_joins, b_joins, a_sends, hub_line, a_line, b_line, sent_line, early_line, lines}
use Rattle.bsc_audit.specs.declared.files.files_end.FilesEnd.TheVariants.{Legal as IsLegal, BadLine, Unsorted, Hubs, Twice, Missing, Illegal}
use Rattle.bsc_audit.specs.Together.{FilesAuditTo, FilesTell, IsGoodLine}
use Rattle.bsc_audit.proofs.WorkedJournals.{a_says, b_says, early_has, early_illegal, history_legal, hub_says, joins_legal, no_entry, none_below_zero, sent_says}

good : (l : List ℕ) (s : JournalRecord) → Says l s → length l ≤ most_in_line → IsGoodLine l s
good l s says short = record { says = says; short = short }

hub_good : IsGoodLine hub_line (Hub the_hub)
hub_good = good hub_line (Hub the_hub) hub_says (leb-true (length hub_line) most_in_line refl)

a_good : IsGoodLine a_line (AnEntry 0 a_joins)
a_good = good a_line (AnEntry 0 a_joins) a_says (leb-true (length a_line) most_in_line refl)

b_good : IsGoodLine b_line (AnEntry 1 b_joins)
b_good = good b_line (AnEntry 1 b_joins) b_says (leb-true (length b_line) most_in_line refl)

sent_good : IsGoodLine sent_line (AnEntry 2 (a_sends 0))
sent_good = good sent_line (AnEntry 2 (a_sends 0)) sent_says (leb-true (length sent_line) most_in_line refl)

early_says : IsLineOf early_line 2 (a_sends 1)
unfolding journals_on_literals script_on_literals
early_says = record { line = refl; has = early_has }

early_good : IsGoodLine early_line (AnEntry 2 (a_sends 1))
early_good = good early_line (AnEntry 2 (a_sends 1)) early_says (leb-true (length early_line) most_in_line refl)

torn : List ℕ
torn = codes "deny 0 conn"

torn_good : IsGoodLine torn Denial
unfolding torn
torn_good = good torn Denial refl (leb-true (length torn) most_in_line refl)

-- ---- legal

-- The last line of the first file has no end, and so has that of the second.
swaps : (1 < 3) × (2 < 3) × ⊤
swaps = (omega arith, omega arith, tt)

legal_tells : FilesTell ((lines (hub_line ∷ a_line ∷ []) ++ sent_line) ∷ b_line ∷ []) the_hub (a_joins ∷ b_joins ∷ a_sends 0 ∷ [])
unfolding journals_on_literals script_on_literals
legal_tells = record {
  said = (Hub the_hub ∷ AnEntry 0 a_joins ∷ AnEntry 2 (a_sends 0) ∷ []) ∷ (AnEntry 1 b_joins ∷ []) ∷ [];
  all = (
    record { lines = (hub_good, (a_good, (sent_good, tt))); rising = (((let up : 0 ≤ 2 = omega arith in up), tt), (tt, tt)) },
    (record { lines = (b_good, tt); rising = (tt, tt) }, tt),
  );
  hub = refl;
  entries = record { moves = (1, 2) ∷ []; below = swaps; is = refl };
}

legal : FilesAuditTo ((lines (hub_line ∷ a_line ∷ []) ++ sent_line) ∷ b_line ∷ []) (IsLegal 3 2)
legal = (
  record {
    about = the_hub;
    history = a_joins ∷ b_joins ∷ a_sends 0 ∷ [];
    tells = legal_tells;
    few = leb-true 3 2147483648 refl;
    count = refl;
    legal = history_legal;
  },
  refl,
)

-- A denial that is torn at the end of a file swallows nothing of the next one.
torn_tells : FilesTell ((lines (hub_line ∷ a_line ∷ []) ++ torn) ∷ lines (b_line ∷ []) ∷ []) the_hub (a_joins ∷ b_joins ∷ [])
unfolding journals_on_literals script_on_literals torn
torn_tells = record {
  said = (Hub the_hub ∷ AnEntry 0 a_joins ∷ Denial ∷ []) ∷ (AnEntry 1 b_joins ∷ []) ∷ [];
  all = (
    record { lines = (hub_good, (a_good, (torn_good, tt))); rising = (tt, tt) },
    (record { lines = (b_good, tt); rising = (tt, tt) }, tt),
  );
  hub = refl;
  entries = record { moves = []; below = tt; is = refl };
}

torn_legal : FilesAuditTo ((lines (hub_line ∷ a_line ∷ []) ++ torn) ∷ lines (b_line ∷ []) ∷ []) (IsLegal 2 2)
torn_legal = (
  record {
    about = the_hub;
    history = a_joins ∷ b_joins ∷ [];
    tells = torn_tells;
    few = leb-true 2 2147483648 refl;
    count = refl;
    legal = joins_legal;
  },
  refl,
)

-- ---- a line that isn't taken

empty_bad : (s : JournalRecord) → IsGoodLine [] s → ⊥
unfolding script_on_literals
empty_bad (Hub about) g = let line = g.says.line in cc
empty_bad (AnEntry place e) g = no_entry place e g.says
empty_bad Denial g = let denial = g.says in cc

-- The second line of the second file is empty.
bad : FilesAuditTo (lines (hub_line ∷ []) ∷ lines (a_line ∷ [] ∷ b_line ∷ []) ∷ []) (BadLine 1 2)
unfolding script_on_literals
bad = record {
  before = lines (hub_line ∷ []) ∷ [];
  file = lines (a_line ∷ [] ∷ b_line ∷ []);
  behind = [];
  said = (Hub the_hub ∷ []) ∷ [];
  parts = refl;
  number = refl;
  good = (record { lines = (hub_good, tt); rising = tt }, tt);
  so = record {
    line = [];
    said = AnEntry 0 a_joins ∷ [];
    first = record { good = a_line ∷ []; rest = b_line ∷ []; lines = refl; number = refl; says = (a_good, tt); rising = (tt, tt) };
    bad = empty_bad;
  };
}

-- In one file place 0 stands behind place 1.
unsorted : FilesAuditTo (lines (hub_line ∷ b_line ∷ a_line ∷ []) ∷ []) (Unsorted 0 3)
unfolding script_on_literals
unsorted = record {
  before = [];
  file = lines (hub_line ∷ b_line ∷ a_line ∷ []);
  behind = [];
  said = [];
  parts = refl;
  number = refl;
  good = tt;
  so = record {
    line = a_line;
    said = Hub the_hub ∷ AnEntry 1 b_joins ∷ [];
    first = record { good = hub_line ∷ b_line ∷ []; rest = []; lines = refl; number = refl; says = (hub_good, (b_good, tt)); rising = (tt, tt) };
    place = 0;
    entry = a_joins;
    says = a_good;
    less = refl;
  };
}

-- ---- hubs, places and legality

no_files : FilesAuditTo [] (Hubs 0)
no_files = record { said = []; all = tt; count = refl; other = λ e. (let no : ⊥ = omega (arith, e) in no) }

two_hubs : FilesAuditTo (hub_line ∷ hub_line ∷ []) (Hubs 2)
unfolding script_on_literals
two_hubs = record {
  said = (Hub the_hub ∷ []) ∷ (Hub the_hub ∷ []) ∷ [];
  all = (record { lines = (hub_good, tt); rising = tt }, (record { lines = (hub_good, tt); rising = tt }, tt));
  count = refl;
  other = λ e. (let no : ⊥ = omega (arith, e) in no);
}

-- The same entry stands in two files.
twice : FilesAuditTo (lines (hub_line ∷ a_line ∷ []) ∷ a_line ∷ []) (Twice 0)
unfolding script_on_literals
twice = (
  (Hub the_hub ∷ AnEntry 0 a_joins ∷ []) ∷ (AnEntry 0 a_joins ∷ []) ∷ [],
  record {
    hub = record {
      all = (record { lines = (hub_good, (a_good, tt)); rising = (tt, tt) }, (record { lines = (a_good, tt); rising = (tt, tt) }, tt));
      one = refl;
    };
    few = leb-true 2 2147483648 refl;
  },
  record { twice = (let more : 1 < 2 = omega arith in more); least = λ k h. none_below_zero k h },
)

-- B's file isn't there.
missing : FilesAuditTo (lines (hub_line ∷ a_line ∷ sent_line ∷ []) ∷ []) (Missing 1)
unfolding journals_on_literals script_on_literals
missing = (
  (Hub the_hub ∷ AnEntry 0 a_joins ∷ AnEntry 2 (a_sends 0) ∷ []) ∷ [],
  record {
    hub = record {
      all = (record { lines = (hub_good, (a_good, (sent_good, tt))); rising = (((let up : 0 ≤ 2 = omega arith in up), tt), (tt, tt)) }, tt);
      one = refl;
    };
    few = leb-true 2 2147483648 refl;
  },
  record {
    once = ((refl, tt), (tt, tt));
    missing = refl;
    below = refl;
    least = λ k h. (let first : k ≡ 0 = omega (arith, h) in rw first refl);
  },
)

-- A look finds one frame taken where none had entered.
early_tells : FilesTell (lines (hub_line ∷ a_line ∷ early_line ∷ []) ∷ lines (b_line ∷ []) ∷ []) the_hub (a_joins ∷ b_joins ∷ a_sends 1 ∷ [])
unfolding journals_on_literals script_on_literals
early_tells = record {
  said = (Hub the_hub ∷ AnEntry 0 a_joins ∷ AnEntry 2 (a_sends 1) ∷ []) ∷ (AnEntry 1 b_joins ∷ []) ∷ [];
  all = (
    record { lines = (hub_good, (a_good, (early_good, tt))); rising = (((let up : 0 ≤ 2 = omega arith in up), tt), (tt, tt)) },
    (record { lines = (b_good, tt); rising = (tt, tt) }, tt),
  );
  hub = refl;
  entries = record { moves = (1, 2) ∷ []; below = swaps; is = refl };
}

illegal : FilesAuditTo (lines (hub_line ∷ a_line ∷ early_line ∷ []) ∷ lines (b_line ∷ []) ∷ []) (Illegal 2)
illegal = record {
  about = the_hub;
  history = a_joins ∷ b_joins ∷ a_sends 1 ∷ [];
  tells = early_tells;
  few = leb-true 3 2147483648 refl;
  place = (let below : 2 < 3 = omega arith in below);
  before = joins_legal;
  illegal = early_illegal;
}
