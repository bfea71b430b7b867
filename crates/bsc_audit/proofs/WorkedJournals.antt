-- Small journals, and what an audit of each comes to, worked by hand: A and B join a hub, and A sends to B.
-- No clause needs it: worked examples.
use Rattle.std.proofs.Common.{◌≡◌, inl, inr, ℕ, ◌<◌, List, [], ◌∷◌, ◌++◌, length, codes, decimal, refl, arith}
use Rattle.std.specs.Prelude.{⊤}
use Rattle.uuid.proofs.OnLiterals.{uuid_on_literals}
use Rattle.bsc_history.proofs.OnLiterals.{history_on_literals}
use Rattle.bsc_history.specs.declared.entry.Entry.{Entry}
use Rattle.bsc_history.specs.Legality.{Legal}
use Rattle.bsc_script.proofs.OnLiterals.{script_on_literals}
use Rattle.bsc_audit.specs.declared.audit_end.AuditEnd.TheVariants.{Legal as IsLegal, BadLine, Hubs, Twice, Missing, Illegal}
use Rattle.bsc_journal.specs.declared.journal_record.JournalRecord.{JournalRecord}
use Rattle.bsc_journal.specs.declared.journal_record.JournalRecord.TheVariants.{Hub, Entry as AnEntry, Denial}
use Rattle.bsc_lines.specs.Lines.{entry_line}
use Rattle.bsc_journal.specs.Saying.{HasLine, IsHubLine, IsLineOf}
use Rattle.bsc_journal.specs.Journals.{Tells}
use Rattle.bsc_journal.specs.Good.{IsGood}
use Rattle.bsc_legality.specs.declared.breach.Breach.TheVariants.{Taken}
use Rattle.bsc_audit_diagnostics.specs.Texts.{breach_text}
use Rattle.bsc_audit.specs.Explaining.{Explains}
use Rattle.bsc_audit.specs.Verdicts.{AuditsTo}
use Rattle.bsc_journal.proofs.Numbers.{some_digits}
use Rattle.bsc_journal.proofs.OnLiterals.{journals_on_literals}
use Rattle.bsc_journal.proofs.WorkedPieces.{the_hub, a_joins, b_joins, a_sends, lawful, hub_line, a_line, b_line, sent_line, early_line, lines}

-- ---- what the lines say

pub hub_says : IsHubLine hub_line the_hub
unfolding script_on_literals uuid_on_literals
hub_says = record { line = refl; words = refl }

a_has : HasLine 0 a_joins
a_has = record {
  place_short = refl;
  caller_short = refl;
  call_short = refl;
  looks_short = refl;
  reply_short = refl;
  octets = record { long = refl; octets = refl; said = refl };
  shown = refl;
  fits = tt;
}

b_has : HasLine 1 b_joins
b_has = record {
  place_short = refl;
  caller_short = refl;
  call_short = refl;
  looks_short = refl;
  reply_short = refl;
  octets = record { long = refl; octets = refl; said = refl };
  shown = refl;
  fits = tt;
}

sent_has : HasLine 2 (a_sends 0)
sent_has = record {
  place_short = refl;
  caller_short = refl;
  call_short = refl;
  looks_short = refl;
  reply_short = refl;
  octets = (refl, (let some : 0 < 12 = omega arith in some));
  shown = tt;
  fits = tt;
}

pub early_has : HasLine 2 (a_sends 1)
early_has = record {
  place_short = refl;
  caller_short = refl;
  call_short = refl;
  looks_short = refl;
  reply_short = refl;
  octets = (refl, (let some : 0 < 12 = omega arith in some));
  shown = tt;
  fits = tt;
}

pub a_says : IsLineOf a_line 0 a_joins
unfolding journals_on_literals script_on_literals
a_says = record { line = refl; has = a_has }

pub b_says : IsLineOf b_line 1 b_joins
unfolding journals_on_literals script_on_literals
b_says = record { line = refl; has = b_has }

pub sent_says : IsLineOf sent_line 2 (a_sends 0)
unfolding journals_on_literals script_on_literals
sent_says = record { line = refl; has = sent_has }

-- ---- legal

-- the lines of the second and the third entry have changed places
swaps : (2 < 4) × (3 < 4) × ⊤
swaps = (omega arith, omega arith, tt)

journal_tells : Tells (lines (hub_line ∷ a_line ∷ sent_line ∷ b_line ∷ [])) the_hub (a_joins ∷ b_joins ∷ a_sends 0 ∷ [])
unfolding journals_on_literals script_on_literals
journal_tells = record {
  hub_line = hub_line;
  hub = hub_says;
  entries = (a_has, (b_has, (sent_has, tt)));
  lines = record { moves = (2, 3) ∷ []; below = swaps; is = refl };
}

pub joins_legal : Legal the_hub (a_joins ∷ b_joins ∷ [])
unfolding history_on_literals
joins_legal = record { lawful = (lawful refl refl refl refl, (lawful refl refl refl refl, tt)) }

pub history_legal : Legal the_hub (a_joins ∷ b_joins ∷ a_sends 0 ∷ [])
unfolding history_on_literals
history_legal = record { lawful = (lawful refl refl refl refl, (lawful refl refl refl refl, (lawful refl refl refl refl, tt))) }

-- Lines stand in any order.
legal : AuditsTo (lines (hub_line ∷ a_line ∷ sent_line ∷ b_line ∷ [])) (IsLegal 3)
legal = record { within = refl; about = the_hub; history = a_joins ∷ b_joins ∷ a_sends 0 ∷ []; tells = journal_tells; count = refl; legal = history_legal }

-- What was denied is passed over, and the last line may have no end.
denied_tells : Tells (codes "deny 0 connect 02000000000D\n" ++ hub_line) the_hub []
denied_tells = record {
  hub_line = hub_line;
  hub = hub_says;
  entries = tt;
  lines = record { moves = []; below = tt; is = refl };
}

denied : AuditsTo (codes "deny 0 connect 02000000000D\n" ++ hub_line) (IsLegal 0)
unfolding history_on_literals
denied = record { within = refl; about = the_hub; history = []; tells = denied_tells; count = refl; legal = record { lawful = tt } }

-- ---- illegal

-- A look finds one frame taken where none had entered.
early_tells : Tells (lines (hub_line ∷ a_line ∷ early_line ∷ b_line ∷ [])) the_hub (a_joins ∷ b_joins ∷ a_sends 1 ∷ [])
unfolding journals_on_literals script_on_literals
early_tells = record {
  hub_line = hub_line;
  hub = hub_says;
  entries = (a_has, (b_has, (early_has, tt)));
  lines = record { moves = (2, 3) ∷ []; below = swaps; is = refl };
}

pub early_illegal : Legal the_hub (a_joins ∷ b_joins ∷ a_sends 1 ∷ []) → ⊥
unfolding history_on_literals
early_illegal legal = let found = legal.lawful.1.1.0.found in cc

illegal : AuditsTo (lines (hub_line ∷ a_line ∷ early_line ∷ b_line ∷ [])) (Illegal 2)
illegal = (
  refl,
  record {
    about = the_hub;
    history = a_joins ∷ b_joins ∷ a_sends 1 ∷ [];
    tells = early_tells;
    place = (let below : 2 < 3 = omega arith in below);
    before = joins_legal;
    illegal = early_illegal;
  },
)

-- ---- missing

pub none_below_zero : {A : Type 0} (k : ℕ) → k < 0 → A
none_below_zero k h = let no : ⊥ = omega (arith, h) in absurd no

missing : AuditsTo (lines (hub_line ∷ a_line ∷ sent_line ∷ [])) (Missing 1)
unfolding journals_on_literals
missing = (
  Hub the_hub ∷ AnEntry 0 a_joins ∷ AnEntry 2 (a_sends 0) ∷ [],
  record {
    all = (record { says = hub_says; fits = refl }, (record { says = a_says; fits = refl }, (record { says = sent_says; fits = refl }, tt)));
    one = refl;
  },
  record {
    once = ((refl, tt), (tt, tt));
    missing = refl;
    below = refl;
    least = λ k h. (let first : k ≡ 0 = omega (arith, h) in rw first refl);
  },
)

-- ---- twice

twice : AuditsTo (lines (hub_line ∷ a_line ∷ a_line ∷ [])) (Twice 0)
twice = (
  Hub the_hub ∷ AnEntry 0 a_joins ∷ AnEntry 0 a_joins ∷ [],
  record {
    all = (record { says = hub_says; fits = refl }, (record { says = a_says; fits = refl }, (record { says = a_says; fits = refl }, tt)));
    one = refl;
  },
  record { twice = (let more : 1 < 2 = omega arith in more); least = λ k h. none_below_zero k h },
)

-- ---- hubs

no_hub : AuditsTo a_line (Hubs 0)
no_hub = record {
  said = AnEntry 0 a_joins ∷ [];
  all = (record { says = a_says; fits = refl }, tt);
  count = refl;
  other = λ e. (let no : ⊥ = omega (arith, e) in no);
}

two_hubs : AuditsTo (lines (hub_line ∷ hub_line ∷ [])) (Hubs 2)
two_hubs = record {
  said = Hub the_hub ∷ Hub the_hub ∷ [];
  all = (record { says = hub_says; fits = refl }, (record { says = hub_says; fits = refl }, tt));
  count = refl;
  other = λ e. (let no : ⊥ = omega (arith, e) in no);
}

nothing : AuditsTo [] (Hubs 0)
nothing = record { said = []; all = tt; count = refl; other = λ e. (let no : ⊥ = omega (arith, e) in no) }

-- ---- what is told beside these

none_told : Explains a_line (Hubs 0) (codes "no line is a hub line: the journal of the hub's own caller has it")
none_told = inl (refl, refl)

two_told : Explains (lines (hub_line ∷ a_line ∷ hub_line ∷ [])) (Hubs 2) (codes "lines 1 and 3 are hub lines, and there should be one")
unfolding script_on_literals
two_told = inr (1, 3, ([], refl), refl)

twice_told : Explains (lines (hub_line ∷ a_line ∷ b_line ∷ a_line ∷ [])) (Twice 0) (codes "lines 2 and 4 both have place 0")
unfolding script_on_literals
twice_told = (2, 4, ([], refl), refl)

missing_told : Explains (lines (hub_line ∷ a_line ∷ sent_line ∷ [])) (Missing 1) (codes "line 2 has place 0, and the next is 2, in line 3")
unfolding script_on_literals
missing_told = (2, (let above : 1 < 2 = omega arith in above), inr (2, 3, ([], refl), ([], refl), refl))

early_told : Explains (lines (hub_line ∷ a_line ∷ early_line ∷ b_line ∷ [])) (Illegal 2) (codes "line 3: frames taken from connection 2 were 1, and should be from 0 to 0")
unfolding history_on_literals script_on_literals breach_text
early_told = (
  the_hub,
  a_joins ∷ b_joins ∷ a_sends 1 ∷ [],
  early_tells,
  record {
    before = a_joins ∷ b_joins ∷ [];
    entry = a_sends 1;
    behind = [];
    parts = refl;
    place = refl;
    tells = record { broken = Taken 2 1 0 0; breaks = refl; tells = (3, ([], refl), refl) };
  },
)

-- ---- bad lines

not_empty : (a b : List ℕ) → 0 < length a → [] ≡ a ++ b → ⊥
not_empty [] b h e = omega (arith, h)
not_empty (c ∷ a) b h e = cc

pub no_entry : (place : ℕ) (e : Entry) → IsLineOf [] place e → ⊥
unfolding entry_line
no_entry place e l = not_empty (decimal place) _ (some_digits place l.has.place_short) l.line

-- An empty line says nothing.
pub says_nothing : (s : JournalRecord) → IsGood 0 (codes "\n") s → ⊥
unfolding script_on_literals
says_nothing (Hub about) g = let line = g.says.line in cc
says_nothing (AnEntry place e) g = no_entry place e g.says
says_nothing Denial g = let denial = g.says in cc

empty_line : AuditsTo (codes "\n") (BadLine 1)
empty_line = record { good = []; bad = codes "\n"; rest = []; pieces = refl; number = refl; said = []; before = tt; refused = says_nothing }
