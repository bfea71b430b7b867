-- A small run, worked by hand: A and B join a hub, A sends to B, and the hub stops. Its three journals may be believed, whatever order
-- they are read in. Journals in which two lines have one place may not.
-- No clause needs it: worked examples.
use Rattle.std.proofs.Common.{inl, inr, ◌≡◌, ◌≢◌, true, ℕ, ◌<◌, ◌≤◌, List, [], ◌∷◌, length, refl, subst, arith}
use Rattle.std.specs.Prelude.{⊤}
use Rattle.std.specs.List.{AllByRecursion}
use Rattle.std.specs.List.Sorted.{IsPermutation}
use Rattle.std.proofs.lemmas.Bool.{leb-true}
use Rattle.uuid.proofs.OnLiterals.{uuid_on_literals}
use Rattle.bsc_history.proofs.OnLiterals.{history_on_literals}
use Rattle.bsc_history.specs.declared.call.Call.TheVariants.{Stop}
use Rattle.bsc_history.specs.declared.counts.Counts.{Counts}
use Rattle.bsc_history.specs.declared.entry.Entry.{Entry}
use Rattle.bsc_history.specs.declared.reply.Reply.TheVariants.{Counted}
use Rattle.bsc_history.specs.Laws.{Apart}
use Rattle.bsc_history.specs.Legality.{Legal}
use Rattle.bsc_turn.specs.Callers.{has}
use Rattle.bsc_script.proofs.OnLiterals.{script_on_literals}
use Rattle.bsc_session.specs.Notes.Notes.{Note, lines_of as octets_of, made}
use Rattle.bsc_journal.specs.declared.journal_record.JournalRecord.TheVariants.{Hub, Entry as AnEntry}
use Rattle.bsc_journal.specs.Journals.{Audited, HaveLines, most_octets}
use Rattle.bsc_journal.specs.Saying.{HasLine, IsHubLine, IsLineOf}
use Rattle.bsc_journal.proofs.OnLiterals.{journals_on_literals}
use Rattle.bsc_journal.proofs.WorkedPieces.{a_joins, a_line, a_sends, b_joins, hub_line, lawful, lines, the_hub}
use Rattle.bsc_audit.specs.declared.audit_end.AuditEnd.TheVariants.{Legal as IsLegal, Twice}
use Rattle.bsc_audit.specs.Verdicts.{AuditsTo}
use Rattle.bsc_audit_laws.proofs.OneVerdict.{one_verdict}
use Rattle.bsc_journal_laws.specs.Laws.{AreJournals, CallersNotes, begun_by, callers_in, files_of, octets_noted, put_together}
use Rattle.bsc_journal_laws.specs.Lines.{IsSmall, is_clean}
use Rattle.bsc_journal_laws.proofs.Together.{journals_audit}

-- ---- the run

abbrev stopped : Counts
stopped = record { joined = 2; replaced = 0; refused = 0; unicasts = 1; broadcasts = 0; appended = 1; dropped = 0; full = 0; missed = 0 }

abbrev stop : Entry
stop = record { caller = 0; call = Stop; looks = []; reply = Counted stopped }

abbrev history : List Entry
history = a_joins ∷ b_joins ∷ a_sends 0 ∷ stop ∷ []

legal : Legal the_hub history
unfolding history_on_literals
legal = record { lawful = (lawful refl refl refl refl, (lawful refl refl refl refl, (lawful refl refl refl refl, (lawful refl refl refl refl, tt)))) }

hub_says : IsHubLine hub_line the_hub
unfolding script_on_literals uuid_on_literals
hub_says = record { line = refl; words = refl }

clean : is_clean hub_line ≡ true
clean = refl

a_has : HasLine 0 a_joins
a_has = record {
  place_short = refl;
  caller_short = refl;
  call_short = refl;
  looks_short = refl;
  reply_short = refl;
  octets = record { long = refl; octets = refl; said = refl };
  shown = refl;
  fits = tt;
}

b_has : HasLine 1 b_joins
b_has = record {
  place_short = refl;
  caller_short = refl;
  call_short = refl;
  looks_short = refl;
  reply_short = refl;
  octets = record { long = refl; octets = refl; said = refl };
  shown = refl;
  fits = tt;
}

sent_has : HasLine 2 (a_sends 0)
sent_has = record {
  place_short = refl;
  caller_short = refl;
  call_short = refl;
  looks_short = refl;
  reply_short = refl;
  octets = (refl, (let some : 0 < 12 = omega arith in some));
  shown = tt;
  fits = tt;
}

stop_has : HasLine 3 stop
stop_has = record { place_short = refl; caller_short = refl; call_short = refl; looks_short = refl; reply_short = refl; octets = tt; shown = refl; fits = tt }

-- ---- its journals

abbrev own_notes : List Note
own_notes = made 3 stop ∷ []

abbrev of_a : CallersNotes
of_a = record { caller = 1; notes = made 0 a_joins ∷ made 2 (a_sends 0) ∷ [] }

abbrev of_b : CallersNotes
of_b = record { caller = 2; notes = made 1 b_joins ∷ [] }

have : HaveLines 0 history
have = (a_has, (b_has, (sent_has, (stop_has, tt))))

are : AreJournals history (record { caller = 0; notes = own_notes } ∷ of_a ∷ of_b ∷ [])
are = ((refl, (stop_has, tt)), ((refl, (a_has, (sent_has, tt))), ((refl, (b_has, tt)), tt)))

apart : Apart (λ (m : ℕ). m) (0 ∷ callers_in (of_a ∷ of_b ∷ []))
apart =
    let a : 0 ≢ 1 = λ e. (let no : ⊥ = omega (arith, e) in no) in
    let b : 0 ≢ 2 = λ e. (let no : ⊥ = omega (arith, e) in no) in
    let c : 1 ≢ 2 = λ e. (let no : ⊥ = omega (arith, e) in no) in
    ((a, (b, tt)), ((c, tt), (tt, tt)))

shared : AllByRecursion (λ (e : Entry). has (0 ∷ callers_in (of_a ∷ of_b ∷ [])) e.caller ≡ true) history
shared = (refl, (refl, (refl, (refl, tt))))

small : AllByRecursion IsSmall history
small =
    let frame : 0 ≤ 65535 = omega arith in
    let sent : 12 ≤ 65535 = omega arith in
    let none : 0 ≤ 1024 = omega arith in
    let one : 1 ≤ 1024 = omega arith in
    let names : 0 ≤ 3072 = omega arith in (
      record { frame = frame; looks = none; names = names },
      (
        record { frame = frame; looks = none; names = names },
        (
          record { frame = sent; looks = one; names = names },
          (record { frame = frame; looks = none; names = names }, tt),
        ),
      ),
    )

-- B's journal is read first, and that of the hub last.
abbrev in_some_order : List (List ℕ)
in_some_order = octets_noted of_b ∷ octets_noted of_a ∷ begun_by hub_line (octets_of own_notes) ∷ []

swaps : (0 < 3) × (2 < 3) × ⊤
swaps = (omega arith, omega arith, tt)

reordered : IsPermutation (files_of hub_line own_notes (of_a ∷ of_b ∷ [])) in_some_order
reordered = record { moves = (0, 2) ∷ []; below = swaps; is = refl }

believed : Audited (put_together in_some_order) 4
unfolding journals_on_literals script_on_literals
believed = journals_audit the_hub history hub_line 0 own_notes (of_a ∷ of_b ∷ []) in_some_order hub_says clean legal have are apart shared reordered
    (leb-true (length hub_line) 300000 refl) small (leb-true (length (put_together in_some_order)) most_octets refl)

-- ---- two lines of one place

-- Two journals tell A's join, each at place 0.
abbrev again : CallersNotes
again = record { caller = 1; notes = made 0 a_joins ∷ [] }

are_lines : put_together (files_of hub_line [] (again ∷ again ∷ [])) ≡ lines (hub_line ∷ a_line ∷ a_line ∷ [])
unfolding journals_on_literals script_on_literals
are_lines = refl

a_says : IsLineOf a_line 0 a_joins
unfolding journals_on_literals script_on_literals
a_says = record { line = refl; has = a_has }

none_below_zero : {A : Type 0} (k : ℕ) → k < 0 → A
none_below_zero k h = let no : ⊥ = omega (arith, h) in absurd no

twice : AuditsTo (lines (hub_line ∷ a_line ∷ a_line ∷ [])) (Twice 0)
twice = (
  Hub the_hub ∷ AnEntry 0 a_joins ∷ AnEntry 0 a_joins ∷ [],
  record {
    all = (record { says = hub_says; fits = refl }, (record { says = a_says; fits = refl }, (record { says = a_says; fits = refl }, tt)));
    one = refl;
  },
  record { twice = (let more : 1 < 2 = omega arith in more); least = λ k h. none_below_zero k h },
)

not_believed : (n : ℕ) → Audited (put_together (files_of hub_line [] (again ∷ again ∷ []))) n → ⊥
not_believed n a =
    let o = lines (hub_line ∷ a_line ∷ a_line ∷ []) in
    let told : AuditsTo o (IsLegal n) = subst (λ (w : List ℕ). Audited w n) are_lines a in
    elim (one_verdict o (IsLegal n) (Twice 0) told twice) [
      | inl same ↦ (let bad : IsLegal n ≡ Twice 0 = same in cc)
      | inr r ↦ elim r [ inl k ↦ absurd k | inr k ↦ absurd k ]
    ]
