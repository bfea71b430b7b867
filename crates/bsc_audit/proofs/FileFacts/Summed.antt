-- What lines say, summed up.
-- It serves the clauses of `no_sums` and `sum_up`.
use Rattle.std.proofs.Common.{◌≡◌, ℕ, ◌+◌, min, List, [], ◌∷◌, ◌++◌, length, None, Some, ap, sym, ◌∙◌, subst, arith, append-nil}
use Rattle.std.specs.List.{last_or}
use Rattle.std.proofs.lemmas.List.{length_push}
use Rattle.bsc_history.specs.declared.entry.Entry.{Entry}
use Rattle.bsc_history.specs.declared.limits.About.{About}
use Rattle.bsc_journal.specs.declared.journal_record.JournalRecord.{JournalRecord}
use Rattle.bsc_journal.specs.declared.journal_record.JournalRecord.TheVariants.{Hub, Entry as AnEntry, Denial}
use Rattle.bsc_audit.specs.declared.files.sums.Sums.{Sums}
use Rattle.bsc_audit.specs.Hearing.{hubs_of}
use Rattle.bsc_audit.specs.Merging.{SumsUp}
use Rattle.bsc_audit.specs.Together.{Placed, entries_of}
use Rattle.bsc_audit.proofs.FileFacts.SaidLines.{entries_append}
use Rattle.bsc_audit.proofs.Snoc.{hubs_snoc, last_append}

abbrev most : ℕ
most = 18446744073709551615

step : (n : ℕ) → min (min n most + 1) most ≡ min (n + 1) most
step n = omega arith

-- a hub, an entry or something denied comes behind what was said
hubs_more : (said : List JournalRecord) (about : About) → hubs_of (said ++ Hub about ∷ []) ≡ hubs_of said ++ about ∷ []
hubs_more said about = hubs_snoc said (Hub about)

same_hubs_entry : (said : List JournalRecord) (place : ℕ) (e : Entry) → hubs_of (said ++ AnEntry place e ∷ []) ≡ hubs_of said
same_hubs_entry said place e = hubs_snoc said (AnEntry place e) ∙ append-nil (hubs_of said)

same_hubs_denial : (said : List JournalRecord) → hubs_of (said ++ Denial ∷ []) ≡ hubs_of said
same_hubs_denial said = hubs_snoc said Denial ∙ append-nil (hubs_of said)

same_entries_hub : (said : List JournalRecord) (about : About) → entries_of (said ++ Hub about ∷ []) ≡ entries_of said
same_entries_hub said about = entries_append said (Hub about ∷ []) ∙ append-nil (entries_of said)

same_entries_denial : (said : List JournalRecord) → entries_of (said ++ Denial ∷ []) ≡ entries_of said
same_entries_denial said = entries_append said (Denial ∷ []) ∙ append-nil (entries_of said)

pub sums_nothing : (sums : Sums) → sums.hubs ≡ 0 → sums.about ≡ None → sums.entries ≡ 0 → SumsUp sums []
sums_nothing sums hubs about entries = record { hubs = hubs; about = about; entries = entries }

pub sums_hub : (old new : Sums) (said : List JournalRecord) (about : About) → new.hubs ≡ min (old.hubs + 1) most → new.about ≡ Some about → new.entries ≡ old.entries →
    SumsUp old said → SumsUp new (said ++ Hub about ∷ [])
sums_hub old new said about hubs is entries so = record {
  hubs = hubs ∙ ap (λ (n : ℕ). min (n + 1) most) so.hubs ∙ step (length (hubs_of said))
      ∙ ap (λ (n : ℕ). min n most) (sym (ap length (hubs_more said about) ∙ length_push (hubs_of said) about));
  about = is ∙ sym (ap (λ (l : List About). last_or None l) (hubs_more said about) ∙ last_append None (hubs_of said) (about ∷ []));
  entries = entries ∙ so.entries ∙ ap (λ (l : List Placed). min (length l) most) (sym (same_entries_hub said about));
}

pub sums_entry : (old new : Sums) (said : List JournalRecord) (place : ℕ) (e : Entry) → new.hubs ≡ old.hubs → new.about ≡ old.about →
    new.entries ≡ min (old.entries + 1) most → SumsUp old said → SumsUp new (said ++ AnEntry place e ∷ [])
sums_entry old new said place e hubs is entries so = record {
  hubs = hubs ∙ so.hubs ∙ ap (λ (l : List About). min (length l) most) (sym (same_hubs_entry said place e));
  about = is ∙ so.about ∙ ap (λ (l : List About). last_or None l) (sym (same_hubs_entry said place e));
  entries = entries ∙ ap (λ (n : ℕ). min (n + 1) most) so.entries ∙ step (length (entries_of said))
      ∙ ap (λ (n : ℕ). min n most) (sym (ap length (entries_append said (AnEntry place e ∷ [])) ∙ length_push (entries_of said) (record { place = place; entry = e })));
}

pub sums_denial : (old new : Sums) (said : List JournalRecord) → new ≡ old → SumsUp old said → SumsUp new (said ++ Denial ∷ [])
sums_denial old new said same so = record {
  hubs = ap (λ (s : Sums). s.hubs) same ∙ so.hubs ∙ ap (λ (l : List About). min (length l) most) (sym (same_hubs_denial said));
  about = ap (λ (s : Sums). s.about) same ∙ so.about ∙ ap (λ (l : List About). last_or None l) (sym (same_hubs_denial said));
  entries = ap (λ (s : Sums). s.entries) same ∙ so.entries ∙ ap (λ (l : List Placed). min (length l) most) (sym (same_entries_denial said));
}

-- the same of what a line was read to say
pub by_hub : (old new : Sums) (said : List JournalRecord) (t : JournalRecord) (about : About) → t ≡ Hub about → new.hubs ≡ min (old.hubs + 1) most → new.about ≡ Some about →
    new.entries ≡ old.entries → SumsUp old said → SumsUp new (said ++ t ∷ [])
by_hub old new said t about is hubs at entries so = subst (λ (s : JournalRecord). SumsUp new (said ++ s ∷ [])) (sym is) (sums_hub old new said about hubs at entries so)

pub by_entry : (old new : Sums) (said : List JournalRecord) (t : JournalRecord) (place : ℕ) (e : Entry) → t ≡ AnEntry place e → new.hubs ≡ old.hubs → new.about ≡ old.about →
    new.entries ≡ min (old.entries + 1) most → SumsUp old said → SumsUp new (said ++ t ∷ [])
by_entry old new said t place e is hubs at entries so = subst (λ (s : JournalRecord). SumsUp new (said ++ s ∷ [])) (sym is) (sums_entry old new said place e hubs at entries so)

pub by_denial : (old new : Sums) (said : List JournalRecord) (t : JournalRecord) → t ≡ Denial → new ≡ old → SumsUp old said → SumsUp new (said ++ t ∷ [])
by_denial old new said t is same so = subst (λ (s : JournalRecord). SumsUp new (said ++ s ∷ [])) (sym is) (sums_denial old new said same so)
