-- A file that is checked line by line, and files one after another.
-- It serves clauses of functions of `files`.
use Rattle.std.proofs.Common.{◌≡◌, ℕ, zero, suc, ◌+◌, ◌<◌, ◌≤◌, nat_lt, List, [], ◌∷◌, ◌++◌, length, take, drop, refl, ap, sym, ◌∙◌, subst, arith, append_assoc, append-nil}
use Rattle.std.specs.Prelude.{IsTrue}
use Rattle.std.specs.List.{AllByRecursion, list_any}
use Rattle.std.proofs.lemmas.List.{length-take-le, length_push, take-append-drop}
use Rattle.bsc_journal.specs.declared.journal_record.JournalRecord.{JournalRecord}
use Rattle.bsc_journal.specs.declared.journal_record.JournalRecord.TheVariants.{Hub, Entry as AnEntry, Denial}
use Rattle.bsc_journal.specs.Journals.{lines_of}
use Rattle.bsc_audit.specs.declared.files.files_end.FilesEnd.{FilesEnd}
use Rattle.bsc_audit.specs.declared.files.files_end.FilesEnd.TheVariants.{Legal, BadLine, Unsorted, Hubs, TooMany, Twice, Missing, Illegal, ReadFault, Changed, NoMemory}
use Rattle.bsc_audit.specs.declared.files.piece_reading.Stop.{Stop}
use Rattle.bsc_audit.specs.declared.files.piece_reading.Stop.TheVariants.{Bad, Failed, NoMemory as StopNoMemory}
use Rattle.bsc_audit.specs.declared.files.sums.Sums.{Sums}
use Rattle.bsc_audit.specs.Merging.{AddsFile, AddsFiles, FallsBack, GoesOn, HasChecked, StopsInFile, SumsUp, end_at}
use Rattle.bsc_audit.specs.Pieces.{GivesBad, GivesLine, file_at}
use Rattle.bsc_audit.specs.Together.{AreRising, ComesTo, FileSays, FilesAuditTo, IsBadIn, IsFirstFile, IsUnsortedIn, LinesSay, together}
use Rattle.bsc_audit.specs.Verdicts.{places_of}
use Rattle.bsc_audit.proofs.FileFacts.Rises.{all_of, all_snoc, any_snoc, rising_snoc}
use Rattle.bsc_audit.proofs.FileFacts.SaidLines.{files_snoc, say_snoc, together_snoc}
use Rattle.bsc_audit.proofs.Snoc.{places_snoc}

-- ---- line by line

pub checked_none : (f : List ℕ) → HasChecked f 0 0 0 []
checked_none f = record {
  good = [];
  lines = refl;
  count = refl;
  says = tt;
  rising = tt;
  most = tt;
  least = λ p less. (let no : ⊥ = omega (arith, less) in absurd no);
}

-- what is said of some places and the greatest of them
record Tops (last : ℕ) (ps : List ℕ) : Type 0 where
  pub rising : AreRising ps
  pub most : AllByRecursion (λ p. p ≤ last) ps
  pub least : (p : ℕ) → p < last → IsTrue (list_any (λ q. nat_lt p q) ps)

tops_same : (last next : ℕ) (ps qs : List ℕ) → next ≡ last → qs ≡ ps → Tops last ps → Tops next qs
tops_same last next ps qs e same t = subst (λ (n : ℕ). Tops n qs) (sym e) (subst (λ (x : List ℕ). Tops last x) (sym same) t)

tops_more : (last place : ℕ) (ps : List ℕ) → last ≤ place → Tops last ps → Tops place (ps ++ place ∷ [])
tops_more last place ps up t =
    let most = all_of (λ p. p ≤ last) (λ p. p ≤ place) ps (λ p less. (omega (arith, less, up))) t.most in
    record {
      rising = rising_snoc ps place t.rising most;
      most = all_snoc (λ p. p ≤ place) ps place most (omega arith);
      least = λ p less. any_snoc p ps place less;
    }

tops_next : (last next : ℕ) (said : List JournalRecord) (s : JournalRecord) → GoesOn last next s → Tops last (places_of said) → Tops next (places_of (said ++ s ∷ []))
tops_next last next said (Hub about) on t = tops_same last next (places_of said) (places_of (said ++ Hub about ∷ [])) on (places_snoc said (Hub about) ∙ append-nil (places_of said)) t
tops_next last next said (AnEntry place e) on t =
    tops_same place next (places_of said ++ place ∷ []) (places_of (said ++ AnEntry place e ∷ [])) on.1 (places_snoc said (AnEntry place e)) (tops_more last place (places_of said) on.0 t)
tops_next last next said Denial on t = tops_same last next (places_of said) (places_of (said ++ Denial ∷ [])) on (places_snoc said Denial ∙ append-nil (places_of said)) t

pub checked_more : (f : List ℕ) (at line last : ℕ) (said : List JournalRecord) (s : JournalRecord) (next greatest : ℕ) → HasChecked f at line last said →
    GivesLine f at s next → GoesOn last greatest s → HasChecked f next (line + 1) greatest (said ++ s ∷ [])
checked_more f at line last said s next greatest h g on =
    let t = tops_next last greatest said s on (record { rising = h.rising; most = h.most; least = h.least }) in
    record {
      good = h.good ++ g.line ∷ [];
      lines = h.lines ∙ ap (λ (x : List (List ℕ)). h.good ++ x) g.lines ∙ sym (append_assoc h.good (g.line ∷ []) (lines_of (drop next f)));
      count = (let was = h.count in let more = length_push h.good g.line in omega (arith, was, more));
      says = say_snoc h.good said g.line s h.says g.good;
      rising = t.rising;
      most = t.most;
      least = t.least;
    }

pub checked_all : (f : List ℕ) (at line last : ℕ) (said : List JournalRecord) → HasChecked f at line last said → drop at f ≡ [] → FileSays f said
checked_all f at line last said h end =
    let whole : lines_of f ≡ h.good = h.lines ∙ ap (λ (x : List ℕ). h.good ++ lines_of x) end ∙ append-nil h.good in
    record { lines = subst (λ (ls : List (List ℕ)). LinesSay ls said) (sym whole) h.says; rising = h.rising }

comes_to : (f : List ℕ) (at line last : ℕ) (said : List JournalRecord) (l : List ℕ) (rest : List (List ℕ)) → HasChecked f at line last said → lines_of (drop at f) ≡ l ∷ rest →
    ComesTo (line + 1) f l said
comes_to f at line last said l rest h lines = record {
  good = h.good;
  rest = rest;
  lines = h.lines ∙ ap (λ (x : List (List ℕ)). h.good ++ x) lines;
  number = (let was = h.count in omega (arith, was));
  says = h.says;
  rising = h.rising;
}

pub checked_bad : (f : List ℕ) (at line last : ℕ) (said : List JournalRecord) → HasChecked f at line last said → GivesBad f at → IsBadIn (line + 1) f
checked_bad f at line last said h b = record { line = b.line; said = said; first = comes_to f at line last said b.line b.later h b.lines; bad = b.bad }

pub checked_falls : (f : List ℕ) (at line last : ℕ) (said : List JournalRecord) (s : JournalRecord) (next : ℕ) → HasChecked f at line last said → GivesLine f at s next →
    FallsBack last s → IsUnsortedIn (line + 1) f
checked_falls f at line last said (Hub about) next h g falls = absurd falls
checked_falls f at line last said (AnEntry place e) next h g falls = record {
  line = g.line;
  said = said;
  first = comes_to f at line last said g.line (lines_of (drop next f)) h g.lines;
  place = place;
  entry = e;
  says = g.good;
  less = h.least place falls;
}
checked_falls f at line last said Denial next h g falls = absurd falls

-- why the audit ends at a line
pub stops_at : (stop : Stop) (k line : ℕ) (f : List ℕ) → (stop ≡ Bad → IsBadIn line f) → StopsInFile k f (end_at stop k line)
stops_at Bad k line f bad = (refl, bad refl)
stops_at Failed k line f bad = tt
stops_at StopNoMemory k line f bad = tt

pub fault_at : (stop : Stop) (file line k : ℕ) (R : Type 0) → (stop ≡ Failed → R) → end_at stop file line ≡ ReadFault k → R
fault_at Bad file line k R rose e = cc
fault_at Failed file line k R rose e = rose refl
fault_at StopNoMemory file line k R rose e = cc

-- A file was checked up to an offset, and its lines were summed up.
pub record ChecksTo (f : List ℕ) (at line last : ℕ) (old new : Sums) : Type 0 where
  pub said : List JournalRecord
  pub has : HasChecked f at line last said
  pub sum : (before : List JournalRecord) → SumsUp old before → SumsUp new (before ++ said)

pub checks_none : (f : List ℕ) (sums : Sums) → ChecksTo f 0 0 0 sums sums
checks_none f sums = record { said = []; has = checked_none f; sum = λ before so. subst (λ (l : List JournalRecord). SumsUp sums l) (sym (append-nil before)) so }

pub checks_more : (f : List ℕ) (at line last : ℕ) (old sums new : Sums) (s : JournalRecord) (next greatest : ℕ) → ChecksTo f at line last old sums →
    GivesLine f at s next → GoesOn last greatest s → ((said : List JournalRecord) → SumsUp sums said → SumsUp new (said ++ s ∷ [])) → ChecksTo f next (line + 1) greatest old new
checks_more f at line last old sums new s next greatest c g on add = record {
  said = c.said ++ s ∷ [];
  has = checked_more f at line last c.said s next greatest c.has g on;
  sum = λ before so. subst (λ (l : List JournalRecord). SumsUp new l) (append_assoc before c.said (s ∷ [])) (add (before ++ c.said) (c.sum before so));
}

pub adds_file : (f : List ℕ) (at line last : ℕ) (old new : Sums) (before : List JournalRecord) → ChecksTo f at line last old new → drop at f ≡ [] → SumsUp old before → AddsFile f before new
adds_file f at line last old new before c end so = record { said = c.said; says = checked_all f at line last c.said c.has end; sum = c.sum before so }

-- ---- file by file

pub take_next : (fs : List (List ℕ)) (k : ℕ) → k < length fs → take (k + 1) fs ≡ take k fs ++ file_at fs k ∷ []
take_next [] k within = let no : ⊥ = omega (arith, within) in absurd no
take_next (f ∷ fs) zero within = refl
take_next (f ∷ fs) (suc k) within =
    ap (λ (n : ℕ). take n (f ∷ fs)) (let e : suc k + 1 ≡ suc (k + 1) = omega arith in e)
    ∙ ap (λ (l : List (List ℕ)). f ∷ l) (take_next fs k (omega (arith, within)))

pub adds_next : (fs : List (List ℕ)) (k : ℕ) (sums new : Sums) → k < length fs → AddsFiles (take k fs) sums → ((before : List JournalRecord) → SumsUp sums before → AddsFile (file_at fs k) before new)
    → AddsFiles (take (k + 1) fs) new
adds_next fs k sums new within so one =
    let more = one (together so.said) so.sum in
    let said = so.said ++ more.said ∷ [] in
    subst (λ (l : List (List ℕ)). AddsFiles l new) (sym (take_next fs k within)) (record {
      said = said;
      says = files_snoc (take k fs) so.said (file_at fs k) more.said so.says more.says;
      sum = subst (λ (l : List JournalRecord). SumsUp new l) (sym (together_snoc so.said more.said)) more.sum;
    })

first_file : (So : ℕ → List ℕ → Type 0) (fs : List (List ℕ)) (k file n : ℕ) (sums : Sums) → k < length fs → file ≡ k → AddsFiles (take k fs) sums → So n (file_at fs k) → IsFirstFile So file n fs
first_file So fs k file n sums within is so one = record {
  before = take k fs;
  file = file_at fs k;
  behind = drop (k + 1) fs;
  said = so.said;
  parts = sym (take-append-drop (k + 1) fs) ∙ ap (λ (l : List (List ℕ)). l ++ drop (k + 1) fs) (take_next fs k within) ∙ append_assoc (take k fs) (file_at fs k ∷ []) (drop (k + 1) fs);
  number = (let long = length-take-le k fs (omega (arith, within)) in omega (arith, is, long));
  good = so.says;
  so = one;
}

pub stops_file : (fs : List (List ℕ)) (k : ℕ) (sums : Sums) (r : FilesEnd) → k < length fs → AddsFiles (take k fs) sums → StopsInFile k (file_at fs k) r → FilesAuditTo fs r
stops_file fs k sums (BadLine file line) within so stops = first_file IsBadIn fs k file line sums within stops.0 so stops.1
stops_file fs k sums (Unsorted file line) within so stops = first_file IsUnsortedIn fs k file line sums within stops.0 so stops.1
stops_file fs k sums (ReadFault file) within so stops = tt
stops_file fs k sums NoMemory within so stops = tt
stops_file fs k sums (Legal entries files) within so stops = absurd stops
stops_file fs k sums (Hubs lines) within so stops = absurd stops
stops_file fs k sums TooMany within so stops = absurd stops
stops_file fs k sums (Twice place) within so stops = absurd stops
stops_file fs k sums (Missing place) within so stops = absurd stops
stops_file fs k sums (Illegal place) within so stops = absurd stops
stops_file fs k sums (Changed file) within so stops = absurd stops
