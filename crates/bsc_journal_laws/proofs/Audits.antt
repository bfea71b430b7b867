-- The journals of a hub that was served may be believed.
-- It serves the clauses of `run_audits`.
use Rattle.std.proofs.Common.{⊎_elim, ◌≡◌, ◌≢◌, ℕ, zero, suc, ◌+◌, ◌^◌, ◌==◌, ◌≤◌, ◌||◌, Bool, true, false, List, [], ◌∷◌, ◌++◌, length, map, slice_get, Option, Some, None, Result}
use Rattle.std.proofs.Common.{Ok, Err, refl, ap, sym, ◌∙◌, subst, arith, append_assoc}
use Rattle.std.specs.List.{AllByRecursion}
use Rattle.std.specs.List.Sorted.{IsPermutation}
use Rattle.std.proofs.lemmas.Bool.{eq-eqb}
use Rattle.bsc_history.specs.declared.counts.Counts.{Counts}
use Rattle.bsc_history.specs.declared.entry.Entry.{Entry}
use Rattle.bsc_history.specs.declared.told.AlreadyStopped.{AlreadyStopped}
use Rattle.bsc_history.specs.declared.told.Told.{Told}
use Rattle.bsc_history.specs.Entries.{own}
use Rattle.bsc_history.specs.Laws.{Apart}
use Rattle.bsc_history.specs.Legality.{Legal}
use Rattle.bsc_history.specs.Marks.{entries}
use Rattle.bsc_edge.specs.declared.notice.Notice.{Notice}
use Rattle.bsc_edge.specs.declared.said.Said.{Said}
use Rattle.bsc_desk.specs.Entries.{stop_entry}
use Rattle.bsc_session.specs.Notes.Notes.{Note, Records, lines_of as octets_of, made}
use Rattle.bsc_turn.specs.declared.pass.Pass.{Pass}
use Rattle.bsc_turn.specs.declared.view.EndedCaller.{EndedCaller}
use Rattle.bsc_turn.specs.Callers.{has}
use Rattle.bsc_turn.specs.Passes.{number_of, own_list, seen}
use Rattle.bsc_hub.specs.declared.hub.Hub.{Hub}
use Rattle.bsc_hub.specs.Calls.{stop_made, stop_stamped}
use Rattle.bsc_hub.specs.Passing.{MadeOne, Passed, Placed, Went, about_of}
use Rattle.bsc_session.specs.declared.job.SessionJob.{SessionJob}
use Rattle.bsc_session.specs.Jobs.{Worked}
use Rattle.bsc_session.specs.Serving.{AllStand}
use Rattle.bsc_serve.specs.Alone.{JobsAreApart, SeenAreOfJobs}
use Rattle.bsc_serve.specs.Events.{jobs_of}
use Rattle.bsc_serve.specs.Serving.{stop_notes}
use Rattle.bsc_serve.specs.Terms.{Terms}
use Rattle.bsc_journal.specs.Journals.{HaveLines}
use Rattle.bsc_journal.specs.Saying.{is_short}
use Rattle.bsc_journal_laws.specs.Laws.{CallersNotes, callers_in, files_of, put_together}
use Rattle.bsc_journal_laws.specs.Lines.{CanBeSaid, FrameFits}
use Rattle.bsc_journal_laws.specs.Placing.{own_placed, told_by}
use Rattle.bsc_journal_laws.specs.Runs.{RunAudits}
use Rattle.bsc_journal_laws.proofs.Counting.{AllTold, entries_few}
use Rattle.bsc_journal_laws.proofs.Order.{together_long}
use Rattle.bsc_journal_laws.proofs.Places.{notes_are_placed}
use Rattle.bsc_journal_laws.proofs.Runs.{Fits, ForwardsLaw, are_journals, held_is, jobs_fit, jobs_noted, of_all, of_callers}
use Rattle.bsc_journal_laws.proofs.Saying.{legal_has_lines}
use Rattle.bsc_journal_laws.proofs.Sharing.{places_are_shared}
use Rattle.bsc_journal_laws.proofs.Shorts.{short_63}
use Rattle.bsc_journal_laws.proofs.Small.{legal_is_small}
use Rattle.bsc_journal_laws.proofs.Standing.{stand_on, stands_made}
use Rattle.bsc_journal_laws.proofs.Together.{journals_audit}

-- ---- lists

module _ {A : Type 0} where
  mapped : (f : A → ℕ) (n : ℕ) (xs : List A) → AllByRecursion (λ (x : A). n ≢ f x) xs → AllByRecursion (λ (m : ℕ). n ≢ m) (map f xs)
  mapped f n [] h = tt
  mapped f n (x ∷ xs) h = (h.0, mapped f n xs h.1)

  apart_mapped : (f : A → ℕ) (xs : List A) → Apart f xs → Apart (λ (m : ℕ). m) (map f xs)
  apart_mapped f [] h = tt
  apart_mapped f (x ∷ xs) h = (mapped f (f x) xs h.0, apart_mapped f xs h.1)

-- ---- whose the entries are

or_right : (a : Bool) → (a || true) ≡ true
or_right true = refl
or_right false = refl

has_mine : (n : ℕ) (ns : List ℕ) → has (n ∷ ns) n ≡ true
has_mine n ns = ap (λ (b : Bool). b || has ns n) (eq-eqb n n refl)

has_behind : (m n : ℕ) (ns : List ℕ) → has ns n ≡ true → has (m ∷ ns) n ≡ true
has_behind m n ns h = ap (λ (b : Bool). (m == n) || b) h ∙ or_right (m == n)

job_has : {L C N : Type 0} (jobs : List (SessionJob L C N)) (k : ℕ) (j : SessionJob L C N) (n : ℕ) → slice_get jobs k ≡ Some j → number_of j.pass ≡ n
    → has (map (λ (x : SessionJob L C N). number_of x.pass) jobs) n ≡ true
job_has [] k j n at is = cc
job_has {L} {C} {N} (x ∷ jobs) zero j n at is =
    let same : x ≡ j = first_is x j at in
    let first : number_of x.pass ≡ n = ap (λ (y : SessionJob L C N). number_of y.pass) same ∙ is in
    subst (λ (m : ℕ). has (number_of x.pass ∷ map (λ (y : SessionJob L C N). number_of y.pass) jobs) m ≡ true) first
    (has_mine (number_of x.pass) (map (λ (y : SessionJob L C N). number_of y.pass) jobs))
  where
    first_is : (a b : SessionJob L C N) → Some a ≡ Some b → a ≡ b
    first_is a b h = cc
job_has {L} {C} {N} (x ∷ jobs) (suc k) j n at is = has_behind (number_of x.pass) n (map (λ (y : SessionJob L C N). number_of y.pass) jobs) (job_has jobs k j n at is)

-- what holds of each entry by its place holds of all
each_entry : (P : Entry → Type 0) (F front H : List Entry) → F ≡ front ++ H → ((earlier later : List Entry) (e : Entry) → F ≡ earlier ++ e ∷ later → P e) → AllByRecursion P H
each_entry P F front [] parts each = tt
each_entry P F front (e ∷ H) parts each = (each front H e parts, each_entry P F (front ++ e ∷ []) H (parts ∙ sym (append_assoc front (e ∷ []) H)) each)

-- ---- the hub's own pass

-- What the notes of the hub's own pass tell of the history.
record Own (n : ℕ) (H : List Entry) (ns : List Note) : Type 0 where
  told : told_by ns ≡ own_placed H n
  said : AllByRecursion CanBeSaid (own H n)
  fit : AllByRecursion FrameFits (own H n)

own_tells : (h : Hub) (p v q : Pass) (drew : ℕ) (took late : List EndedCaller) (stop : Result (Told Counts) AlreadyStopped) → number_of p ≡ 0 → own_list p ≡ []
    → Went h p drew took (stop_made (number_of p) stop) v → Passed h v late None q → Own (number_of p) (entries (seen q)) (stop_notes (number_of p) stop)
own_tells h p v q drew took late (Ok t) first none w x =
    let n = number_of p in
    let H = entries (seen q) in
    let e = stop_entry n t.said in
    let m : Placed = record { at = t.at; stamped = stop_stamped n t.said } in
    let one : MadeOne p m v = w.makes in
    let number : number_of q ≡ n = x.number ∙ w.number in
    let mine : own H n ≡ e ∷ [] = ap (own H) (sym number) ∙ x.all_own ∙ x.makes ∙ one.grew ∙ ap (λ (l : List Entry). l ++ e ∷ []) none in
    let stands : AllStand H (made t.at e ∷ []) = stand_on (seen v) (seen q) (made t.at e ∷ []) x.grows (stands_made p v m one, tt) in
    let short : is_short n ≡ true = short_63 n (omega (arith, first)) in
    let can : CanBeSaid e = record { caller = short; empties = refl; octets = tt } in
    record {
      told = notes_are_placed H n 0 (t.at + 1) (made t.at e ∷ []) stands (omega arith, omega arith) (sym mine);
      said = subst (AllByRecursion CanBeSaid) (sym mine) (can, tt);
      fit = subst (AllByRecursion FrameFits) (sym mine) (omega arith, tt);
    }
own_tells h p v q drew took late (Err already) first none w x =
    let n = number_of p in
    let H = entries (seen q) in
    let number : number_of q ≡ n = x.number ∙ w.number in
    let mine : own H n ≡ [] = ap (own H) (sym number) ∙ x.all_own ∙ x.makes ∙ w.makes ∙ none in
    record {
      told = notes_are_placed H n 0 0 [] tt (omega arith) (sym mine);
      said = subst (AllByRecursion CanBeSaid) (sym mine) tt;
      fit = subst (AllByRecursion FrameFits) (sym mine) tt;
    }

-- ---- the theorem

module _ {L C N : Type 0} (talk : L → Option (List Said)) (faults : L → ℕ) (notices : L → Option (List Notice)) (readings : C → Option (List ℕ)) (held : N → Option (List ℕ)) (unput : N → ℕ)
    (begins : Option (List ℕ) → ℕ → N → Type 0) where
  abbrev number : SessionJob L C N → ℕ
  number j = number_of j.pass

  others : (h : Hub) (terms : Terms) (p : Pass) (jobs : List (SessionJob L C N)) → AllByRecursion (Fits talk faults notices readings held unput h terms p) jobs
      → AllByRecursion (λ (j : SessionJob L C N). number_of p ≢ number j) jobs
  others h terms p [] h_ = tt
  others h terms p (j ∷ jobs) fits = (fits.0.other, others h terms p jobs fits.1)

  pub run_audits : ForwardsLaw → SeenAreOfJobs (Worked talk faults notices readings held unput) begins talk → JobsAreApart (Worked talk faults notices readings held unput) begins talk
      → RunAudits talk faults notices readings held unput begins
  run_audits law seen_of apart_ terms before after end prefix l own_file files gs first mine r b s none held_own journals whole order few =
      let h = before.hub in
      let p = before.beside.pass in
      let q = after.beside.pass in
      let n = number_of p in
      let H = entries (seen q) in
      let jobs = jobs_of s.events in
      let legal : Legal (about_of h) H = s.joined.caller.1 in
      let own_notes : List Note = stop_notes n s.stop in
      let own_part = own_tells h p s.at_stop q _ _ _ s.stop first.0 mine s.went s.joined in
      let records : Records before.held after.held own_notes None = subst (λ lost. Records before.held after.held own_notes lost) none s.records in
      let file : own_file ≡ (l ++ 10 ∷ []) ++ octets_of own_notes = held_is before.held after.held (l ++ 10 ∷ []) own_file (octets_of own_notes) r.titled held_own records.0 in
      let fits = jobs_fit talk faults notices readings held unput begins h terms p q prefix s.events r.named r.empty s.fates in
      let noted = jobs_noted talk faults notices readings held unput law h terms p q jobs files b.callers b.longest b.few_turns fits journals whole in
      let numbers = map number jobs in
      let callers = n ∷ callers_in noted.js in
      let own_one : CallersNotes = record { caller = n; notes = own_notes } in
      let told : AllTold H (own_one ∷ noted.js) = (own_part.told, noted.told) in
      let apart : Apart (λ (m : ℕ). m) callers =
      subst (λ (ms : List ℕ). Apart (λ (m : ℕ). m) (n ∷ ms)) (sym noted.callers) (
        mapped number n jobs (others h terms p jobs fits),
        apart_mapped number jobs (apart_ terms before after end s),
      ) in
      let first_is : number_of q ≡ n = s.joined.number ∙ s.went.number in
      let of_them : AllByRecursion (λ (x : Entry). has (n ∷ numbers) x.caller ≡ true) H =
      each_entry (λ (x : Entry). has (n ∷ numbers) x.caller ≡ true) H [] H refl (λ earlier later x at. ⊎_elim
      (λ own_pass. subst (λ (m : ℕ). has (n ∷ numbers) m ≡ true) (sym first_is ∙ own_pass) (has_mine n numbers))
      (λ k. has_behind n x.caller numbers (job_has jobs k.0 k.1 x.caller k.2 k.3))
      (seen_of terms before after end first s earlier later x at)) in
      let shared : AllByRecursion (λ (x : Entry). has callers x.caller ≡ true) H =
      subst (λ (ms : List ℕ). AllByRecursion (λ (x : Entry). has (n ∷ ms) x.caller ≡ true) H) (sym noted.callers) of_them in
      let fs = files_of l own_notes noted.js in
      let moved : IsPermutation fs gs = subst (λ (x : List (List ℕ)). IsPermutation x gs) (λ i. file i ∷ sym noted.are i) order in
      let count = entries_few H l n own_notes noted.js told (places_are_shared H callers apart shared) in
      let same = together_long fs gs moved in
      let most : length (put_together gs) ≤ 2 ^ 28 = few in
      let few_entries : length H ≤ 2 ^ 28 = omega (arith, count, same, most) in
      let can = of_all CanBeSaid H callers (of_callers CanBeSaid H (own_one ∷ noted.js) (own_part.said, noted.said)) shared in
      let frames = of_all FrameFits H callers (of_callers FrameFits H (own_one ∷ noted.js) (own_part.fit, noted.fit)) shared in
      let have : HaveLines 0 H = legal_has_lines (about_of h) H legal b.rows few_entries can in
      journals_audit (about_of h) H l n own_notes noted.js gs r.hub r.clean legal have
      (are_journals H (own_one ∷ noted.js) have told (records.1, noted.octets)) apart shared moved r.short (legal_is_small (about_of h) H legal b.rows frames) few
