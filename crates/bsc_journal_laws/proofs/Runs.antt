-- What the journals of the jobs of a hub that was served tell.
-- It serves the clauses of `command_audits`, `journals_are_there` and `run_audits`.
use Rattle.std.proofs.Common.{⊎_elim, ◌≡◌, ◌≢◌, ℕ, cond, ◌+◌, ◌^◌, ◌==◌, ◌<◌, ◌≤◌, Bool, true, false, List, [], ◌∷◌, ◌++◌, length, filter, map, take, Option, Some, None, is_some}
use Rattle.std.proofs.Common.{refl, ap, sym, ◌∙◌, subst, arith}
use Rattle.std.specs.List.{AllByRecursion}
use Rattle.std.specs.Arc.{arc_value}
use Rattle.std.specs.Io.KnownBytes.{Appends}
use Rattle.std.proofs.lemmas.Bool.{eq-eqb, eqb-true, or_cases}
use Rattle.bsc_lemmas.proofs.Lists.{appends_to}
use Rattle.bsc_history.specs.declared.entry.Entry.{Entry}
use Rattle.bsc_history.specs.Entries.{own}
use Rattle.bsc_history.specs.Marks.{entries}
use Rattle.bsc_history.proofs.Lists.{In, In_from_all, In_kept, all_from_In}
use Rattle.bsc_edge.specs.declared.fault.LinkFault.{LinkFault}
use Rattle.bsc_edge.specs.declared.notice.Notice.{Notice}
use Rattle.bsc_edge.specs.declared.said.Said.{Said}
use Rattle.bsc_session.specs.Notes.Notes.{Note, NotesHaveOctets, Records, RecordsPart, denied, lines_of as octets_of, made}
use Rattle.bsc_session.specs.Notes.Octets.{CallHasOctets}
use Rattle.bsc_policy.specs.declared.policy.Policy.{Policy}
use Rattle.bsc_turn.specs.declared.pass.Pass.{Pass}
use Rattle.bsc_turn.specs.Callers.{has}
use Rattle.bsc_turn.specs.Passes.{number_of, own_list, seen}
use Rattle.bsc_hub.specs.declared.hub.Hub.{Hub}
use Rattle.bsc_hub.specs.Calls.{stop_made}
use Rattle.bsc_hub.specs.Passing.{about_of, found_history}
use Rattle.bsc_session.specs.declared.ended.Ended.{Ended}
use Rattle.bsc_session.specs.declared.job.SessionJob.{SessionJob}
use Rattle.bsc_session.specs.declared.session_end.SessionEnd.{SessionEnd}
use Rattle.bsc_session.specs.Jobs.{Worked, makes_lines, policy_of, terms_in}
use Rattle.bsc_session.specs.Standings.{Terms as SessionTerms}
use Rattle.bsc_session.specs.Talk.{Session, journal_of, lost_of}
use Rattle.bsc_session_laws.specs.Laws.{ForwardsAreCarried}
use Rattle.bsc_serve.specs.Alone.{HasEndedAtLast, JobsEndAtLast}
use Rattle.bsc_serve.specs.Events.{AreFates, Event, arrived, ended, jobs_of}
use Rattle.bsc_serve.specs.Fates.{returned, spent, started}
use Rattle.bsc_serve.specs.Terms.{Terms}
use Rattle.bsc_journal.specs.Journals.{HaveLines}
use Rattle.bsc_journal.specs.Saying.{HasLine, is_short}
use Rattle.bsc_journal_laws.specs.Laws.{AreJournals, CallersNotes, callers_in, octets_noted}
use Rattle.bsc_journal_laws.specs.Lines.{CanBeSaid, FrameFits, NoteHasLine, empties_in}
use Rattle.bsc_journal_laws.specs.Placing.{PlacedEntry, own_placed, placed_from, told_by}
use Rattle.bsc_journal_laws.specs.Runs.{AreWhole, IsWhole, JournalOf, JournalsAreThere, JournalsOf}
use Rattle.bsc_journal_laws.proofs.Counting.{AllTold}
use Rattle.bsc_journal_laws.proofs.Entries.{entries_fit, entries_found, entries_have_octets}
use Rattle.bsc_journal_laws.proofs.Noting.{notes_are_entries}
use Rattle.bsc_journal_laws.proofs.Places.{all_own, notes_are_placed}
use Rattle.bsc_journal_laws.proofs.Shorts.{short_63}
use Rattle.bsc_journal_laws.proofs.Standing.{stand_on}

-- what a session forwards, as the law of sessions says it
abbrev pub ForwardsLaw : Type 0
ForwardsLaw = (v : SessionTerms) (T : List Said) (R : List ℕ) (E : List Entry) (frames : List (List ℕ)) (ended : Ended)
    → (x : Session v T R E frames ended) → ForwardsAreCarried v E ended x.course

-- ---- each note has its line

abbrev AllHaveLines : List PlacedEntry → Type 0
AllHaveLines ats = AllByRecursion (λ (a : PlacedEntry). HasLine a.place a.entry) ats

placed_lines : (k : ℕ) (H : List Entry) → HaveLines k H → AllHaveLines (placed_from k H)
placed_lines k [] h = tt
placed_lines k (e ∷ H) h = (h.0, placed_lines (k + 1) H h.1)

own_lines : (n : ℕ) (ats : List PlacedEntry) → AllHaveLines ats → AllHaveLines (filter (λ (a : PlacedEntry). a.entry.caller == n) ats)
own_lines n [] h = tt
own_lines n (a ∷ ats) h = by (a.entry.caller == n) (own_lines n ats h.1)
  where
    by : (b : Bool) → AllHaveLines (filter (λ (x : PlacedEntry). x.entry.caller == n) ats)
        → AllHaveLines (cond b (a ∷ filter (λ (x : PlacedEntry). x.entry.caller == n) ats) (filter (λ (x : PlacedEntry). x.entry.caller == n) ats))
    by true rest = (h.0, rest)
    by false rest = rest

notes_lines : (ns : List Note) → AllHaveLines (told_by ns) → NotesHaveOctets ns → AllByRecursion NoteHasLine ns
notes_lines [] h d = tt
notes_lines (made at e ∷ ns) h d = (h.0, notes_lines ns h.1 d.1)
notes_lines (denied x ∷ ns) h d = (d.0, notes_lines ns h d.1)

have_lines : (H : List Entry) (n : ℕ) (ns : List Note) → HaveLines 0 H → told_by ns ≡ own_placed H n → NotesHaveOctets ns → AllByRecursion NoteHasLine ns
have_lines H n ns have same d = notes_lines ns (subst AllHaveLines (sym same) (own_lines n (placed_from 0 H) (placed_lines 0 H have))) d

-- the octets of these notes are octets
abbrev pub AllHaveOctets : List CallersNotes → Type 0
AllHaveOctets js = AllByRecursion (λ (j : CallersNotes). NotesHaveOctets j.notes) js

pub are_journals : (H : List Entry) (js : List CallersNotes) → HaveLines 0 H → AllTold H js → AllHaveOctets js → AreJournals H js
are_journals H [] have told octets = tt
are_journals H (j ∷ js) have told octets = ((told.0, have_lines H j.caller j.notes have told.0 octets.0), are_journals H js have told.1 octets.1)

-- ---- what is held

pub held_is : (a b : Option (List ℕ)) (x y o : List ℕ) → a ≡ Some x → b ≡ Some y → Appends a b o → y ≡ x ++ o
held_is a b x y o e f h = (let k : Appends (Some x) (Some y) o = subst (λ (c : Option (List ℕ)). Appends (Some x) c o) f (subst (λ (c : Option (List ℕ)). Appends c b o) e h) in k)

pub held_some : (a b : Option (List ℕ)) (x : List ℕ) (ns : List Note) (lost : Option LinkFault) → a ≡ Some x → Records a b ns lost → (o : List ℕ) × (b ≡ Some o)
held_some a b x ns None e h = (x ++ octets_of ns, appends_to a b x (octets_of ns) e h.0)
held_some a b x ns (Some fault) e h =
    let part : RecordsPart a b ns = h.0 in
    (x ++ take part.0 (octets_of ns), appends_to a b x (take part.0 (octets_of ns)) e part.3)

makes : (b : Bool) (p : Option Policy) → b ≡ true → makes_lines b p ≡ true
makes b (Some policy) h = refl
makes b None h = h

-- ---- what callers share

module _ (P : Entry → Type 0) (H : List Entry) where
  -- it holds of all own entries of each of these callers
  abbrev pub OfEach : List ℕ → Type 0
  OfEach ns = AllByRecursion (λ (n : ℕ). AllByRecursion P (own H n)) ns

  found_of : (ns : List ℕ) (m : ℕ) → OfEach ns → has ns m ≡ true → AllByRecursion P (own H m)
  found_of [] m all there = (let bad : false ≡ true = there in cc)
  found_of (n ∷ ns) m all there = ⊎_elim
      (λ here. subst (λ (k : ℕ). AllByRecursion P (own H k)) (eqb-true n m here) all.0)
      (λ later. found_of ns m all.1 later)
      (or_cases (n == m) (has ns m) there)

  -- so of all, where each entry is of one of them
  pub of_all : (ns : List ℕ) → OfEach ns → AllByRecursion (λ (e : Entry). has ns e.caller ≡ true) H → AllByRecursion P H
  of_all ns all shared = all_from_In P H (λ e there.
      let known : has ns e.caller ≡ true = In_from_all (λ (x : Entry). has ns x.caller ≡ true) e H shared there in
      let mine : In e (own H e.caller) = In_kept (λ (x : Entry). x.caller == e.caller) e H there (eq-eqb e.caller e.caller refl) in
      In_from_all P e (own H e.caller) (found_of ns e.caller all known) mine)

  pub of_callers : (js : List CallersNotes) → AllByRecursion (λ (j : CallersNotes). AllByRecursion P (own H j.caller)) js → OfEach (callers_in js)
  of_callers [] h = tt
  of_callers (j ∷ js) h = (h.0, of_callers js h.1)

-- entries of a caller can be said, where their octets are octets and they say few empties
can_all : (n most : ℕ) (E : List Entry) → n ≤ 2 ^ 62 → most ≤ 2 ^ 40 → AllByRecursion (λ (e : Entry). (e.caller == n) ≡ true) E
    → AllByRecursion (λ (e : Entry). CallHasOctets e.call) E → AllByRecursion (λ (e : Entry). empties_in e.call ≤ most) E → AllByRecursion CanBeSaid E
can_all n most [] low few of octets empties = tt
can_all n most (e ∷ E) low few of octets empties =
    let same : e.caller ≡ n = eqb-true e.caller n of.0 in
    let small : empties_in e.call ≤ most = empties.0 in (
      record {
        caller = subst (λ (k : ℕ). is_short k ≡ true) (sym same) (short_63 n (omega (arith, low)));
        empties = short_63 (empties_in e.call) (omega (arith, small, few));
        octets = octets.0;
      },
      can_all n most E low few of.1 octets.1 empties.1,
    )

-- ---- the jobs

module _ {L C N : Type 0} (talk : L → Option (List Said)) (faults : L → ℕ) (notices : L → Option (List Notice)) (readings : C → Option (List ℕ)) (held : N → Option (List ℕ)) (unput : N → ℕ) where
  abbrev pub Works : SessionJob L C N → SessionEnd L C N → Type 0
  Works = Worked talk faults notices readings held unput

  abbrev pub Kept : Pass → SessionJob L C N → List ℕ → Type 0
  Kept q j o = JournalOf talk faults notices readings held unput q j o

  abbrev pub notes_in : {q : Pass} {j : SessionJob L C N} {o : List ℕ} → Kept q j o → List Note
  notes_in k = journal_of k.worked.served.session

  -- What is known of a job that was taken: its caller is another than the hub's own, new, and one of those that there may be; it
  -- is of this hub, makes as many turns as were asked for, and its journal was begun with nothing in it, for entries.
  pub record Fits (h : Hub) (terms : Terms) (p : Pass) (j : SessionJob L C N) : Type 0 where
    pub new : own_list j.pass ≡ []
    pub recorded : j.is_recorded ≡ true
    pub other : number_of p ≢ number_of j.pass
    pub below : number_of j.pass < (about_of h).limits.callers
    pub hub : arc_value j.hub ≡ h
    pub turns : j.turns ≡ terms.turns
    pub begun : held j.journal ≡ Some []

  -- What the journal of a job tells of the history.
  pub record Tells (H : List Entry) (j : SessionJob L C N) (o : List ℕ) (ns : List Note) : Type 0 where
    pub told : told_by ns ≡ own_placed H (number_of j.pass)
    pub is : o ≡ octets_of ns
    pub octets : NotesHaveOctets ns
    pub said : AllByRecursion CanBeSaid (own H (number_of j.pass))
    pub fit : AllByRecursion FrameFits (own H (number_of j.pass))

  job_tells : ForwardsLaw → (h : Hub) (terms : Terms) (p q : Pass) (j : SessionJob L C N) (o : List ℕ) → (about_of h).limits.callers ≤ 2 ^ 62 → (about_of h).hub.max_bvlc ≤ 65535 → terms.turns ≤ 2 ^ 40
      → Fits h terms p j → (k : Kept q j o) → IsWhole talk faults notices readings held unput k → Tells (entries (seen q)) j o (notes_in k)
  job_tells law h terms p q j o callers longest turns f k whole =
      let w = k.worked in
      let x = w.served.session in
      let n = number_of j.pass in
      let H = entries (seen q) in
      let noted = w.noted (makes j.is_recorded (policy_of j.policy) f.recorded) in
      let records : Records (held j.journal) (held k.left.last.journal.value) (journal_of x) None =
      subst (λ lost. Records (held j.journal) (held k.left.last.journal.value) (journal_of x) lost) whole noted.1 in
      let mine : w.served.E ≡ own H n =
      sym (ap (λ (l : List Entry). l ++ w.served.E) f.new)
      ∙ sym w.served.goes.own
      ∙ sym k.all_own in
      let low : n < (about_of h).limits.callers = f.below in
      let few : AllByRecursion (λ (e : Entry). empties_in e.call ≤ terms.turns) w.served.E =
      subst (λ (t : ℕ). AllByRecursion (λ (e : Entry). empties_in e.call ≤ t) w.served.E) f.turns (entries_found _ _ _ _ _ _ x) in
      let long : (terms_in j).hub.max_bvlc ≤ 65535 = subst (λ (g : Hub). (about_of g).hub.max_bvlc ≤ 65535) (sym f.hub) longest in
      record {
        told = notes_are_placed H n (length (seen j.pass)) (length (seen k.left.pass)) (journal_of x) (stand_on (seen k.left.pass) (seen q) (journal_of x) k.since noted.0) noted.2
            (notes_are_entries _ _ _ _ _ _ x whole ∙ mine);
        is = held_is (held j.journal) (held k.left.last.journal.value) [] o (octets_of (journal_of x)) f.begun k.is records.0;
        octets = records.1;
        said = can_all n terms.turns (own H n) (omega (arith, low, callers)) turns (all_own n H)
            (subst (AllByRecursion (λ (e : Entry). CallHasOctets e.call)) mine (entries_have_octets _ _ _ _ _ _ x whole records.1))
            (subst (AllByRecursion (λ (e : Entry). empties_in e.call ≤ terms.turns)) mine few);
        fit = subst (AllByRecursion FrameFits) mine (entries_fit _ _ _ x.course (law _ _ _ _ _ _ x) long);
      }

  -- What the journals of jobs tell together.
  pub record Noted (H : List Entry) (jobs : List (SessionJob L C N)) (files : List (List ℕ)) : Type 0 where
    pub js : List CallersNotes
    pub told : AllTold H js
    pub octets : AllHaveOctets js
    pub said : AllByRecursion (λ (j : CallersNotes). AllByRecursion CanBeSaid (own H j.caller)) js
    pub fit : AllByRecursion (λ (j : CallersNotes). AllByRecursion FrameFits (own H j.caller)) js
    pub callers : callers_in js ≡ map (λ (j : SessionJob L C N). number_of j.pass) jobs
    pub are : map octets_noted js ≡ files

  pub jobs_noted : ForwardsLaw → (h : Hub) (terms : Terms) (p q : Pass) (jobs : List (SessionJob L C N)) (files : List (List ℕ))
      → (about_of h).limits.callers ≤ 2 ^ 62 → (about_of h).hub.max_bvlc ≤ 65535 → terms.turns ≤ 2 ^ 40 → AllByRecursion (Fits h terms p) jobs
      → (ks : JournalsOf talk faults notices readings held unput q jobs files) → AreWhole talk faults notices readings held unput q jobs files ks → Noted (entries (seen q)) jobs files
  jobs_noted law h terms p q [] [] callers longest turns fits all whole = record { js = []; told = tt; octets = tt; said = tt; fit = tt; callers = refl; are = refl }
  jobs_noted law h terms p q [] (o ∷ files) callers longest turns fits all whole = absurd all
  jobs_noted law h terms p q (j ∷ jobs) [] callers longest turns fits all whole = absurd all
  jobs_noted law h terms p q (j ∷ jobs) (o ∷ files) callers longest turns fits all whole =
      let one = job_tells law h terms p q j o callers longest turns fits.0 all.0 whole.0 in
      let more = jobs_noted law h terms p q jobs files callers longest turns fits.1 all.1 whole.1 in
      record {
        js = record { caller = number_of j.pass; notes = notes_in all.0 } ∷ more.js;
        told = (one.told, more.told);
        octets = (one.octets, more.octets);
        said = (one.said, more.said);
        fit = (one.fit, more.fit);
        callers = ap (λ (l : List ℕ). number_of j.pass ∷ l) more.callers;
        are = λ i. sym one.is i ∷ more.are i;
      }

  module _ (begins : Option (List ℕ) → ℕ → N → Type 0) where
    pub jobs_fit : (h : Hub) (terms : Terms) (p q : Pass) (prefix : List ℕ) (events : List (Event L C N)) → terms.prefix ≡ Some prefix
        → ((n : ℕ) (k : N) → begins (Some prefix) n k → held k ≡ Some []) → AreFates begins talk h terms p q events → AllByRecursion (Fits h terms p) (jobs_of events)
    jobs_fit h terms p q prefix [] named empty f = tt
    jobs_fit h terms p q prefix (arrived l (started j) ∷ more) named empty f = (
      record {
        new = f.0.pass.new.0;
        recorded = f.0.is_recorded ∙ ap is_some named;
        other = λ e. (let lt = f.0.pass.number in omega (arith, lt, e));
        below = f.0.pass.room;
        hub = f.0.hub;
        turns = f.0.turns;
        begun = empty (number_of j.pass) j.journal (subst (λ x. begins x (number_of j.pass) j.journal) named f.0.journal);
      },
      jobs_fit h terms p q prefix more named empty f.1,
    )
    jobs_fit h terms p q prefix (arrived l (returned e) ∷ more) named empty f = jobs_fit h terms p q prefix more named empty f.1
    jobs_fit h terms p q prefix (arrived l spent ∷ more) named empty f = jobs_fit h terms p q prefix more named empty f.1
    jobs_fit h terms p q prefix (ended j d ∷ more) named empty f = jobs_fit h terms p q prefix more named empty f

    -- each job has its journal
    each_there : (h : Hub) (terms : Terms) (p q : Pass) (G : List Entry) (jobs : List (SessionJob L C N)) → AllByRecursion (Fits h terms p) jobs → AllByRecursion (HasEndedAtLast Works G q) jobs
        → (files : List (List ℕ)) × JournalsOf talk faults notices readings held unput q jobs files
    each_there h terms p q G [] fits all = ([], tt)
    each_there h terms p q G (j ∷ jobs) fits all =
        let k = all.0 in
        let noted = k.1.noted (makes j.is_recorded (policy_of j.policy) fits.0.recorded) in
        let holds = held_some (held j.journal) (held k.0.last.journal.value) [] (journal_of k.1.served.session) (lost_of k.1.served.session) fits.0.begun noted.1 in
        let more = each_there h terms p q G jobs fits.1 all.1 in
        (holds.0 ∷ more.0, (record { left = k.0; worked = k.1; all_own = k.2; since = k.3; is = holds.1 }, more.1))

    pub journals_are_there : JobsEndAtLast Works begins talk → JournalsAreThere talk faults notices readings held unput begins
    journals_are_there end_at_last terms before after end prefix l r s =
        let p = before.beside.pass in
        let q = after.beside.pass in
        each_there before.hub terms p q (found_history (stop_made (number_of p) s.stop) q) (jobs_of s.events)
        (jobs_fit before.hub terms p q prefix s.events r.named r.empty s.fates) (end_at_last terms before after end s)
