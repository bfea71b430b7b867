-- The journals of a hub that the command made may be believed.
-- It serves the clauses of `command_audits`.
use Rattle.std.proofs.Common.{◌==◌, if◌then◌else◌, inl, inr, ◌≡◌, ◌⊎◌, ℕ, ◌^◌, ◌≤◌, Bool, true, false, List, [], ◌∷◌, ◌++◌, codes, Option, Some, None, refl, ap, sym, ◌∙◌, subst, arith}
use Rattle.std.specs.Arc.{arc_value}
use Rattle.std.specs.Io.KnownBytes.{Appends}
use Rattle.bsc_lemmas.proofs.Lists.{appends_to}
use Rattle.bsc_history.specs.declared.limits.About.{About}
use Rattle.bsc_history.specs.declared.limits.TheConstants.{MOST_CALLS, MOST_OUTBOX, MOST_ROWS}
use Rattle.bsc_edge.specs.declared.begun.Begun.{Begun as BegunCall}
use Rattle.bsc_edge.specs.declared.fault.LinkFault.{LinkFault}
use Rattle.bsc_edge.specs.declared.notice.Notice.{Notice}
use Rattle.bsc_edge.specs.declared.said.Said.{Said}
use Rattle.bsc_edge.specs.Told.{Grows}
use Rattle.bsc_octets.specs.declared.bounds.TheConstants.{LEAST_BVLC}
use Rattle.bsc_turn.specs.Passes.{number_of}
use Rattle.bsc_hub.specs.Passing.{about_of}
use Rattle.bsc_hub.specs.Whole.{IsFirst}
use Rattle.bsc_session.specs.Notes.Notes.{HasLine}
use Rattle.bsc_player.specs.LastLines.{EndsWith, RanOut}
use Rattle.bsc_session.specs.declared.job.SessionJob.{SessionJob}
use Rattle.bsc_session.specs.declared.session_end.SessionEnd.{SessionEnd}
use Rattle.bsc_session.specs.Jobs.{Worked}
use Rattle.bsc_serve.specs.declared.end.ServeEnd.{ServeEnd}
use Rattle.bsc_serve.specs.declared.end.ServeEnd.TheVariants.{AcceptFault, Done, JournalFault, NoMemory, Requested, StoppedBefore}
use Rattle.bsc_serve.specs.Events.{jobs_of}
use Rattle.bsc_serve.specs.Serving.{Serving, stop_notes}
use Rattle.bsc_serve.specs.Terms.{Terms}
use Rattle.bsc_serve.specs.Worlds.{ServedWorld, served_world}
use Rattle.bsc_settings.specs.declared.bounds.TheConstants.{MOST_TURNS}
use Rattle.bsc_settings.specs.declared.hub.HubSettings.{HubSettings}
use Rattle.bsc_settings.specs.Parts.{identity_of, limits_of}
use Rattle.bsc_journal.specs.Saying.{is_short}
use Rattle.bsc_hub_command.specs.declared.place.HubPlace.{HubPlace}
use Rattle.bsc_hub_command.specs.HubLines.{hub_line, hub_text}
use Rattle.bsc_hub_command.specs.Served.{Begun, Bound, HubCourse, HubRuns, HubTelling, HubTerms, HubWorld, SaysEnd, SaysLost, Titling, Unbegun, status_with, telling, terms_of, with_pass}
use Rattle.bsc_journal_laws.specs.Commands.{CommandAudits, HasJournals, MayBeBelieved, NoneLost}
use Rattle.bsc_journal_laws.specs.Runs.{IsBounded, IsRecorded, JournalsAreThere, RunAudits}
use Rattle.bsc_journal_laws.proofs.Runs.{held_some}
use Rattle.bsc_journal_laws.proofs.Shorts.{short_63}
use Rattle.bsc_journal_laws.proofs.Titles.{title_clean, title_short}

-- ---- which ends have status 0

ends_not : (w : ℕ) (before after : Option (List ℕ)) (line : List ℕ) → 1 ≤ w → EndsWith 0 w before after line → ⊥
ends_not w before after line some (inl h) = (let k : 0 ≡ w = h.0 in omega (arith, some, k))
ends_not w before after line some (inr h) = (let k : 0 ≡ 4 = h.0 in omega (arith, k))

ran_not : (before after : Option (List ℕ)) → RanOut 0 before after → ⊥
ran_not before after h = (let k : 0 ≡ 7 = h.0 in omega (arith, k))

unlost : (lost : Option LinkFault) → HasLine [] lost → lost ≡ None
unlost None h = refl
unlost (Some fault) h = absurd h

upper : (low n high : ℕ) → (low ≤ n) × (n ≤ high) → n ≤ high
upper low n high h = h.1

-- four in place of zero is no zero
no_zero : (b : Bool) (said : ℕ) → (said == 0) ≡ b → 0 ≡ (if b then 4 else said) → ⊥
no_zero true said is h = (let k : 0 ≡ 4 = h in omega (arith, k))
no_zero false said is h = (let no : true ≡ false = subst (λ (n : ℕ). (n == 0) ≡ false) (sym h) is in cc)

spared : (are_lost : Bool) (said : ℕ) → 0 ≡ status_with are_lost said → (are_lost ≡ false) × (said ≡ 0)
spared false said h = (refl, sym h)
spared true said h = absurd (no_zero (said == 0) said refl h)

-- ---- what is fixed of a hub of settings

bounded_by : (s : HubSettings) → IsBounded (record { hub = identity_of s; limits = limits_of s }) s.turns
bounded_by s = record {
  rows = upper 1 s.rows MOST_ROWS s.rows_fit;
  callers = omega arith;
  longest = upper LEAST_BVLC s.max_bvlc 65535 s.max_bvlc_fits;
  few_turns = upper 1 s.turns MOST_TURNS s.turns_fit;
}

-- the numbers of its first line are short
pub record HasShort (a : About) : Type 0 where
  pub rows : is_short a.limits.rows ≡ true
  pub outbox : is_short a.limits.outbox ≡ true
  pub calls : is_short a.limits.calls ≡ true

shorts_by : (s : HubSettings) → HasShort (record { hub = identity_of s; limits = limits_of s })
shorts_by s =
    let rows : s.rows ≤ 1024 = upper 1 s.rows MOST_ROWS s.rows_fit in
    let outbox : s.outbox ≤ 1024 = upper 2 s.outbox MOST_OUTBOX s.outbox_fits in
    let most : MOST_CALLS ≤ 2 ^ 52 = omega arith in
    record {
      rows = short_63 s.rows (omega (arith, rows));
      outbox = short_63 s.outbox (omega (arith, outbox));
      calls = short_63 MOST_CALLS (omega (arith, most));
    }

newline : codes "\n" ≡ 10 ∷ []
newline = refl

module _ {L C N : Type 0} (talk : L → Option (List Said)) (faults : L → ℕ) (notices : L → Option (List Notice)) (readings : C → Option (List ℕ))
    (held : N → Option (List ℕ)) (unput : N → ℕ) (begins : Option (List ℕ) → ℕ → N → Type 0) where
  abbrev Works : SessionJob L C N → SessionEnd L C N → Type 0
  Works = Worked talk faults notices readings held unput

  abbrev Tells : HubTelling L C N
  Tells = telling Works begins talk held unput

  lost_not : (before after : HubWorld L C N) (failed : Type 0) → SaysLost before after failed 0 → ⊥
  lost_not before after failed (inl h) = (let k : 0 ≡ 4 = h.0 in omega (arith, k))
  lost_not before after failed (inr h) = ran_not before.written after.written h

  -- a hub that was served and ended with status 0 put the line of its Stop, where it made one
  stop_put : (terms : Terms) (before after : ServedWorld L C N) (end : ServeEnd) (w w' : Option (List ℕ)) → (s : Serving Works begins talk terms before after end) → SaysEnd end 0 w w' → s.lost ≡ None
  stop_put terms before after (Done c u) w w' s says = s.ends.4
  stop_put terms before after (StoppedBefore at u) w w' s says =
      unlost s.lost (subst (λ r. HasLine (stop_notes (number_of before.beside.pass) r) s.lost) s.ends.3 s.has_line)
  stop_put terms before after (Requested c u) w w' s says = s.ends.2
  stop_put terms before after AcceptFault w w' s says = absurd (ends_not 6 w w' _ (omega arith) says)
  stop_put terms before after JournalFault w w' s says = absurd (let k : 0 ≡ 4 = says.0 in let no : ⊥ = omega (arith, k) in no)
  stop_put terms before after NoMemory w w' s says = absurd (ran_not w w' says)

  module _ (audits : RunAudits talk faults notices readings held unput begins) (there : JournalsAreThere talk faults notices readings held unput begins)
      (asked : HubTerms) (place : HubPlace N) (before after : HubWorld L C N) (prefix : List ℕ) (x : HubRuns Tells asked place before after 0)
      (named : asked.prefix ≡ Some prefix) (empty : (n : ℕ) (k : N) → begins (Some prefix) n k → held k ≡ Some []) where
    abbrev Audit : Type 0
    Audit = (k : HasJournals talk faults notices readings held unput begins place before after x.last) × MayBeBelieved talk faults notices readings held unput begins x.last k
        × NoneLost talk faults notices readings held unput begins before after

    abbrev about : About
    about = about_of (arc_value x.hub)

    abbrev course : HubCourse
    course = record { hub = arc_value x.hub; first = x.first; last = x.last }

    abbrev begun_with : Option (List BegunCall) → HubWorld L C N
    begun_with calls = record before { begun = calls }

    first_is : IsFirst x.first
    first_is = (x.new.0, x.new.3, x.new.4)

    bounded : IsBounded about asked.settings.turns
    bounded = subst (λ (a : About). IsBounded a asked.settings.turns) (sym x.about) (bounded_by asked.settings)

    shorts : HasShort about
    shorts = subst (λ (a : About). HasShort a) (sym x.about) (shorts_by asked.settings)

    served : (b : Begun Tells course asked place.own before after 0) (titled : Option (List ℕ)) → Appends (held b.begun) titled (hub_line about)
        → Bound Tells course asked titled (held b.own) (begun_with b.calls) after 0 → Audit
    served b titled put bound =
        let begun : held b.begun ≡ Some [] = empty (number_of x.first) b.begun (subst (λ (p : Option (List ℕ)). begins p (number_of x.first) b.begun) named b.of_pass) in
        let title : titled ≡ Some (hub_text about ++ 10 ∷ []) = appends_to (held b.begun) titled [] (hub_line about) begun put ∙ ap (λ (w : List ℕ). Some (hub_text about ++ w)) newline in
        let s = bound.serving in
        let same = spared bound.are_lost bound.said bound.status in
        let holds = held_some titled (held b.own) (hub_text about ++ 10 ∷ []) (stop_notes (number_of x.first) s.stop) s.lost title s.records in
        let none = stop_put (terms_of asked) (served_world (arc_value x.hub) titled (with_pass x.first (begun_with b.calls)))
        (served_world (arc_value x.hub) (held b.own) (with_pass x.last after)) bound.end before.written after.written s
        (subst (λ (n : ℕ). SaysEnd bound.end n before.written after.written) same.1 bound.says) in
        let recorded : IsRecorded talk faults notices readings held unput begins (terms_of asked) (served_world (arc_value x.hub) titled (with_pass x.first (begun_with b.calls))) prefix
        (hub_text about) =
        record {
          named = named;
          empty = empty;
          hub = x.said;
          clean = title_clean about x.identity shorts.rows shorts.outbox shorts.calls;
          short = title_short about x.identity shorts.rows shorts.outbox shorts.calls;
          titled = title;
        } in
        let files = there (terms_of asked) (served_world (arc_value x.hub) titled (with_pass x.first (begun_with b.calls)))
        (served_world (arc_value x.hub) (held b.own) (with_pass x.last after)) bound.end prefix (hub_text about) recorded s in (
          record { own = b.own; kept = b.keeps; own_file = holds.0; holds = holds.1; jobs = jobs_of s.events; taken = s.jobs; files = files.0; journals = files.1 },
          λ gs whole order few. audits (terms_of asked) (served_world (arc_value x.hub) titled (with_pass x.first (begun_with b.calls)))
              (served_world (arc_value x.hub) (held b.own) (with_pass x.last after)) bound.end prefix (hub_text about)
              holds.0 files.0 gs first_is x.new.2 recorded bounded s none holds.1 files.1 whole order few,
          subst (λ (b : Bool). Grows before.lost after.lost (b ∷ [])) same.0 bound.counted,
        )

    titling : (b : Begun Tells course asked place.own before after 0) → Titling Tells course asked b.begun b.own (begun_with b.calls) after 0 → Audit
    titling b (inl u) = absurd (lost_not before after _ u.says)
    titling b (inr (titled, put, inl n)) = absurd (ends_not 6 before.written after.written _ (omega arith) n.0.says)
    titling b (inr (titled, put, inr bound)) = served b titled put bound

    audit : Unbegun course asked place.own before after 0 ⊎ Begun Tells course asked place.own before after 0 → Audit
    audit (inl u) = absurd (lost_not before after _ u.says)
    audit (inr b) = titling b b.went

  pub command_audits : RunAudits talk faults notices readings held unput begins → JournalsAreThere talk faults notices readings held unput begins
      → CommandAudits talk faults notices readings held unput begins
  command_audits audits there asked place before after prefix x named empty = audit audits there asked place before after prefix x named empty x.went
