-- Words of the theorem file, written out, that no other example has: what a pass has that has all callers, states of a turn,
-- checks and octets, laws of sessions, and verdicts on journals.
-- No clause needs it: worked examples.
use Rattle.std.proofs.Common.{◌≡◌, ℕ, zero, suc, ◌<◌, ⊎_elim, inl, true, false, List, [], ◌∷◌, ◌++◌, length, length-append, slice_index, Option, None, Ok, refl, sym, ap, subst, ◌∙◌, arith, lit<}
use Rattle.std.specs.Prelude.{⊤}
use Rattle.std.specs.List.{AllByRecursion}
use Rattle.atomic_table.specs.Table.{State}
use Rattle.bsc_frame.specs.declared.check.Check.{Check}
use Rattle.bsc_frame.specs.declared.check.Check.TheVariants.{C1, C3, C5, C6, C7, C7b, C8, C10, C10b, C10c, C11}
use Rattle.bsc_frame.specs.Checks.{IsFirst, MessageFails, order}
use Rattle.bsc_checks.specs.Options.{AreOctets}
use Rattle.bsc_history.specs.declared.entry.Entry.{Entry}
use Rattle.bsc_history.specs.declared.limits.About.{About}
use Rattle.bsc_history.specs.declared.mark.Stamped.{Stamped}
use Rattle.bsc_turn.specs.declared.pass.Pass.{Pass}
use Rattle.bsc_turn.specs.declared.view.View.{View}
use Rattle.bsc_turn.specs.Callers.{HasAll, has}
use Rattle.bsc_turn.specs.Rule.{At}
use Rattle.bsc_turn.specs.OneHistory.{HasOneHistory, RuleCompares, RuleHasOneHistory}
use Rattle.bsc_turn.proofs.OneHistory.{compared, one_history}
use Rattle.bsc_desk.specs.Entries.{plain}
use Rattle.bsc_hub.specs.declared.hub.Hub.{Hub}
use Rattle.bsc_hub.specs.Whole.{IsWhole}
use Rattle.bsc_edge.specs.declared.incoming.Incoming.TheVariants.{Message}
use Rattle.bsc_edge.specs.declared.said.Said.TheVariants.{Closed, Gave}
use Rattle.bsc_accept.specs.declared.reason.Reason.TheVariants.{Nothing as NoReason}
use Rattle.bsc_session.specs.declared.why.Why.TheVariants.{Spent}
use Rattle.bsc_session.specs.Course.{SessionCourse}
use Rattle.bsc_session.specs.Standings.{Terms}
use Rattle.bsc_session.specs.Stops.{stop_closing}
use Rattle.bsc_session.specs.Turns.{Turn}
use Rattle.bsc_session_laws.specs.Laws.{FramesFollowAccept, MessagesAreGiven}
use Rattle.bsc_audit.specs.declared.audit_end.AuditEnd.TheVariants.{Legal, ReadFault}
use Rattle.bsc_audit_laws.specs.Laws.{SaysNothing}
use Rattle.bsc_witnesses.proofs.Pieces.{unlike, not_empty, at_cut, the_hub, a_to_b}
use Rattle.bsc_witnesses.proofs.Passes.{view, knowing}

-- ---- passes that have all callers

module _ (h : Hub) (p : Pass) where
  -- All entries are of the own caller, which split off no other.
  whole : IsWhole (knowing h p (view h (plain a_to_b ∷ []) (a_to_b ∷ [])))
  whole = λ all before behind e is. inl (at_cut (λ (x : Entry). ◌≡◌ {A = ℕ} 0 x.caller) before e behind (subst (AllByRecursion (λ (x : Entry). ◌≡◌ {A = ℕ} 0 x.caller)) is (refl, tt)))

  -- An entry is of another caller, which none of its callers split off.
  abbrev stranger : Stamped
  stranger = plain (record a_to_b { caller = 1 })

  has_all : HasAll (view h (stranger ∷ []) [])
  has_all = (refl, λ n drew. let bad : false ≡ true = drew in cc)

  not_whole : IsWhole (knowing h p (view h (stranger ∷ []) [])) → ⊥
  not_whole w =
      ⊎_elim
      (λ (mine : ◌≡◌ {A = ℕ} 0 1). unlike 0 1 refl mine)
      (λ (taken : has [] 1 ≡ true). let bad : false ≡ true = taken in cc)
      (w has_all [] [] stranger.entry refl)

-- ---- states of a turn

-- a turn that keeps a state of no meaning
abbrev stands : ⊤ → List Stamped → Type 0
stands state log = ⊤

abbrev about : ⊤ → About
about state = the_hub

rule_has_one_history : RuleHasOneHistory stands about
rule_has_one_history = one_history stands about

rule_compares : RuleCompares stands about
rule_compares = compared stands about

-- The count word tells of one entry, and a seat has seen two.
counts_too_few : (s : State (Option ⊤) View) (v : View) → s.words ≡ 0 ∷ 1 ∷ 1 ∷ [] → At s.views 0 v → v.seen ≡ plain a_to_b ∷ plain a_to_b ∷ [] → HasOneHistory s → ⊥
counts_too_few s v words at saw x =
    let counted : 1 ≡ length x.history = sym (ap (λ (l : List ℕ). slice_index l 1) words) ∙ x.counted in
    let begins = x.seen 0 v at in
    let all : length x.history ≡ length (v.seen ++ begins.0) = ap (λ (l : List Stamped). length l) begins.1 in
    let two : length v.seen ≡ 2 = ap (λ (l : List Stamped). length l) saw in
    omega (arith, counted, all, two, length-append v.seen begins.0)

-- ---- octets, and the first check that fails

octets : AreOctets (1 ∷ 255 ∷ [])
octets zero = lit< tt
octets (suc zero) = lit< tt
octets (suc (suc i)) = lit< tt

no_octets : AreOctets (256 ∷ []) → ⊥
no_octets h = (let bad : 256 < 256 = h 0 in omega (arith, bad))

-- a head that is cut
abbrev cut : List ℕ
cut = 1 ∷ 4 ∷ []

first : IsFirst C1 cut
first = record { before = []; after = C3 ∷ C5 ∷ C6 ∷ C7 ∷ C7b ∷ C8 ∷ C10 ∷ C10b ∷ C10c ∷ C11 ∷ []; place = refl; earlier = tt; fault = lit< tt }

abbrev head_of : List Check → Check
head_of [] = C3
head_of (c ∷ cs) = c

none_before : (before after : List Check) → order ≡ before ++ C3 ∷ after → AllByRecursion (λ (c : Check). ¬ (MessageFails cut c)) before → ⊥
none_before [] after place earlier = (let bad : C1 ≡ C3 = ap head_of place in cc)
none_before (c ∷ before) after place earlier =
    let head : C1 ≡ c = ap head_of place in
    subst (λ (k : Check). ¬ (MessageFails cut k)) (sym head) earlier.0 (lit< tt)

not_first : IsFirst C3 cut → ⊥
not_first x = none_before x.before x.after x.place x.earlier

-- ---- laws of sessions

-- a session that may make no receive
abbrev course : (v : Terms) → v.turns ≡ 0 → SessionCourse v
course v none = record { went_on = []; last = None; stop = stop_closing Spent 1001 NoReason; turns = tt; goes_on = tt; stops = (sym none, refl) }

none_given : (v : Terms) (none : v.turns ≡ 0) → MessagesAreGiven v (Closed 1001 [] ∷ []) (course v none)
none_given v none = refl

one_given : (v : Terms) (none : v.turns ≡ 0) → MessagesAreGiven v (Gave 0 (Ok (Message (1 ∷ []))) ∷ []) (course v none) → ⊥
one_given v none h = not_empty (1 ∷ []) [] (sym h)

none_taken : (v : Terms) (none : v.turns ≡ 0) → FramesFollowAccept v (Closed 1001 [] ∷ []) [] (course v none)
none_taken v none = λ some. absurd (some refl)

-- No frame is taken without a turn.
one_taken : (v : Terms) (none : v.turns ≡ 0) → FramesFollowAccept v (Closed 1001 [] ∷ []) ((1 ∷ []) ∷ []) (course v none) → ⊥
one_taken v none h = (let x = h (not_empty (1 ∷ []) []) in no_turn x.before x.joining x.later x.turns)
  where
    no_turn : (before : List Turn) (t : Turn) (later : List Turn) → [] ≡ before ++ t ∷ later → ⊥
    no_turn [] t later e = cc
    no_turn (s ∷ before) t later e = (let bad : [] ≡ s ∷ (before ++ t ∷ later) = e in cc)

-- ---- verdicts on journals

says_nothing : SaysNothing ReadFault
says_nothing = tt

says_something : SaysNothing (Legal 3) → ⊥
says_something h = h
