-- What the history and the frames are after any lines.
-- It serves the clauses of `a_line_goes_on` and `a_script_is_of_one_hub`.
use Rattle.std.proofs.Common.{◌≡◌, ℕ, ◌==◌, Bool, true, false, not, ◌&&◌, ◌||◌, List, [], ◌∷◌, ◌++◌, length, drop, Option, Some, None, is_some, true≢false, refl, ap, sym, ◌∙◌, subst, append-nil}
use Rattle.std.specs.List.{AllByRecursion}
use Rattle.std.proofs.lemmas.Bool.{eqb-true}
use Rattle.bsc_history.specs.declared.limits.About.{About}
use Rattle.bsc_history.specs.Ends.{ended, joined_where}
use Rattle.bsc_history.specs.Outboxes.{sent}
use Rattle.bsc_history.proofs.Lists.{all_from_In}
use Rattle.bsc_ring.specs.Lists.{StartsWith}
use Rattle.bsc_accept.specs.Past.{phase}
use Rattle.bsc_script.specs.declared.line.Line.{Line}
use Rattle.bsc_script.specs.States.{State, new_hub}
use Rattle.bsc_script.specs.Carrying.{ScriptOutcome}
use Rattle.bsc_script.specs.Emptying.{is_connected, unwritten_after}
use Rattle.bsc_script.specs.Running.{line_outcome, run_line}
use Rattle.bsc_script.specs.Laws.{IsOfOneHub, WritesInOrder, WritesAll, after_lines}
use Rattle.bsc_script_laws.proofs.Adding.{callers_after, none_after, state_of, then_emptied}
use Rattle.bsc_script_laws.proofs.Keeping.{outcome_sound}
use Rattle.bsc_script_laws.proofs.Looking.{drop-front}
use Rattle.bsc_script_laws.proofs.Resting.{AtRest, emptied_rests}
use Rattle.bsc_script_laws.proofs.Sound.{IsSound}
use Rattle.std.proofs.lemmas.Option.{same_Some as same_some}

-- ---- after any lines

-- a new hub has no peers and no history
new_rests : (a : About) → AtRest (new_hub a)
unfolding joined_where
new_rests a = record {
  sound = record { legal = record { lawful = tt }; apart = tt; peers = λ k m. absurd m; conns = λ k j c m n e f. absurd m; joined = λ c there. cc };
  rests = λ k c m e. absurd m;
}

-- A line leaves a state at rest.
pub line_rests : (s : State) → AtRest s → (line : Line) (o : ScriptOutcome) → run_line s line ≡ Some o → AtRest o.state
unfolding run_line
line_rests s h line o e =
    let u = then_emptied (line_outcome s line) o e in
    subst (λ (w : ScriptOutcome). AtRest w.state) u.2 (emptied_rests u.0 (outcome_sound s h.sound line u.0 u.1))

rests_by : (s u : State) (line : Line) (lines : List Line) (p : Option ScriptOutcome) → run_line s line ≡ p → AtRest s → ((t : State) → AtRest t → after_lines (Some t) lines ≡ Some u → AtRest u)
    → after_lines (state_of p) lines ≡ Some u → AtRest u
rests_by s u line lines None is h later e = absurd (none_after lines u e)
rests_by s u line lines (Some o) is h later e = later o.state (line_rests s h line o is) e

some_rests : (lines : List Line) (s u : State) → AtRest s → after_lines (Some s) lines ≡ Some u → AtRest u
some_rests [] s u h e = subst AtRest (same_some s u e) h
some_rests (line ∷ lines) s u h e = rests_by s u line lines (run_line s line) refl h (λ t g f. some_rests lines t u g f) e

-- After any lines of a new hub, the state is at rest.
pub after_rests : (a : About) (lines : List Line) (s : State) → after_lines (Some (new_hub a)) lines ≡ Some s → AtRest s
after_rests a lines s e = some_rests lines (new_hub a) s (new_rests a) e

-- ---- the frames

-- what was written for a peer is the first part of what entered its outbox
in_order_of : (s : State) → IsSound s → AllByRecursion (WritesInOrder s) s.peers
in_order_of s h = all_from_In (WritesInOrder s) s.peers (λ k m. (h.peers k m).begins)

nothing_there : (l : List (List ℕ)) → (length l == 0) ≡ true → l ≡ []
nothing_there [] h = refl
nothing_there (x ∷ l) h = (let none : length (x ∷ l) ≡ 0 = eqb-true (length (x ∷ l)) 0 h in cc)

-- where nothing is unwritten, all is written
all_written : (whole front : List (List ℕ)) → StartsWith whole front → (length (drop (length front) whole) == 0) ≡ true → front ≡ whole
all_written whole front w none =
    let rest : w.0 ≡ [] = sym (ap (drop (length front)) w.1 ∙ drop-front front w.0) ∙ nothing_there (drop (length front) whole) none in
    sym (w.1 ∙ ap (λ (l : List (List ℕ)). front ++ l) rest ∙ append-nil front)

-- an outbox that isn't to be emptied, of a peer that is connected and not held, has nothing that is unwritten
none_waits : (on_line held none is_ended : Bool) → on_line ≡ true → held ≡ false → (on_line && not held && (not none || is_ended)) ≡ false → none ≡ true
none_waits true false true x p q f = refl
none_waits true false false x p q f = absurd (true≢false f)
none_waits false h n x p q f = absurd (true≢false (sym p))
none_waits true true n x p q f = absurd (true≢false q)

-- and all of it, where the peer is connected and not held
whole_of : (s : State) → AtRest s → AllByRecursion (WritesAll s) s.peers
whole_of s h = all_from_In (WritesAll s) s.peers (λ k m c is on_line free.
    all_written (sent s.about s.history c) k.frames ((h.sound.peers k m).begins c is)
    (none_waits (is_connected (phase k.events)) k.held (length (unwritten_after s.about s.history k c) == 0) (is_some (ended s.history c)) (ap is_connected on_line) free (h.rests k c m is)))

-- After any lines of a new hub.
pub one_hub : (a : About) (lines : List Line) (s : State) → after_lines (Some (new_hub a)) lines ≡ Some s → IsOfOneHub s
one_hub a lines s e =
    let h = after_rests a lines s e in
    record {
      legal = h.sound.legal;
      callers = callers_after lines (new_hub a) s tt e;
      in_order = in_order_of s h.sound;
      whole = whole_of s h;
    }
