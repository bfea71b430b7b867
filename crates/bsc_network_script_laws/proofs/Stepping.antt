-- The text of a script, by its steps.
-- It serves the clauses of `a_script_delivers_what_was_sent` and `a_script_is_of_its_steps`.
use Rattle.std.proofs.Common.{◌≡◌, ℕ, ◌+◌, Bool, true, false, cond, not, ◌&&◌, List, [], ◌∷◌, ◌++◌, length, fold, Option, Some, None, refl, ap, sym, ◌∙◌, subst, append-nil, append_assoc}
use Rattle.std.specs.Prelude.{is_some}
use Rattle.bsc_text.specs.Lines.{pieces_of, line_in, is_too_big}
use Rattle.bsc_player.specs.Playing.{LineOutcome, Played, piece_after, play}
use Rattle.bsc_player.proofs.SoFar.{play_line, play_refused, play_end, ended_says}
use Rattle.bsc_network.specs.declared.timed_step.TimedStep.{TimedStep}
use Rattle.bsc_network.specs.Settings.{Added, and_hub, and_node, hubs, nodes}
use Rattle.bsc_network.specs.Worlds.{World, new_world}
use Rattle.bsc_network.specs.Refusals.{refusal}
use Rattle.bsc_network.specs.Networks.{makes, dialled_at, delivered_at, world}
use Rattle.bsc_network_script.specs.declared.line.Line.{Line}
use Rattle.bsc_network_script.specs.declared.line.Line.TheVariants.{Nothing, Hub, Node, At, Step}
use Rattle.bsc_network_script.specs.Lines.{line_of}
use Rattle.bsc_network_script.specs.Written.{step_text}
use Rattle.bsc_network_script.specs.Scripts.{State, nothing_yet, quietly, where_may, hub_limits, may_add_hub, may_add_node, may_set, may_try, at_clock, makes_in, line_after, said_after, simulation}
use Rattle.bsc_network_script_laws.specs.Laws.{state_after, state_of, steps_text, IsOfItsSteps}
use Rattle.bsc_network_script_laws.proofs.Growing.{deliveries_by_steps}
use Rattle.bsc_network_script_laws.proofs.First.{no_elements, hub_first, node_first}

-- what the steps of a state write
abbrev text_of : State → List ℕ
text_of s = steps_text (new_world s.added) s.steps

-- one step more
steps_text-more : (w : World) (steps : List TimedStep) (t : TimedStep)
    → steps_text w (steps ++ t ∷ []) ≡ steps_text w steps ++ step_text (dialled_at (fold makes w steps) t) (delivered_at (fold makes w steps) t)
steps_text-more w [] t = append-nil (step_text (dialled_at w t) (delivered_at w t))
steps_text-more w (u ∷ steps) t =
    ap (λ x. step_text (dialled_at w u) (delivered_at w u) ++ x) (steps_text-more (makes w u) steps t)
    ∙ sym (append_assoc (step_text (dialled_at w u) (delivered_at w u)) (steps_text (makes w u) steps)
    (step_text (dialled_at (fold makes (makes w u) steps) t) (delivered_at (fold makes (makes w u) steps) t)))

-- what may be accepted where it is
pub where_some : (may : Bool) (q out : LineOutcome State) → where_may may q ≡ Some out → (may ≡ true) × (q ≡ out)
where_some true q out e = (refl, cc)
where_some false q out e = cc

-- nothing is written for a line that leaves what the steps write
by_quiet : (s u : State) (out : LineOutcome State) → quietly u ≡ out → text_of u ≡ text_of s → text_of out.state ≡ text_of s ++ out.text
by_quiet s u out e same = subst (λ (x : LineOutcome State). text_of x.state ≡ text_of s ++ x.text) e (same ∙ sym (append-nil (text_of s)))

-- before the first step none writes anything
before_steps : (s : State) (added : List Added) → length s.steps ≡ 0 → steps_text (new_world added) s.steps ≡ text_of s
before_steps s added e =
    let none : s.steps ≡ [] = no_elements s.steps e in
    ap (λ xs. steps_text (new_world added) xs) none ∙ sym (ap (λ xs. steps_text (new_world s.added) xs) none)

-- what a step writes stands behind what those before it wrote
stepped : (s : State) (t : TimedStep) (out : LineOutcome State) → makes_in (world s.added s.steps) s t ≡ Some out → text_of out.state ≡ text_of s ++ out.text
stepped s t out e =
    let w : World = world s.added s.steps in
    let made : LineOutcome State = record { state = record s { steps = s.steps ++ t ∷ [] }; text = step_text (dialled_at w t) (delivered_at w t) } in
    let is = where_some (may_try (length s.steps) t.step && not (is_some (refusal w t.step))) made out e in
    subst (λ (x : LineOutcome State). text_of x.state ≡ text_of s ++ x.text) is.1 (steps_text-more (new_world s.added) s.steps t)

-- what a line writes stands behind what the steps before it wrote
accepted : (s : State) (line : Line) (out : LineOutcome State) → line_after s line ≡ Some out → text_of out.state ≡ text_of s ++ out.text
accepted s Nothing out e = (let is : quietly s ≡ out = cc in by_quiet s s out is refl)
accepted s (Hub who) out e =
    let u : State = record s { added = and_hub s.added who hub_limits } in
    let w = where_some (may_add_hub (length s.steps) (length (hubs s.added)) who) (quietly u) out e in
    by_quiet s u out w.1 (before_steps s (and_hub s.added who hub_limits) (hub_first (length s.steps) (length (hubs s.added)) who w.0))
accepted s (Node own direct) out e =
    let u : State = record s { added = and_node s.added own direct } in
    let w = where_some (may_add_node (length s.steps) (length (hubs s.added)) (length (nodes s.added)) own) (quietly u) out e in
    by_quiet s u out w.1 (before_steps s (and_node s.added own direct) (node_first (length s.steps) (length (hubs s.added)) (length (nodes s.added)) own w.0))
accepted s (At ms) out e =
    let u : State = record s { clock = ms } in
    let w = where_some (may_set (length (hubs s.added)) s.clock ms) (quietly u) out e in
    by_quiet s u out w.1 refl
accepted s (Step step) out e = stepped s (at_clock s step) out e

-- the same by what the octets of a line say
accepted_said : (s : State) (said : Option Line) (out : LineOutcome State) → said_after s said ≡ Some out → text_of out.state ≡ text_of s ++ out.text
accepted_said s None out e = cc
accepted_said s (Some line) out e = accepted s line out e

-- a piece that is accepted isn't too big
within_size : (big : Bool) (step : Option (LineOutcome State)) (out : LineOutcome State) → cond big None step ≡ Some out → step ≡ Some out
within_size true step out e = cc
within_size false step out e = e

-- what stands after a line that is accepted, and those behind it
pub state_after-more : (s : State) (before : ℕ) (piece : List ℕ) (pieces : List (List ℕ)) (out : LineOutcome State) → piece_after simulation s before piece ≡ Some out
    → state_after s before (piece ∷ pieces) ≡ state_after out.state (before + length piece) pieces
state_after-more s before piece pieces out e =
    ap (λ (o : Option (LineOutcome State)). elim o as (λ v. State) [ None ↦ s | Some x ↦ state_after x.state (before + length piece) pieces ]) e

-- and where it is refused
pub state_after-none : (s : State) (before : ℕ) (piece : List ℕ) (pieces : List (List ℕ)) → piece_after simulation s before piece ≡ None → state_after s before (piece ∷ pieces) ≡ s
state_after-none s before piece pieces e =
    ap (λ (o : Option (LineOutcome State)). elim o as (λ v. State) [ None ↦ s | Some x ↦ state_after x.state (before + length piece) pieces ]) e

-- what a piece says that is accepted
pub piece_said : (s : State) (before : ℕ) (piece : List ℕ) (out : LineOutcome State) → piece_after simulation s before piece ≡ Some out → said_after s (line_of (line_in piece)) ≡ Some out
piece_said s before piece out e = within_size (is_too_big before piece) (said_after s (line_of (line_in piece))) out e

-- some lines, up to the first that is refused, write what their steps write
pub writes_steps : (pieces : List (List ℕ)) (s : State) (number before : ℕ) → text_of (state_after s before pieces) ≡ text_of s ++ (play simulation s number before pieces).text
writes_steps [] s number before =
    let none : (play simulation s number before []).text ≡ [] = ap (λ (x : Played). x.text) (play_end simulation s number before) ∙ ended_says (simulation.may_end s) number in
    sym (append-nil (text_of s)) ∙ ap (λ x. text_of s ++ x) (sym none)
writes_steps (piece ∷ pieces) s number before = by (λ u n b. writes_steps pieces u n b) (piece_after simulation s before piece) refl
  where
    by : ((u : State) (n b : ℕ) → text_of (state_after u b pieces) ≡ text_of u ++ (play simulation u n b pieces).text)
        → (a : Option (LineOutcome State)) → piece_after simulation s before piece ≡ a
        → text_of (state_after s before (piece ∷ pieces)) ≡ text_of s ++ (play simulation s number before (piece ∷ pieces)).text
    by next None is =
        ap (λ (u : State). text_of u) (state_after-none s before piece pieces is) ∙ sym (append-nil (text_of s))
        ∙ ap (λ (x : Played). text_of s ++ x.text) (sym (play_refused simulation s number before piece pieces is))
    by next (Some out) is =
        let turned = play_line simulation s number before piece pieces out is in
        let here = accepted_said s (line_of (line_in piece)) out (piece_said s before piece out is) in
        ap (λ (u : State). text_of u) (state_after-more s before piece pieces out is) ∙ next out.state (number + 1) (before + length piece)
        ∙ ap (λ x. x ++ (play simulation out.state (number + 1) (before + length piece) pieces).text) here
        ∙ append_assoc (text_of s) out.text (play simulation out.state (number + 1) (before + length piece) pieces).text
        ∙ ap (λ (x : Played). text_of s ++ x.text) (sym turned)

pub is_of_its_steps : (o : List ℕ) → IsOfItsSteps o
is_of_its_steps o = record { written = sym (writes_steps (pieces_of o) nothing_yet 1 0); delivered = deliveries_by_steps (state_of o).added (state_of o).steps }
