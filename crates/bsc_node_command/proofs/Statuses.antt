-- What a status says of a run.
-- It serves the clauses of `run_node`.
use Rattle.std.proofs.Common.{◌≡◌, ◌⊎◌, inl, inr, ⊎_elim, ℕ, List, [], map, length, Option, is_some, Result, Ok, Err, IfOk, sym, ◌∙◌, arith}
use Rattle.bsc_edge.specs.declared.said.Said.{Said}
use Rattle.bsc_edge.specs.Told.{Grows}
use Rattle.bsc_settings.specs.declared.node.NodeSettings.{NodeSettings}
use Rattle.bsc_node.specs.declared.node_event.NodeEvent.{NodeEvent}
use Rattle.bsc_node.specs.Logs.{Log}
use Rattle.bsc_node_run.specs.declared.due.Due.{Due}
use Rattle.bsc_node_run.specs.declared.halt.Halt.{Halt}
use Rattle.bsc_node_run.specs.declared.halt.Halt.TheVariants.{WriteFault, AcceptFault, NoMemory}
use Rattle.bsc_node_run.specs.declared.run_end.RunEnd.{RunEnd}
use Rattle.bsc_node_run.specs.declared.run_end.RunEnd.TheVariants.{Finished, Spent}
use Rattle.bsc_node_run.specs.Drawing.{GoesDrawing, at_rest}
use Rattle.bsc_node_run.specs.Running.{Run}
use Rattle.bsc_node_run.specs.Scripts.{Wish, script_of, wish_of}
use Rattle.bsc_node_run.specs.Worlds.{Admitting, Dialling}
use Rattle.bsc_node_run.specs.Moments.{run_moment}
use Rattle.bsc_node_laws.specs.Courses.{GoesAsDefined}
use Rattle.bsc_node_command.specs.Lines.{SaysEnd}
use Rattle.bsc_node_command.specs.Comes.{made_by, Comes, NodeWorld, NotRun}

-- a script is good or has a bad line
good_or_bad : (r : Result (List Wish) ℕ) (lines : List Wish) (n : ℕ) → r ≡ Ok lines → r ≡ Err n → ⊥
good_or_bad r lines n good bad = let same : Ok lines ≡ Err n = sym good ∙ bad in absurd cc

not_bad : (end : Result RunEnd Halt) (s : ℕ) (b b' : Option (List ℕ)) → SaysEnd end s b b' → s ≡ 2 → ⊥
not_bad (Ok Finished) s b b' h is = omega (arith, h.0, is)
not_bad (Ok Spent) s b b' h is = ⊎_elim (λ k. omega (arith, k.0, is)) (λ k. omega (arith, k.0, is)) h
not_bad (Err WriteFault) s b b' h is = omega (arith, h.0, is)
not_bad (Err AcceptFault) s b b' h is = ⊎_elim (λ k. omega (arith, k.0, is)) (λ k. omega (arith, k.0, is)) h
not_bad (Err NoMemory) s b b' h is = omega (arith, h.0, is)

module _ {L W : Type 0} where
  -- no node was run
  none_bad : (v : NodeSettings) (script : List ℕ) (before after : NodeWorld L W) (s : ℕ) → NotRun v script before after s → s ≡ 2 → (n : ℕ) × (script_of script ≡ Err n)
  none_bad v script before after s (inl k) is = (k.0, k.1)
  none_bad v script before after s (inr (inl k)) is = absurd (⊎_elim (λ e. omega (arith, e.0, is)) (λ e. omega (arith, e.0, is)) k.3)
  none_bad v script before after s (inr (inr k)) is = absurd (omega (arith, k.1.0, is))

  none_refused : (v : NodeSettings) (script : List ℕ) (before after : NodeWorld L W) (s : ℕ) → NotRun v script before after s → (n : ℕ) → script_of script ≡ Err n → (s ≡ 2) ⊎ (s ≡ 4) ⊎ (s ≡ 7)
  none_refused v script before after s (inl k) n bad = ⊎_elim (λ e. ⊎_elim (λ x. inl x.0) (λ x. inr (inl x.0)) e) (λ e. inr (inr e.0)) k.3
  none_refused v script before after s (inr (inl k)) n bad = absurd (good_or_bad (script_of script) (map wish_of k.0) n k.1 bad)
  none_refused v script before after s (inr (inr k)) n bad = inr (inr k.1.0)

  none_spent : (v : NodeSettings) (script : List ℕ) (before after : NodeWorld L W) (s : ℕ) → NotRun v script before after s → s ≡ 8 → ⊥
  none_spent v script before after s (inl k) is = ⊎_elim (λ e. ⊎_elim (λ x. omega (arith, x.0, is)) (λ x. omega (arith, x.0, is)) e) (λ e. omega (arith, e.0, is)) k.3
  none_spent v script before after s (inr (inl k)) is = ⊎_elim (λ e. omega (arith, e.0, is)) (λ e. omega (arith, e.0, is)) k.3
  none_spent v script before after s (inr (inr k)) is = omega (arith, k.1.0, is)

module _ {L W : Type 0} (talk : L → Option (List Said)) (drawn : NodeEvent → W → W → Type 0) where
  pub bad_line : (v : NodeSettings) (script : List ℕ) (before after : NodeWorld L W) (s : ℕ) → Comes talk drawn (record { settings = v; script = script }) before after s → s ≡ 2 → (n : ℕ)
      × (script_of script ≡ Err n)
  bad_line v script before after s (inl k) is = none_bad v script before after s k.1 is
  bad_line v script before after s (inr r) is = absurd (not_bad r.end s r.written after.written r.says is)

  pub refused_so : (v : NodeSettings) (script : List ℕ) (before after : NodeWorld L W) (s : ℕ) → Comes talk drawn (record { settings = v; script = script }) before after s → (n : ℕ)
      → script_of script ≡ Err n → (s ≡ 2) ⊎ (s ≡ 4) ⊎ (s ≡ 7)
  refused_so v script before after s (inl k) n bad = none_refused v script before after s k.1 n bad
  refused_so v script before after s (inr r) n bad = absurd (good_or_bad (script_of script) (map wish_of r.lines) n r.reads bad)

  spent_turns : (v : NodeSettings) (lines : List Due) (u u' : W) (last : Log) (end : Result RunEnd Halt) (c c' : Dialling L) (l l' : Admitting L) (t t' : Option (List ℕ)) (s : ℕ)
      (b b' b'' : Option (List ℕ))
      → IfOk end (λ e. Run (GoesDrawing (GoesAsDefined (made_by v)) drawn) talk (is_some v.direct_port) e v.turns lines (run_moment (at_rest [] u) c b l t)
      (run_moment (at_rest last u') c' b' l' t')) → SaysEnd end s b' b'' → s ≡ 8 → (times : List ℕ) × Grows t t' times × (length times ≡ v.turns)
  spent_turns v lines u u' last (Ok Finished) c c' l l' t t' s b b' b'' run h is = absurd (omega (arith, h.0, is))
  spent_turns v lines u u' last (Ok Spent) c c' l l' t t' s b b' b'' run h is = (run.times, run.readings, run.ends.0)
  spent_turns v lines u u' last (Err WriteFault) c c' l l' t t' s b b' b'' run h is = absurd (omega (arith, h.0, is))
  spent_turns v lines u u' last (Err AcceptFault) c c' l l' t t' s b b' b'' run h is = absurd (⊎_elim (λ k. omega (arith, k.0, is)) (λ k. omega (arith, k.0, is)) h)
  spent_turns v lines u u' last (Err NoMemory) c c' l l' t t' s b b' b'' run h is = absurd (omega (arith, h.0, is))

  pub spent_so : (v : NodeSettings) (script : List ℕ) (before after : NodeWorld L W) (s : ℕ) → Comes talk drawn (record { settings = v; script = script }) before after s → s ≡ 8
      → (times : List ℕ) × Grows before.readings after.readings times × (length times ≡ v.turns)
  spent_so v script before after s (inl k) is = absurd (none_spent v script before after s k.1 is)
  spent_so v script before after s (inr r) is =
      spent_turns v r.lines before.random after.random r.last r.end before.dialled after.dialled r.door after.door before.readings after.readings s before.written r.written
      after.written r.run r.says is
