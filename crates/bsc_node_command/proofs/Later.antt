-- What holds from an earlier state on.
-- It serves the clauses of `run_node_files` and `test_node`.
use Rattle.std.proofs.Common.{◌≡◌, ◌≤◌, ℕ, List, Option, inl, inr, arith}
use Rattle.std.specs.Prelude.{◌⊎◌}
use Rattle.bsc_edge.specs.declared.said.Said.{Said}
use Rattle.bsc_settings.specs.declared.node.NodeSettings.{NodeSettings}
use Rattle.bsc_node.specs.declared.node_event.NodeEvent.{NodeEvent}
use Rattle.bsc_node_command.specs.Settled.{IsSettled, Unread}
use Rattle.bsc_node_command.specs.Comes.{CommandWorld, NodeWorld, RunsScript}
use Rattle.bsc_node_command.specs.Tested.{TestWorld, TestsScript}
use Rattle.bsc_outside.proofs.Common.{risen_from}

pub unread_from : (f g h s : ℕ) (b b' : Option (List ℕ)) → f ≤ g → Unread g h s b b' → Unread f h s b b'
unread_from f g h s b b' le (inl k) = inl (risen_from f g h le k.0, k.1)
unread_from f g h s b b' le (inr k) = inr k

module _ {L W : Type 0} (talk : L → Option (List Said)) (drawn : NodeEvent → W → W → Type 0) where
  -- what became of a script that was read by files that had failed no more before
  pub script_from : (v : NodeSettings) (holds : List ℕ → Type 0) (first unread : ℕ) (before : NodeWorld L W) (after : CommandWorld L W) (s : ℕ)
      → first ≤ unread → RunsScript talk drawn v holds (record { beside = before; unread = unread }) after s
      → RunsScript talk drawn v holds (record { beside = before; unread = first }) after s
  script_from v holds first unread before after s le (inl x) =
      inl (x.0, unread_from first unread after.unread s before.written after.beside.written le x.1)
  script_from v holds first unread before after s le (inr x) = inr x

  -- what a file has, it had before
  pub script_of_more : (v : NodeSettings) (holds more : List ℕ → Type 0) (before after : CommandWorld L W) (s : ℕ)
      → ((o : List ℕ) → holds o → more o) → RunsScript talk drawn v holds before after s → RunsScript talk drawn v more before after s
  script_of_more v holds more before after s stays (inl x) = inl x
  script_of_more v holds more before after s stays (inr x) = inr (x.0, stays x.0 x.1, x.2)

-- the same of a script that was tried
pub tests_from : (v : NodeSettings) (holds : List ℕ → Type 0) (first : ℕ) (before after : TestWorld) (s : ℕ)
    → first ≤ before.unread → TestsScript v holds before after s → TestsScript v holds (record before { unread = first }) after s
tests_from v holds first before after s le (inl x) = inl (unread_from first before.unread after.unread s before.written after.written le x)
tests_from v holds first before after s le (inr x) = inr x

pub tests_more : (v : NodeSettings) (holds more : List ℕ → Type 0) (before after : TestWorld) (s : ℕ)
    → ((o : List ℕ) → holds o → more o) → TestsScript v holds before after s → TestsScript v more before after s
tests_more v holds more before after s stays (inl x) = inl x
tests_more v holds more before after s stays (inr x) = inr (x.0, stays x.0 x.1, x.2)

-- what a file gave, it gave where more was read since
pub settled_more : (v : NodeSettings) (holds more : List ℕ → Type 0) → ((o : List ℕ) → holds o → more o) → IsSettled holds v → IsSettled more v
settled_more v holds more stays x = record {
  text = x.text;
  held = stays x.text x.held;
  doc = x.doc;
  document = x.document;
  settings = x.settings;
  said = x.said;
  node = x.node;
}

-- a node whose settings are good doesn't end as one whose settings are refused
pub not_refused : (s : ℕ) → (s ≡ 0) ⊎ (s ≡ 2) ⊎ (s ≡ 3) ⊎ (s ≡ 4) ⊎ (s ≡ 6) ⊎ (s ≡ 7) ⊎ (s ≡ 8) → s ≡ 5 → ⊥
not_refused s (inl e) is = omega (arith, e, is)
not_refused s (inr (inl e)) is = omega (arith, e, is)
not_refused s (inr (inr (inl e))) is = omega (arith, e, is)
not_refused s (inr (inr (inr (inl e)))) is = omega (arith, e, is)
not_refused s (inr (inr (inr (inr (inl e))))) is = omega (arith, e, is)
not_refused s (inr (inr (inr (inr (inr (inl e)))))) is = omega (arith, e, is)
not_refused s (inr (inr (inr (inr (inr (inr e)))))) is = omega (arith, e, is)
