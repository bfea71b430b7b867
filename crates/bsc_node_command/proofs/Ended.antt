-- Status 0 comes only once the `finish` of the script came.
-- It serves clauses of functions of `command`, `living` and `playing`.
use Rattle.std.proofs.Common.{◌≡◌, ◌<◌, inl, inr, ℕ, List, [], map, Option, is_some, Result, Ok, Err, IfOk, arith}
use Rattle.bsc_edge.specs.declared.said.Said.{Said}
use Rattle.bsc_player.specs.LastLines.{EndsWith, SaysOrRunsOut}
use Rattle.bsc_settings.specs.declared.node.NodeSettings.{NodeSettings}
use Rattle.bsc_node.specs.declared.node_event.NodeEvent.{NodeEvent}
use Rattle.bsc_node.specs.Logs.{Log}
use Rattle.bsc_node_run.specs.declared.due.Due.{Due}
use Rattle.bsc_node_run.specs.declared.halt.Halt.{Halt}
use Rattle.bsc_node_run.specs.declared.halt.Halt.TheVariants.{WriteFault, AcceptFault, NoMemory}
use Rattle.bsc_node_run.specs.declared.run_end.RunEnd.{RunEnd}
use Rattle.bsc_node_run.specs.declared.run_end.RunEnd.TheVariants.{Finished, Spent}
use Rattle.bsc_node_run.specs.Drawing.{GoesDrawing, at_rest}
use Rattle.bsc_node_run.specs.Running.{Run}
use Rattle.bsc_node_run.specs.Scripts.{script_of, wish_of}
use Rattle.bsc_node_run.specs.Worlds.{Admitting, Dialling}
use Rattle.bsc_node_run.specs.Moments.{run_moment}
use Rattle.bsc_node_laws.specs.Courses.{FinishCame, GoesAsDefined}
use Rattle.bsc_node_command.specs.Lines.{SaysEnd}
use Rattle.bsc_node_command.specs.Settled.{Unread, Unsettled}
use Rattle.bsc_node_command.specs.Comes.{made_by, CommandWorld, Comes, NodeWorld, NotRun, RunsScript, RunsFiles}
use Rattle.bsc_node_command.proofs.Defined.{finish_came}

-- a last line comes with no status 0
pub line_fails : (wanted s : ℕ) (b b' : Option (List ℕ)) (line : List ℕ) → 0 < wanted → EndsWith s wanted b b' line → s ≡ 0 → ⊥
line_fails wanted s b b' line some (inl k) is = omega (arith, some, k.0, is)
line_fails wanted s b b' line some (inr k) is = omega (arith, k.0, is)

said_fails : (wanted s : ℕ) (b b' : Option (List ℕ)) (line : List ℕ) → 0 < wanted → SaysOrRunsOut s wanted b b' line → s ≡ 0 → ⊥
said_fails wanted s b b' line some (inl k) is = line_fails wanted s b b' line some k is
said_fails wanted s b b' line some (inr k) is = omega (arith, k.0, is)

-- nor does a run without a node, a script that wasn't read, or settings that weren't read
module _ {L W : Type 0} where
  none_fails : (v : NodeSettings) (script : List ℕ) (before after : NodeWorld L W) (s : ℕ) → NotRun v script before after s → s ≡ 0 → ⊥
  none_fails v script before after s (inl k) is = said_fails 2 s before.written after.written _ (omega arith) k.3 is
  none_fails v script before after s (inr (inl k)) is = line_fails 6 s before.written after.written _ (omega arith) k.3 is
  none_fails v script before after s (inr (inr k)) is = omega (arith, k.1.0, is)

unread_fails : (r r' s : ℕ) (b b' : Option (List ℕ)) → Unread r r' s b b' → s ≡ 0 → ⊥
unread_fails r r' s b b' (inl k) is = line_fails 3 s b b' _ (omega arith) k.1 is
unread_fails r r' s b b' (inr k) is = omega (arith, k.0, is)

unsettled_fails : (holds : List ℕ → Type 0) (r r' s : ℕ) (b b' : Option (List ℕ)) → Unsettled holds r r' s b b' → s ≡ 0 → ⊥
unsettled_fails holds r r' s b b' (inl k) is = unread_fails r r' s b b' k is
unsettled_fails holds r r' s b b' (inr k) is = said_fails 5 s b b' _ (omega arith) k.4 is

module _ {L W : Type 0} (talk : L → Option (List Said)) (drawn : NodeEvent → W → W → Type 0) where
  over_of : (v : NodeSettings) (script : List ℕ) (lines : List Due) (u u' : W) (last : Log) (end : Result RunEnd Halt) (c c' : Dialling L) (l l' : Admitting L) (t t' : Option (List ℕ))
      (s : ℕ) (b b' b'' : Option (List ℕ))
      → script_of script ≡ Ok (map wish_of lines) → IfOk end (λ e. Run (GoesDrawing (GoesAsDefined (made_by v)) drawn) talk (is_some v.direct_port) e v.turns lines
      (run_moment (at_rest [] u) c b l t) (run_moment (at_rest last u') c' b' l' t')) → SaysEnd end s b' b'' → s ≡ 0
      → FinishCame lines t t'
  over_of v script lines u u' last (Ok Finished) c c' l l' t t' s b b' b'' reads run h is =
      finish_came talk drawn (made_by v) script (is_some v.direct_port) v.turns lines u u' last c c' l l' t t' b b' reads run
  over_of v script lines u u' last (Ok Spent) c c' l l' t t' s b b' b'' reads run h is = absurd (line_fails 8 s b' b'' _ (omega arith) h is)
  over_of v script lines u u' last (Err WriteFault) c c' l l' t t' s b b' b'' reads run h is = absurd (omega (arith, h.0, is))
  over_of v script lines u u' last (Err AcceptFault) c c' l l' t t' s b b' b'' reads run h is = absurd (line_fails 6 s b' b'' _ (omega arith) h is)
  over_of v script lines u u' last (Err NoMemory) c c' l l' t t' s b b' b'' reads run h is = absurd (omega (arith, h.0, is))

  pub finished_so : (v : NodeSettings) (script : List ℕ) (before after : NodeWorld L W) (s : ℕ)
      → Comes talk drawn (record { settings = v; script = script }) before after s → s ≡ 0 → (lines : List Due) × (script_of script ≡ Ok (map wish_of lines))
      × FinishCame lines before.readings after.readings
  finished_so v script before after s (inl k) is = absurd (none_fails v script before after s k.1 is)
  finished_so v script before after s (inr r) is = (
    r.lines,
    r.reads,
    over_of v script r.lines before.random after.random r.last r.end before.dialled after.dialled r.door after.door before.readings after.readings s
        before.written r.written after.written r.reads r.run r.says is,
  )

  script_finished : (v : NodeSettings) (holds : List ℕ → Type 0) (before after : CommandWorld L W) (s : ℕ)
      → RunsScript talk drawn v holds before after s → s ≡ 0 → (script : List ℕ) × holds script × (lines : List Due) × (script_of script ≡ Ok (map wish_of lines))
      × FinishCame lines before.beside.readings after.beside.readings
  script_finished v holds before after s (inl k) is = absurd (unread_fails before.unread after.unread s before.beside.written after.beside.written k.1 is)
  script_finished v holds before after s (inr k) is =
      let three = finished_so v k.0 before.beside after.beside s k.2 is in
      (k.0, k.1, three.0, three.1, three.2)

  pub files_finished : (settled scripted : List ℕ → Type 0) (before after : CommandWorld L W) (s : ℕ)
      → RunsFiles talk drawn (record { settings = settled; script = scripted }) before after s → s ≡ 0 → (script : List ℕ) × scripted script × (lines : List Due)
      × (script_of script ≡ Ok (map wish_of lines)) × FinishCame lines before.beside.readings after.beside.readings
  files_finished settled scripted before after s (inl k) is = absurd (unsettled_fails settled before.unread after.unread s before.beside.written after.beside.written k.1 is)
  files_finished settled scripted before after s (inr k) is = script_finished k.0 scripted before after s k.2 is
