-- What a run has written and dialled, by the log of its node.
use Rattle.std.specs.Prelude.{◌≡◌, Bool, true, false, List, [], ℕ, map, filter_map, Option, Some, None}
use Rattle.std.specs.List.{concat, list_any}
use Rattle.std.specs.Io.KnownBytes.{Appends}
use Rattle.bsc_edge.specs.declared.dialled.Dialled.{Dialled}
use Rattle.bsc_edge.specs.Told.{Grows}
use Rattle.bsc_node.specs.declared.action.Action.{Action}
use Rattle.bsc_node.specs.declared.action.Action.TheVariants.{Dial, Deliver, Tell}
use Rattle.bsc_node.specs.Logs.{Log, action_of}
use Rattle.bsc_node_run.specs.declared.run_end.RunEnd.{RunEnd}
use Rattle.bsc_node_run.specs.declared.run_end.RunEnd.TheVariants.{Finished, Spent}
use Rattle.bsc_node_run.specs.Lines.{note_line, delivered_line}
use Rattle.bsc_node_run.specs.Performing.{is_end}

-- what a node did, in order
abbrev pub done_in : Log → List Action
done_in L = filter_map action_of L

-- the line that an action writes, where it writes one
abbrev pub line_by : Action → List ℕ
line_by (Tell note) = note_line note
line_by (Deliver delivered) = delivered_line delivered
line_by action = []

-- All that a node told and delivered, as it is written.
abbrev pub text_of : Log → List ℕ
text_of L = concat (map line_by (done_in L))

-- the URI that an action dials, where it dials one
abbrev pub uri_by : Action → Option (List ℕ)
uri_by (Dial name uri) = Some uri
uri_by action = None

-- All URIs that a node dialled, in order.
abbrev pub uris_of : Log → List (List ℕ)
uris_of L = filter_map uri_by (done_in L)

-- The dialer was asked for just these, in order.
abbrev pub AreDialled : Option (List Dialled) → Option (List Dialled) → List (List ℕ) → Type 0
AreDialled before after uris = (calls : List Dialled) × Grows before after calls × (map (λ (d : Dialled). d.uri) calls ≡ uris)

-- What the node of this log told and dialled is what was written and dialled between two moments, as far as that is told.
pub record IsSaid (L : Log) (dialled dialled' : Option (List Dialled)) (held held' : Option (List ℕ)) : Type 0 where
  pub written : Appends held held' (text_of L)
  pub calls : AreDialled dialled dialled' (uris_of L)

-- ---- the end

-- whether an action tells that the node has ended
abbrev pub tells_end : Action → Bool
tells_end (Tell note) = is_end note
tells_end action = false

-- Whether a node told that it has ended.
abbrev pub has_told_end : Log → Bool
has_told_end L = list_any tells_end (done_in L)

-- A run that is finished is one whose node told that it has ended; one whose turns are spent, one whose node didn't.
abbrev pub EndsAsTold : RunEnd → Log → Type 0
EndsAsTold Finished L = has_told_end L ≡ true
EndsAsTold Spent L = has_told_end L ≡ false
