-- Runs that a fault stops, from what their steps did.
-- It serves clauses of most source files here.
use Rattle.std.proofs.Common.{◌≡◌, ◌≤◌, ◌<◌, ◌^◌, inl, inr, ℕ, suc, ◌+◌, Bool, true, false, List, [], ◌∷◌, ◌++◌, Option, Some, Result, Ok, Err, OnErr, refl, sym, subst, append_assoc, unwrap_or}
use Rattle.std.specs.Prelude.{IsTrue}
use Rattle.bsc_edge.specs.declared.said.Said.{Said}
use Rattle.bsc_edge.specs.Told.{Grows}
use Rattle.bsc_node.specs.declared.link_name.LinkName.TheVariants.{Direct}
use Rattle.bsc_node.specs.declared.node_event.NodeEvent.{NodeEvent}
use Rattle.bsc_node.specs.declared.action.Action.{Action}
use Rattle.bsc_node.specs.Conditions.{brings_word}
use Rattle.bsc_node_run.specs.declared.due.Due.{Due}
use Rattle.bsc_node_run.specs.Drawing.{Draws, GoesDrawing, at_rest}
use Rattle.bsc_node_run.specs.Performing.{Carries}
use Rattle.bsc_node_run.specs.Running.{DontFall}
use Rattle.bsc_node_run.specs.Stopping.{EachStop, GiveStops, HearStops, StopsAt, TurnStops, TurnsStop}
use Rattle.bsc_node_run.specs.Turning.{LinkHears, Turn, draws, slots_from}
use Rattle.bsc_node_run.specs.Worlds.{Admitting, World}
use Rattle.bsc_node_run.specs.Moments.{in_hands, moment}

-- whatever fault it is
pub at_err : {T E P : Type 0} (r : Result T E) → P → OnErr r P
at_err (Ok x) p = tt
at_err (Err e) p = p

-- ---- one event

module _ {N W L : Type 0} (goes : N → ℕ → NodeEvent → List Action → N → Type 0) (gives : W → Option ℕ → W → Type 0) (faults : W → ℕ) (talk : L → Option (List Said)) (now : ℕ) where
  -- a node at rest draws no word at what it is told
  pub stops_at_rest : (e : NodeEvent) (n : N) (words : W) (w v : World L) → StopsAt goes talk now e n w v
      → StopsAt (GoesDrawing goes (Draws gives faults)) talk now e (at_rest n words) w v
  stops_at_rest e n words w v (inl same) = inl same
  stops_at_rest e n words w v (inr (actions, p, g, b)) = inr (actions, record { node = p; words = words; awaits = draws actions }, (g, refl, refl), b)

  -- the word was drawn that it waited for
  pub stops_drawn : (word : NodeEvent) (n : N) (words words' : W) (w v : World L) → Draws gives faults word words words' → StopsAt goes talk now word n w v
      → StopsAt (GoesDrawing goes (Draws gives faults)) talk now word (record { node = n; words = words; awaits = true }) w v
  stops_drawn word n words words' w v drawn (inl same) = inl same
  stops_drawn word n words words' w v drawn (inr (actions, p, g, b)) = inr (actions, record { node = p; words = words'; awaits = false }, (g, drawn, refl), b)

  -- a node at rest drew a word, and stopped at that
  pub stops_at_word : (e : NodeEvent) (n p : N) (words : W) (w x v : World L) (actions : List Action) → true ≡ draws actions
      → goes n now e actions p → Carries talk actions w x
      → (word : NodeEvent) × IsTrue (brings_word word) × StopsAt (GoesDrawing goes (Draws gives faults)) talk now word (record { node = p; words = words; awaits = true }) x v
      → GiveStops (GoesDrawing goes (Draws gives faults)) talk now e (at_rest n words) w v
  stops_at_word e n p words w x v actions is g c (word, brings, s) =
      inr (actions, record { node = p; words = words; awaits = true }, x, word, (g, refl, is), c, sym is, brings, s)

module _ {N L : Type 0} (goes : N → ℕ → NodeEvent → List Action → N → Type 0) (talk : L → Option (List Said)) (now : ℕ) where
  -- ---- slots

  pub slot_stops : (left rest k : ℕ) (n : N) (w v : World L) → left ≡ suc rest → HearStops goes talk now (Direct k) n w v → EachStop goes talk now (slots_from left k) n w v
  slot_stops left rest k n w v e h = subst (λ c. EachStop goes talk now (slots_from c k) n w v) (sym e) (inl h)

  pub slot_stops_later : (left rest k : ℕ) (n p : N) (w x v : World L) → left ≡ suc rest → LinkHears goes talk now (Direct k) n w p x
      → EachStop goes talk now (slots_from rest (k + 1)) p x v → EachStop goes talk now (slots_from left k) n w v
  slot_stops_later left rest k n p w x v e h r = subst (λ c. EachStop goes talk now (slots_from c k) n w v) (sym e) (inr (p, x, h, r))

-- ---- turns

module _ {N L : Type 0} (goes : N → ℕ → NodeEvent → List Action → N → Type 0) (talk : L → Option (List Said)) (listens : Bool) where
  -- One turn more behind those that were made.
  pub stops_more : (first : Option ℕ) (script : List Due) (n : N) (w : World L) (door : Admitting L) (times : List ℕ) (now : ℕ) (start : Option ℕ) (rest rest' : List Due) (p q : N) (x y : World L)
      (mid mid' : Admitting L)
      → ((more : List ℕ) (v : World L) (last : Admitting L) → TurnsStop goes talk listens more start rest (moment p x mid) (in_hands v last)
      → TurnsStop goes talk listens (times ++ more) first script (moment n w door) (in_hands v last))
      → x.finished ≡ false → Turn goes talk now start rest rest' listens (moment p x mid) (moment q y mid')
      → (more : List ℕ) (v : World L) (last : Admitting L) → TurnsStop goes talk listens more (Some (unwrap_or start now)) rest' (moment q y mid') (in_hands v last)
      → TurnsStop goes talk listens ((times ++ now ∷ []) ++ more) first script (moment n w door) (in_hands v last)
  stops_more first script n w door times now start rest rest' p q x y mid mid' made going t more v last k =
      subst (λ ts. TurnsStop goes talk listens ts first script (moment n w door) (in_hands v last)) (sym (append_assoc times (now ∷ []) more))
      (made (now ∷ more) v last (going, inr (rest', q, y, mid', t, k)))

  -- The turn that stopped.
  pub stops_now : (first : Option ℕ) (script : List Due) (n : N) (w : World L) (door : Admitting L) (times : List ℕ) (now : ℕ) (start : Option ℕ) (rest : List Due) (p : N) (x v : World L)
      (mid last : Admitting L)
      → ((more : List ℕ) (v : World L) (last : Admitting L) → TurnsStop goes talk listens more start rest (moment p x mid) (in_hands v last)
      → TurnsStop goes talk listens (times ++ more) first script (moment n w door) (in_hands v last))
      → x.finished ≡ false → TurnStops goes talk now start rest listens (moment p x mid) (in_hands v last)
      → TurnsStop goes talk listens (times ++ now ∷ []) first script (moment n w door) (in_hands v last)
  stops_now first script n w door times now start rest p x v mid last made going t = made (now ∷ []) v last (going, inl (refl, t))

-- The readings up to the one of that turn don't fall.
pub rise_now : (from : ℕ) (times : List ℕ) (old now : ℕ) → ((more : List ℕ) → DontFall old more → DontFall from (times ++ more)) → old ≤ now → now < 2 ^ 62 → DontFall from (times ++ now ∷ [])
rise_now from times old now made le below = made (now ∷ []) (le, below, tt)

-- The clock was read once in a turn that stopped.
abbrev pub Stopped : {C : Type 0} → (C → Option (List ℕ)) → (C → ℕ) → C → C → (ℕ → Type 0) → Type 0
Stopped readings newest old new P = (t : ℕ) × Grows (readings old) (readings new) (t ∷ []) × (t < 2 ^ 62) × (newest old ≤ t) × P t
