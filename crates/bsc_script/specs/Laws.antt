-- What holds of a script in words of a hub, and not of lines.
use Rattle.std.specs.Prelude.{◌≡◌, ◌≢◌, ◌⊎◌, ℕ, Bool, true, false, if◌then◌else◌, List, [], ◌∷◌, ◌++◌, length, take, drop, codes, Option, Some, None, ⊤}
use Rattle.std.specs.List.{AllByRecursion}
use Rattle.bsc_history.specs.declared.entry.Entry.{Entry}
use Rattle.bsc_history.specs.declared.looks.Look.{Look}
use Rattle.bsc_history.specs.Legality.{Legal}
use Rattle.bsc_history.specs.Outboxes.{sent}
use Rattle.bsc_checks.specs.declared.phase.Phase.TheVariants.{Connected}
use Rattle.bsc_accept.specs.Past.{phase}
use Rattle.bsc_ring.specs.Lists.{StartsWith}
use Rattle.bsc_text.specs.Lines.{same_octets}
use Rattle.bsc_script.specs.declared.line.Line.{Line}
use Rattle.bsc_script.specs.Written.{Said}
use Rattle.bsc_script.specs.States.{State, Peer, is_open, peer_of, new_hub}
use Rattle.bsc_script.specs.Calls.{written_for}
use Rattle.bsc_script.specs.Carrying.{ScriptOutcome, quietly}
use Rattle.bsc_script.specs.Emptying.{frame_lines}
use Rattle.bsc_script.specs.Running.{run_line}

-- ---- what stands after some lines

-- The frames that were written for a peer are the first ones that entered its outbox, in order.
abbrev pub WritesInOrder : State → Peer → Type 0
WritesInOrder s k = (c : ℕ) → k.conn ≡ Some c → StartsWith (sent s.about s.history c) k.frames

-- They are all of them where the peer is connected and not held.
abbrev pub WritesAll : State → Peer → Type 0
WritesAll s k = (c : ℕ) → k.conn ≡ Some c → phase k.events ≡ Connected → k.held ≡ false → k.frames ≡ sent s.about s.history c

-- The calls that were made are a legal history of caller 0, and what was written for the open names is what entered
-- their outboxes.
pub record IsOfOneHub (s : State) : Type 0 where
  pub legal : Legal s.about s.history
  pub callers : AllByRecursion (λ (e : Entry). e.caller ≡ 0) s.history
  pub in_order : AllByRecursion (WritesInOrder s) s.peers
  pub whole : AllByRecursion (WritesAll s) s.peers

-- ---- what one more line adds

-- Each look of an entry finds the number of frames that had been written for its connection.
abbrev pub LooksAtWritten : State → Entry → Type 0
LooksAtWritten s e = AllByRecursion (λ (l : Look). l.taken ≡ written_for s l.conn) e.looks

-- a line that closes the WebSocket of its name
abbrev pub is_close : Said → Bool
is_close l = same_octets (take 6 l.words) (codes "close ")

-- a line that says that the connection of its name is gone
abbrev pub is_gone : Said → Bool
is_gone l = same_octets (take 5 l.words) (codes "gone ")

-- Of a name, after a line that closes it, only a line stands that says that its connection is gone; after that none.
abbrev pub EndsByClosing : List ℕ → List Said → Type 0
EndsByClosing name [] = ⊤
EndsByClosing name (l ∷ ls) =
    (same_octets l.name name ≡ true → is_gone l ≡ true → AllByRecursion (λ (m : Said). m.name ≢ name) ls)
    × (same_octets l.name name ≡ true → is_close l ≡ true → AllByRecursion (λ (m : Said). (m.name ≢ name) ⊎ (is_gone m ≡ true)) ls)
    × EndsByClosing name ls

-- The frames that were written in a line for a peer stand together in what was written, as lines of its name.
abbrev pub AreWritten : Peer → Peer → List Said → Type 0
AreWritten before after said =
    (head : List Said) × (tail : List Said) × (said ≡ head ++ frame_lines after.name (drop (length before.frames) after.frames) ++ tail)

-- What a line adds: the calls that it made stand behind those before, their looks find what had been written, nothing is
-- written under a name that isn't open, or after its close, and the frames that are new stand in the text, in order.
pub record LineGoesOn (s : State) (o : ScriptOutcome) : Type 0 where
  pub behind : (more : List Entry) × (o.state.history ≡ s.history ++ more)
  pub looks : AllByRecursion (LooksAtWritten s) (drop (length s.history) o.state.history)
  pub closed : (name : List ℕ) → name ≢ codes "hub" → is_open s name ≡ false → AllByRecursion (λ (l : Said). l.name ≢ name) o.said
  pub last : (name : List ℕ) → EndsByClosing name o.said
  pub frames : (name : List ℕ) (k j : Peer) → peer_of s name ≡ Some k → peer_of o.state name ≡ Some j → AreWritten k j o.said

-- ---- some lines

-- what comes of one line more
abbrev pub then_line : Line → Option State → Option State
then_line line None = None
then_line line (Some s) = elim (run_line s line) [ None ↦ None | Some o ↦ Some o.state ]

-- What stands after some lines, where all of them are accepted.
abbrev pub after_lines : Option State → List Line → Option State
after_lines s [] = s
after_lines s (line ∷ lines) = after_lines (then_line line s) lines
