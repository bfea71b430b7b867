-- A hub that was served: its history, and its sessions.
use Rattle.std.specs.Prelude.{◌≡◌, ℕ, List, ◌∷◌, ◌++◌, slice_get, Some}
use Rattle.bsc_history.specs.declared.limits.About.{About}
use Rattle.bsc_history.specs.declared.entry.Entry.{Entry}
use Rattle.bsc_history.specs.declared.call.Call.TheVariants.{Forward}
use Rattle.bsc_history.specs.Entries.{own}
use Rattle.bsc_history.specs.Laws.{Apart}
use Rattle.bsc_history.specs.Legality.{Legal}
use Rattle.bsc_edge.specs.declared.said.Said.{Said}
use Rattle.bsc_session.specs.declared.ended.Ended.{Ended}
use Rattle.bsc_session.specs.Serving.{received}
use Rattle.bsc_session.specs.Standings.{Terms}
use Rattle.bsc_session.specs.Talk.{Session}

-- A session of a hub with the history H: its frames are the first that entered the outbox of its connection, its entries are those
-- that its caller has in H, and the hub's identity is that of its terms.
pub record SessionOf (a : About) (H : List Entry) : Type 0 where
  pub terms : Terms
  pub talk : List Said
  pub readings : List ℕ
  pub entries : List Entry
  pub ended : Ended
  pub session : Session terms talk readings entries (received a H ended.conn ended.taken) ended
  pub stand : own H terms.caller ≡ entries
  pub hub : terms.hub ≡ a.hub

-- This is the caller of one of the sessions.
abbrev pub IsCallerOf : {a : About} {H : List Entry} → List (SessionOf a H) → ℕ → Type 0
IsCallerOf {a} {H} sessions caller = (number : ℕ) × (s : SessionOf a H) × (slice_get sessions number ≡ Some s) × (s.terms.caller
    ≡ caller)

-- A hub's run: its history is legal, its sessions have callers of their own, and whatever was forwarded was so by one of them.
pub record HubRun : Type 0 where
  pub about : About
  pub history : List Entry
  pub sessions : List (SessionOf about history)
  pub legal : Legal about history
  pub apart : Apart (λ (s : SessionOf about history). s.terms.caller) sessions
  pub forwarders : (before later : List Entry) (e : Entry) (sender : ℕ) (m : List ℕ) → history ≡ before ++ e ∷ later
      → e.call ≡ Forward sender m
      → IsCallerOf sessions e.caller
