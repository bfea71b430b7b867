-- Whether something is due for a connection.
-- It serves the clauses of `has_due`.
use Rattle.std.proofs.Common.{◌≡◌, ◌==◌, ◌&&◌, ◌||◌, ℕ, Bool, true, false, not, List, length, drop, Option, Some, is_some, refl, ap, sym, ◌∙◌, arith, length-drop}
use Rattle.std.proofs.lemmas.Bool.{and_from, eq-eqb}
use Rattle.std.proofs.lemmas.Option.{same_Some}
use Rattle.bsc_history.specs.declared.connection.Connection.{Connection}
use Rattle.bsc_history.specs.declared.ending.End.{End}
use Rattle.bsc_history.specs.declared.entry.Entry.{Entry}
use Rattle.bsc_history.specs.Ends.{ended, unleft}
use Rattle.bsc_history.specs.Marks.{entries}
use Rattle.bsc_history.specs.Outboxes.{sent}
use Rattle.bsc_history.proofs.Lists.{any_In, any_gives}
use Rattle.bsc_ring.specs.Ends.{given}
use Rattle.bsc_desk.specs.Rows.{IsRowBy}
use Rattle.bsc_desk.proofs.Rowed.{is_row_by}
use Rattle.bsc_lemmas.proofs.Options.{found_some}
use Rattle.bsc_hub_core.specs.declared.outbox.Outbox.{Outbox}
use Rattle.bsc_hub_core.specs.declared.hub_core.HubCore.{HubCore}
use Rattle.bsc_hub_core.specs.Calls.{has_due}
use Rattle.bsc_hub_core.specs.Standing.{CoreStands, HasOutbox, outbox_at}

-- somebody joined as it
pub row_by : (t : HubCore) (H : List Entry) (c : ℕ) → CoreStands t H → HasOutbox t c → (caller : ℕ) × IsRowBy t.desk caller c
row_by t H c s has =
    let p = found_some (outbox_at t c) has in
    let r = any_gives (λ (x : Connection). x.number == c) (unleft (entries s.marks)) (s.outboxes c p.0 p.1).unleft in (
      r.0.caller,
      is_row_by t.desk s.marks r.0.caller c s.desk (any_In (λ (x : Connection). (x.number == c) && (x.caller == r.0.caller)) r.0 (unleft (entries s.marks)) r.1
          (and_from (r.0.number == c) (r.0.caller == r.0.caller) r.2 (eq-eqb r.0.caller r.0.caller refl))),
    )

-- by its tags and its End
pub due_is : (t : HubCore) (H : List Entry) (c : ℕ) (p : Outbox) → CoreStands t H → outbox_at t c ≡ Some p → has_due t H c p ≡ (not (length p.tags.items == 0) || is_some (ended H c))
due_is t H c p s at =
    let waits = (s.outboxes c p at).waits in
    let same : length (sent t.desk.about (entries s.marks) c) ≡ length (sent t.about H c) = ap (λ a. length (sent a (entries s.marks) c)) s.own ∙ ap (λ F. length (sent t.about F c)) s.calls in
    let rest = length-drop (length (given p.outlet)) (sent t.about H c) in
    let few : length (drop (length (given p.outlet)) (sent t.about H c)) ≡ length p.tags.items = omega (arith, waits, same, rest) in
    ap (λ (n : ℕ). not (n == 0) || is_some (ended H c)) few

-- By whether tags are left, and by the End.
due_parts : (t : HubCore) (H : List Entry) (c : ℕ) (p q : Outbox) (empty : Bool) → CoreStands t H → outbox_at t c ≡ Some p → outbox_at t c ≡ Some q
    → empty ≡ (length q.tags.items == 0) → has_due t H c p ≡ (not empty || is_some (ended H c))
due_parts t H c p q empty s at got says = due_is t H c p s at ∙ ap (λ (b : Bool). not b || is_some (ended H c))
    (ap (λ (y : Outbox). length y.tags.items == 0) (same_Some p q (sym at ∙ got)) ∙ sym says)

-- A frame waits.
pub due_by_tags : (t : HubCore) (H : List Entry) (c : ℕ) (p q : Outbox) (empty : Bool) → CoreStands t H → outbox_at t c ≡ Some p → outbox_at t c ≡ Some q
    → empty ≡ (length q.tags.items == 0) → not empty ≡ true → not empty ≡ has_due t H c p
due_by_tags t H c p q empty s at got says some = some ∙ sym (due_parts t H c p q empty s at got says ∙ ap (λ (b : Bool). b || is_some (ended H c)) some)

-- None does: it is as the connection has ended.
pub due_by_end : (t : HubCore) (H : List Entry) (c : ℕ) (p q : Outbox) (empty b : Bool) (ending : Option End) (s : CoreStands t H) → outbox_at t c ≡ Some p → outbox_at t c ≡ Some q
    → empty ≡ (length q.tags.items == 0) → not empty ≡ false → b ≡ is_some ending → ending ≡ ended (entries s.marks) c → b ≡ has_due t H c p
due_by_end t H c p q empty b ending s at got says none is ends = is ∙ ap is_some (ends ∙ ap (λ F. ended F c) s.calls)
    ∙ sym (due_parts t H c p q empty s at got says ∙ ap (λ (b : Bool). b || is_some (ended H c)) none)
