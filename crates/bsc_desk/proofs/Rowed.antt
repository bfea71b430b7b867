-- What a history says of the rows of a desk that stands for it: a caller shows by it what the calls of the desk ask for.
-- It serves bsc_hub and bsc_hub_core.
use Rattle.std.proofs.Common.{◌≡◌, inl, inr, ℕ, ◌==◌, ◌+◌, ◌<◌, ◌≤◌, Bool, true, ◌&&◌, List, [], ◌∷◌, ◌++◌, length, Option, Some, refl, ap, sym, ◌∙◌, subst, arith}
use Rattle.std.specs.List.{list_any}
use Rattle.std.proofs.lemmas.Bool.{and_parts, and_from, or_cases, or_left, or_right, eq-eqb, eqb-true}
use Rattle.bsc_octets.specs.declared.identity.Identity.{Identity}
use Rattle.bsc_octets.specs.declared.vmac.Vmac.{Vmac}
use Rattle.bsc_octets.specs.Addresses.{same_vmac}
use Rattle.bsc_history.specs.declared.connection.Connection.{Connection}
use Rattle.bsc_history.specs.declared.mark.Mark.{Mark}
use Rattle.bsc_history.specs.declared.mark.Stamped.{Stamped}
use Rattle.bsc_history.specs.declared.reply.Reply.TheVariants.{Joined}
use Rattle.bsc_history.specs.Ends.{joined, unleft}
use Rattle.bsc_history.specs.Marks.{entries, mark_of}
use Rattle.bsc_history.specs.Outboxes.{vmac_of}
use Rattle.bsc_history.specs.Legality.{Legal, is_of}
use Rattle.bsc_history.proofs.Fresh.{fresh_joins}
use Rattle.bsc_history.proofs.Lists.{In}
use Rattle.bsc_history.proofs.Marks.{mark_new}
use Rattle.bsc_history.proofs.More.{Legal-front, entries-more}
use Rattle.bsc_history.proofs.Uniqueness.{comes, vmac_refl}
use Rattle.bsc_desk.specs.declared.desk.Desk.{Desk}
use Rattle.bsc_ring.specs.Ends.{inlet_mark}
use Rattle.bsc_desk.specs.Entries.{connect_stamped}
use Rattle.bsc_desk.specs.Live.{connection}
use Rattle.bsc_desk.specs.Rows.{HasRow, IsMarkOf, IsRowOf, IsRowBy}
use Rattle.bsc_desk.specs.Standing.{DeskStands, IsInletOf}
use Rattle.bsc_history.proofs.Connections.{vmac_unleft}
use Rattle.bsc_desk.proofs.LiveRows.{any_row}
use Rattle.bsc_desk.proofs.Orders.{all-weaker}

any_more : (p q : Connection → Bool) (xs : List Connection) → ((x : Connection) → In x xs → p x ≡ true → q x ≡ true) → list_any p xs ≡ true → list_any q xs ≡ true
any_more p q [] each any = any
any_more p q (x ∷ xs) each any =
    elim (or_cases (p x) (list_any p xs) any) [
      | inl here ↦ or_left (q x) (list_any q xs) (each x (inl refl) here)
      | inr later ↦ or_right (q x) (list_any q xs) (any_more p q xs (λ y m. each y (inr m)) later)
    ]

-- an unleft connection has a row
pub has_unleft : (d : Desk) (S : List Stamped) (c : ℕ) → DeskStands d S → list_any (λ x. x.number == c) (unleft (entries S)) ≡ true → HasRow d c
has_unleft d S c s came = any_row (λ (x : Connection). x.number == c) d.rows.items ∙ ap (list_any (λ (x : Connection). x.number == c)) s.unleft_rows ∙ came

-- an unleft connection of a caller is the row of that caller, with the address with which it joined
pub is_row_of : (d : Desk) (S : List Stamped) (caller c : ℕ) (v : Vmac) → DeskStands d S → is_of (entries S) caller c ≡ true → vmac_of (entries S) c ≡ v → IsRowOf d caller c v
is_row_of d S caller c v s mine address =
    let p = λ (x : Connection). (x.number == c) && (x.caller == caller) in
    let q = λ (x : Connection). (x.number == c) && (x.caller == caller) && same_vmac x.who.vmac v in
    let each : (x : Connection) → In x (unleft (entries S)) → p x ≡ true → q x ≡ true = λ x m e. (
    let same = eqb-true x.number c (and_parts (x.number == c) (x.caller == caller) e).0 in
    let here : x.who.vmac ≡ v = sym (vmac_unleft d.about (entries S) x s.legal m) ∙ ap (vmac_of (entries S)) same ∙ address in
    and_from (p x) (same_vmac x.who.vmac v) e (vmac_refl x.who.vmac v here)) in
    any_row q d.rows.items ∙ ap (list_any q) s.unleft_rows ∙ any_more p q (unleft (entries S)) each mine

-- an unleft connection of a caller is a row of that caller
pub is_row_by : (d : Desk) (S : List Stamped) (caller c : ℕ) → DeskStands d S → is_of (entries S) caller c ≡ true → IsRowBy d caller c
is_row_by d S caller c s mine = any_row (λ (x : Connection). (x.number == c) && (x.caller == caller)) d.rows.items
    ∙ ap (list_any (λ (x : Connection). (x.number == c) && (x.caller == caller))) s.unleft_rows ∙ mine

same_mark : (m n : Mark) → Some m ≡ Some n → m ≡ n
same_mark m n e = cc

-- the mark that the history keeps for a connection is that of its inlet
pub is_mark_of : (d : Desk) (S : List Stamped) (c : ℕ) (m : Mark) → DeskStands d S → mark_of S c ≡ Some m → IsMarkOf d c m
is_mark_of d S c m s h = all-weaker (λ r. IsInletOf d.about S r.connection.number r.inlet) (λ r. r.connection.number ≡ c → inlet_mark r.inlet ≡ m) d.rows.items
    (λ r i same. same_mark (inlet_mark r.inlet) m (sym i.marked ∙ ap (mark_of S) same ∙ h)) s.inlets

-- a history is no longer than the limit of calls, but for the leaves of all rows and one stop
pub few_entries : (d : Desk) (S : List Stamped) → DeskStands d S → length S ≤ d.about.limits.calls + d.about.limits.rows + 1
few_entries d S s =
    let few = d.few_calls in
    let count = s.entered in
    omega arith

-- who joined has the row of its caller, and the history keeps the mark of its inlet

pub joined_mark : (n : Desk) (S : List Stamped) (caller : ℕ) (who : Identity) (m : Mark) (conn : ℕ) (replaced : Option ℕ)
    → DeskStands n (S ++ connect_stamped caller who m (Joined conn replaced) ∷ []) → mark_of (S ++ connect_stamped caller who m (Joined conn replaced) ∷ []) conn ≡ Some m
joined_mark n S caller who m conn replaced s =
    let e = connect_stamped caller who m (Joined conn replaced) in
    let x : Connection = record { number = conn; caller = caller; who = who } in
    let front = Legal-front n.about (entries S) e.entry (subst (Legal n.about) (entries-more S e) s.legal) in
    let next = (comes n.about (entries S) e.entry x front.1 refl).0 in
    let far : length (joined (entries S)) < conn = omega arith in
    mark_new S e conn (fresh_joins n.about (entries S) conn front.0 far) (eq-eqb conn conn refl)
