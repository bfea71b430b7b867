-- What a caller knows from what its pass has seen, at the guard and after.
-- It serves clauses of functions of `hub`, `laws` and `meeting`.
use Rattle.std.proofs.Common.{◌≡◌, ℕ, true, false, List, [], ◌++◌, length, take, Some, refl, ap, sym, ◌∙◌, subst, append-nil, ◌≤◌, ◌+◌, arith, length-append}
use Rattle.std.specs.List.{list_any}
use Rattle.std.proofs.lemmas.List.{map-append}
use Rattle.bsc_octets.specs.declared.vmac.Vmac.{Vmac}
use Rattle.bsc_history.specs.declared.entry.Entry.{Entry}
use Rattle.bsc_history.specs.declared.limits.About.{About}
use Rattle.bsc_history.specs.declared.mark.Stamped.{Stamped}
use Rattle.bsc_history.specs.Entries.{own}
use Rattle.bsc_history.specs.Ends.{leaves}
use Rattle.bsc_history.specs.Legality.{Legal, is_of}
use Rattle.bsc_history.specs.Marks.{entries, mark_of}
use Rattle.bsc_history.specs.Outboxes.{vmac_of}
use Rattle.bsc_history.proofs.Lifting.{own_joined, own_lifts}
use Rattle.bsc_history.proofs.Marks.{mark_grows}
use Rattle.bsc_history.proofs.Parts.{vmac_stays}
use Rattle.bsc_ring.specs.declared.ends.Outlet.{Outlet}
use Rattle.bsc_ring.specs.Ends.{outlet_mark}
use Rattle.bsc_turn.specs.declared.pass.Pass.{Pass}
use Rattle.bsc_turn.specs.declared.view.View.{View}
use Rattle.bsc_turn.specs.Effects.{IsConsistent, having_seen}
use Rattle.bsc_turn.specs.Histories.{StartsWith, own_of}
use Rattle.bsc_turn.specs.Passes.{number_of, seen, view_of}
use Rattle.bsc_desk.specs.declared.desk.Desk.{Desk}
use Rattle.bsc_desk.specs.Rows.{IsMarkOf, IsRowBy, IsRowOf}
use Rattle.bsc_desk.specs.Standing.{DeskStands}
use Rattle.bsc_desk.proofs.Rowed.{is_mark_of, is_row_by, is_row_of}
use Rattle.bsc_hub.specs.Passing.{IsOwn, IsOwnAs}
use Rattle.bsc_history.proofs.Common.{length_entries, take_all}

-- the entries of a history that begins with another
pub parts : (F H : List Stamped) → (begins : StartsWith H F) → entries H ≡ entries F ++ entries begins.0
parts F H begins = ap entries begins.1 ∙ map-append (λ (s : Stamped). s.entry) F begins.0

-- a history that begins with another is no shorter
pub longer : (S T : List Stamped) → StartsWith T S → length (entries S) ≤ length (entries T)
longer S T begins =
    let all : length (entries T) ≡ length (entries S) + length (entries begins.0) = ap (λ (l : List Entry). length l) (parts S T begins) ∙ length-append (entries S) (entries begins.0) in
    omega arith

-- what caller n has by F, it has by H, which begins with F, where none of its entries since is a leave
pub own_lifted : (a : About) (F H : List Stamped) (n c : ℕ) (own_since : List Entry) → Legal a (entries H) → StartsWith H F → own_of H n ≡ own_of F n ++ own_since
    → list_any (leaves c) own_since ≡ false → is_of (entries F) n c ≡ true → is_of (entries H) n c ≡ true
own_lifted a F H n c own_since legal begins same quiet h =
    let split = parts F H begins in
    subst (λ l. is_of l n c ≡ true) (sym split) (own_lifts a n c (entries F) (entries begins.0) own_since (subst (Legal a) split legal) (ap (λ (l : List Entry). own l n) (sym split) ∙ same) quiet h)

-- its address is the same by H
pub address_lifted : (F H : List Stamped) (n c : ℕ) → StartsWith H F → is_of (entries F) n c ≡ true → vmac_of (entries H) c ≡ vmac_of (entries F) c
address_lifted F H n c begins h = ap (λ (l : List Entry). vmac_of l c) (parts F H begins) ∙ vmac_stays (entries F) (entries begins.0) c (own_joined (entries F) n c h)

-- the guard's view w, and that of its pass before, tell of the same own entries
same_own : (v w : View) → w ≡ having_seen w.seen v → IsConsistent v → IsConsistent w → own_of w.seen v.number ≡ own_of v.seen v.number
same_own v w e tv tw = ap (λ (x : View). own_of w.seen x.number) (sym e) ∙ tw.0 ∙ ap (λ (x : View). x.own) e ∙ sym tv.0

-- at the guard, whose view is w, the history still has what is the pass's own
guard_own : (a : About) (p : Pass) (n c : ℕ) (w : View) → Legal a (entries w.seen) → StartsWith w.seen (seen p) → w ≡ having_seen w.seen (view_of p) → IsConsistent w
    → IsConsistent (view_of p) → (view_of p).number ≡ number_of p → n ≡ number_of p → IsOwn p c → is_of (entries w.seen) n c ≡ true
guard_own a p n c w legal begins same tw tv is num mine =
    let at : n ≡ (view_of p).number = num ∙ sym is in
    own_lifted a (seen p) w.seen n c [] legal begins
    (ap (own_of w.seen) at ∙ same_own (view_of p) w same tv tw ∙ ap (own_of (seen p)) (sym at) ∙ sym (append-nil (own_of (seen p) n)))
    refl
    (ap (λ k. is_of (entries (seen p)) k c) num ∙ mine)

-- so the desk in hand has a row for it
pub guard_row : (d : Desk) (p : Pass) (n c : ℕ) (w : View) → DeskStands d w.seen → StartsWith w.seen (seen p) → w ≡ having_seen w.seen (view_of p) → IsConsistent w → IsConsistent (view_of p)
    → (view_of p).number ≡ number_of p → n ≡ number_of p → IsOwn p c → IsRowBy d n c
guard_row d p n c w stands begins same tw tv is num mine = is_row_by d w.seen n c stands (guard_own d.about p n c w stands.legal begins same tw tv is num mine)

-- with its address
pub guard_sender : (d : Desk) (p : Pass) (n c : ℕ) (v : Vmac) (w : View) → DeskStands d w.seen → StartsWith w.seen (seen p) → w ≡ having_seen w.seen (view_of p) → IsConsistent w
    → IsConsistent (view_of p) → (view_of p).number ≡ number_of p → n ≡ number_of p → IsOwnAs p c v → IsRowOf d n c v
guard_sender d p n c v w stands begins same tw tv is num mine =
    is_row_of d w.seen n c v stands (guard_own d.about p n c w stands.legal begins same tw tv is num mine.0) (address_lifted (seen p) w.seen (number_of p) c begins mine.0 ∙ mine.1)

-- and the mark of its inlet is that of the outlet
pub guard_mark : (d : Desk) (F H : List Stamped) (c : ℕ) (o : Outlet) → DeskStands d H → StartsWith H F → mark_of F c ≡ Some (outlet_mark o) → IsMarkOf d c (outlet_mark o)
guard_mark d F H c o stands begins h = is_mark_of d H c (outlet_mark o) stands (subst (λ l. mark_of l c ≡ Some (outlet_mark o)) (sym begins.1) (mark_grows F begins.0 c (outlet_mark o) h))

-- the history before an entry is its first part up to the entry's place
pub before_place : (before rest : List Stamped) (at : ℕ) → at ≡ length before → take at (entries (before ++ rest)) ≡ entries before
before_place before rest at is =
    ap (λ n. take n (entries (before ++ rest))) (is ∙ sym (length_entries before))
    ∙ ap (take (length (entries before))) (map-append (λ (s : Stamped). s.entry) before rest)
    ∙ take_all (entries before) (entries rest)
