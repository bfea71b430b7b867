-- When a hub is worn, by what a pass has seen.
-- It serves clauses of functions of `answering`, `ending` and `serving`.
use Rattle.std.proofs.Common.{◌≡◌, ◌≢◌, ◌↔◌, ℕ, ◌+◌, ◌≤◌, ◌<◌, true, false, List, [], ◌∷◌, ◌++◌, length, length-append, refl, ap, sym, ◌∙◌, arith, inl, inr, Some, None, Result, Err}
use Rattle.std.specs.Prelude.{nat_le, IsTrue}
use Rattle.std.proofs.lemmas.Bool.Decides.{leb_tells}
use Rattle.bsc_octets.specs.declared.identity.Identity.{Identity}
use Rattle.bsc_history.specs.declared.entry.Entry.{Entry}
use Rattle.bsc_history.specs.declared.limits.About.{About}
use Rattle.bsc_history.specs.declared.mark.Stamped.{Stamped}
use Rattle.bsc_history.specs.declared.told.Told.{Told}
use Rattle.bsc_history.specs.declared.told.Worn.{Worn}
use Rattle.bsc_history.specs.Marks.{entries}
use Rattle.bsc_history.proofs.More.{entries-more}
use Rattle.bsc_turn.specs.declared.pass.Pass.{Pass}
use Rattle.bsc_turn.specs.declared.view.EndedCaller.{EndedCaller}
use Rattle.bsc_turn.specs.Passes.{seen}
use Rattle.bsc_desk.specs.Entries.{connect_due}
use Rattle.bsc_hub.specs.declared.hub.Hub.{Hub}
use Rattle.bsc_desk.specs.declared.broadcasting.AllRefusal.{AllRefusal}
use Rattle.bsc_desk.specs.declared.broadcasting.AllRefusal.TheVariants.{Worn as AllWorn}
use Rattle.bsc_desk.specs.declared.broadcasting.AllReply.{AllReply}
use Rattle.bsc_desk.specs.Entries.{is_all_worn}
use Rattle.bsc_hub.specs.declared.joined.ConnectRefusal.{ConnectRefusal}
use Rattle.bsc_hub.specs.declared.joined.ConnectRefusal.TheVariants.{NoMemory, Worn as WornRefusal}
use Rattle.bsc_hub.specs.declared.joined.Joined.{Joined}
use Rattle.bsc_hub.specs.Calls.{all_made, all_told, connect_made, connect_told}
use Rattle.bsc_hub.specs.Passing.{Passed, Placed, about_of, found_history}
use Rattle.bsc_hub.proofs.Guarding.{longer}
use Rattle.bsc_session.specs.CarryingOut.{SeesWorn}
use Rattle.bsc_history.proofs.Common.{due_none}

one_longer : (F : List Stamped) (s : Stamped) (H : List Stamped) → H ≡ F ++ s ∷ [] → length (entries H) ≡ length (entries F) + 1
one_longer F s H is = ap (λ (l : List Stamped). length (entries l)) is ∙ ap (λ (l : List Entry). length l) (entries-more F s) ∙ length-append (entries F) (s.entry ∷ [])

-- one that leaves then makes an entry more
pub wears_left : (h : Hub) (p q : Pass) (took : List EndedCaller) (m : Placed) → Passed h p took (Some m) q → SeesWorn h p → (about_of h).limits.calls < length (entries (seen q))
wears_left h p q took m passed is =
    let most = longer (seen p) passed.makes.before passed.makes.begins in
    let one = one_longer passed.makes.before m.stamped (seen q) passed.makes.ends in
    omega (arith, is, most, one)

at_most : (a n : ℕ) → nat_le a n ≡ true → a ≤ n
at_most a n h = elim (leb_tells a n) [ inl k ↦ k.1 | inr k ↦ (let e : true ≡ false = sym h ∙ k.0 in cc) ]

-- a connect that is due no reply
pub worn_due : (a : About) (H : List Entry) (who : Identity) → None ≡ connect_due a H who → a.limits.calls ≤ length H
worn_due a H who h = at_most a.limits.calls (length H) (due_none _ _ h)

-- a connect that was worn
pub connect_wears : (h : Hub) (q : Pass) (n : ℕ) (who : Identity) (r : Result Joined ConnectRefusal) (w : Worn) → r ≡ Err (WornRefusal w)
    → (r ≢ Err NoMemory → connect_told r ≡ connect_due (about_of h) (found_history (connect_made n who r) q) who) → SeesWorn h q
connect_wears h q n who r w is due =
    let told = due (λ e. (let k : Err (WornRefusal w) ≡ Err NoMemory = sym is ∙ e in cc)) in
    let k : connect_told (Err (WornRefusal w)) ≡ connect_due (about_of h) (found_history (connect_made n who (Err (WornRefusal w))) q) who = rw is at told in
    worn_due (about_of h) (entries (seen q)) who k

-- a broadcast that was worn
pub all_wears : (h : Hub) (q : Pass) (n conn : ℕ) (m : List ℕ) (r : Result (Told AllReply) AllRefusal) (w : Worn) → r ≡ Err (AllWorn w)
    → (IsTrue (is_all_worn (all_told r)) ↔ ((about_of h).limits.calls ≤ length (found_history (all_made n conn m r) q))) → SeesWorn h q
all_wears h q n conn m r w is worn =
    let k : IsTrue (is_all_worn (all_told (Err (AllWorn w)))) ↔ ((about_of h).limits.calls ≤ length (found_history (all_made n conn m (Err (AllWorn w))) q)) = rw is at worn in
    k.0 refl
