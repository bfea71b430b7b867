-- What a caller keeps of its own, from call to call.
-- It serves the clauses of `mark_stays` and `own_stays`.
use Rattle.std.proofs.Common.{◌≡◌, ℕ, true, false, List, [], ◌∷◌, ◌++◌, Option, Some, None, refl, ap, sym, ◌∙◌, subst, append-nil}
use Rattle.std.specs.List.{list_any}
use Rattle.bsc_octets.specs.declared.vmac.Vmac.{Vmac}
use Rattle.bsc_history.specs.declared.entry.Entry.{Entry}
use Rattle.bsc_history.specs.declared.mark.Mark.{Mark}
use Rattle.bsc_history.specs.Ends.{leaves}
use Rattle.bsc_history.specs.Legality.{is_of}
use Rattle.bsc_history.specs.Marks.{entries, mark_of}
use Rattle.bsc_history.proofs.Marks.{mark_grows}
use Rattle.bsc_turn.specs.declared.pass.Pass.{Pass}
use Rattle.bsc_turn.specs.declared.view.EndedCaller.{EndedCaller}
use Rattle.bsc_turn.specs.Histories.{own_of}
use Rattle.bsc_turn.specs.Passes.{number_of, own_list, seen}
use Rattle.bsc_hub.specs.declared.hub.Hub.{Hub}
use Rattle.bsc_hub.specs.Passing.{IsCaller, IsOwn, IsOwnAs, Placed, StaysBy, Went, about_of}
use Rattle.bsc_hub.proofs.Guarding.{address_lifted, own_lifted}
use Rattle.bsc_lemmas.proofs.Booleans.{or_false}

-- the own list of a caller is what it has seen of its number
own_is : (h : Hub) (p : Pass) → IsCaller h p → own_of (seen p) (number_of p) ≡ own_list p
own_is h p is = ap (own_of (seen p)) (sym is.0.1.1.2) ∙ is.0.1.1.5.0

since : {drew : ℕ} → (h : Hub) (p q : Pass) (took : List EndedCaller) (made : Option Placed) (c : ℕ) (new : List Entry) → IsCaller h p → Went h p drew took made q
    → own_list q ≡ own_list p ++ new → list_any (leaves c) new ≡ false → IsOwn p c → IsOwn q c
since h p q took made c new is passed grew quiet has =
    let same : own_of (seen q) (number_of p) ≡ own_of (seen p) (number_of p) ++ new = ap (own_of (seen q)) (sym passed.number) ∙ passed.all_own ∙ grew
    ∙ ap (λ (l : List Entry). l ++ new) (sym (own_is h p is)) in
    subst (λ n. is_of (entries (seen q)) n c ≡ true) (sym passed.number) (own_lifted (about_of h) (seen p) (seen q) (number_of p) c new passed.caller.1 passed.grows same quiet has)

pub own_kept : {drew : ℕ} → (h : Hub) (p q : Pass) (took : List EndedCaller) (made : Option Placed) (c : ℕ) → IsCaller h p → Went h p drew took made q → StaysBy made c → IsOwn p c → IsOwn q c
own_kept h p q took None c is passed stays has = since h p q took None c [] is passed (passed.makes ∙ sym (append-nil (own_list p))) refl has
own_kept h p q took (Some m) c is passed stays has = since h p q took (Some m) c (m.stamped.entry ∷ []) is passed passed.makes.grew (or_false (leaves c m.stamped.entry) ∙ stays) has

-- What is a caller's own stays so, with its address.
pub owned_kept : {drew : ℕ} → (h : Hub) (p q : Pass) (took : List EndedCaller) (made : Option Placed) (c : ℕ) (v : Vmac) → IsCaller h p → Went h p drew took made q → StaysBy made c
    → IsOwnAs p c v → IsOwnAs q c v
owned_kept h p q took made c v is passed stays has = (own_kept h p q took made c is passed stays has.0, address_lifted (seen p) (seen q) (number_of p) c passed.grows has.0 ∙ has.1)

-- A mark stays.
pub mark_kept : {drew : ℕ} → (h : Hub) (p q : Pass) (took : List EndedCaller) (made : Option Placed) (c : ℕ) (m : Mark) → Went h p drew took made q → mark_of (seen p) c ≡ Some m
    → mark_of (seen q) c ≡ Some m
mark_kept h p q took made c m passed has = subst (λ l. mark_of l c ≡ Some m) (sym passed.grows.1) (mark_grows (seen p) passed.grows.0 c m has)
