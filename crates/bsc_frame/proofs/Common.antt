-- Lemmas that crates above cite too.
-- It serves clauses of functions of `laws`, `lists` and `reading`.
use Rattle.bsc_frame.specs.Checks.{HasItemAtFault, OfPayload}
use Rattle.bsc_frame.specs.Layout.{IsList, IsPayload}
use Rattle.bsc_frame.specs.Walk.{PayloadFails}
use Rattle.bsc_frame.specs.declared.body.Body.TheVariants.{Npdu}
use Rattle.bsc_frame.specs.declared.check.Check.{Check}
use Rattle.bsc_frame.specs.declared.message.Message.{Message}
use Rattle.bsc_octets.specs.Forwarding.{function_in}
use Rattle.bsc_options.proofs.Exact.{cut_or_whole, options_or_fault}
use Rattle.bsc_options.specs.Reading.{IsCut}
use Rattle.bsc_options.specs.Spelling.{Fits, spelling_of, HasShape}
use Rattle.bsc_options.specs.declared.item.OptionItem.{OptionItem}
use Rattle.std.proofs.Common.{true, Bool, false, List, ℕ, ◌≡◌, ◌+◌, arith, length, subst, refl}
use Rattle.std.specs.List.{AllByRecursion}

pub list_fits : (b : Bool) (m : List ℕ) (at : ℕ) (items : List OptionItem) (end : ℕ) → IsList b m at items end → AllByRecursion Fits items
list_fits true m at items end list = list.0.fit
list_fits false m at items end list = rw list.0 tt

pub list_place : (b : Bool) (m : List ℕ) (at : ℕ) (items : List OptionItem) (end : ℕ) → IsList b m at items end → end ≡ at + length (spelling_of items)
list_place true m at items end list = list.1.place
list_place false m at items end list = rw (list.0, list.1) (omega arith)

pub not_cut : (b : Bool) (m : List ℕ) (at : ℕ) (items : List OptionItem) (end : ℕ) → IsList b m at items end → b ≡ true → IsCut m at → ⊥
not_cut true m at items end list set cut = cut_or_whole m at items end list.0 list.1 cut
not_cut false m at items end list set cut = absurd cc

pub list_without_fault : (b : Bool) (m : List ℕ) (at : ℕ) (items : List OptionItem) (end : ℕ) → IsList b m at items end → AllByRecursion HasShape items → b ≡ true → HasItemAtFault m at → ⊥
list_without_fault true m at items end list shapes set fault = options_or_fault m at items end fault.0 (record { some = list.0.some; shapes = shapes }) list.1 fault.1
list_without_fault false m at items end list shapes set fault = absurd cc

pub of_payload : (m : List ℕ) (f : ℕ) (p : List ℕ) (k : Check) → function_in m ≡ f → ((q : List ℕ) → IsPayload m q → q ≡ p) → OfPayload m (λ g q. PayloadFails g q k) → PayloadFails f p k
of_payload m f p k is one found = subst (λ (g : ℕ). PayloadFails g p k) is (subst (λ (q : List ℕ). PayloadFails (function_in m) q k) (one found.0 found.1) found.2)

pub same_message : (x y : Message) → x.id ≡ y.id → x.origin ≡ y.origin → x.dest ≡ y.dest → x.dest_options ≡ y.dest_options → x.data_options ≡ y.data_options → x.body ≡ y.body → x ≡ y
same_message x y id origin dest first second body =
    let whole : record { id = x.id; origin = x.origin; dest = x.dest; dest_options = x.dest_options; data_options = x.data_options; body = x.body } ≡ y =
    rw (id, origin, dest, first, second, body) refl in
    whole

pub same_npdu : (x y : List ℕ) → Npdu x ≡ Npdu y → x ≡ y
same_npdu x y h = cc
