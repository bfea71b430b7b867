-- The answers of looking at a list are those of reading it, without the list.
-- It serves the clauses of `check_options`, `look_at` and `options_end`.
use Rattle.std.proofs.Common.{◌≡◌, ◌≢◌, ℕ, ◌+◌, ◌<◌, ◌≤◌, inl, inr, List, length, drop, Some, None, Result, Ok, Err, refl, sym, ap, subst, ◌∙◌, arith, length-append, length-drop}
use Rattle.std.specs.Prelude.{IfOk}
use Rattle.bsc_options.specs.declared.item.OptionItem.{OptionItem}
use Rattle.bsc_options.specs.declared.fault.OptionsFault.{OptionsFault}
use Rattle.bsc_options.specs.declared.fault.OptionsFault.TheVariants.{Cut, BadKind, BadShape, NoMemory}
use Rattle.bsc_options.specs.Spelling.{AreOptions, spelling_of}
use Rattle.bsc_options.specs.Reading.{AreItems, BeginsWith, IsCut, IsFirstAtFault}
use Rattle.bsc_options.specs.Walk.{OptionListAnswers, Finds, EndsAt, first_fault}
use Rattle.bsc_options.proofs.Exact.{SaysOf, begins_at, options_found, list_taken, fault_answers, spelled_some, within_of, only_of, cut_if, bad_kind_if, bad_shape_if, cut_or_whole}
use Rattle.bsc_options.proofs.Faults.{fault_at, never_memory}

abbrev Found : Type 0
Found = Result (List OptionItem × ℕ) OptionsFault

abbrev Looked : Type 0
Looked = Result ℕ OptionsFault

-- ---- the place of an end

pub ends_at : (m o : List ℕ) (at n : ℕ) → o ≡ drop at m → EndsAt o n → (items : List OptionItem) × AreItems items × BeginsWith m at items (at + n)
ends_at m o at n e ends = (ends.items, ends.are, begins_at m o at n ends.items e ends.whole)

pub ends_within : (m o : List ℕ) (at n : ℕ) → o ≡ drop at m → at ≤ length m → EndsAt o n → (at < at + n) × (at + n ≤ length m)
ends_within m o at n e le ends =
    let some : 0 < length (spelling_of ends.items) = spelled_some ends.items ends.are.some in
    let place : n ≡ length (spelling_of ends.items) = omega (arith, ends.whole.place) in
    let long = ap length ends.whole.spelling in
    let within : n ≤ length o = omega (arith, length-append (spelling_of ends.items) (drop n o)) in
    (omega arith, omega (arith, ap length e, length-drop at m))

pub whole_not_cut : (m o : List ℕ) (at n : ℕ) → o ≡ drop at m → EndsAt o n → IsCut m at → ⊥
whole_not_cut m o at n e ends = let whole = ends_at m o at n e ends in cut_or_whole m at whole.0 (at + n) whole.1 whole.2

-- ---- looking, as reading

abbrev end_of : Found → Looked
end_of (Ok x) = Ok x.1
end_of (Err fault) = Err fault

-- an answer of reading that is also one of looking
abbrev AsRead : List ℕ → ℕ → Looked → Type 0
AsRead m at r = (s : Found) × OptionListAnswers m at s × (end_of s ≡ r)

as_read : (m : List ℕ) (at : ℕ) (r : Looked) → Finds m at r → AsRead m at r
as_read m at (Ok end) f = (Ok (f.0, end), (f.1, f.2), refl)
as_read m at (Err Cut) f = (Err Cut, f, refl)
as_read m at (Err BadKind) f = (Err BadKind, f, refl)
as_read m at (Err BadShape) f = (Err BadShape, f, refl)
as_read m at (Err NoMemory) f = absurd f

pub looked_fault : (m o : List ℕ) (at n : ℕ) (fault : OptionsFault) → o ≡ drop at m → EndsAt o n → SaysOf o n (λ items. Some fault ≡ first_fault items) → Finds m at (Err fault)
looked_fault m o at n Cut e ends bad = fault_answers m o at n Cut e ends bad
looked_fault m o at n BadKind e ends bad = fault_answers m o at n BadKind e ends bad
looked_fault m o at n BadShape e ends bad = fault_answers m o at n BadShape e ends bad
looked_fault m o at n NoMemory e ends bad =
    let found = fault_at ends.items NoMemory ends.are.fit (sym (bad ends.items ends.are.fit (list_taken o n ends))) in
    absurd (never_memory found.item found.fault_is)

pub looked_whole : (m o : List ℕ) (at n : ℕ) → o ≡ drop at m → EndsAt o n → SaysOf o n (λ items. None ≡ first_fault items) → Finds m at (Ok (at + n))
looked_whole m o at n e ends none = let found = options_found m o at n e ends none in (ends.items, found.0, found.1)

-- ---- the clauses of looking

pub end_found : (m : List ℕ) (at : ℕ) (r : Looked) → Finds m at r → IfOk r (λ end. (list : List OptionItem) × AreOptions list × BeginsWith m at list end)
end_found m at (Ok end) f = f
end_found m at (Err fault) f = tt

pub end_within : (m : List ℕ) (at : ℕ) (r : Looked) → at ≤ length m → Finds m at r → IfOk r (λ end. (at < end) × (end ≤ length m))
end_within m at (Ok end) le f = within_of m at (Ok (f.0, end)) le (f.1, f.2)
end_within m at (Err fault) le f = tt

pub end_cut_then : (m : List ℕ) (at : ℕ) (r : Looked) → Finds m at r → r ≡ Err Cut → IsCut m at
end_cut_then m at r f e = subst (Finds m at) e f

pub end_cut_if : (m : List ℕ) (at : ℕ) (r : Looked) → Finds m at r → IsCut m at → r ≡ Err Cut
end_cut_if m at r f cut = let s = as_read m at r f in sym s.2 ∙ ap end_of (cut_if m at s.0 s.1 cut)

pub end_bad_kind_then : (m : List ℕ) (at : ℕ) (r : Looked) → Finds m at r → r ≡ Err BadKind → (item : OptionItem) × IsFirstAtFault m at item × (item.kind ≡ 0)
end_bad_kind_then m at r f e = subst (Finds m at) e f

pub end_bad_kind_if : (m : List ℕ) (at : ℕ) (r : Looked) → Finds m at r → (item : OptionItem) × IsFirstAtFault m at item × (item.kind ≡ 0) → r ≡ Err BadKind
end_bad_kind_if m at r f first = let s = as_read m at r f in sym s.2 ∙ ap end_of (bad_kind_if m at s.0 s.1 first)

pub end_bad_shape_then : (m : List ℕ) (at : ℕ) (r : Looked) → Finds m at r → r ≡ Err BadShape → (item : OptionItem) × IsFirstAtFault m at item × (item.kind ≢ 0)
end_bad_shape_then m at r f e = subst (Finds m at) e f

pub end_bad_shape_if : (m : List ℕ) (at : ℕ) (r : Looked) → Finds m at r → (item : OptionItem) × IsFirstAtFault m at item × (item.kind ≢ 0) → r ≡ Err BadShape
end_bad_shape_if m at r f first = let s = as_read m at r f in sym s.2 ∙ ap end_of (bad_shape_if m at s.0 s.1 first)

pub end_memory : (m : List ℕ) (at : ℕ) (r : Looked) → Finds m at r → r ≡ Err NoMemory → ⊥
end_memory m at r f e = subst (Finds m at) e f

pub end_only : (m : List ℕ) (at : ℕ) (r : Looked) → Finds m at r → (list : List OptionItem) (end : ℕ) → AreOptions list → BeginsWith m at list end → r ≡ Ok end
end_only m at r f list end are begins =
    let s = as_read m at r f in
    elim (only_of m at s.0 s.1 list end are begins) [
      | inl same ↦ sym s.2 ∙ ap end_of same
      | inr out ↦ absurd (end_memory m at r f (sym s.2 ∙ ap end_of out))
    ]
