-- The answers of reading exclude one another.
-- It serves clauses of functions of `checking`, `laws` and `reading`.
use Rattle.std.proofs.Common.{◌≡◌, ◌≢◌, ℕ, ◌+◌, ◌<◌, ◌≤◌, ◌⊎◌, inl, inr, List, [], ◌∷◌, ◌++◌, length, take, drop, Some, None, Result, Ok, Err, refl, sym, ap, subst, ◌∙◌}
use Rattle.std.proofs.Common.{append_assoc, arith, length-append, length-drop}
use Rattle.std.specs.Prelude.{IfOk}
use Rattle.std.specs.List.{AllByRecursion}
use Rattle.std.proofs.lemmas.List.{take_at, drop_all, drop-drop, append-nil}
use Rattle.bsc_options.specs.declared.item.OptionItem.{OptionItem}
use Rattle.bsc_options.specs.declared.fault.OptionsFault.{OptionsFault}
use Rattle.bsc_options.specs.declared.fault.OptionsFault.TheVariants.{Cut, BadKind, BadShape, NoMemory}
use Rattle.bsc_options.specs.Spelling.{Fits, HasShape, AreOptions, SpellsOptions, spelling_of}
use Rattle.bsc_options.specs.Reading.{AreItems, BeginsWith, IsCut, IsFirstAtFault}
use Rattle.bsc_options.specs.Walk.{EndsAt, OptionListAnswers, first_fault}
use Rattle.bsc_options.proofs.Unique.{one_list}
use Rattle.bsc_options.proofs.Faults.{FaultAt, fault_at, all_have_shape, shape_within, one_first, bad_kind_is, bad_shape_is, never_cut, never_memory}

-- ---- what a walk over the octets from a place on finds, at that place

pub begins_at : (m o : List ℕ) (at n : ℕ) (items : List OptionItem) → o ≡ drop at m → BeginsWith o 0 items n → BeginsWith m at items (at + n)
begins_at m o at n items e begins =
    record {
      spelling = sym e ∙ begins.spelling ∙ ap (λ (l : List ℕ). spelling_of items ++ drop n l) e ∙ ap (λ (l : List ℕ). spelling_of items ++ l) (drop-drop n at m);
      place = omega (arith, begins.place);
    }

-- the octets of the list alone
pub list_taken : (o : List ℕ) (n : ℕ) (ends : EndsAt o n) → take n o ≡ spelling_of ends.items
list_taken o n ends = ap (take n) ends.whole.spelling ∙ take_at (spelling_of ends.items) (drop n o) n (omega (arith, ends.whole.place))

-- what a walk over the first n octets says, of whatever items they spell
abbrev pub SaysOf : List ℕ → ℕ → (List OptionItem → Type 0) → Type 0
SaysOf o n P = (items : List OptionItem) → AllByRecursion Fits items → take n o ≡ spelling_of items → P items

-- no item is at fault
pub options_found : (m o : List ℕ) (at n : ℕ) (e : o ≡ drop at m) (ends : EndsAt o n) → SaysOf o n (λ items. None ≡ first_fault items) → AreOptions ends.items × BeginsWith m at ends.items (at + n)
options_found m o at n e ends none =
    (record { some = ends.are.some; shapes = all_have_shape ends.items ends.are.fit (sym (none ends.items ends.are.fit (list_taken o n ends))) }, begins_at m o at n ends.items e ends.whole)

pub list_answers : (m o : List ℕ) (at n : ℕ) (list : List OptionItem) → o ≡ drop at m → EndsAt o n → SaysOf o n (λ items. None ≡ first_fault items) → SaysOf o n (λ items. list ≡ items)
    → OptionListAnswers m at (Ok (list, at + n))
list_answers m o at n list e ends none read =
    let found = options_found m o at n e ends none in
    let same : list ≡ ends.items = read ends.items ends.are.fit (list_taken o n ends) in
    rw same found

pub memory_answers : (m o : List ℕ) (at n : ℕ) → o ≡ drop at m → EndsAt o n → SaysOf o n (λ items. None ≡ first_fault items) → OptionListAnswers m at (Err NoMemory)
memory_answers m o at n e ends none =
    let found = options_found m o at n e ends none in
    (ends.items, at + n, found.0, found.1)

-- an item is at fault
first_found : (m o : List ℕ) (at n : ℕ) (items : List OptionItem) (fault : OptionsFault) (found : FaultAt items fault) → o ≡ drop at m → AreItems items → BeginsWith o 0 items n
    → (HasShape found.item → ⊥) → IsFirstAtFault m at found.item
first_found m o at n items fault found e are whole bad =
    record {
      before = found.before;
      after = found.after;
      end = at + n;
      are = subst AreItems found.parts are;
      whole = subst (λ (l : List OptionItem). BeginsWith m at l (at + n)) found.parts (begins_at m o at n items e whole);
      earlier = found.earlier;
      fault = bad;
    }

by_fault : (m o : List ℕ) (at n : ℕ) (items : List OptionItem) (fault : OptionsFault) → FaultAt items fault → o ≡ drop at m → AreItems items → BeginsWith o 0 items n
    → OptionListAnswers m at (Err fault)
by_fault m o at n items Cut found e are whole = absurd (never_cut found.item found.fault_is)
by_fault m o at n items NoMemory found e are whole = absurd (never_memory found.item found.fault_is)
by_fault m o at n items BadKind found e are whole =
    let is = bad_kind_is found.item found.fault_is in
    (found.item, first_found m o at n items BadKind found e are whole is.1, is.0)
by_fault m o at n items BadShape found e are whole =
    let is = bad_shape_is found.item found.fault_is in
    (found.item, first_found m o at n items BadShape found e are whole is.1, is.0)

pub fault_answers : (m o : List ℕ) (at n : ℕ) (fault : OptionsFault) → o ≡ drop at m → EndsAt o n → SaysOf o n (λ items. Some fault ≡ first_fault items) → OptionListAnswers m at (Err fault)
fault_answers m o at n fault e ends bad =
    let first = bad ends.items ends.are.fit (list_taken o n ends) in
    by_fault m o at n ends.items fault (fault_at ends.items fault ends.are.fit (sym first)) e ends.are ends.whole

-- ---- two readings of the same octets

pub fit_all : (list : List OptionItem) → AllByRecursion HasShape list → AllByRecursion Fits list
fit_all [] all = tt
fit_all (x ∷ list) all = (all.0.fits, fit_all list all.1)

pub items_of_options : (list : List OptionItem) → AreOptions list → AreItems list
items_of_options list are = record { some = are.some; fit = fit_all list are.shapes }

pub one_reading : (m : List ℕ) (at : ℕ) (xs ys : List OptionItem) (end other : ℕ) → AreItems xs → AreItems ys → BeginsWith m at xs end → BeginsWith m at ys other → (xs ≡ ys) × (end ≡ other)
one_reading m at xs ys end other are others begins again =
    let same = (one_list xs ys (drop end m) (drop other m) are.fit others.fit are.some others.some (sym begins.spelling ∙ again.spelling)).0 in
    (same, begins.place ∙ ap (λ (l : List OptionItem). at + length (spelling_of l)) same ∙ sym again.place)

pub cut_or_whole : (m : List ℕ) (at : ℕ) (xs : List OptionItem) (end : ℕ) → AreItems xs → BeginsWith m at xs end → IsCut m at → ⊥
cut_or_whole m at xs end are begins cut =
    let here : spelling_of xs ++ (drop end m ++ cut.missing) ≡ spelling_of cut.items ++ [] =
    sym (append_assoc (spelling_of xs) (drop end m) cut.missing) ∙ ap (λ (l : List ℕ). l ++ cut.missing) (sym begins.spelling) ∙ cut.spelling ∙ sym (append-nil (spelling_of cut.items)) in
    let nothing : drop end m ++ cut.missing ≡ [] = (one_list xs cut.items (drop end m ++ cut.missing) [] are.fit cut.are.fit are.some cut.are.some here).1 in
    let some : 0 < length cut.missing = cut.some in
    absurd (omega (arith, ap length nothing, length-append (drop end m) cut.missing))

pub options_or_fault : (m : List ℕ) (at : ℕ) (list : List OptionItem) (end : ℕ) (item : OptionItem) → AreOptions list → BeginsWith m at list end → IsFirstAtFault m at item → ⊥
options_or_fault m at list end item are begins first =
    let same = (one_reading m at list (first.before ++ item ∷ first.after) end first.end (items_of_options list are) first.are begins first.whole).0 in
    first.fault (shape_within first.before item first.after (subst (AllByRecursion HasShape) same are.shapes))

pub one_fault : (m : List ℕ) (at : ℕ) (x y : OptionItem) → IsFirstAtFault m at x → IsFirstAtFault m at y → x ≡ y
one_fault m at x y first other =
    let same = (one_reading m at (first.before ++ x ∷ first.after) (other.before ++ y ∷ other.after) first.end other.end first.are other.are first.whole other.whole).0 in
    one_first first.before other.before x y first.after other.after first.earlier other.earlier first.fault other.fault same

-- ---- the clauses of reading

abbrev Found : Type 0
Found = Result (List OptionItem × ℕ) OptionsFault

pub spelled_some : (list : List OptionItem) → 0 < length list → 0 < length (spelling_of list)
spelled_some [] some = absurd (omega arith)
spelled_some (x ∷ list) some = omega arith

pub within_of : (m : List ℕ) (at : ℕ) (r : Found) → at ≤ length m → OptionListAnswers m at r → IfOk r (λ x. (at < x.1) × (x.1 ≤ length m))
within_of m at (Ok x) le a =
    let some = spelled_some x.0 a.0.some in
    let long = ap length a.1.spelling in
    let place = a.1.place in
    let first : at < x.1 = omega arith in
    (first, omega (arith, length-append (spelling_of x.0) (drop x.1 m), length-drop at m, length-drop x.1 m))
within_of m at (Err e) le a = tt

pub only_of : (m : List ℕ) (at : ℕ) (r : Found) → OptionListAnswers m at r → (list : List OptionItem) (end : ℕ) → AreOptions list → BeginsWith m at list end → (r ≡ Ok (list, end)) ⊎ (r ≡ Err NoMemory)
only_of m at (Ok x) a list end are begins =
    let same = one_reading m at x.0 list x.1 end (items_of_options x.0 a.0) (items_of_options list are) a.1 begins in
    let first : x.0 ≡ list = same.0 in
    let second : x.1 ≡ end = same.1 in
    inl (rw (first, second) refl)
only_of m at (Err Cut) a list end are begins = absurd (cut_or_whole m at list end (items_of_options list are) begins a)
only_of m at (Err BadKind) a list end are begins = absurd (options_or_fault m at list end a.0 are begins a.1)
only_of m at (Err BadShape) a list end are begins = absurd (options_or_fault m at list end a.0 are begins a.1)
only_of m at (Err NoMemory) a list end are begins = inr refl

pub memory_of : (m : List ℕ) (at : ℕ) (r : Found) → OptionListAnswers m at r → r ≡ Err NoMemory → (list : List OptionItem) × (end : ℕ) × AreOptions list × BeginsWith m at list end
memory_of m at r a e = subst (OptionListAnswers m at) e a

pub cut_then : (m : List ℕ) (at : ℕ) (r : Found) → OptionListAnswers m at r → r ≡ Err Cut → IsCut m at
cut_then m at r a e = subst (OptionListAnswers m at) e a

pub cut_if : (m : List ℕ) (at : ℕ) (r : Found) → OptionListAnswers m at r → IsCut m at → r ≡ Err Cut
cut_if m at (Ok x) a cut = absurd (cut_or_whole m at x.0 x.1 (items_of_options x.0 a.0) a.1 cut)
cut_if m at (Err Cut) a cut = refl
cut_if m at (Err BadKind) a cut = absurd (cut_or_whole m at (a.1.before ++ a.0 ∷ a.1.after) a.1.end a.1.are a.1.whole cut)
cut_if m at (Err BadShape) a cut = absurd (cut_or_whole m at (a.1.before ++ a.0 ∷ a.1.after) a.1.end a.1.are a.1.whole cut)
cut_if m at (Err NoMemory) a cut = absurd (cut_or_whole m at a.0 a.1 (items_of_options a.0 a.2) a.3 cut)

pub bad_kind_then : (m : List ℕ) (at : ℕ) (r : Found) → OptionListAnswers m at r → r ≡ Err BadKind → (item : OptionItem) × IsFirstAtFault m at item × (item.kind ≡ 0)
bad_kind_then m at r a e = subst (OptionListAnswers m at) e a

pub bad_kind_if : (m : List ℕ) (at : ℕ) (r : Found) → OptionListAnswers m at r → (item : OptionItem) × IsFirstAtFault m at item × (item.kind ≡ 0) → r ≡ Err BadKind
bad_kind_if m at (Ok x) a first = absurd (options_or_fault m at x.0 x.1 first.0 a.0 a.1 first.1)
bad_kind_if m at (Err Cut) a first = absurd (cut_or_whole m at (first.1.before ++ first.0 ∷ first.1.after) first.1.end first.1.are first.1.whole a)
bad_kind_if m at (Err BadKind) a first = refl
bad_kind_if m at (Err BadShape) a first = let same = one_fault m at a.0 first.0 a.1 first.1 in absurd (a.2 (ap (λ (i : OptionItem). i.kind) same ∙ first.2))
bad_kind_if m at (Err NoMemory) a first = absurd (options_or_fault m at a.0 a.1 first.0 a.2 a.3 first.1)

pub bad_shape_then : (m : List ℕ) (at : ℕ) (r : Found) → OptionListAnswers m at r → r ≡ Err BadShape → (item : OptionItem) × IsFirstAtFault m at item × (item.kind ≢ 0)
bad_shape_then m at r a e = subst (OptionListAnswers m at) e a

pub bad_shape_if : (m : List ℕ) (at : ℕ) (r : Found) → OptionListAnswers m at r → (item : OptionItem) × IsFirstAtFault m at item × (item.kind ≢ 0) → r ≡ Err BadShape
bad_shape_if m at (Ok x) a first = absurd (options_or_fault m at x.0 x.1 first.0 a.0 a.1 first.1)
bad_shape_if m at (Err Cut) a first = absurd (cut_or_whole m at (first.1.before ++ first.0 ∷ first.1.after) first.1.end first.1.are first.1.whole a)
bad_shape_if m at (Err BadKind) a first = let same = one_fault m at a.0 first.0 a.1 first.1 in absurd (first.2 (ap (λ (i : OptionItem). i.kind) (sym same) ∙ a.2))
bad_shape_if m at (Err BadShape) a first = refl
bad_shape_if m at (Err NoMemory) a first = absurd (options_or_fault m at a.0 a.1 first.0 a.2 a.3 first.1)

-- ---- what was written

-- the octets of a list, alone, begin with it
pub begins_alone : (list : List OptionItem) (o : List ℕ) → SpellsOptions list o → BeginsWith o 0 list (length o)
begins_alone list o spells =
    record {
      spelling = spells.spelling ∙ sym (append-nil (spelling_of list)) ∙ ap (λ (l : List ℕ). spelling_of list ++ l) (sym (drop_all (length o) o (omega arith)));
      place = omega (arith, ap length spells.spelling);
    }

-- what is answered there is the list, or memory ran out
pub read_back : (list again : List OptionItem) (end : ℕ) (o : List ℕ) → SpellsOptions list o → AreOptions again → BeginsWith o 0 again end → again ≡ list
read_back list again end o spells are begins =
    (one_reading o 0 again list end (length o) (items_of_options again are) (items_of_options list spells.options) begins (begins_alone list o spells)).0

pub fault_back : (x : List OptionItem × ℕ) (fault : OptionsFault) → (◌≡◌ {A = Found} (Err fault) (Ok x)) ⊎ (◌≡◌ {A = Found} (Err fault) (Err NoMemory)) → fault ≡ NoMemory
fault_back x fault only = elim only [ inl other ↦ absurd cc | inr same ↦ cc ]
