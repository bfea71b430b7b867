-- What is left of a list of items, where it is read from the front.
-- It serves the clauses of `first_fault` and `items_of`.
use Rattle.std.proofs.Common.{◌≡◌, ℕ, ◌<◌, Bool, List, [], ◌∷◌, ◌++◌, length, Option, Some, None, refl, sym, ap, ◌∙◌, append_assoc, arith, length-append}
use Rattle.std.specs.List.{AllByRecursion}
use Rattle.std.specs.Option.{option_or}
use Rattle.std.proofs.lemmas.List.{append-nil}
use Rattle.bsc_options.specs.declared.item.OptionItem.{OptionItem}
use Rattle.bsc_options.specs.declared.fault.OptionsFault.{OptionsFault}
use Rattle.bsc_options.specs.Spelling.{Fits, has_items, item_octets, spelling_of}
use Rattle.bsc_options.specs.Walk.{IsCutItem, fault_of, first_fault}
use Rattle.bsc_options.proofs.Unique.{one_item}

-- the item that the octets of a list begin with is its first
pub next_left : (tail : List OptionItem) (rest next : List ℕ) (follows : Bool) (item : OptionItem) → AllByRecursion Fits tail → rest ≡ spelling_of tail → Fits item
    → rest ≡ item_octets follows item ++ next
    → (others : List OptionItem) × (tail ≡ item ∷ others) × AllByRecursion Fits others × (next ≡ spelling_of others)
next_left [] rest next follows item all e fits found = absurd (omega (arith, ap length (sym e ∙ found)))
next_left (x ∷ others) rest next follows item all e fits found =
    let same = one_item follows (has_items others) item x next (spelling_of others) fits all.0 (sym found ∙ e) in
    (others, ap (λ (i : OptionItem). i ∷ others) (sym same.1), all.1, same.2)

-- where octets of an item are missing there is none left
pub none_left : (tail : List OptionItem) (rest : List ℕ) → AllByRecursion Fits tail → rest ≡ spelling_of tail → IsCutItem rest → tail ≡ []
none_left [] rest all e cut = refl
none_left (x ∷ others) rest all e cut =
    let here : item_octets (has_items others) x ++ (spelling_of others ++ cut.missing) ≡ item_octets cut.follows cut.item ++ [] =
    sym (append_assoc (item_octets (has_items others) x) (spelling_of others) cut.missing) ∙ ap (λ (l : List ℕ). l ++ cut.missing) (sym e) ∙ cut.spelling
    ∙ sym (append-nil (item_octets cut.follows cut.item)) in
    let same = one_item (has_items others) cut.follows x cut.item (spelling_of others ++ cut.missing) [] all.0 cut.fits here in
    let some : 0 < length cut.missing = cut.some in
    absurd (omega (arith, ap length same.2, length-append (spelling_of others) cut.missing))

-- ---- the first fault

-- the first fault of the items that `list` spells is the first of those that `rest` does
abbrev pub FaultLeft : List ℕ → List ℕ → Type 0
FaultLeft list rest = (items : List OptionItem) → AllByRecursion Fits items → list ≡ spelling_of items
    → (tail : List OptionItem) × AllByRecursion Fits tail × (rest ≡ spelling_of tail) × (first_fault items ≡ first_fault tail)

pub fault_on : (list rest next : List ℕ) (follows : Bool) (item : OptionItem) → FaultLeft list rest → Fits item → rest ≡ item_octets follows item ++ next → None ≡ fault_of item → FaultLeft list next
fault_on list rest next follows item left fits found sound items all e =
    let so_far = left items all e in
    let step = next_left so_far.0 rest next follows item so_far.1 so_far.2 fits found in
    let first : first_fault (item ∷ step.0) ≡ first_fault step.0 = ap (λ (f : Option OptionsFault). option_or f (first_fault step.0)) (sym sound) in
    (step.0, step.2, step.3, so_far.3 ∙ ap first_fault step.1 ∙ first)

pub fault_here : (list rest next : List ℕ) (follows : Bool) (item : OptionItem) (fault : OptionsFault) → FaultLeft list rest → Fits item → rest ≡ item_octets follows item ++ next
    → Some fault ≡ fault_of item
    → (items : List OptionItem) → AllByRecursion Fits items → list ≡ spelling_of items → Some fault ≡ first_fault items
fault_here list rest next follows item fault left fits found bad items all e =
    let so_far = left items all e in
    let step = next_left so_far.0 rest next follows item so_far.1 so_far.2 fits found in
    let first : first_fault (item ∷ step.0) ≡ Some fault = ap (λ (f : Option OptionsFault). option_or f (first_fault step.0)) (sym bad) in
    sym (so_far.3 ∙ ap first_fault step.1 ∙ first)

pub fault_nowhere : (list rest : List ℕ) → FaultLeft list rest → IsCutItem rest → (items : List OptionItem) → AllByRecursion Fits items → list ≡ spelling_of items → None ≡ first_fault items
fault_nowhere list rest left cut items all e =
    let so_far = left items all e in
    sym (so_far.3 ∙ ap first_fault (none_left so_far.0 rest so_far.1 so_far.2 cut))

-- ---- the items

-- the items that `list` spells are those before and those that `rest` spells
abbrev pub ItemsLeft : List ℕ → List ℕ → List OptionItem → Type 0
ItemsLeft list rest before = (items : List OptionItem) → AllByRecursion Fits items → list ≡ spelling_of items
    → (tail : List OptionItem) × AllByRecursion Fits tail × (rest ≡ spelling_of tail) × (items ≡ before ++ tail)

pub items_on : (list rest next : List ℕ) (before : List OptionItem) (follows : Bool) (item : OptionItem) → ItemsLeft list rest before → Fits item → rest ≡ item_octets follows item ++ next
    → ItemsLeft list next (before ++ item ∷ [])
items_on list rest next before follows item left fits found items all e =
    let so_far = left items all e in
    let step = next_left so_far.0 rest next follows item so_far.1 so_far.2 fits found in
    (step.0, step.2, step.3, so_far.3 ∙ ap (λ (l : List OptionItem). before ++ l) step.1 ∙ sym (append_assoc before (item ∷ []) step.0))

pub items_done : (list rest : List ℕ) (before : List OptionItem) → ItemsLeft list rest before → IsCutItem rest → (items : List OptionItem) → AllByRecursion Fits items
    → list ≡ spelling_of items → before ≡ items
items_done list rest before left cut items all e =
    let so_far = left items all e in
    sym (so_far.3 ∙ ap (λ (l : List OptionItem). before ++ l) (none_left so_far.0 rest so_far.1 so_far.2 cut) ∙ append-nil before)
