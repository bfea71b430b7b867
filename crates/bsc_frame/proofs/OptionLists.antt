-- Announced lists of header options, and the checks of them that pass.
-- It serves clauses of functions of `laws`, `lists` and `reading`.
use Rattle.std.proofs.Common.{◌≡◌, ◌≢◌, ℕ, zero, suc, ◌+◌, ◌≤◌, ◌⊎◌, inl, inr, Bool, true, false, List, [], ◌∷◌, ◌++◌, length, drop, refl, sym, ap, subst, ◌∙◌, arith}
use Rattle.std.specs.Prelude.{IsTrue, Result, Err}
use Rattle.std.specs.List.{AllByRecursion}
use Rattle.std.proofs.lemmas.List.{drop_at, drop-drop}
use Rattle.bsc_octets.specs.declared.envelope.Envelope.{Envelope}
use Rattle.bsc_octets.specs.Envelopes.{flags_in}
use Rattle.bsc_octets.specs.Forwarding.{function_in}
use Rattle.bsc_options.specs.declared.item.OptionItem.{OptionItem}
use Rattle.bsc_options.specs.declared.fault.OptionsFault.{OptionsFault}
use Rattle.bsc_options.specs.declared.fault.OptionsFault.TheVariants.{Cut, BadKind, BadShape, NoMemory}
use Rattle.bsc_options.specs.Spelling.{AreOptions, HasShape, has_items, spelling_of}
use Rattle.bsc_options.specs.Reading.{BeginsWith, IsCut, IsFirstAtFault}
use Rattle.bsc_options.proofs.Chains.{has_items-some}
use Rattle.bsc_options.proofs.Exact.{fit_all, one_reading}
use Rattle.bsc_frame.specs.declared.check.Check.TheVariants.{C7, C7b, C8}
use Rattle.bsc_frame.specs.Spelling.{TakesDataOptions}
use Rattle.bsc_frame.specs.Layout.{announces_dest_options, announces_data_options, options_at, IsList}
use Rattle.bsc_frame.specs.Checks.{MessageFails, IsFirstOf, HasItemAtFault, LacksOptionOctets, OfDestOptions, OfDataOptions, HasBadOption, HasMisplacedDataOptions}
use Rattle.bsc_frame.specs.Walk.{option_checks}
use Rattle.bsc_frame.proofs.First.{Pass}
use Rattle.bsc_frame.proofs.Heads.{HeadFacts}
use Rattle.bsc_frame.proofs.Common.{list_without_fault, not_cut as list_not_cut}

-- ---- one list

-- it is one list, and ends at one place
pub list_one : (b : Bool) (m : List ℕ) (at : ℕ) (xs ys : List OptionItem) (end other : ℕ) → IsList b m at xs end → IsList b m at ys other → (xs ≡ ys) × (end ≡ other)
list_one true m at xs ys end other p q = one_reading m at xs ys end other p.0 q.0 p.1 q.1
list_one false m at xs ys end other p q = (p.0 ∙ sym q.0, p.1 ∙ sym q.1)

-- it is announced where there are items
pub list_announced : (b : Bool) (m : List ℕ) (at : ℕ) (items : List OptionItem) (end : ℕ) → IsList b m at items end → b ≡ has_items items
list_announced true m at items end p = sym (has_items-some items p.0.some)
list_announced false m at items end p = rw p.0 refl

pub list_spelled : (b : Bool) (m : List ℕ) (at : ℕ) (items : List OptionItem) (end : ℕ) → IsList b m at items end → drop at m ≡ spelling_of items ++ drop end m
list_spelled true m at items end p = p.1.spelling
list_spelled false m at items end p = rw (p.0, p.1) refl

-- where the items' octets stand, there is the list
pub list_of : (b : Bool) (m : List ℕ) (at : ℕ) (items : List OptionItem) (rest : List ℕ) → b ≡ has_items items → AllByRecursion HasShape items → drop at m ≡ spelling_of items ++ rest
    → IsList b m at items (at + length (spelling_of items))
list_of b m at [] rest is shapes e = rw is (refl, omega arith)
list_of b m at (x ∷ xs) rest is shapes e =
    let items = x ∷ xs in
    let after : drop (at + length (spelling_of items)) m ≡ rest = sym (drop-drop (length (spelling_of items)) at m) ∙ ap (drop (length (spelling_of items))) e
    ∙ drop_at (spelling_of items) rest (length (spelling_of items)) refl in
    rw is (record { some = omega arith; fit = fit_all items shapes }, record { spelling = e ∙ ap (λ (l : List ℕ). spelling_of items ++ l) (sym after); place = refl })

-- the list that another reading found at its place
pub list_read : (b : Bool) (m : List ℕ) (at : ℕ) (xs ys : List OptionItem) (end other : ℕ) → b ≡ true → AreOptions xs → BeginsWith m at xs other → IsList b m at ys end → xs ≡ ys
list_read true m at xs ys end other set are begins p = (one_reading m at xs ys other end (record { some = are.some; fit = fit_all xs are.shapes }) p.0 begins p.1).0
list_read false m at xs ys end other set are begins p = absurd cc

-- no item of it is at fault where it is read
pub shapes_of : (b : Bool) (m : List ℕ) (at : ℕ) (xs ys : List OptionItem) (end other : ℕ) → b ≡ true → AreOptions xs → BeginsWith m at xs other → IsList b m at ys end → AllByRecursion HasShape ys
shapes_of b m at xs ys end other set are begins p = subst (AllByRecursion HasShape) (list_read b m at xs ys end other set are begins p) are.shapes

-- what a fault says of a list that is whole
pub item_of_fault : (b : Bool) (m : List ℕ) (at : ℕ) (r : Result ℕ OptionsFault) (fault : OptionsFault) → b ≡ true → (end : ℕ) × (items : List OptionItem) × IsList b m at items end
    → (r ≡ Err Cut → IsCut m at)
    → (r ≡ Err BadKind → (item : OptionItem) × IsFirstAtFault m at item × (item.kind ≡ 0)) → (r ≡ Err BadShape → (item : OptionItem) × IsFirstAtFault m at item × (item.kind ≢ 0))
    → (r ≢ Err NoMemory) → r ≡ Err fault → HasItemAtFault m at
item_of_fault b m at r Cut set whole cut kind shape memory e = absurd (list_not_cut b m at whole.1 whole.0 whole.2 set (cut e))
item_of_fault b m at r BadKind set whole cut kind shape memory e = let found = kind e in (found.0, found.1)
item_of_fault b m at r BadShape set whole cut kind shape memory e = let found = shape e in (found.0, found.1)
item_of_fault b m at r NoMemory set whole cut kind shape memory e = absurd (memory e)

-- ---- the lists of a message

pub record AreLists (m : List ℕ) (at : ℕ) (end : ℕ) (xs : List OptionItem) (ys : List OptionItem) : Type 0 where
  pub first : IsList (announces_dest_options (flags_in m)) m (options_at m) xs at
  pub second : IsList (announces_data_options (flags_in m)) m at ys end

-- the first list, by the flags and the place of the envelope
pub first_list : (m : List ℕ) (e : Envelope) → HeadFacts m e → (b : Bool) → b ≡ announces_dest_options e.flags → (xs : List OptionItem) (at : ℕ) → IsList b m e.rest_at xs at
    → IsList (announces_dest_options (flags_in m)) m (options_at m) xs at
first_list m e facts b is xs at p =
    subst (λ (c : Bool). IsList c m (options_at m) xs at) (is ∙ ap announces_dest_options (sym facts.flags)) (subst (λ (place : ℕ). IsList b m place xs at) (sym facts.place) p)

pub are_lists : (m : List ℕ) (e : Envelope) → HeadFacts m e → (b c : Bool) → b ≡ announces_dest_options e.flags → c ≡ announces_data_options e.flags → (xs ys : List OptionItem) (at end : ℕ)
    → IsList b m e.rest_at xs at → IsList c m at ys end → AreLists m at end xs ys
are_lists m e facts b c is also xs ys at end p q =
    record {
      first = first_list m e facts b is xs at p;
      second = subst (λ (d : Bool). IsList d m at ys end) (also ∙ ap announces_data_options (sym facts.flags)) q;
    }

-- ---- the checks

-- what holds at the place of a list that the envelope's flags announce
pub of_first : (P : ℕ → Type 0) (m : List ℕ) (e : Envelope) → HeadFacts m e → (b : Bool) → b ≡ announces_dest_options e.flags → b ≡ true → P e.rest_at → OfDestOptions m P
of_first P m e facts b is set p = (ap announces_dest_options facts.flags ∙ sym is ∙ set, subst P (sym facts.place) p)

pub of_second : (P : ℕ → Type 0) (m : List ℕ) (e : Envelope) → HeadFacts m e → (b c : Bool) → b ≡ announces_dest_options e.flags → c ≡ announces_data_options e.flags → c ≡ true
    → (xs : List OptionItem) (at : ℕ) → IsList b m e.rest_at xs at → P at → OfDataOptions m P
of_second P m e facts b c is also set xs at list p = (ap announces_data_options facts.flags ∙ sym also ∙ set, (at, (xs, first_list m e facts b is xs at list), p))

no_octets_lack : (m : List ℕ) (at end : ℕ) (xs ys : List OptionItem) → AreLists m at end xs ys → LacksOptionOctets m → ⊥
no_octets_lack m at end xs ys lists (inl lack) = list_not_cut (announces_dest_options (flags_in m)) m (options_at m) xs at lists.first lack.0 lack.1
no_octets_lack m at end xs ys lists (inr lack) =
    let same : lack.1.0 ≡ at = (list_one (announces_dest_options (flags_in m)) m (options_at m) lack.1.1.0 xs lack.1.0 at lack.1.1.1 lists.first).1 in
    list_not_cut (announces_data_options (flags_in m)) m at ys end lists.second lack.0 (subst (IsCut m) same lack.1.2)

no_bad_option : (m : List ℕ) (at end : ℕ) (xs ys : List OptionItem) → AreLists m at end xs ys → AllByRecursion HasShape xs → AllByRecursion HasShape ys → HasBadOption m → ⊥
no_bad_option m at end xs ys lists shapes others (inl bad) = list_without_fault (announces_dest_options (flags_in m)) m (options_at m) xs at lists.first shapes bad.0 bad.1
no_bad_option m at end xs ys lists shapes others (inr bad) =
    let same : bad.1.0 ≡ at = (list_one (announces_dest_options (flags_in m)) m (options_at m) bad.1.1.0 xs bad.1.0 at bad.1.1.1 lists.first).1 in
    list_without_fault (announces_data_options (flags_in m)) m at ys end lists.second others bad.0 (subst (HasItemAtFault m) same bad.1.2)

well_placed : (m : List ℕ) → (IsTrue (announces_data_options (flags_in m)) → TakesDataOptions (function_in m)) → HasMisplacedDataOptions m → ⊥
well_placed m place wrong =
    elim (place wrong.0) [
      | inl npdu ↦ elim wrong.1 [ inl first ↦ absurd (omega arith) | inr between ↦ (let low = between.0 in absurd (omega arith)) ]
      | inr own ↦ elim wrong.1 [ inl first ↦ absurd (omega arith) | inr between ↦ (let high = between.1 in absurd (omega arith)) ]
    ]

pub lists_pass : (m : List ℕ) (at end : ℕ) (xs ys : List OptionItem) → AreLists m at end xs ys → AllByRecursion HasShape xs → AllByRecursion HasShape ys
    → (IsTrue (announces_data_options (flags_in m)) → TakesDataOptions (function_in m)) → Pass (MessageFails m) option_checks
lists_pass m at end xs ys lists shapes others place = (no_octets_lack m at end xs ys lists, (no_bad_option m at end xs ys lists shapes others, (well_placed m place, tt)))

pub first_lacks : (m : List ℕ) → LacksOptionOctets m → IsFirstOf option_checks (MessageFails m) C7
first_lacks m lack = record { before = []; after = C7b ∷ C8 ∷ []; place = refl; earlier = tt; fault = lack }

pub first_bad : (m : List ℕ) (at end : ℕ) (xs ys : List OptionItem) → AreLists m at end xs ys → HasBadOption m → IsFirstOf option_checks (MessageFails m) C7b
first_bad m at end xs ys lists bad = record { before = C7 ∷ []; after = C8 ∷ []; place = refl; earlier = (no_octets_lack m at end xs ys lists, tt); fault = bad }

-- data options on a function of its envelope that takes none
pub misplaced : (m : List ℕ) (e : Envelope) → HeadFacts m e → (c : Bool) → c ≡ announces_data_options e.flags → c ≡ true → e.function ≤ 0x0C → e.function ≢ 0x01 → e.function ≢ 0x0C
    → HasMisplacedDataOptions m
misplaced m e facts c also set low npdu own = (ap announces_data_options facts.flags ∙ sym also ∙ set, by e.function refl)
  where
    by : (f : ℕ) → e.function ≡ f → (function_in m ≡ 0x00) ⊎ ((0x02 ≤ function_in m) × (function_in m ≤ 0x0B))
    by zero is = inl (facts.function ∙ is)
    by (suc zero) is = absurd (npdu is)
    by (suc (suc f)) is = let same = facts.function in inr (omega arith, (let other : e.function ≡ 12 → ⊥ = own in omega arith))

pub well : (m : List ℕ) (e : Envelope) → HeadFacts m e → (c : Bool) → c ≡ announces_data_options e.flags → (c ≡ true → TakesDataOptions e.function)
    → IsTrue (announces_data_options (flags_in m)) → TakesDataOptions (function_in m)
well m e facts c also place set = subst TakesDataOptions (sym facts.function) (place (also ∙ ap announces_data_options (sym facts.flags) ∙ set))

pub first_misplaced : (m : List ℕ) (at end : ℕ) (xs ys : List OptionItem) → AreLists m at end xs ys → AllByRecursion HasShape xs → AllByRecursion HasShape ys → HasMisplacedDataOptions m
    → IsFirstOf option_checks (MessageFails m) C8
first_misplaced m at end xs ys lists shapes others wrong =
    record { before = C7 ∷ C7b ∷ []; after = []; place = refl; earlier = (no_octets_lack m at end xs ys lists, (no_bad_option m at end xs ys lists shapes others, tt)); fault = wrong }
