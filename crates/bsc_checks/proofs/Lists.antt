-- The two lists of header options of a message, and the checks of them.
-- It serves clauses of functions of `judging` and `option_checks`.
use Rattle.std.proofs.Common.{◌≡◌, ℕ, ◌-◌, Bool, List, [], ◌∷◌, ◌++◌, length, take, drop, Option, Some, None, Ok, Err, refl, sym, ap, subst, ◌∙◌, arith}
use Rattle.std.specs.Prelude.{IfSome, IfNone}
use Rattle.std.specs.List.{AllByRecursion}
use Rattle.std.proofs.lemmas.List.{take_at}
use Rattle.bsc_octets.specs.declared.envelope.Envelope.{Envelope}
use Rattle.bsc_octets.specs.Envelopes.{flags_in}
use Rattle.bsc_options.specs.declared.item.OptionItem.{OptionItem}
use Rattle.bsc_options.specs.Spelling.{Fits, spelling_of}
use Rattle.bsc_frame.specs.declared.check.Check.{Check}
use Rattle.bsc_frame.specs.declared.check.Check.TheVariants.{C1, C3, C5, C6, C7, C7b, C8, C9, C10, C10b, C10c, C11}
use Rattle.bsc_frame.specs.declared.lists.Ends.{Ends}
use Rattle.bsc_frame.specs.Layout.{announces_dest_options, announces_data_options, options_at, IsList}
use Rattle.bsc_frame.specs.Checks.{IsFirstOf, MessageFails}
use Rattle.bsc_frame.specs.Walk.{HasLists, option_checks as frame_checks}
use Rattle.bsc_frame.proofs.Common.{list_fits, list_place}
use Rattle.bsc_frame.proofs.First.{Pass, first_as, first_earlier, first_here, first_after}
use Rattle.bsc_frame.proofs.Heads.{head_facts}
use Rattle.bsc_frame.proofs.OptionLists.{list_one, list_spelled, lists_pass, well}
use Rattle.bsc_checks.specs.declared.place.Place.{Place}
use Rattle.bsc_checks.specs.declared.failed_check.FailedCheck.{FailedCheck}
use Rattle.bsc_checks.specs.Naks.{IsMarker}
use Rattle.bsc_checks.specs.Table.{Fails, IsFirstNotUnderstood, HasOptionNotUnderstood}
use Rattle.bsc_checks.specs.Walk.{IsHead, HasEnds, OptionsAnswer, marker_refused}
use Rattle.bsc_checks.proofs.Behind.{refused_at, refused_none}

-- ---- one list

-- the octets of the list alone
list_taken : (b : Bool) (m : List ℕ) (at : ℕ) (items : List OptionItem) (end : ℕ) → IsList b m at items end → take (end - at) (drop at m) ≡ spelling_of items
list_taken b m at items end list =
    let place = list_place b m at items end list in
    let long : length (spelling_of items) ≡ end - at = omega arith in
    ap (take (end - at)) (list_spelled b m at items end list) ∙ take_at (spelling_of items) (drop end m) (end - at) long

-- ---- the lists of a message

-- the lists that `bsc_frame` found, by the flags and the place that the octets say
pub has_ends : (m : List ℕ) (e : Envelope) (ends : Ends) (xs ys : List OptionItem) → IsHead m e → HasLists m e ends.dest ends.data xs ys → HasEnds m ends xs ys
has_ends m e ends xs ys head lists =
    record {
      first = subst (λ (at : ℕ). IsList (announces_dest_options (flags_in m)) m at xs ends.dest) (sym head.rest)
          (subst (λ (b : Bool). IsList b m e.rest_at xs ends.dest) (ap announces_dest_options (sym head.flags)) lists.dest_list);
      second = subst (λ (b : Bool). IsList b m ends.dest ys ends.data) (ap announces_data_options (sym head.flags)) lists.data_list;
      middle = lists.middle;
      within = lists.within;
    }

-- the first list, by the flags of the envelope
pub first_whole : (m : List ℕ) (e : Envelope) (ends : Ends) (xs ys : List OptionItem) (b : Bool) → IsHead m e → HasEnds m ends xs ys → b ≡ announces_dest_options e.flags
    → IsList b m e.rest_at xs ends.dest
first_whole m e ends xs ys b head has is =
    subst (λ (c : Bool). IsList c m e.rest_at xs ends.dest) (ap announces_dest_options head.flags ∙ sym is)
    (subst (λ (at : ℕ). IsList (announces_dest_options (flags_in m)) m at xs ends.dest) head.rest has.first)

-- ---- an option that is not understood

-- by the items of the list
refused_found : (m : List ℕ) (ends : Ends) (xs ys : List OptionItem) (marker : ℕ) → HasEnds m ends xs ys → marker_refused xs ≡ Some marker → IsFirstNotUnderstood m marker
refused_found m ends xs ys marker has e =
    let at = refused_at xs marker e in
    record {
      before = at.before;
      item = at.item;
      after = at.after;
      end = ends.dest;
      list = subst (λ (l : List OptionItem). IsList (announces_dest_options (flags_in m)) m (options_at m) l ends.dest) at.parts has.first;
      earlier = at.earlier;
      fault = at.fault;
      marker_is = at.marker_is;
    }

all_understood : (m : List ℕ) (ends : Ends) (xs ys : List OptionItem) → HasEnds m ends xs ys → marker_refused xs ≡ None → HasOptionNotUnderstood m → ⊥
all_understood m ends xs ys has none found =
    let first = found.1 in
    let same : first.before ++ first.item ∷ first.after ≡ xs = (list_one (announces_dest_options (flags_in m)) m (options_at m)
    (first.before ++ first.item ∷ first.after) xs first.end ends.dest first.list has.first).0 in
    refused_none first.before first.item first.after (ap marker_refused same ∙ none) first.fault

-- what the walk over the octets of the list says of its items
abbrev WalkSays : List ℕ → Option ℕ → Type 0
WalkSays list r = (items : List OptionItem) → AllByRecursion Fits items → list ≡ spelling_of items → r ≡ marker_refused items

walk_says : (m : List ℕ) (e : Envelope) (ends : Ends) (xs ys : List OptionItem) (r : Option ℕ) → IsHead m e → HasEnds m ends xs ys
    → WalkSays (take (ends.dest - e.rest_at) (drop e.rest_at m)) r → r ≡ marker_refused xs
walk_says m e ends xs ys r head has says =
    says xs (list_fits (announces_dest_options (flags_in m)) m (options_at m) xs ends.dest has.first)
    (list_taken (announces_dest_options e.flags) m e.rest_at xs ends.dest (first_whole m e ends xs ys (announces_dest_options e.flags) head has refl))

pub understood_found : (m : List ℕ) (e : Envelope) (ends : Ends) (xs ys : List OptionItem) (r : Option ℕ) → IsHead m e → HasEnds m ends xs ys
    → WalkSays (take (ends.dest - e.rest_at) (drop e.rest_at m)) r → IfSome r (λ marker. IsFirstNotUnderstood m marker)
understood_found m e ends xs ys (Some marker) head has says = refused_found m ends xs ys marker has (sym (walk_says m e ends xs ys (Some marker) head has says))
understood_found m e ends xs ys None head has says = tt

pub understood_none : (m : List ℕ) (e : Envelope) (ends : Ends) (xs ys : List OptionItem) (r : Option ℕ) → IsHead m e → HasEnds m ends xs ys
    → WalkSays (take (ends.dest - e.rest_at) (drop e.rest_at m)) r → IfNone r (HasOptionNotUnderstood m → ⊥)
understood_none m e ends xs ys (Some marker) head has says = tt
understood_none m e ends xs ys None head has says = all_understood m ends xs ys has (sym (walk_says m e ends xs ys None head has says))

-- ---- the answers

-- a refusal with marker 00
abbrev pub plain : Check → FailedCheck
plain k = record { check = k; marker = 0 }

-- a check that fails of octets fails of them at each place
fails_at : (m : List ℕ) (place : Place) (max : ℕ) (k : Check) → MessageFails m k → Fails m place max k
fails_at m place max C1 fault = fault
fails_at m place max C3 fault = fault
fails_at m place max C5 fault = fault
fails_at m place max C6 fault = fault
fails_at m place max C7 fault = fault
fails_at m place max C7b fault = fault
fails_at m place max C8 fault = fault
fails_at m place max C10 fault = fault
fails_at m place max C10b fault = fault
fails_at m place max C10c fault = fault
fails_at m place max C11 fault = fault
fails_at m place max k fault = absurd fault

-- and has the marker 00
plain_marker : (m : List ℕ) (k : Check) → MessageFails m k → IsMarker m k 0
plain_marker m C9 fault = absurd fault
plain_marker m k fault = refl

-- the first check that fails of the lists, of those that `bsc_frame` makes
pub first_answer : (m : List ℕ) (place : Place) (max : ℕ) (r : FailedCheck) (k : Check) → r ≡ plain k → IsFirstOf frame_checks (MessageFails m) k → OptionsAnswer m place max (Err r)
first_answer m place max r k is first =
    let fails = Fails m place max in
    rw is (
      first_earlier fails frame_checks (C9 ∷ []) k (first_as (MessageFails m) fails frame_checks k (fails_at m place max) ((λ x. x), ((λ x. x), ((λ x. x), tt))) first),
      plain_marker m k first.fault,
    )

-- none of these fails
pub lists_are_good : (m : List ℕ) (e : Envelope) (ends : Ends) (xs ys : List OptionItem) → IsHead m e → HasLists m e ends.dest ends.data xs ys → Pass (MessageFails m) frame_checks
lists_are_good m e ends xs ys head lists =
    let has = has_ends m e ends xs ys head lists in
    lists_pass m ends.dest ends.data xs ys (record { first = has.first; second = has.second }) lists.dest_shapes lists.data_shapes
    (well m e (head_facts m e head.spells head.whole) (announces_data_options e.flags) refl lists.place)

pub not_understood_answer : (m : List ℕ) (place : Place) (max : ℕ) (marker : ℕ) → Pass (MessageFails m) frame_checks → IsFirstNotUnderstood m marker
    → OptionsAnswer m place max (Err (record { check = C9; marker = marker }))
not_understood_answer m place max marker pass first =
    let fails = Fails m place max in (
      first_after fails C7 (C7b ∷ C8 ∷ C9 ∷ []) C9 pass.0 (first_after fails C7b (C8 ∷ C9 ∷ []) C9 pass.1.0 (first_after fails C8 (C9 ∷ []) C9 pass.1.1.0 (first_here fails C9 [] (marker, first)))),
      first,
    )

pub options_pass : (m : List ℕ) (place : Place) (max : ℕ) (ends : Ends) (xs ys : List OptionItem) → HasEnds m ends xs ys → Pass (MessageFails m) frame_checks → (HasOptionNotUnderstood m → ⊥)
    → OptionsAnswer m place max (Ok ends)
options_pass m place max ends xs ys has pass understood = ((xs, ys, has), (pass.0, (pass.1.0, (pass.1.1.0, (understood, tt)))))
