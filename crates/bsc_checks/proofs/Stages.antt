-- The checks behind the head, stage by stage.
-- It serves the clauses of `later_refusal` and `refusal`.
use Rattle.std.proofs.Common.{◌≡◌, ℕ, ◌<◌, ◌≤◌, Bool, false, List, [], ◌∷◌, ◌++◌, drop, Option, Some, None, Ok, Err, refl, sym, subst, ◌∙◌, arith}
use Rattle.std.specs.List.{AllByRecursion}
use Rattle.bsc_octets.specs.declared.envelope.Envelope.{Envelope}
use Rattle.bsc_octets.specs.declared.vmac.Vmac.{Vmac}
use Rattle.bsc_octets.specs.Forwarding.{function_in}
use Rattle.bsc_options.specs.declared.item.OptionItem.{OptionItem}
use Rattle.bsc_frame.specs.declared.check.Check.{Check}
use Rattle.bsc_frame.specs.declared.check.Check.TheVariants.{C5, C6, C9, C10, C10b, C10c, C11, C12, C13}
use Rattle.bsc_frame.specs.Layout.{IsPayload}
use Rattle.bsc_frame.specs.Checks.{IsFirstOf}
use Rattle.bsc_frame.specs.Walk.{PayloadAnswers, PayloadFails, payload_checks}
use Rattle.bsc_frame.proofs.First.{Pass, pass_append, first_later, first_earlier, first_as, first_here, first_after}
use Rattle.bsc_frame.proofs.Whole.{one_payload}
use Rattle.bsc_frame.specs.declared.lists.Ends.{Ends}
use Rattle.bsc_checks.specs.declared.place.Place.{Place}
use Rattle.bsc_checks.specs.declared.failed_check.FailedCheck.{FailedCheck}
use Rattle.bsc_checks.specs.Places.{origin_in, is_to_carry, IsInPlace}
use Rattle.bsc_checks.specs.Table.{Fails, later_checks, IsOutOfPlace}
use Rattle.bsc_checks.specs.Naks.{IsMarker}
use Rattle.bsc_checks.specs.Walk.{IsHead, HasEnds, NoneOf, ChecksAnswer, OptionsAnswer, between, from_flags, option_checks}
use Rattle.bsc_checks.proofs.Lists.{plain}
use Rattle.bsc_frame.proofs.Common.{of_payload}

-- ---- the payload of a message

payload_here : (m : List ℕ) (ends : Ends) (xs ys : List OptionItem) (p : List ℕ) → HasEnds m ends xs ys → p ≡ drop ends.data m → IsPayload m p
payload_here m ends xs ys p has rest = record { at = ends.dest; items = ys; end = ends.data; before = (xs, has.first); list = has.second; rest = rest }

payload_to : (m : List ℕ) (place : Place) (max f : ℕ) (p : List ℕ) → IsPayload m p → function_in m ≡ f → (k : Check) → PayloadFails f p k → Fails m place max k
payload_to m place max f p here is C10 fault = (p, here, subst (λ (g : ℕ). PayloadFails g p C10) (sym is) fault)
payload_to m place max f p here is C10b fault = (p, here, subst (λ (g : ℕ). PayloadFails g p C10b) (sym is) fault)
payload_to m place max f p here is C10c fault = (p, here, subst (λ (g : ℕ). PayloadFails g p C10c) (sym is) fault)
payload_to m place max f p here is C11 fault = (p, here, subst (λ (g : ℕ). PayloadFails g p C11) (sym is) fault)
payload_to m place max f p here is k fault = absurd fault

payload_from : (m : List ℕ) (place : Place) (max f : ℕ) (p : List ℕ) → function_in m ≡ f → ((q : List ℕ) → IsPayload m q → q ≡ p)
    → AllByRecursion (λ k. Fails m place max k → PayloadFails f p k) payload_checks
payload_from m place max f p is one = (of_payload m f p C10 is one, (of_payload m f p C10b is one, (of_payload m f p C10c is one, (of_payload m f p C11 is one, tt))))

one_here : (m : List ℕ) (ends : Ends) (xs ys : List OptionItem) (p : List ℕ) → HasEnds m ends xs ys → p ≡ drop ends.data m → (q : List ℕ) → IsPayload m q → q ≡ p
one_here m ends xs ys p has rest q is = one_payload m ends.dest ends.data xs ys q (record { first = has.first; second = has.second }) is ∙ sym rest

-- a check of the payload has the marker 00
plain_marker : (m : List ℕ) (f : ℕ) (p : List ℕ) (k : Check) → PayloadFails f p k → IsMarker m k 0
plain_marker m f p C9 fault = absurd fault
plain_marker m f p k fault = refl

-- ---- the checks between

-- the checks behind those of the options
abbrev last_checks : List Check
last_checks = payload_checks ++ C12 ∷ []

between_first : (m : List ℕ) (place : Place) (max : ℕ) (b : Bool) (r : FailedCheck) → b ≡ false → IsFirstOf later_checks (Fails m place max) r.check → IsMarker m r.check r.marker
    → ChecksAnswer (between b) m place max (Some r)
between_first m place max b r clear first marker = rw clear (first, marker)

pub unknown_first : (m : List ℕ) (e : Envelope) (place : Place) (max : ℕ) (b : Bool) (r : FailedCheck) → b ≡ false → r ≡ plain C6 → IsHead m e → 0x0C < e.function
    → ChecksAnswer (between b) m place max (Some r)
unknown_first m e place max b r clear is head unknown =
    let same = head.function in
    rw is (between_first m place max b (plain C6) clear (first_here (Fails m place max) C6 (option_checks ++ last_checks) (omega arith)) refl)

known : (m : List ℕ) (e : Envelope) (place : Place) (max : ℕ) → IsHead m e → e.function ≤ 0x0C → Fails m place max C6 → ⊥
known m e place max head few unknown = absurd (let same = head.function in omega arith)

pub options_first : (m : List ℕ) (e : Envelope) (place : Place) (max : ℕ) (b : Bool) (r : FailedCheck) → b ≡ false → IsHead m e → e.function ≤ 0x0C → OptionsAnswer m place max (Err r)
    → ChecksAnswer (between b) m place max (Some r)
options_first m e place max b r clear head few answer =
    between_first m place max b r clear (first_after (Fails m place max) C6 (option_checks ++ last_checks) r.check (known m e place max head few)
    (first_earlier (Fails m place max) option_checks last_checks r.check answer.0)) answer.1

-- none of the checks before the payload fails
front_passes : (m : List ℕ) (e : Envelope) (place : Place) (max : ℕ) (ends : Ends) → IsHead m e → e.function ≤ 0x0C → OptionsAnswer m place max (Ok ends)
    → Pass (Fails m place max) (C6 ∷ option_checks)
front_passes m e place max ends head few answer = (known m e place max head few, answer.1)

pub payload_first : (m : List ℕ) (e : Envelope) (place : Place) (max : ℕ) (b : Bool) (r : FailedCheck) (ends : Ends) (p : List ℕ) (k : Check) → b ≡ false → IsHead m e → e.function ≤ 0x0C
    → OptionsAnswer m place max (Ok ends) → p ≡ drop ends.data m
    → r ≡ plain k → PayloadAnswers e.function p (Some k) → ChecksAnswer (between b) m place max (Some r)
payload_first m e place max b r ends p k clear head few answer rest is first =
    let fails = Fails m place max in
    let has = answer.0 in
    let here = payload_here m ends has.0 has.1 p has.2 rest in
    let one = one_here m ends has.0 has.1 p has.2 rest in
    let of_message = first_as (PayloadFails e.function p) fails payload_checks k (payload_to m place max e.function p here head.function)
    (payload_from m place max e.function p head.function one) first in
    rw is (between_first m place max b (plain k) clear (first_later fails (C6 ∷ option_checks) last_checks k (front_passes m e place max ends head few answer)
    (first_earlier fails payload_checks (C12 ∷ []) k of_message)) (plain_marker m e.function p k first.fault))

payload_passes : (m : List ℕ) (place : Place) (max f : ℕ) (p : List ℕ) → AllByRecursion (λ k. Fails m place max k → PayloadFails f p k) payload_checks → PayloadAnswers f p None
    → Pass (Fails m place max) payload_checks
payload_passes m place max f p back pass =
    ((λ x. pass.0 (back.0 x)), ((λ x. pass.1.0 (back.1.0 x)), ((λ x. pass.1.1.0 (back.1.1.0 x)), ((λ x. pass.1.1.1.0 (back.1.1.1.0 x)), tt))))

-- none of the checks before the last fails
all_but_last : (m : List ℕ) (e : Envelope) (place : Place) (max : ℕ) (ends : Ends) (p : List ℕ) → IsHead m e → e.function ≤ 0x0C → OptionsAnswer m place max (Ok ends) → p ≡ drop ends.data m
    → PayloadAnswers e.function p None
    → Pass (Fails m place max) ((C6 ∷ option_checks) ++ payload_checks)
all_but_last m e place max ends p head few answer rest pass =
    let has = answer.0 in
    pass_append (Fails m place max) (C6 ∷ option_checks) payload_checks (front_passes m e place max ends head few answer)
    (payload_passes m place max e.function p (payload_from m place max e.function p head.function (one_here m ends has.0 has.1 p has.2 rest)) pass)

pub proprietary_first : (m : List ℕ) (e : Envelope) (place : Place) (max : ℕ) (b : Bool) (r : FailedCheck) (ends : Ends) (p : List ℕ) → b ≡ false → IsHead m e → e.function ≤ 0x0C
    → OptionsAnswer m place max (Ok ends) → p ≡ drop ends.data m
    → PayloadAnswers e.function p None → r ≡ plain C12 → e.function ≡ 0x0C → ChecksAnswer (between b) m place max (Some r)
proprietary_first m e place max b r ends p clear head few answer rest pass is own =
    let fails = Fails m place max in
    rw is (between_first m place max b (plain C12) clear (first_later fails ((C6 ∷ option_checks) ++ payload_checks) (C12 ∷ []) C12
    (all_but_last m e place max ends p head few answer rest pass) (first_here fails C12 [] (head.function ∙ own))) refl)

pub between_pass : (m : List ℕ) (e : Envelope) (place : Place) (max : ℕ) (b : Bool) (ends : Ends) (p : List ℕ) → b ≡ false → IsHead m e → e.function ≤ 0x0C
    → OptionsAnswer m place max (Ok ends) → p ≡ drop ends.data m
    → PayloadAnswers e.function p None → (e.function ≡ 0x0C → ⊥) → ChecksAnswer (between b) m place max None
between_pass m e place max b ends p clear head few answer rest pass other =
    let all : NoneOf later_checks m place max =
    pass_append (Fails m place max) ((C6 ∷ option_checks) ++ payload_checks) (C12 ∷ []) (all_but_last m e place max ends p head few answer rest pass) ((λ own. other (sym head.function ∙ own)), tt) in
    rw clear all

-- ---- the checks from that of the reserved flags on

pub reserved_first : (m : List ℕ) (e : Envelope) (place : Place) (max : ℕ) (r : FailedCheck) → r ≡ plain C5 → IsHead m e → 0x0F < e.flags
    → ChecksAnswer (from_flags (is_to_carry place m)) m place max (Some r)
reserved_first m e place max r is head reserved =
    let same = head.flags in
    rw is (first_here (Fails m place max) C5 (between (is_to_carry place m) ++ C13 ∷ []) (omega arith), refl)

not_reserved : (m : List ℕ) (e : Envelope) (place : Place) (max : ℕ) → IsHead m e → e.flags ≤ 0x0F → Fails m place max C5 → ⊥
not_reserved m e place max head few reserved = absurd (let same = head.flags in omega arith)

pub later_first : (m : List ℕ) (e : Envelope) (place : Place) (max : ℕ) (b : Bool) (r : FailedCheck) → b ≡ is_to_carry place m → IsHead m e → e.flags ≤ 0x0F
    → ChecksAnswer (between b) m place max (Some r) → ChecksAnswer (from_flags (is_to_carry place m)) m place max (Some r)
later_first m e place max b r is head few answer =
    let fails = Fails m place max in
    subst (λ (c : Bool). ChecksAnswer (from_flags c) m place max (Some r)) is
    (first_after fails C5 (between b ++ C13 ∷ []) r.check (not_reserved m e place max head few) (first_earlier fails (between b) (C13 ∷ []) r.check answer.0), answer.1)

-- the message is out of place where its function and its address are
out_by : (m : List ℕ) (e : Envelope) (place : Place) (b : Bool) → b ≡ is_to_carry place m → IsHead m e → (IsInPlace b place e.function e.origin → ⊥) → IsOutOfPlace m place
out_by m e place b is head out inside =
    out (subst (λ (c : Bool). IsInPlace c place e.function e.origin) (sym is)
    (subst (λ (v : Option Vmac). IsInPlace (is_to_carry place m) place e.function v) (sym head.origin) (subst (λ (f : ℕ). IsInPlace (is_to_carry place m) place f (origin_in m)) head.function inside)))

out_of : (m : List ℕ) (e : Envelope) (place : Place) (b : Bool) → b ≡ is_to_carry place m → IsHead m e → IsOutOfPlace m place → IsInPlace b place e.function e.origin → ⊥
out_of m e place b is head out inside =
    out (subst (λ (f : ℕ). IsInPlace (is_to_carry place m) place f (origin_in m)) (sym head.function)
    (subst (λ (v : Option Vmac). IsInPlace (is_to_carry place m) place e.function v) head.origin (subst (λ (c : Bool). IsInPlace c place e.function e.origin) is inside)))

pub out_first : (m : List ℕ) (e : Envelope) (place : Place) (max : ℕ) (b : Bool) (r : FailedCheck) → b ≡ is_to_carry place m → IsHead m e → e.flags ≤ 0x0F
    → ChecksAnswer (between b) m place max None → r ≡ plain C13 → (IsInPlace b place e.function e.origin → ⊥)
    → ChecksAnswer (from_flags (is_to_carry place m)) m place max (Some r)
out_first m e place max b r is head few pass plainly out =
    let fails = Fails m place max in
    let whole : ChecksAnswer (from_flags b) m place max (Some (plain C13)) = (
      first_after fails C5 (between b ++ C13 ∷ []) C13 (not_reserved m e place max head few)
          (first_later fails (between b) (C13 ∷ []) C13 pass (first_here fails C13 [] (out_by m e place b is head out))),
      refl,
    ) in
    rw plainly (subst (λ (c : Bool). ChecksAnswer (from_flags c) m place max (Some (plain C13))) is whole)

pub from_flags_pass : (m : List ℕ) (e : Envelope) (place : Place) (max : ℕ) (b : Bool) → b ≡ is_to_carry place m → IsHead m e → e.flags ≤ 0x0F → ChecksAnswer (between b) m place max None
    → ((IsInPlace b place e.function e.origin → ⊥) → ⊥)
    → ChecksAnswer (from_flags (is_to_carry place m)) m place max None
from_flags_pass m e place max b is head few pass inside =
    let fails = Fails m place max in
    let whole : ChecksAnswer (from_flags b) m place max None =
    (not_reserved m e place max head few, pass_append fails (between b) (C13 ∷ []) pass ((λ out. inside (out_of m e place b is head out)), tt)) in
    subst (λ (c : Bool). ChecksAnswer (from_flags c) m place max None) is whole
