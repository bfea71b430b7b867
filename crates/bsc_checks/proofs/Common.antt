-- Lemmas that crates above cite too.
-- It serves many crates above.
use Rattle.bsc_checks.specs.declared.place.Place.{Place}
use Rattle.bsc_checks.specs.declared.verdict.Verdict.{Verdict}
use Rattle.bsc_checks.specs.declared.verdict.Verdict.TheVariants.{Pass, Carry, Silent, Nak}
use Rattle.bsc_frame.specs.declared.message.Message.{Message}
use Rattle.std.proofs.Common.{◌≡◌, None, true, ◌∷◌, Some, refl, sym, Bool, ◌∙◌, false, List, [], ℕ, ◌&&◌, not, Option, true≢false, ap}
use Rattle.bsc_frame.specs.declared.check.Check.{Check}
use Rattle.bsc_octets.specs.declared.envelope.Envelope.{Envelope}
use Rattle.bsc_octets.specs.Forwarding.{function_in}
use Rattle.bsc_octets.specs.Functions.{is_response}
use Rattle.bsc_checks.specs.PlaceTests.{is_unicast}
use Rattle.bsc_checks.specs.Places.{dest_in, is_to_carry}
use Rattle.bsc_checks.specs.Table.{code_of}
use Rattle.bsc_checks.specs.Outcomes.{first_failing, accepted, message_in, answered, decided, refused}
use Rattle.std.specs.List.{AllByRecursion}

pub pass_same : (x y : Message) → Pass x ≡ Pass y → x ≡ y
pass_same x y h = cc

pub none_first : (t : Check → Bool) (k : Check) (ks : List Check) (b : Bool) → t k ≡ b → first_failing t (k ∷ ks) ≡ None → (t k ≡ false) × (first_failing t ks ≡ None)
none_first t k ks true is e = (let bad : first_failing t (k ∷ ks) ≡ Some k = rw (is, first_failing) refl in let isnt : Some k ≡ None = sym bad ∙ e in cc)
none_first t k ks false is e = (is, (let rest : first_failing t (k ∷ ks) ≡ first_failing t ks = rw (is, first_failing) refl in sym rest ∙ e))

pub none_fails : (t : Check → Bool) (ks : List Check) → first_failing t ks ≡ None → AllByRecursion (λ k. t k ≡ false) ks
none_fails t [] e = tt
none_fails t (k ∷ ks) e = (let two = none_first t k ks (t k) refl e in (two.0, none_fails t ks two.1))

pub carries_when : (b : Bool) (m : List ℕ) (e : Envelope) → accepted b m ≡ Carry e → b ≡ true
carries_when true m e h = refl
carries_when false m e h = cc

pub passes_when : (b : Bool) (m : List ℕ) (msg : Message) → accepted b m ≡ Pass msg → (b ≡ false) × (message_in m ≡ msg)
passes_when true m msg h = cc
passes_when false m msg h = (refl, same (message_in m) msg h)
  where
    same : (x y : Message) → Pass x ≡ Pass y → x ≡ y
    same x y e = cc

-- whether a verdict refuses
abbrev pub refuses : Verdict → Bool
refuses (Silent check) = true
refuses (Nak check octets) = true
refuses verdict = false

answered_refuses : (b : Bool) (m : List ℕ) (place : Place) (check : Check) (code : ℕ) → refuses (answered b m place check code) ≡ true
answered_refuses true m place check code = refl
answered_refuses false m place check code = refl

refused_refuses : (m : List ℕ) (place : Place) (check : Check) (code : Option ℕ) → refuses (refused m place check code) ≡ true
refused_refuses m place check None = refl
refused_refuses m place check (Some code) = answered_refuses (is_unicast (dest_in m) && not (is_response (function_in m))) m place check code

-- A verdict that doesn't refuse comes where no check fails.
pub unrefused : (m : List ℕ) (place : Place) (r : Option Check) (v : Verdict) → decided m place r ≡ v → refuses v ≡ false → (r ≡ None) × (accepted (is_to_carry place m) m ≡ v)
unrefused m place None v e h = (refl, e)
unrefused m place (Some check) v e h = absurd (true≢false (sym (refused_refuses m place check (code_of check)) ∙ ap refuses e ∙ h))
