-- In which phase a message is to be carried on, and in which one that asks to connect passes.
-- It serves clauses of functions of `laws`.
use Rattle.std.proofs.Common.{◌≡◌, inl, inr, ℕ, ◌==◌, Bool, true, false, not, ◌||◌, cond, List, [], ◌∷◌, ◌++◌, Some, None, true≢false, refl, ap, sym, ◌∙◌, subst}
use Rattle.std.specs.List.{AllByRecursion}
use Rattle.std.proofs.lemmas.Bool.{eqb-true, or_cases, true_from_ne_false}
use Rattle.bsc_octets.specs.declared.envelope.Envelope.{Envelope}
use Rattle.bsc_octets.specs.declared.identity.Identity.{Identity}
use Rattle.bsc_octets.specs.Envelopes.{announces_dest}
use Rattle.bsc_octets.specs.Forwarding.{flags_in, function_in}
use Rattle.bsc_frame.specs.declared.check.Check.{Check}
use Rattle.bsc_frame.specs.declared.check.Check.TheVariants.{C13}
use Rattle.bsc_frame.specs.declared.message.Message.{Message}
use Rattle.bsc_checks.specs.declared.phase.Phase.{Phase}
use Rattle.bsc_checks.specs.declared.phase.Phase.TheVariants.{AwaitingRequest, AwaitingAccept, Connected, Disconnecting}
use Rattle.bsc_checks.specs.declared.place.Place.TheVariants.{HubPort}
use Rattle.bsc_checks.specs.declared.verdict.Verdict.TheVariants.{Pass, Carry}
use Rattle.bsc_checks.specs.Places.{origin_in}
use Rattle.bsc_checks.specs.Table.{checks_of, head_checks, later_checks}
use Rattle.bsc_checks.specs.Failing.{fails}
use Rattle.bsc_checks.specs.Options.{data_options_in, rest_of}
use Rattle.bsc_checks.specs.Outcomes.{first_failing, outcome_of}
use Rattle.bsc_checks.specs.Payloads.{body_in}
use Rattle.bsc_checks.specs.PlaceTests.{is_connected, is_in_place}
use Rattle.bsc_accept.specs.Messages.{who_asks}
use Rattle.bsc_checks.proofs.Common.{carries_when, none_fails, passes_when, unrefused}

-- ---- a message that no check refuses

-- whether a message is in place, at the hub port
abbrev at_port : Bool → Phase → List ℕ → Bool
at_port b phase m = is_in_place b (HubPort phase) (function_in m) (origin_in m)

-- a message that no check refuses is in place, whether it is to be carried on or not
in_place : (m : List ℕ) (phase : Phase) (max : ℕ) (b : Bool) → announces_dest (flags_in m) ≡ b → first_failing (fails m (HubPort phase) max) (checks_of (HubPort phase) m) ≡ None
    → at_port b phase m ≡ true
in_place m phase max b is none = true_from_ne_false (at_port b phase m) (λ isnt. true≢false (ap not (sym isnt) ∙ ap (λ c. not (at_port c phase m)) (sym is) ∙ last b is))
  where
    all : (b : Bool) → announces_dest (flags_in m) ≡ b → AllByRecursion (λ k. fails m (HubPort phase) max k ≡ false) (head_checks ++ (cond b [] later_checks) ++ C13 ∷ [])
    all b is = subst (λ (l : List Check). AllByRecursion (λ k. fails m (HubPort phase) max k ≡ false) l) (ap (λ (c : Bool). head_checks ++ (cond c [] later_checks) ++ C13 ∷ []) is)
        (none_fails (fails m (HubPort phase) max) (checks_of (HubPort phase) m) none)

    last : (b : Bool) → announces_dest (flags_in m) ≡ b → not (at_port (announces_dest (flags_in m)) phase m) ≡ false
    last true is = (all true is).1.1.1.1.1.0
    last false is = (all false is).1.1.1.1.1.1.1.1.1.1.1.1.1.1.1.0

-- ---- a message that is to be carried on

connected_phase : (p : Phase) → is_connected p ≡ true → p ≡ Connected
connected_phase AwaitingRequest h = cc
connected_phase AwaitingAccept h = cc
connected_phase Connected h = refl
connected_phase Disconnecting h = cc

-- A message is to be carried on only once the peer is connected.
pub carried_connected : (m : List ℕ) (phase : Phase) (max : ℕ) (e : Envelope) → outcome_of m (HubPort phase) max ≡ Carry e → phase ≡ Connected
unfolding outcome_of
carried_connected m phase max e h =
    let a = unrefused m (HubPort phase) (first_failing (fails m (HubPort phase) max) (checks_of (HubPort phase) m)) (Carry e) h refl in
    connected_phase phase (in_place m phase max true (carries_when (announces_dest (flags_in m)) m e a.1) a.0)

-- ---- a message that asks to connect

-- a message of a function that has no asking body doesn't ask
no_asking : (f n : ℕ) (p : List ℕ) (who : Identity) → (f == n) ≡ true → who_asks (body_in n p) ≡ None → who_asks (body_in f p) ≡ Some who → ⊥
no_asking f n p who is none asks = (let isnt : None ≡ Some who = sym none ∙ ap (λ (k : ℕ). who_asks (body_in k p)) (sym (eqb-true f n is)) ∙ asks in cc)

neither : (f a b : ℕ) (p : List ℕ) (who : Identity) → ((f == a) || (f == b)) ≡ true → who_asks (body_in a p) ≡ None → who_asks (body_in b p) ≡ None → who_asks (body_in f p) ≡ Some who → ⊥
neither f a b p who is none_a none_b asks = elim (or_cases (f == a) (f == b) is) [ inl e ↦ no_asking f a p who e none_a asks | inr e ↦ no_asking f b p who e none_b asks ]

awaiting_phase : (phase : Phase) (m p : List ℕ) (who : Identity) → at_port false phase m ≡ true → who_asks (body_in (function_in m) p) ≡ Some who → phase ≡ AwaitingRequest
awaiting_phase AwaitingRequest m p who is asks = refl
awaiting_phase AwaitingAccept m p who is asks = absurd (neither (function_in m) 0 7 p who is refl refl asks)
awaiting_phase Connected m p who is asks = absurd (neither (function_in m) 8 10 p who is refl refl asks)
awaiting_phase Disconnecting m p who is asks = absurd (neither (function_in m) 0 9 p who is refl refl asks)

-- A message that asks to connect passes only while a Connect-Request is awaited.
pub asked_awaiting : (m : List ℕ) (phase : Phase) (max : ℕ) (msg : Message) (who : Identity) → outcome_of m (HubPort phase) max ≡ Pass msg → who_asks msg.body ≡ Some who → phase ≡ AwaitingRequest
unfolding outcome_of
asked_awaiting m phase max msg who h asks =
    let a = unrefused m (HubPort phase) (first_failing (fails m (HubPort phase) max) (checks_of (HubPort phase) m)) (Pass msg) h refl in
    let p = passes_when (announces_dest (flags_in m)) m msg a.1 in
    awaiting_phase phase m (rest_of (data_options_in m)) who (in_place m phase max false p.0 a.0) (ap (λ (x : Message). who_asks x.body) p.1 ∙ asks)
