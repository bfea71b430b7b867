-- A message has one verdict.
-- It serves the clauses of `judge` and `one_verdict`.
use Rattle.std.proofs.Common.{◌≡◌, ℕ, ◌⊎◌, inl, inr, List, ◌∷◌, ◌++◌, Option, Some, Result, Ok, Err, refl, sym, ap, subst, ◌∙◌}
use Rattle.std.specs.Prelude.{◌↔◌, IsErr}
use Rattle.arrayvec.specs.ArrayVec.{ArrayVec}
use Rattle.bsc_octets.specs.declared.envelope.Envelope.{Envelope}
use Rattle.bsc_octets.specs.declared.envelope.EnvelopeFault.{EnvelopeFault}
use Rattle.bsc_octets.specs.declared.no_memory.NoMemory.{NoMemory}
use Rattle.bsc_octets.specs.Envelopes.{flags_in}
use Rattle.bsc_octets.proofs.Spelling.{only}
use Rattle.bsc_options.specs.Spelling.{has_items, marker_of}
use Rattle.bsc_frame.specs.declared.check.Check.{Check}
use Rattle.bsc_frame.specs.declared.check.Check.TheVariants.{C9}
use Rattle.bsc_frame.specs.declared.message.Message.{Message}
use Rattle.bsc_frame.specs.Layout.{announces_dest_options, options_at}
use Rattle.bsc_frame.specs.Spelling.{spelling}
use Rattle.bsc_frame.proofs.First.{first_or_none, one_first}
use Rattle.bsc_frame.proofs.OptionLists.{list_one}
use Rattle.bsc_frame.proofs.Exact.{one_message}
use Rattle.bsc_checks.specs.declared.place.Place.{Place}
use Rattle.bsc_checks.specs.declared.verdict.Verdict.{Verdict}
use Rattle.bsc_checks.specs.declared.verdict.Verdict.TheVariants.{Pass, Carry, Silent, Nak}
use Rattle.bsc_checks.specs.Table.{Fails, checks_of, IsFirstNotUnderstood}
use Rattle.bsc_checks.specs.Naks.{IsAnswered, IsNak, IsMarker, nak_to}
use Rattle.bsc_checks.specs.Verdicts.{Judged}
use Rattle.bsc_checks.specs.Walk.{VerdictAnswers, marker_refused}
use Rattle.bsc_checks.proofs.Behind.{refused_is}

-- ---- the marker

one_refused : (m : List ℕ) (a b : ℕ) → IsFirstNotUnderstood m a → IsFirstNotUnderstood m b → a ≡ b
one_refused m a b first other =
    let same : first.before ++ first.item ∷ first.after ≡ other.before ++ other.item ∷ other.after =
    (list_one (announces_dest_options (flags_in m)) m (options_at m) (first.before ++ first.item ∷ first.after)
    (other.before ++ other.item ∷ other.after) first.end other.end first.list other.list).0 in
    let mine = refused_is first.before first.item first.after first.earlier first.fault in
    let its = refused_is other.before other.item other.after other.earlier other.fault in
    let markers : ◌≡◌ {A = Option ℕ} (Some (marker_of (has_items first.after) first.item)) (Some (marker_of (has_items other.after) other.item)) = sym mine ∙ ap marker_refused same ∙ its in
    let marks : marker_of (has_items first.after) first.item ≡ marker_of (has_items other.after) other.item = cc in
    first.marker_is ∙ marks ∙ sym other.marker_is

one_marker : (m : List ℕ) (k : Check) (a b : ℕ) → IsMarker m k a → IsMarker m k b → a ≡ b
one_marker m C9 a b mine its = one_refused m a b mine its
one_marker m k a b mine its = mine ∙ sym its

-- ---- the NAK

one_nak : (m : List ℕ) (place : Place) (k : Check) (o p : List ℕ) → IsNak m place k o → IsNak m place k p → o ≡ p
one_nak m place k o p mine its =
    let codes : ◌≡◌ {A = Option ℕ} (Some mine.code) (Some its.code) = sym mine.answered.code_is ∙ its.answered.code_is in
    let code : mine.code ≡ its.code = cc in
    let marker = one_marker m k mine.marker its.marker mine.marker_is its.marker_is in
    let same : nak_to m place mine.marker mine.code ≡ nak_to m place its.marker its.code =
    ap (λ (a : ℕ). nak_to m place a mine.code) marker ∙ ap (λ (c : ℕ). nak_to m place its.marker c) code in
    mine.octets.octets ∙ ap spelling same ∙ sym its.octets.octets

one_vector : (a b : ArrayVec ℕ) → a.items ≡ b.items → a ≡ b
one_vector a b same = ap (λ (l : List ℕ). let v : ArrayVec ℕ = record { items = l } in v) same

-- ---- the verdict

pub one_verdict : (m : List ℕ) (place : Place) (max : ℕ) (v w : Verdict) → Judged m place max v → Judged m place max w → v ≡ w
one_verdict m place max (Pass x) (Pass y) p q = ap Pass (one_message x y m p.2 q.2)
one_verdict m place max (Pass x) (Carry e) p q = absurd cc
one_verdict m place max (Pass x) (Silent k) p q = absurd (first_or_none (Fails m place max) (checks_of place m) k p.0 q.0)
one_verdict m place max (Pass x) (Nak k o) p q = absurd (first_or_none (Fails m place max) (checks_of place m) k p.0 q.0)
one_verdict m place max (Carry e) (Pass y) p q = absurd cc
one_verdict m place max (Carry e) (Carry f) p q =
    let read : ◌≡◌ {A = Result Envelope EnvelopeFault} (Ok e) (Ok f) = sym (only e m p.3 p.4 p.2) ∙ only f m q.3 q.4 q.2 in
    let same : e ≡ f = cc in
    ap Carry same
one_verdict m place max (Carry e) (Silent k) p q = absurd (first_or_none (Fails m place max) (checks_of place m) k p.0 q.0)
one_verdict m place max (Carry e) (Nak k o) p q = absurd (first_or_none (Fails m place max) (checks_of place m) k p.0 q.0)
one_verdict m place max (Silent k) (Pass y) p q = absurd (first_or_none (Fails m place max) (checks_of place m) k q.0 p.0)
one_verdict m place max (Silent k) (Carry f) p q = absurd (first_or_none (Fails m place max) (checks_of place m) k q.0 p.0)
one_verdict m place max (Silent k) (Silent j) p q = ap Silent (one_first (Fails m place max) (checks_of place m) k j p.0 q.0)
one_verdict m place max (Silent k) (Nak j o) p q =
    let same = one_first (Fails m place max) (checks_of place m) k j p.0 q.0 in
    absurd (p.1 q.1.code (subst (λ (c : Check). IsAnswered m c q.1.code) (sym same) q.1.answered))
one_verdict m place max (Nak k o) (Pass y) p q = absurd (first_or_none (Fails m place max) (checks_of place m) k q.0 p.0)
one_verdict m place max (Nak k o) (Carry f) p q = absurd (first_or_none (Fails m place max) (checks_of place m) k q.0 p.0)
one_verdict m place max (Nak k o) (Silent j) p q =
    let same = one_first (Fails m place max) (checks_of place m) k j p.0 q.0 in
    absurd (q.1 p.1.code (subst (λ (c : Check). IsAnswered m c p.1.code) same p.1.answered))
one_verdict m place max (Nak k o) (Nak j u) p q =
    let same = one_first (Fails m place max) (checks_of place m) k j p.0 q.0 in
    let octets = one_vector o u (one_nak m place j o.items u.items (subst (λ (c : Check). IsNak m place c o.items) same p.1) q.1) in
    ap (λ (c : Check). Nak c o) same ∙ ap (λ (v : ArrayVec ℕ). Nak j v) octets

-- ---- the clauses of judging

pub memory_answers : (m : List ℕ) (place : Place) (max : ℕ) (r : Result Verdict NoMemory) (e : NoMemory) → r ≡ Err e → (msg : Message) × Judged m place max (Pass msg) → VerdictAnswers m place max r
memory_answers m place max r e is passes = rw is passes

pub only_of : (m : List ℕ) (place : Place) (max : ℕ) (r : Result Verdict NoMemory) → VerdictAnswers m place max r → (v : Verdict) → Judged m place max v → (r ≡ Ok v) ⊎ IsErr r
only_of m place max (Ok w) answer v judged = inl (ap (λ (x : Verdict). Ok x) (one_verdict m place max w v answer judged))
only_of m place max (Err e) answer v judged = inr refl

found_then : (m : List ℕ) (place : Place) (max : ℕ) (r : Result Verdict NoMemory) → VerdictAnswers m place max r → (v : Verdict) → r ≡ Ok v → Judged m place max v
found_then m place max r answer v is = subst (VerdictAnswers m place max) is answer

-- a verdict that is no pass is answered, whatever the memory
refused_if : (m : List ℕ) (place : Place) (max : ℕ) (r : Result Verdict NoMemory) → VerdictAnswers m place max r → (v : Verdict) → ((msg : Message) → Pass msg ≡ v → ⊥) → Judged m place max v
    → r ≡ Ok v
refused_if m place max (Ok w) answer v other judged = ap (λ (x : Verdict). Ok x) (one_verdict m place max w v answer judged)
refused_if m place max (Err e) answer v other judged = absurd (other answer.0 (one_verdict m place max (Pass answer.0) v answer.1 judged))

carry_if : (m : List ℕ) (place : Place) (max : ℕ) (r : Result Verdict NoMemory) → VerdictAnswers m place max r → (e : Envelope) → Judged m place max (Carry e) → r ≡ Ok (Carry e)
carry_if m place max r answer e judged = refused_if m place max r answer (Carry e) (λ msg same. cc) judged

silent_if : (m : List ℕ) (place : Place) (max : ℕ) (r : Result Verdict NoMemory) → VerdictAnswers m place max r → (k : Check) → Judged m place max (Silent k) → r ≡ Ok (Silent k)
silent_if m place max r answer k judged = refused_if m place max r answer (Silent k) (λ msg same. cc) judged

nak_if : (m : List ℕ) (place : Place) (max : ℕ) (r : Result Verdict NoMemory) → VerdictAnswers m place max r → (k : Check) (o : ArrayVec ℕ) → Judged m place max (Nak k o) → r ≡ Ok (Nak k o)
nak_if m place max r answer k o judged = refused_if m place max r answer (Nak k o) (λ msg same. cc) judged

-- a verdict that is no pass is answered exactly where the message has it
pub carries : (m : List ℕ) (place : Place) (max : ℕ) (r : Result Verdict NoMemory) → VerdictAnswers m place max r → (e : Envelope) → (r ≡ Ok (Carry e)) ↔ Judged m place max (Carry e)
carries m place max r answer e = (found_then m place max r answer (Carry e), carry_if m place max r answer e)

pub silences : (m : List ℕ) (place : Place) (max : ℕ) (r : Result Verdict NoMemory) → VerdictAnswers m place max r → (k : Check) → (r ≡ Ok (Silent k)) ↔ Judged m place max (Silent k)
silences m place max r answer k = (found_then m place max r answer (Silent k), silent_if m place max r answer k)

pub refuses : (m : List ℕ) (place : Place) (max : ℕ) (r : Result Verdict NoMemory) → VerdictAnswers m place max r → (k : Check) (o : ArrayVec ℕ) → (r ≡ Ok (Nak k o)) ↔ Judged m place max (Nak k o)
refuses m place max r answer k o = (found_then m place max r answer (Nak k o), nak_if m place max r answer k o)
