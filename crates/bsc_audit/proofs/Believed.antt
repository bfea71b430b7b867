-- What is told of journals that may be believed.
-- It serves the clauses of `audit_explained`.
use Rattle.std.proofs.Common.{◌≡◌, ℕ, ◌+◌, List, ◌∷◌, ◌++◌, length, take, drop, Option, inl, inr, refl, ap, sym, ◌∙◌, subst, arith}
use Rattle.std.proofs.lemmas.List.{take-append-drop}
use Rattle.bsc_history.specs.declared.entry.Entry.{Entry}
use Rattle.bsc_history.specs.declared.limits.About.{About}
use Rattle.bsc_history.specs.Legality.{Legal}
use Rattle.bsc_history.proofs.Parts.{Legal-first}
use Rattle.bsc_audit.proofs.PlaceFacts.Ranges.{none_missing, none_twice}
use Rattle.bsc_journal.specs.Journals.{Audited}
use Rattle.bsc_journal.specs.Good.{IsGood, SayAll}
use Rattle.bsc_audit.specs.declared.audit_end.AuditEnd.{AuditEnd}
use Rattle.bsc_audit.specs.declared.audit_end.AuditEnd.TheVariants.{Legal as IsLegal, BadLine, Hubs, Twice, Missing, Illegal, ReadFault, NoMemory}
use Rattle.bsc_audit.specs.Verdicts.{AnswersOf, HasHubs, IsFirstBad, IsLeastIllegal, IsLegalOrNothing, places_of}
use Rattle.bsc_audit.proofs.Counts.{one_hub_said, places_all}
use Rattle.bsc_audit.proofs.OneHistory.{one_history, same_length}
use Rattle.bsc_audit.proofs.SayAgain.{say_at, telling_says}
use Rattle.bsc_audit.proofs.Snoc.{flat}

pub no_bad : (o : List ℕ) (n k : ℕ) → Audited o n → IsFirstBad k o → ⊥
no_bad o n k a b =
    let says = telling_says o a.about a.history a.within a.tells in
    let all : SayAll 0 (b.good ++ b.bad ∷ b.rest) says.said = subst (λ (ps : List (List ℕ)). SayAll 0 ps says.said) b.pieces says.all in
    let good = say_at 0 b.good b.bad b.rest says.said all in
    b.refused good.0 (subst (λ (m : ℕ). IsGood m b.bad good.0) (let same : 0 + length (flat b.good) ≡ length (flat b.good) = omega arith in same) good.1)

pub no_hubs : (o : List ℕ) (n k : ℕ) → Audited o n → HasHubs k o → ⊥
no_hubs o n k a h = h.other (h.count ∙ one_hub_said o a.about a.history h.said a.tells h.all)

pub no_illegal : (o : List ℕ) (n p : ℕ) → Audited o n → IsLeastIllegal p o → ⊥
no_illegal o n p a i =
    let same = one_history o a.about i.about a.history i.history a.tells i.tells in
    let legal : Legal i.about i.history = subst (λ (H : List Entry). Legal i.about H) same.1 (subst (λ (x : About). Legal x a.history) same.0 a.legal) in
    i.illegal (Legal-first i.about (take (p + 1) i.history) (drop (p + 1) i.history) (subst (λ (H : List Entry). Legal i.about H) (sym (take-append-drop (p + 1) i.history)) legal))

-- Journals that may be believed are told to be legal, or nothing is told.
pub believed : (r : AuditEnd) (o : List ℕ) (n : ℕ) (left : Option (List ℕ)) → AnswersOf r o left → Audited o n → IsLegalOrNothing n r
believed (IsLegal m) o n left h a =
    let same = same_length o h.comes.about a.about h.comes.history a.history h.comes.tells a.tells in
    inl (ap IsLegal (h.comes.count ∙ same ∙ sym a.count))
believed (BadLine k) o n left h a = absurd (no_bad o n k a h.bad)
believed (Hubs k) o n left h a = absurd (no_hubs o n k a h.comes)
believed (Twice p) o n left h a = absurd (none_twice (places_of h.comes.0) (length a.history) p (places_all o a.about a.history h.comes.0 a.tells h.comes.1.all) h.comes.2)
believed (Missing p) o n left h a = absurd (none_missing (places_of h.comes.0) (length a.history) p (places_all o a.about a.history h.comes.0 a.tells h.comes.1.all) h.comes.2)
believed (Illegal p) o n left h a = absurd (no_illegal o n p a h.comes.1)
believed ReadFault o n left h a = inr (inl refl)
believed NoMemory o n left h a = inr (inr refl)
