-- What reads gave, one after another, and what an audit that stops says of that.
-- It serves the clauses of `audit_explained`, `read_more` and `take_in`.
use Rattle.std.proofs.Common.{◌≡◌, ◌<◌, ◌||◌, ℕ, Bool, true, false, List, [], ◌∷◌, ◌++◌, length, Option, Some, Result, Err, refl, ap, sym, ◌∙◌, subst, append-nil, arith}
use Rattle.std.specs.List.{concat}
use Rattle.std.proofs.lemmas.List.Folds.{concat-append}
use Rattle.bsc_text.specs.Gave.{Gave, OfReads, has_end}
use Rattle.bsc_text.proofs.Taking.{gave_more, gave_nothing, has_end-append}
use Rattle.bsc_audit.specs.declared.audit_end.AuditEnd.{AuditEnd}
use Rattle.bsc_audit.specs.declared.audit_end.AuditEnd.TheVariants.{Legal as IsLegal, BadLine, Hubs, Twice, Missing, Illegal, ReadFault, NoMemory}
use Rattle.bsc_audit.specs.Taking.{ReadsOnce, StopsAtEnd, StopsWithin}
use Rattle.bsc_audit.specs.Verdicts.{AnswersOf}
use Rattle.bsc_audit.proofs.Stopping.{stops_at_end, stops_within}

-- one for which there was no memory
pub without_memory : (a b : Option (List (List ℕ))) (r : Result Bool AuditEnd) (chunk before after : List ℕ) → r ≡ Err NoMemory → 0 < length chunk → Gave a b (chunk ∷ []) →
    ReadsOnce a b r before after
without_memory a b r chunk before after is some told = subst (λ (x : Result Bool AuditEnd). ReadsOnce a b x before after) (sym is) (chunk, some, told)

-- ---- some reads

-- Reads gave these octets, and this says whether one of them found the end.
pub record HasRead (a b : Option (List (List ℕ))) (o : List ℕ) (end : Bool) : Type 0 where
  pub gave : List (List ℕ)
  pub told : Gave a b gave
  pub octets : concat gave ≡ o
  pub ends : has_end gave ≡ end

pub read_nothing : (a : Option (List (List ℕ))) → HasRead a a [] false
read_nothing a = record { gave = []; told = gave_nothing a; octets = refl; ends = refl }

-- what was read before, and in one read more
both_are : (xs : List (List ℕ)) (o chunk : List ℕ) → concat xs ≡ o → concat (xs ++ chunk ∷ []) ≡ o ++ chunk
both_are xs o chunk e = concat-append xs (chunk ∷ []) ∙ (λ i. e i ++ append-nil chunk i)

no_end : (chunk : List ℕ) → 0 < length chunk → has_end (chunk ∷ []) ≡ false
no_end [] some = (let no : ⊥ = omega (arith, some) in absurd no)
no_end (c ∷ o) some = refl

ends_by : (gave more : List (List ℕ)) → has_end gave ≡ false → has_end (gave ++ more) ≡ has_end more
ends_by gave more none = has_end-append gave more ∙ ap (λ (b : Bool). b || has_end more) none

pub read_on : (a b c : Option (List (List ℕ))) (o chunk : List ℕ) → HasRead a b o false → 0 < length chunk → Gave b c (chunk ∷ []) → HasRead a c (o ++ chunk) false
read_on a b c o chunk so some told = record {
  gave = so.gave ++ chunk ∷ [];
  told = gave_more a b c so.gave (chunk ∷ []) so.told told;
  octets = both_are so.gave o chunk so.octets;
  ends = ends_by so.gave (chunk ∷ []) so.ends ∙ no_end chunk some;
}

pub read_all : (a b c : Option (List (List ℕ))) (o : List ℕ) → HasRead a b o false → Gave b c ([] ∷ []) → HasRead a c o true
read_all a b c o so told = record {
  gave = so.gave ++ [] ∷ [];
  told = gave_more a b c so.gave ([] ∷ []) so.told told;
  octets = both_are so.gave o [] so.octets ∙ append-nil o;
  ends = ends_by so.gave ([] ∷ []) so.ends;
}

-- What holds of an input that begins with the octets that were read, and of what is left of it, holds of the reads.
pub of_reads : (a b : Option (List (List ℕ))) (o : List ℕ) (end : Bool) (So : List ℕ → List ℕ → Type 0) → HasRead a b o end →
    ((rest : List ℕ) → (end ≡ true → rest ≡ []) → So (o ++ rest) rest) → OfReads a b So
of_reads a b o end So read holds =
    (read.gave, read.told, λ rest may. subst (λ (x : List ℕ). So (x ++ rest) rest) (sym read.octets) (holds rest (λ e. may (read.ends ∙ e))))

-- What holds of reads holds of them in other words.
pub of_reads_so : (a b : Option (List (List ℕ))) (So Also : List ℕ → List ℕ → Type 0) → OfReads a b So → ((o rest : List ℕ) → So o rest → Also o rest) → OfReads a b Also
of_reads_so a b So Also h f = (h.0, h.1, λ rest may. f (concat h.0 ++ rest) rest (h.2 rest may))

-- ---- why reading stops

-- at a line of what was read so far
pub stops_here : (r : AuditEnd) (o rest : List ℕ) → StopsWithin o r → AnswersOf r (o ++ rest) (Some rest)
stops_here r o rest stops = stops_within r (Some (o ++ rest)) (Some rest) (o ++ rest) o stops refl refl

-- at the last line of all that there was
pub stops_last : (r : AuditEnd) (o rest : List ℕ) → StopsAtEnd o r → rest ≡ [] → AnswersOf r (o ++ rest) (Some rest)
stops_last r o rest stops none = stops_at_end r (Some (o ++ rest)) (Some rest) (o ++ rest) o stops refl none refl

-- at a read that failed, or one that gave what there was no memory for
pub stops_reading : (r : AuditEnd) (a b c : Option (List (List ℕ))) (o before after : List ℕ) → HasRead a b o false → ReadsOnce b c (Err r) before after →
    OfReads a c (λ o rest. AnswersOf r o (Some rest))
stops_reading ReadFault a b c o before after so once = (so.gave ++ [], gave_more a b c so.gave [] so.told once, λ rest may. tt)
stops_reading NoMemory a b c o before after so once = (so.gave ++ once.0 ∷ [], gave_more a b c so.gave (once.0 ∷ []) so.told once.2, λ rest may. tt)
stops_reading (IsLegal entries) a b c o before after so once = absurd once
stops_reading (BadLine line) a b c o before after so once = absurd once
stops_reading (Hubs lines) a b c o before after so once = absurd once
stops_reading (Twice place) a b c o before after so once = absurd once
stops_reading (Missing place) a b c o before after so once = absurd once
stops_reading (Illegal place) a b c o before after so once = absurd once
