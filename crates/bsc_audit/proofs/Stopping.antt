-- Reading that ends before the octets of a source do, and that which doesn't.
-- It serves the clauses of `audit_explained`, `read_more` and `take_in`.
use Rattle.std.proofs.Common.{◌≡◌, ℕ, List, [], ◌++◌, Option, Some, None, Result, Ok, Err, IfOk, IfErr, inl, inr, ⊎_elim, ◌⊎◌, refl, ap, sym, ◌∙◌, subst, append_assoc, append-nil}
use Rattle.std.specs.Io.KnownBytes.{Consumes, IsAtEnd}
use Rattle.bsc_audit.specs.declared.audit_end.AuditEnd.{AuditEnd}
use Rattle.bsc_audit.specs.declared.audit_end.AuditEnd.TheVariants.{Legal as IsLegal, BadLine, Hubs, Twice, Missing, Illegal, ReadFault, NoMemory}
use Rattle.bsc_audit.specs.Verdicts.{AnswersOf, AuditsTo, IsFirstBad}
use Rattle.bsc_audit.specs.Judging.{IsOfWhole}
use Rattle.bsc_audit.specs.Taking.{StopsAtEnd, StopsWithin}

-- what was read first, and then more
pub consumes_both : (a b c : Option (List ℕ)) (xs ys : List ℕ) → Consumes a b xs → Consumes b c ys → Consumes a c (xs ++ ys)
consumes_both None b c xs ys h k = tt
consumes_both (Some o) None c xs ys h k = absurd h
consumes_both (Some o) (Some r) None xs ys h k = absurd k
consumes_both (Some o) (Some r) (Some s) xs ys h k = h ∙ ap (λ (x : List ℕ). xs ++ x) k ∙ sym (append_assoc xs ys s)

pub consumes_none : (a : Option (List ℕ)) → Consumes a a []
consumes_none None = tt
consumes_none (Some o) = refl

-- the octets that a source had, where some of them were read
pub record WasRead (o read : List ℕ) (left : Option (List ℕ)) : Type 0 where
  pub rest : List ℕ
  pub parts : o ≡ read ++ rest
  pub remains : left ≡ Some rest

pub was_read : (a b : Option (List ℕ)) (o read : List ℕ) → Consumes a b read → a ≡ Some o → WasRead o read b
was_read None b o read h e = absurd cc
was_read (Some x) None o read h e = absurd h
was_read (Some x) (Some r) o read h e = record { rest = r; parts = (let same : x ≡ o = cc in sym same ∙ h); remains = refl }

pub read_whole : (a b : Option (List ℕ)) (o read : List ℕ) → Consumes a b read → IsAtEnd b → a ≡ Some o → (o ≡ read) × (b ≡ Some [])
read_whole None b o read h end e = absurd cc
read_whole (Some x) None o read h end e = absurd h
read_whole (Some x) (Some r) o read h end e =
    let same : x ≡ o = cc in
    (sym same ∙ h ∙ ap (λ (y : List ℕ). read ++ y) end ∙ append-nil read, ap Some end)

pub stops_within : (r : AuditEnd) (a b : Option (List ℕ)) (o read : List ℕ) → StopsWithin read r → Consumes a b read → a ≡ Some o → AnswersOf r o b
stops_within (BadLine n) a b o read bad h e =
    let t = was_read a b o read h e in
    record {
      bad = subst (λ (x : List ℕ). IsFirstBad n x) (sym t.parts) (bad t.rest);
      taken = record { read = read; rest = t.rest; parts = t.parts; remains = t.remains };
      decided = inr bad;
    }
stops_within NoMemory a b o read bad h e = tt
stops_within (IsLegal entries) a b o read bad h e = absurd bad
stops_within (Hubs lines) a b o read bad h e = absurd bad
stops_within (Twice place) a b o read bad h e = absurd bad
stops_within (Missing place) a b o read bad h e = absurd bad
stops_within (Illegal place) a b o read bad h e = absurd bad
stops_within ReadFault a b o read bad h e = absurd bad

pub stops_at_end : (r : AuditEnd) (a b : Option (List ℕ)) (o read : List ℕ) → StopsAtEnd read r → Consumes a b read → IsAtEnd b → a ≡ Some o → AnswersOf r o b
stops_at_end (BadLine n) a b o read bad h end e =
    let t = read_whole a b o read h end e in
    record {
      bad = subst (λ (x : List ℕ). IsFirstBad n x) (sym t.0) bad;
      taken = record { read = read; rest = []; parts = t.0 ∙ sym (append-nil read); remains = t.1 };
      decided = inl refl;
    }
stops_at_end NoMemory a b o read bad h end e = tt
stops_at_end (IsLegal entries) a b o read bad h end e = absurd bad
stops_at_end (Hubs lines) a b o read bad h end e = absurd bad
stops_at_end (Twice place) a b o read bad h end e = absurd bad
stops_at_end (Missing place) a b o read bad h end e = absurd bad
stops_at_end (Illegal place) a b o read bad h end e = absurd bad
stops_at_end ReadFault a b o read bad h end e = absurd bad

-- a fault or want of memory says nothing
pub says_nothing : (r : AuditEnd) (o : List ℕ) (left : Option (List ℕ)) → (r ≡ ReadFault) ⊎ (r ≡ NoMemory) → AnswersOf r o left
says_nothing r o left h = ⊎_elim
    (λ (e : r ≡ ReadFault). subst (λ (x : AuditEnd). AnswersOf x o left) (sym e) tt)
    (λ (e : r ≡ NoMemory). subst (λ (x : AuditEnd). AnswersOf x o left) (sym e) tt)
    h

-- what all that was read comes to
pub answers_whole : (r : AuditEnd) (a b : Option (List ℕ)) (o read : List ℕ) → AuditsTo read r → IsOfWhole r → Consumes a b read → IsAtEnd b → a ≡ Some o → AnswersOf r o b
answers_whole r a b o read comes whole h end e =
    let t = read_whole a b o read h end e in
    by r (subst (λ (x : List ℕ). AuditsTo x r) (sym t.0) comes) whole t.1
  where
    by : (r : AuditEnd) → AuditsTo o r → IsOfWhole r → b ≡ Some [] → AnswersOf r o b
    by (IsLegal entries) comes whole left = record { comes = comes; read = left }
    by (Hubs lines) comes whole left = record { comes = comes; read = left }
    by (Twice place) comes whole left = record { comes = comes; read = left }
    by (Missing place) comes whole left = record { comes = comes; read = left }
    by (Illegal place) comes whole left = record { comes = comes; read = left }
    by NoMemory comes whole left = tt
    by (BadLine line) comes whole left = absurd whole
    by ReadFault comes whole left = absurd whole

-- ---- what follows from what a call says

pub if_ok : {A E : Type 0} (r : Result A E) (P Q : A → Type 0) → IfOk r P → ((x : A) → P x → Q x) → IfOk r Q
if_ok (Ok x) P Q h f = f x h
if_ok (Err e) P Q h f = tt

pub if_err : {A E : Type 0} (r : Result A E) (P Q : E → Type 0) → IfErr r P → ((e : E) → P e → Q e) → IfErr r Q
if_err (Ok x) P Q h f = tt
if_err (Err e) P Q h f = f e h
