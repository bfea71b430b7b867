-- What is told beside an answer is so.
-- It serves clauses of functions of `judging` and `reasons`.
use Rattle.std.proofs.Common.{◌≡◌, ℕ, List, Option, Some, None, sym, subst}
use Rattle.std.specs.Prelude.{IfSome}
use Rattle.bsc_history.specs.declared.entry.Entry.{Entry}
use Rattle.bsc_history.specs.declared.limits.About.{About}
use Rattle.bsc_audit.specs.declared.places.spot.Spot.{Spot}
use Rattle.bsc_journal.specs.Saying.{IsLineOf}
use Rattle.bsc_journal.specs.Journals.{Tells}
use Rattle.bsc_legality.specs.declared.legality.Legality.{Legality}
use Rattle.bsc_legality.specs.Standing.{LegalityStands}
use Rattle.bsc_audit.specs.declared.audit_end.AuditEnd.{AuditEnd}
use Rattle.bsc_audit.specs.declared.audit_end.AuditEnd.TheVariants.{Legal as IsLegal, BadLine, Hubs, Twice, Missing, Illegal, ReadFault, NoMemory}
use Rattle.bsc_audit.specs.Explaining.{Explains, TellsBreach, TellsOfEntry, TellsOfPlace}
use Rattle.bsc_audit.specs.Hearing.{line_at}
use Rattle.bsc_audit.proofs.InTurn.{IsNext}

-- what is so of what may be told
pub if_some : {A : Type 0} (P Q : A → Type 0) (o : Option A) → ((x : A) → P x → Q x) → IfSome o P → IfSome o Q
if_some P Q None f h = tt
if_some P Q (Some x) f h = f x h

-- a state that an entry left as it was
pub stays : (l m : Legality) (about : About) (H : List Entry) → m ≡ l → LegalityStands l about H → LegalityStands m about H
stays l m about H same stands = subst (λ (x : Legality). LegalityStands x about H) (sym same) stands

-- of the next entry, with which the history isn't legal
pub told_of_next : (about : About) (o : List ℕ) (spot : Spot) (left : List Spot) (l m : Legality) (place : ℕ) (H : List Entry) (next : IsNext about o spot left l place H) →
    LegalityStands m about next.done → (told : Option (List ℕ)) →
    IfSome told (λ why. (a : About) (G : List Entry) (p : ℕ) (e : Entry) → LegalityStands m a G → IsLineOf (line_at o spot) p e → TellsBreach place a G e o why) →
    IfSome told (λ why. TellsOfEntry about H o (Illegal place) why)
told_of_next about o spot left l m place H next stands told so =
    if_some (λ (why : List ℕ). (a : About) (G : List Entry) (p : ℕ) (e : Entry) → LegalityStands m a G → IsLineOf (line_at o spot) p e → TellsBreach place a G e o why)
    (λ (why : List ℕ). TellsOfPlace place about H o why) told
    (λ why f. record {
      before = next.done;
      entry = next.entry;
      behind = next.others;
      parts = next.parts;
      place = next.count;
      tells = f about next.done place next.entry stands next.is;
    }) so

-- of a history that the octets tell
explains_of : (o : List ℕ) (about : About) (H : List Entry) (r : AuditEnd) (why : List ℕ) → Tells o about H → TellsOfEntry about H o r why → Explains o r why
explains_of o about H (Illegal place) why tells told = (about, H, tells, told)
explains_of o about H (IsLegal entries) why tells told = absurd told
explains_of o about H (BadLine line) why tells told = absurd told
explains_of o about H (Hubs lines) why tells told = absurd told
explains_of o about H (Twice place) why tells told = absurd told
explains_of o about H (Missing place) why tells told = absurd told
explains_of o about H ReadFault why tells told = absurd told
explains_of o about H NoMemory why tells told = absurd told

pub explained : (o : List ℕ) (about : About) (H : List Entry) (r : AuditEnd) (told : Option (List ℕ)) → Tells o about H →
    IfSome told (λ why. TellsOfEntry about H o r why) → IfSome told (λ why. Explains o r why)
explained o about H r told tells so = if_some (λ (why : List ℕ). TellsOfEntry about H o r why) (λ (why : List ℕ). Explains o r why) told (λ why t. explains_of o about H r why tells t) so
