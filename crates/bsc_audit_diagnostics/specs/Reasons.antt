-- What is told of octets that aren't the journals of one legal history is so of them.
use Rattle.std.specs.Prelude.{◌≡◌, ℕ, ◌-◌, ◌⊎◌, List, []}
use Rattle.bsc_history.specs.declared.entry.Entry.{Entry}
use Rattle.bsc_legality.specs.declared.breach.Breach.{Breach}
use Rattle.bsc_audit_diagnostics.specs.declared.sought.Sought.TheVariants.{Hub, Place}
use Rattle.bsc_audit_diagnostics.specs.Sought.{AreFirst, IsFirst, numbers_in}
use Rattle.bsc_audit_diagnostics.specs.Texts.{first_text, hubs_text, illegal_text, missing_text, no_hub_text, twice_text}

-- No line is a hub line, or these two are.
abbrev pub TellsHubs : List ℕ → List ℕ → Type 0
TellsHubs o why =
    ((numbers_in Hub o ≡ []) × (why ≡ no_hub_text))
    ⊎ ((m n : ℕ) × AreFirst Hub o m n × (why ≡ hubs_text m n))

-- These two lines have the place p.
abbrev pub TellsTwice : ℕ → List ℕ → List ℕ → Type 0
TellsTwice p o why = (m n : ℕ) × AreFirst (Place p) o m n × (why ≡ twice_text p m n)

-- This line has the place before p, if there is one before it, and this one the place q.
abbrev pub TellsMissing : ℕ → ℕ → List ℕ → List ℕ → Type 0
TellsMissing p q o why =
    ((p ≡ 0) × (n : ℕ) × IsFirst (Place q) o n × (why ≡ first_text q n))
    ⊎ ((m n : ℕ) × IsFirst (Place (p - 1)) o m × IsFirst (Place q) o n × (why ≡ missing_text (p - 1) m q n))

-- This line has the place p, and this is told of the entry e, which breaks a condition.
abbrev pub TellsIllegal : ℕ → Entry → Breach → List ℕ → List ℕ → Type 0
TellsIllegal p e b o why = (line : ℕ) × IsFirst (Place p) o line × (why ≡ illegal_text line e b)
