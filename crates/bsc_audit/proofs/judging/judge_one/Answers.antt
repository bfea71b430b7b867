-- The entry that is read is that of the line.
use Rattle.std.proofs.Common.{◌↔◌, ◌++◌, ◌∷◌, [], subst}
use Rattle.std.specs.Prelude.{IsTrue}
use Rattle.bsc_history.specs.declared.entry.Entry.{Entry}
use Rattle.bsc_history.specs.Legality.{Legal}
use Rattle.bsc_legality.specs.Standing.{LegalityStands}
use Rattle.bsc_audit.proofs.judging.judge_one.Goals as goal

pub returns-clause-legal : goal.returns-clause-legal
returns-clause-legal c = λ about H place e stands is.
    subst (λ (x : Entry). IsTrue c.entry.result ↔ Legal about (H ++ x ∷ [])) (c.in_ok-entry.ensures place e is) (c.entry.ensures.legal about H stands)

pub returns-clause-stands : goal.returns-clause-stands
returns-clause-stands c = λ about H place e stands is lawful.
    subst (λ (x : Entry). LegalityStands c.entry.new.self about (H ++ x ∷ [])) (c.in_ok-entry.ensures place e is) (c.entry.ensures.stands about H stands lawful)
