-- The state tells what is so of its history.
use Rattle.std.proofs.Common.{◌≡◌, ◌∙◌, List, Option, sym}
use Rattle.bsc_history.specs.declared.entry.Entry.{Entry}
use Rattle.bsc_history.specs.declared.limits.About.{About}
use Rattle.bsc_legality.specs.declared.breach.Breach.{Breach}
use Rattle.bsc_legality.specs.Breaches.{breach}
use Rattle.bsc_legality.specs.BreachesIn.{breach_in}
use Rattle.bsc_legality.specs.Standing.{LegalityStands}
use Rattle.bsc_legality.proofs.Breaches.{breach_same, called_not, if_made}
use Rattle.bsc_legality.proofs.Ordered.{ordered}
use Rattle.bsc_legality.proofs.legality.Legality.breach.Goals as goal

pub call_breach-requires : goal.call_breach-requires
call_breach-requires c = ordered c.args.self.now c.requires.0 c.requires.1 c.requires.2

pub entry_breach-requires-clause-rising : goal.entry_breach-requires-clause-rising
entry_breach-requires-clause-rising c = ordered c.args.self.now c.requires.0 c.requires.1 c.requires.2

pub returns-in-Some : goal.returns-in-Some
returns-in-Some c = λ about H s.
    called_not c.args.self.now c.args.entry.now c.in-Some.breach (sym c.call_breach.ensures ∙ c.in-Some.is) ∙ breach_same c.args.self.now about H c.args.entry.now s

pub returns-in-None : goal.returns-in-None
returns-in-None c =
    let l = c.args.self.now in
    let e = c.args.entry.now in
    if_made (λ (o : Option Breach). o ≡ breach_in l e) (λ (o : Option Breach). (about : About) (H : List Entry) → LegalityStands l about H → o ≡ breach about H e) c.entry_breach.result
    (λ o is about H s. is ∙ breach_same l about H e s) c.entry_breach.ensures
