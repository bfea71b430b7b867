-- The entry that is read is that of the line.
use Rattle.std.proofs.Common.{◌≡◌, subst}
use Rattle.bsc_history.specs.declared.entry.Entry.{Entry}
use Rattle.bsc_legality.specs.Breaches.{breach}
use Rattle.bsc_audit.proofs.judging.breach_at.Goals as goal

pub returns : goal.returns
returns c = λ about H place e stands is.
    let same = c.in_ok-entry.ensures place e is in
    (same, subst (λ (x : Entry). c.in_ok-broken.broken ≡ breach about H x) same (c.in_ok-broken.ensures about H stands))
