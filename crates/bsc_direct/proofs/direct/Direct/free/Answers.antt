use Rattle.std.proofs.Common.{sym, arith, ap, not, ◌∙◌, ℕ}
use Rattle.bsc_direct.specs.declared.slot.Slot.{Slot}
use Rattle.bsc_direct.specs.declared.slot.Slot.TheVariants.{Free}
use Rattle.bsc_direct.specs.Kept.{says_claimed}
use Rattle.bsc_direct.specs.Slots.{is_claimed}
use Rattle.bsc_direct.proofs.Finding.{found_as_kept}
use Rattle.bsc_direct.proofs.Following.{none_free}
use Rattle.bsc_direct.proofs.direct.Direct.free.Goals as goal

pub returns-in-Some : goal.returns-in-Some
returns-in-Some c = λ calls s. (rw c.deref.ensures.value at c.in-Some.ensures)
    ∙ found_as_kept (λ (x : Slot). not (says_claimed x)) (λ (k : ℕ). not (is_claimed calls k)) Free c.args.self.now.slots.items
    (omega (arith, c.args.self.now.slots.ok.0, c.args.self.now.all)) (λ k. ap not (sym (s.slots k).claimed))

pub returns-in-None : goal.returns-in-None
returns-in-None c = λ calls s. sym (none_free c.args.self.now calls (omega (arith, c.args.self.now.slots.ok.0, c.args.self.now.all)) (rw c.deref.ensures.value at (sym c.in-None.ensures)) s)
