use Rattle.std.proofs.Common.{refl, sym, arith, Bool, not, ◌<◌, ℕ, length}
use Rattle.bsc_direct.proofs.Following.{claimed_slot, none_free}
use Rattle.std.proofs.lemmas.List.Quantifiers.{position-Some}
use Rattle.bsc_direct.specs.declared.slot.Slot.{Slot}
use Rattle.bsc_direct.specs.declared.slot.Slot.TheVariants.{Free, Claimed}
use Rattle.bsc_direct.specs.Kept.{says_claimed}
use Rattle.bsc_direct.proofs.Leaving.{set_leaves, set_only}
use Rattle.bsc_direct.proofs.direct.Direct.claim.Goals as goal

pub returns-in-Some-clause-claimed : goal.returns-in-Some-clause-claimed
returns-in-Some-clause-claimed c = claimed_slot c.args.self.now _ c.in-Some.place c.args.wanted (omega (arith, c.args.self.now.slots.ok.0, c.args.self.now.all))
    (rw c.deref.ensures.value at (sym c.in-Some.ensures)) refl

pub returns-in-None-clause-full : goal.returns-in-None-clause-full
returns-in-None-clause-full c = (
  refl,
  λ calls s. none_free c.args.self.now calls (omega (arith, c.args.self.now.slots.ok.0, c.args.self.now.all))
      (rw c.deref.ensures.value at (sym c.in-None.ensures)) s,
)

pub returns-in-Some-clause-only : goal.returns-in-Some-clause-only
returns-in-Some-clause-only c =
    let inside = (position-Some (λ (x : Slot). not (says_claimed x)) c.args.self.now.slots.items c.in-Some.place Free (rw c.deref.ensures.value at (sym c.in-Some.ensures))).0 in
    set_only _ c.args.self.now.slots.items c.in-Some.place c.args.wanted (omega (arith, c.args.self.now.slots.ok.0, c.args.self.now.all, inside)) inside refl

pub returns-in-Some-clause-left : goal.returns-in-Some-clause-left
returns-in-Some-clause-left c = set_leaves c.args.self.now _ c.in-Some.place (Claimed c.args.wanted) refl
