use Rattle.std.proofs.Common.{refl, arith}
use Rattle.bsc_direct.proofs.Following.{released, released_past}
use Rattle.bsc_direct.specs.declared.slot.Slot.TheVariants.{Free}
use Rattle.bsc_direct.proofs.Leaving.{set_leaves, same_leaves}
use Rattle.bsc_direct.proofs.direct.Direct.release.Goals as goal

pub returns-then-slot-lt-SLOTS-clause-stands : goal.returns-then-slot-lt-SLOTS-clause-stands
returns-then-slot-lt-SLOTS-clause-stands c = released c.args.self.now _ c.args.slot (omega (arith, c.args.self.now.slots.ok.0, c.args.self.now.all)) refl

pub returns-else-slot-lt-SLOTS-clause-stands : goal.returns-else-slot-lt-SLOTS-clause-stands
returns-else-slot-lt-SLOTS-clause-stands c = released_past c.args.self.now c.args.slot (omega (arith, c.args.self.now.slots.ok.0, c.args.self.now.all))

pub returns-then-slot-lt-SLOTS-clause-left : goal.returns-then-slot-lt-SLOTS-clause-left
returns-then-slot-lt-SLOTS-clause-left c = set_leaves c.args.self.now _ c.args.slot Free refl

pub returns-else-slot-lt-SLOTS-clause-left : goal.returns-else-slot-lt-SLOTS-clause-left
returns-else-slot-lt-SLOTS-clause-left c = same_leaves c.args.self.now c.args.slot
