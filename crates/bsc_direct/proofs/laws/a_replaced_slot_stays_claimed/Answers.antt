use Rattle.std.proofs.Common.{refl}
use Rattle.bsc_direct.specs.declared.call.SlotCall.TheVariants.{Up}
use Rattle.bsc_direct.proofs.OneMore.{claimed-kept}
use Rattle.bsc_direct.proofs.laws.a_replaced_slot_stays_claimed.Goals as goal

pub returns : goal.returns
returns c = λ calls slot k who. claimed-kept calls (Up slot who) k refl
