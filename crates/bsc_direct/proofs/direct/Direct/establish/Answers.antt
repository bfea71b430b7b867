use Rattle.std.proofs.Common.{refl, sym, arith, ◌∙◌}
use Rattle.bsc_direct.specs.declared.establish.Establish.TheVariants.{Duplicate, WrongPeer}
use Rattle.bsc_direct.proofs.Following.{came_up, stays_down, is_unicast}
use Rattle.std.proofs.lemmas.List.Quantifiers.{position-Some}
use Rattle.bsc_octets.specs.Addresses.{same_vmac, same_device}
use Rattle.bsc_octets.specs.declared.identity.Identity.{Identity}
use Rattle.bsc_direct.specs.declared.slot.Slot.{Slot}
use Rattle.bsc_direct.specs.declared.slot.Slot.TheVariants.{Free}
use Rattle.bsc_direct.specs.Slots.{is_peer, is_rival}
use Rattle.bsc_direct.specs.Kept.{kept_with, says_wanted, says_peer, slot_at}
use Rattle.bsc_direct.proofs.Following.{up_by, by_device, Within}
use Rattle.bsc_direct.proofs.Leaving.{same_leaves, up_leaves, up_held}
use Rattle.bsc_direct.proofs.direct.Direct.establish.Goals as goal

pub returns-in-Up-clause-answer : goal.returns-in-Up-clause-answer
returns-in-Up-clause-answer c = came_up c.args.self.now _ c.args.own c.args.slot c.args.peer c.in-Up.replaced
    (omega (arith, c.args.self.now.slots.ok.0, c.args.self.now.all)) c.requires.claimed.within c.requires.claimed.claimed (is_unicast c.args.peer c.requires.unicast)
    (sym c.in-Up.ensures) c.come_up.ensures

pub returns-in-Duplicate-clause-answer : goal.returns-in-Duplicate-clause-answer
returns-in-Duplicate-clause-answer c = stays_down c.args.self.now c.args.own c.args.slot c.args.peer (Duplicate c.in-Duplicate.holder)
    (omega (arith, c.args.self.now.slots.ok.0, c.args.self.now.all)) (sym c.in-Duplicate.ensures) (λ calls. refl)

pub returns-in-WrongPeer-clause-answer : goal.returns-in-WrongPeer-clause-answer
returns-in-WrongPeer-clause-answer c = stays_down c.args.self.now c.args.own c.args.slot c.args.peer (WrongPeer c.in-WrongPeer.wanted)
    (omega (arith, c.args.self.now.slots.ok.0, c.args.self.now.all)) (sym c.in-WrongPeer.ensures) (λ calls. refl)

pub returns-in-Up-clause-held : goal.returns-in-Up-clause-held
returns-in-Up-clause-held c = up_held c.args.self.now c.come_up.new.self c.args.slot c.args.peer c.in-Up.replaced
    (omega (arith, c.args.self.now.slots.ok.0, c.args.self.now.all, c.requires.claimed.within)) c.come_up.ensures

pub returns-in-Up-clause-left : goal.returns-in-Up-clause-left
returns-in-Up-clause-left c =
    let es = c.args.self.now.slots.items in
    let who = c.args.peer in
    let u = up_by (says_wanted (slot_at es c.args.slot)) who (same_vmac who.vmac c.args.own) (kept_with (is_rival who) es) (kept_with (by_device who) es) c.in-Up.replaced (sym c.in-Up.ensures) in
    let inside : Within c.in-Up.replaced es = λ j e. (position-Some (λ (x : Slot). is_peer (by_device who) (says_peer x)) es j Free (u.1 ∙ e)).0 in
    up_leaves c.args.self.now _ c.args.slot who c.in-Up.replaced inside c.come_up.ensures

pub returns-in-Duplicate-clause-held : goal.returns-in-Duplicate-clause-held
returns-in-Duplicate-clause-held c = c.requires.claimed.claimed

pub returns-in-Duplicate-clause-left : goal.returns-in-Duplicate-clause-left
returns-in-Duplicate-clause-left c = same_leaves c.args.self.now c.args.slot

pub returns-in-WrongPeer-clause-held : goal.returns-in-WrongPeer-clause-held
returns-in-WrongPeer-clause-held c = c.requires.claimed.claimed

pub returns-in-WrongPeer-clause-left : goal.returns-in-WrongPeer-clause-left
returns-in-WrongPeer-clause-left c = same_leaves c.args.self.now c.args.slot
