use Rattle.std.proofs.Common.{ℕ, List, Some, refl, ap, sym, subst, add-zero, ◌∙◌}
use Rattle.bsc_history.specs.declared.counts.Counts.{Counts}
use Rattle.bsc_history.specs.declared.ending.End.TheVariants.{Full}
use Rattle.bsc_history.specs.Counting.{plus}
use Rattle.bsc_desk.specs.Directories.{AreFiled}
use Rattle.bsc_desk.proofs.Filing.{filed_each, filed_same}
use Rattle.bsc_desk.proofs.Fared.{all_filed}
use Rattle.bsc_desk.proofs.Forwards.{few_pushed}
use Rattle.bsc_desk.proofs.Learning.{learns}
use Rattle.bsc_desk.proofs.Unicasts.{holds, holds_open, lawful_one, open_at, reaches, stands_one}
use Rattle.bsc_desk.proofs.desk.Desk.send_one.Goals as goal

pub offer_to-requires-clause-few : goal.offer_to-requires-clause-few
offer_to-requires-clause-few c = few_pushed c.args.self.now c.requires.some.0 c.requires.some.1

pub offer_to-requires-clause-live : goal.offer_to-requires-clause-live
offer_to-requires-clause-live c = open_at c.destination-to.result c.holder_near-place.result c.args.self.now.rows.items c.holder_near-place.ensures

pub returns-clause-due : goal.returns-clause-due
returns-clause-due c S p =
    (lawful_one c.args.self.now S c.args.caller c.args.conn c.args.frame c.destination-to.result c.into_octets.result c.holder_near-place.result c.offer_to.result c.offer_to.new.rows.items
    c.one_said-reply.result p c.requires.unleft c.has_route.ensures c.requires.unicast c.requires.calls c.requires.goes_on c.requires.current c.destination-to.ensures.destination
    c.into_octets.ensures c.holder_near-place.ensures c.offer_to.ensures.fares c.one_said-reply.ensures).replied

pub returns-clause-stands : goal.returns-clause-stands
returns-clause-stands c S p =
    stands_one c.args.self.now _ S c.args.caller c.args.conn c.args.frame c.destination-to.result c.into_octets.result c.holder_near-place.result c.offer_to.result c.one_said-reply.result p
    c.requires.unleft c.has_route.ensures c.requires.unicast c.requires.calls c.requires.goes_on c.requires.current c.destination-to.ensures.destination c.into_octets.ensures
    c.holder_near-place.ensures c.offer_to.ensures.fares c.one_said-reply.ensures refl refl c.add.ensures.made (c.add.ensures.counts ∙ ap (plus c.args.self.now.tally.counts) c.counts_of.ensures.value)

pub returns-clause-learns : goal.returns-clause-learns
returns-clause-learns c =
    let d = c.args.self.now in
    let r = reaches c.destination-to.result c.into_octets.result c.holder_near-place.result c.offer_to.result c.one_said-reply.result d.rows.items c.offer_to.new.rows.items d.filed.one_at
    c.holder_near-place.ensures c.offer_to.ensures.fares c.one_said-reply.ensures in
    learns (holds c.destination-to.result) (Some Full) c.into_octets.result d _ _ r.0 r.2 r.1

pub invariant_of-self-2-clause-filed : goal.invariant_of-self-2-clause-filed
invariant_of-self-2-clause-filed c =
    let d = c.args.self.now in
    let after = c.offer_to.new.rows.items in
    let r = reaches c.destination-to.result c.into_octets.result c.holder_near-place.result c.offer_to.result c.one_said-reply.result d.rows.items after d.filed.one_at
    c.holder_near-place.ensures c.offer_to.ensures.fares c.one_said-reply.ensures in
    filed_same after _ d.directory _ refl refl
    (subst (λ (n : ℕ). AreFiled after n d.directory) (sym (ap (λ (k : Counts). k.joined) (c.add.ensures.counts ∙ ap (plus d.tally.counts) c.counts_of.ensures.value) ∙ add-zero d.tally.counts.joined))
    (filed_each d.rows.items after d.tally.counts.joined d.directory (all_filed (holds c.destination-to.result) (Some Full) c.into_octets.result
    (holds_open c.destination-to.result) d.rows.items r.0 after r.1) d.filed))
