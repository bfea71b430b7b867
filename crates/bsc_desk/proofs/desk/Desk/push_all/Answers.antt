use Rattle.std.proofs.Common.{◌≡◌, ℕ, None, refl, ap, sym, subst, add-zero, arith, ◌∙◌, length}
use Rattle.bsc_octets.specs.Forwarding.{out}
use Rattle.bsc_history.specs.declared.counts.Counts.{Counts}
use Rattle.bsc_history.specs.Counting.{plus}
use Rattle.bsc_desk.specs.Directories.{AreFiled}
use Rattle.bsc_desk.specs.Fates.{is_meant, missed_of, to_of}
use Rattle.bsc_desk.proofs.Broadcasts.{few_missed, few_to, is_meant_open, lawful_all, stands_all}
use Rattle.bsc_desk.proofs.Fared.{all_filed}
use Rattle.bsc_desk.proofs.Filing.{filed_each}
use Rattle.bsc_desk.proofs.Forwards.{few_pushed}
use Rattle.bsc_desk.proofs.Learning.{learns}
use Rattle.bsc_desk.proofs.desk.Desk.push_all.Goals as goal

pub offer_all-to-requires-clause-few : goal.offer_all-to-requires-clause-few
offer_all-to-requires-clause-few c = few_pushed c.args.self.now c.requires.some.0 c.requires.some.1

pub counts_of-requires-clause-few_to : goal.counts_of-requires-clause-few_to
counts_of-requires-clause-few_to c =
    let d = c.args.self.now in
    let o = out c.args.frame.now.message c.args.frame.now.sender in
    let cast = c.offer_all-to.ensures.fates in
    let few = few_to (is_meant c.args.conn) None o d.rows.items cast.0 c.offer_all-to.new.rows.items cast.1 in
    let len = c.len.ensures in
    let to = ap length cast.2.to in
    let rows = d.few_rows in
    let limit = d.in_range.few_rows in
    omega (arith, d.rows.ok.0, c.offer_all-to.result.to.ok.0)

pub counts_of-requires-clause-few_missed : goal.counts_of-requires-clause-few_missed
counts_of-requires-clause-few_missed c =
    let d = c.args.self.now in
    let o = out c.args.frame.now.message c.args.frame.now.sender in
    let cast = c.offer_all-to.ensures.fates in
    let few = few_missed (is_meant c.args.conn) None o d.rows.items cast.0 c.offer_all-to.new.rows.items cast.1 in
    let len = c.len-2.ensures in
    let missed = ap length cast.2.missed in
    let rows = d.few_rows in
    let limit = d.in_range.few_rows in
    omega (arith, d.rows.ok.0, c.offer_all-to.result.missed.ok.0)

pub returns-clause-due : goal.returns-clause-due
returns-clause-due c S p =
    let cast = c.offer_all-to.ensures.fates in
    (lawful_all c.args.self.now S c.args.caller c.args.conn c.args.frame.now cast.0 c.offer_all-to.new.rows.items c.from_vec.result c.from_vec-2.result c.from_vec-3.result
    c.from_vec-4.result p c.requires.unleft c.has_route.ensures c.requires.broadcast c.requires.calls c.requires.goes_on c.requires.current cast.1 (c.from_vec.ensures ∙ cast.2.to)
    (c.from_vec-2.ensures ∙ cast.2.missed) (c.from_vec-3.ensures ∙ cast.2.skipped) (c.from_vec-4.ensures ∙ cast.2.looks)).replied

pub returns-clause-stands : goal.returns-clause-stands
returns-clause-stands c S p =
    let cast = c.offer_all-to.ensures.fates in
    let len = c.len.ensures in
    let len_missed = c.len-2.ensures in
    let to = ap length cast.2.to in
    let missed = ap length cast.2.missed in
    let k : c.len.result ≡ length (to_of cast.0) = omega (arith, c.offer_all-to.result.to.ok.0) in
    let j : c.len-2.result ≡ length (missed_of cast.0) = omega (arith, c.offer_all-to.result.missed.ok.0) in
    stands_all c.args.self.now _ S c.args.caller c.args.conn c.args.frame.now cast.0 c.from_vec.result c.from_vec-2.result c.from_vec-3.result c.from_vec-4.result c.len.result c.len-2.result
    p c.requires.unleft c.has_route.ensures c.requires.broadcast c.requires.calls c.requires.goes_on c.requires.current cast.1 (c.from_vec.ensures ∙ cast.2.to)
    (c.from_vec-2.ensures ∙ cast.2.missed) (c.from_vec-3.ensures ∙ cast.2.skipped) (c.from_vec-4.ensures ∙ cast.2.looks) k j refl refl c.add.ensures.made
    (c.add.ensures.counts ∙ ap (plus c.args.self.now.tally.counts) c.counts_of.ensures.value)

pub returns-clause-learns : goal.returns-clause-learns
returns-clause-learns c =
    let cast = c.offer_all-to.ensures.fates in
    learns (is_meant c.args.conn) None (out c.args.frame.now.message c.args.frame.now.sender) c.args.self.now _ _ cast.0 (c.from_vec-4.ensures ∙ cast.2.looks) cast.1

pub invariant_of-self-clause-filed : goal.invariant_of-self-clause-filed
invariant_of-self-clause-filed c =
    let d = c.args.self.now in
    let after = c.offer_all-to.new.rows.items in
    let cast = c.offer_all-to.ensures.fates in
    subst (λ (n : ℕ). AreFiled after n d.directory) (sym (ap (λ (k : Counts). k.joined) (c.add.ensures.counts ∙ ap (plus d.tally.counts) c.counts_of.ensures.value) ∙ add-zero d.tally.counts.joined))
    (filed_each d.rows.items after d.tally.counts.joined d.directory (all_filed (is_meant c.args.conn) None (out c.args.frame.now.message c.args.frame.now.sender)
    (is_meant_open c.args.conn) d.rows.items cast.0 after cast.1) d.filed)
