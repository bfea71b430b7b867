use Rattle.std.proofs.Common.{◌≡◌, ◌∙◌, ◌+◌, ◌<◌, ap, sym, subst, arith, length, IfSome, slice_get, Some}
use Rattle.std.proofs.lemmas.Option.{slice_get-get_or}
use Rattle.bsc_gate.proofs.OldestSoFar.{SoFar, so_far-more, so_far-within, so_far-all}
use Rattle.bsc_gate.proofs.handshakes.Handshakes.place.Goals as goal

pub loop-place-preserved : goal.loop-place-preserved
loop-place-preserved c =
    let here = slice_get-get_or c.deref-row-items.result.now c.loop-place.place c.row-item.result c.loop-place-test.true ∙ ap Some (sym c.row-item.is ∙ c.in-Some.is) in
    let is = subst (λ l. slice_get l c.loop-place.place ≡ Some (Some c.in-Some.row)) c.deref-row-items.ensures.value here in
    let more =
    so_far-more (λ r. r.until.micros) c.args.self.now.rows.items c.loop-place.place c.loop-place.oldest.until.micros c.older-oldest.result.until.micros
    c.loop-place.oldest.place c.older-oldest.result.place c.in-Some.row is c.older-oldest.ensures.within
    (λ e. let q = c.older-oldest.ensures.newer e in (ap (λ o. o.place) q, ap (λ o. o.until.micros) q))
    (λ l. let q = c.older-oldest.ensures.kept l in (ap (λ o. o.place) q, ap (λ o. o.until.micros) q))
    c.loop-place.invariant.2
    in
    let within = so_far-within (λ r. r.until.micros) c.args.self.now.rows.items (c.loop-place.place + 1) c.older-oldest.result.place c.older-oldest.result.until.micros more in
    (subst (λ l. IfSome c.older-oldest.result.place (λ p. p < length l)) (sym c.deref-row-items.ensures.value) within, c.loop-place.invariant.1, more)

pub returns-clause-oldest : goal.returns-clause-oldest
returns-clause-oldest c =
    let rows = c.args.self.now.rows.items in
    let all : c.loop-place.place ≡ length rows = omega (arith, c.loop-place-test.false, c.loop-place.auto.place-end, ap length c.deref-row-items.ensures.value) in
    so_far-all (λ r. r.until.micros) rows c.loop-place.oldest.place c.loop-place.oldest.until.micros
    (subst (λ i. SoFar (λ r. r.until.micros) rows i c.loop-place.oldest.place c.loop-place.oldest.until.micros) all c.loop-place.invariant.2)
