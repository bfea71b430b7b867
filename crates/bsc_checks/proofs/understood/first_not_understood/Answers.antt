use Rattle.std.proofs.Common.{sym, ◌∙◌}
use Rattle.std.proofs.lemmas.List.{nil_from_length}
use Rattle.bsc_checks.proofs.Behind.{refused_on, refused_here, refused_nowhere}
use Rattle.bsc_checks.proofs.understood.first_not_understood.Goals as goal

pub returns-then-is_refused : goal.returns-then-is_refused
returns-then-is_refused c =
    refused_here c.args.list.now c.loop-marker.rest.now c.in-Some.data.now c.in-Some.marker.now c.loop-marker.invariant c.in-Some.ensures.cases.0 (sym c.is_refused.ensures ∙ c.if-is_refused.true)

pub loop-marker-preserved : goal.loop-marker-preserved
loop-marker-preserved c =
    refused_on c.args.list.now c.loop-marker.rest.now c.in-Some.data.now c.behind_data-rest.result.now c.in-Some.marker.now c.loop-marker.invariant c.in-Some.ensures.cases.0
    (sym c.is_refused.ensures ∙ c.if-is_refused.false) c.behind_data-rest.ensures.next

pub returns : goal.returns
returns c = refused_nowhere c.args.list.now c.loop-marker.rest.now c.loop-marker.invariant (nil_from_length c.loop-marker.rest.now c.in_default.ensures.cases)
