-- Lines that are refused as a node runs, and what is told of them.
-- No clause needs it: worked examples.
use Rattle.std.proofs.Common.{◌≡◌, codes, Some, true, false, refl}
use Rattle.bsc_live_lines.specs.declared.refusal.Refusal.{Refusal}
use Rattle.bsc_live_lines.specs.Refusals.{is_good}
use Rattle.bsc_live_lines.specs.Requests.{said_by}
use Rattle.bsc_node_run.specs.Saying.{line_of}
use Rattle.bsc_why.specs.declared.refusal_cause.RefusalCause.TheVariants.{SetsTime, Late}
use Rattle.bsc_why.specs.Refusals.{IsCause, cause_text}

-- A line that sets a time is refused,
a_time_is_refused : is_good false (said_by (codes "at 20")) ≡ false
unfolding line_of
a_time_is_refused = refl

-- and an empty line isn't.
an_empty_line_is_good : is_good false (said_by (codes "")) ≡ true
unfolding line_of
an_empty_line_is_good = refl

the_seventh : Refusal
the_seventh = record { number = 7; text = codes "at 20"; has_finished = false }

it_sets_a_time : IsCause SetsTime the_seventh
unfolding line_of the_seventh
it_sets_a_time = (20, refl)

-- The node wasn't asked to end before.
it_is_not_late : IsCause Late the_seventh → ⊥
unfolding the_seventh
it_is_not_late late = (let k : false ≡ true = late.1 in cc)

this_is_told : cause_text SetsTime ≡ Some (codes "it sets a time, and lines that come as the node runs have none")
this_is_told = refl
