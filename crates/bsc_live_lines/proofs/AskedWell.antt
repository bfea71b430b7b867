-- What a line asks as it comes is one of the events for which a script may ask.
use Rattle.std.proofs.Common.{◌≡◌, ℕ, true, List, Option, Some, None, IfSome, subst}
use Rattle.bsc_node_run.specs.declared.line.Line.{Line}
use Rattle.bsc_node_run.specs.declared.line.Line.TheVariants.{Nothing, At, Ask}
use Rattle.bsc_node_run.specs.Requests.{is_asked}
use Rattle.bsc_node_run.specs.Saying.{line_of}
use Rattle.bsc_node_run.proofs.Asked.{AsksWell, line_well}
use Rattle.bsc_live_lines.specs.Requests.{asked_by}

well : (said : Option Line) → AsksWell said → IfSome (asked_by said) (λ event. is_asked event ≡ true)
well None p = tt
well (Some Nothing) p = tt
well (Some (At ms)) p = tt
well (Some (Ask event)) p = p

pub said_well : (o : List ℕ) (line : Line) → line_of o ≡ Some line → IfSome (asked_by (Some line)) (λ event. is_asked event ≡ true)
said_well o line h = well (Some line) (subst AsksWell h (line_well o))
