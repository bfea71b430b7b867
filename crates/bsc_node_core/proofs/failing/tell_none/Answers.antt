use Rattle.std.proofs.Common.{refl, ◌∙◌}
use Rattle.std.proofs.lemmas.Result.{on_ok_weaker}
use Rattle.bsc_node.specs.declared.note.Note.TheVariants.{NoDirect}
use Rattle.bsc_node.specs.Logs.{nothing, tells}
use Rattle.bsc_node.specs.Ways.{wanted}
use Rattle.bsc_node_core.specs.Standing.{Stands}
use Rattle.bsc_node_core.proofs.Branching.{found-some}
use Rattle.bsc_node_core.proofs.Wants.{told-stands}
use Rattle.bsc_node_core.proofs.failing.tell_none.Goals as goal

pub returns-in-Some : goal.returns-in-Some
returns-in-Some c = on_ok_weaker c.tell.result
    (λ t b s L w h.
    found-some (λ M. Stands b c.tell.new.out s M) L (wanted c.args.k) (λ v. tells (NoDirect v)) nothing c.in-Some.v (w ∙ c.in-Some.is)
    (told-stands b c.args.out.now _ s L _ (NoDirect c.in-Some.v) t refl h))
    c.tell.ensures
