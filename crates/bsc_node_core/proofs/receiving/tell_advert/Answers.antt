use Rattle.std.proofs.Common.{Some, ◌∙◌}
use Rattle.std.proofs.lemmas.Result.{on_ok_weaker}
use Rattle.bsc_node.specs.declared.note.Note.TheVariants.{Advert}
use Rattle.bsc_node.specs.Logs.{tells}
use Rattle.bsc_node_core.proofs.Taking.{of_known}
use Rattle.bsc_node_core.proofs.Wants.{told-stands}
use Rattle.bsc_node_core.proofs.receiving.tell_advert.Goals as goal

pub returns-in-Some : goal.returns-in-Some
returns-in-Some c = on_ok_weaker c.tell.result
    (λ t b s L name msg f h.
    told-stands b c.args.out.now _ s L _ (Advert c.in-Some.v c.args.told) t (of_known name msg (λ v. tells (Advert v c.args.told)) L (Some c.in-Some.v) (f ∙ c.in-Some.is)) h)
    c.tell.ensures
