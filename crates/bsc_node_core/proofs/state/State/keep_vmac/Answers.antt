use Rattle.std.proofs.Common.{◌++◌, refl}
use Rattle.std.proofs.lemmas.Result.{on_ok_weaker}
use Rattle.bsc_node.specs.declared.note.Note.TheVariants.{NoRandom}
use Rattle.bsc_node.specs.Logs.{tells}
use Rattle.bsc_node.specs.Meeting.{ends_refused}
use Rattle.bsc_node_core.specs.Standing.{Stands}
use Rattle.bsc_node_core.proofs.Asking.{two-in-order}
use Rattle.bsc_node_core.proofs.Wants.{told-stands}
use Rattle.bsc_node_core.proofs.state.State.keep_vmac.Goals as goal

pub returns : goal.returns
returns c = on_ok_weaker c.end_refused.result
    (λ g b L r h.
    two-in-order (Stands b _ _) L (tells NoRandom) (ends_refused b.made)
    (g b (L ++ tells NoRandom L) r (told-stands b c.args.out.now _ c.args.self.now L (tells NoRandom L) NoRandom c.in_ok-tell.ensures refl h)))
    c.end_refused.ensures
