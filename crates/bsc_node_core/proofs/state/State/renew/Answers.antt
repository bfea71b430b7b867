use Rattle.std.proofs.Common.{[], ◌∷◌, ◌++◌, ap}
use Rattle.std.proofs.lemmas.Result.{on_ok_weaker}
use Rattle.bsc_octets.specs.declared.vmac.Vmac.{Vmac}
use Rattle.bsc_octets.specs.declared.identity.Identity.{Identity}
use Rattle.bsc_node.specs.declared.note.Note.TheVariants.{Renewed}
use Rattle.bsc_node.specs.declared.action.Action.TheVariants.{Tell}
use Rattle.bsc_node.specs.Logs.{Rule, did, tells, own_vmac}
use Rattle.bsc_node.specs.Meeting.{ends_refused}
use Rattle.bsc_node_core.specs.Standing.{Stands}
use Rattle.bsc_node_core.proofs.Asking.{two-in-order}
use Rattle.bsc_node_core.proofs.Wants.{told-stands}
use Rattle.bsc_node_core.proofs.state.State.renew.Goals as goal

pub returns : goal.returns
returns c = on_ok_weaker c.end_refused.result
    (λ g b L r h.
    let told : Rule = λ M. tells (Renewed (own_vmac b.made M)) M in
    let lines = ap (λ (v : Vmac). did (Tell (Renewed v)) ∷ []) (ap (λ (i : Identity). i.vmac) h.own) in
    two-in-order (Stands b _ _) L told (ends_refused b.made)
    (g b (L ++ told L) r (told-stands b c.args.out.now _ c.args.self.now L (told L) (Renewed c.args.self.now.own.vmac) c.in_ok-tell.ensures lines h)))
    c.end_refused.ensures
