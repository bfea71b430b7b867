-- A peer is held, or freed.
use Rattle.std.proofs.Common.{◌≡◌, [], Ok, Err, Some, option_map, refl, sym, ap, ◌∙◌, subst}
use Rattle.bsc_script.specs.declared.due.Due.TheVariants.{Nobody}
use Rattle.bsc_script.specs.States.{peer_of}
use Rattle.bsc_script.specs.Carrying.{ends}
use Rattle.bsc_script.specs.Receiving.{receives}
use Rattle.bsc_script.specs.Running.{gets_text, holds}
use Rattle.std.proofs.lemmas.Result.{err_from_is_err_and}
use Rattle.bsc_script.specs.Touching.{dues}
use Rattle.bsc_script.specs.Holding.{ActsTo}
use Rattle.bsc_script.proofs.Changes.{at_settled}
use Rattle.bsc_script.proofs.Acted.{unknown_acts, rebased, by_peer}
use Rattle.bsc_script.proofs.script_hub.ScriptHub.hold_name.Goals as goal

pub returns-in_err-at : goal.returns-in_err-at
returns-in_err-at c = λ s b h. (
    let e = err_from_is_err_and c.from_residual.result c.from_residual.ensures.1 in
    let none = c.in_err-at.ensures.none s h.0 in
    unknown_acts c.from_residual.result e.0 _ c.args.self.now b b (λ k. holds s k c.args.held) (peer_of s c.args.name.now) e.1 e.2 none.0 none.1)

pub returns : goal.returns
returns c = λ s b h. (
    let k = c.in_ok-at.ensures.found s h.0 in
    by_peer (Ok c.hold.result) c.hold.new.self b b (λ k. holds s k c.args.held) (peer_of s c.args.name.now) k.0 k.2
    (rebased c.hold.new.self b (dues c.hold.result) (holds s k.0 c.args.held) (c.hold.ensures s k.0 h k.1)))
