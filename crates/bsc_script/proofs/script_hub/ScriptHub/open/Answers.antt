-- A name opens.
use Rattle.std.proofs.Common.{◌≡◌, [], Ok, Some, false, sym, ◌∙◌, refl, subst}
use Rattle.bsc_script.specs.States.{is_open, new_peer, with_opened}
use Rattle.bsc_script.specs.Carrying.{quietly}
use Rattle.bsc_script.specs.Running.{opens}
use Rattle.bsc_script.proofs.Opened.{opened, opens_to, may_open_so}
use Rattle.bsc_script.proofs.script_hub.ScriptHub.open.Goals as goal

pub returns : goal.returns
returns c = λ s h. (
    let may = may_open_so s c.as_slice.result.now (sym (c.if-not-may_open.ensures s h.0)) in
    let closed : is_open s c.into_vec.result.items ≡ false = subst (λ n. is_open s n ≡ false) (c.as_slice.ensures ∙ sym c.into_vec.ensures) may.0 in
    let some : opens s c.args.name ≡ Some (quietly (with_opened (new_peer c.args.name s.clock) s)) =
    subst (λ n. opens s n ≡ Some (quietly (with_opened (new_peer n s.clock) s))) c.as_slice.ensures may.1 in
    opens_to _ s c.into_vec.result.items c.args.name c.into_vec.ensures some
    (opened c.args.self.now _ s c.into_vec.result c.start.result h closed c.start.ensures.stands refl refl refl refl c.in-Ok.ensures.entries))
