-- The name that is kept at a place is that of the peer there.
use Rattle.std.proofs.Common.{sym, ◌∙◌}
use Rattle.bsc_script.proofs.Names.{name_kept}
use Rattle.bsc_script.proofs.script_hub.ScriptHub.name_at.Goals as goal

pub returns : goal.returns
returns c = λ ks k ix here. c.as_slice.ensures.value ∙ name_kept c.args.self.now ks c.args.at k (c.in-Some.name.now, c.in-Some.field-0-1.now) ix here (sym c.in-Some.ensures.entry)
