-- A name stands where its peer does.
use Rattle.std.proofs.Common.{◌∙◌}
use Rattle.bsc_script.proofs.Names.{named_place}
use Rattle.bsc_script.proofs.script_hub.ScriptHub.place_of.Goals as goal

pub returns-clause-place : goal.returns-clause-place
returns-clause-place c = λ ks ix. c.get_index_of.ensures.index ∙ named_place c.args.self.now ks c.args.name.now ix
