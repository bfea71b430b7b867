-- A connection's peer stands where its name does.
use Rattle.std.proofs.Common.{sym, ap, ◌∙◌, position}
use Rattle.bsc_script.specs.States.{is_named}
use Rattle.bsc_script.proofs.Names.{named_place, conn_place, no_conn_place}
use Rattle.bsc_script.proofs.script_hub.ScriptHub.place_on.Goals as goal

pub returns-in-Some-clause-place : goal.returns-in-Some-clause-place
returns-in-Some-clause-place c = λ ks ix.
    c.get_index_of.ensures.index
    ∙ named_place c.args.self.now ks c.as_slice.result.now ix
    ∙ ap (λ n. position (is_named n) ks) c.as_slice.ensures
    ∙ conn_place c.args.self.now ks c.args.conn c.in-Some.name.now ix (sym c.in-Some.ensures.value)

pub returns-in-None-clause-place : goal.returns-in-None-clause-place
returns-in-None-clause-place c = λ ks ix. sym (no_conn_place c.args.self.now ks c.args.conn ix (sym c.in-None.ensures.value))
