use Rattle.std.proofs.Common.{codes, inl, inr, refl, rules}
use Rattle.bsc_hub_command.proofs.command.settle.Goals as goal

pub returns-in-Ok-clause-unsettled : goal.returns-in-Ok-clause-unsettled
returns-in-Ok-clause-unsettled g c f f' =
    let k = c.in-Ok.ensures.found in
    inr (inl (c.args.text.now, codes "hub", refl, inr (inr (c.in-Ok.settings, k.0, refl, k.1, k.2, c.in-None.is)), c.refuse.ensures.says))

pub returns-in-Err-NotToml-clause-unsettled : goal.returns-in-Err-NotToml-clause-unsettled
returns-in-Err-NotToml-clause-unsettled g c f f' =
    inr (inl (c.args.text.now, codes "-", refl, inl (refl, c.read_settings.ensures.not_toml (search rules)), c.refuse-in-Err-NotToml.ensures.says))

pub returns-in-Err-Key-clause-unsettled : goal.returns-in-Err-Key-clause-unsettled
returns-in-Err-Key-clause-unsettled g c f f' =
    let k = c.read_settings.ensures.refused c.in-Err-Key.name (search rules) in
    inr (inl (c.args.text.now, c.text.result.now, refl, inr (inl (c.in-Err-Key.name, k.0, c.text.ensures, k.1, k.2)), c.refuse-in-Err-Key.ensures.says))
