use Rattle.std.proofs.Common.{ℕ, List, ◌++◌, ◌∙◌, ap, sym, Option}
use Rattle.bsc_settings.specs.Listed.{Listed}
use Rattle.bsc_settings_told.specs.Told.{hub_lines, listed_lines}
use Rattle.bsc_settings_told.proofs.Saying.{policy_says}
use Rattle.bsc_settings_told.proofs.hub_told.tell_hub.Goals as goal

pub returns : goal.returns
returns c doc settings document said =
    let lists = c.in_ok-policy.ensures doc document ∙ sym (policy_says doc settings said) in
    c.in_ok-tell_listed.ensures ∙ ap (λ (l : Option Listed). hub_lines c.args.hub.now ++ listed_lines l) lists
