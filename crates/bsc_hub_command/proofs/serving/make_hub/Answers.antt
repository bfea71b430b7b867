use Rattle.std.proofs.Common.{ap, subst, sym, ◌≡◌, ◌∙◌}
use Rattle.std.specs.Arc.{arc_value}
use Rattle.bsc_octets.specs.declared.identity.Identity.{Identity}
use Rattle.bsc_history.specs.declared.limits.About.{About}
use Rattle.bsc_hub.specs.Passing.{about_of}
use Rattle.bsc_settings.specs.Parts.{identity_of, limits_of}
use Rattle.bsc_journal.specs.Saying.{IsHubLine, IsIdentity}
use Rattle.bsc_hub_command.specs.HubLines.{hub_text}
use Rattle.bsc_hub_command.proofs.HubBack.{hub_back}
use Rattle.bsc_hub_command.proofs.Settling.{can_be_said}
use Rattle.bsc_hub_command.proofs.serving.make_hub.Goals as goal

pub returns-clause-said : goal.returns-clause-said
returns-clause-said c =
    let settings = c.args.settings.now in
    let about : About = record { hub = identity_of settings; limits = limits_of settings } in
    let same : about_of (arc_value c.in_ok-new.field-0) ≡ about =
    ap about_of c.in_ok-new.ensures.ok ∙ c.in_ok-hub.ensures.about
    ∙ (λ i. record { hub = c.identity-who.ensures i; limits = c.limits.ensures.limits i }) in
    let is = subst (λ (x : Identity). IsIdentity x) c.identity-who.ensures c.is_identity.ensures in
    subst (λ (a : About). IsHubLine (hub_text a) a) (sym same) (hub_back about is (can_be_said settings))
