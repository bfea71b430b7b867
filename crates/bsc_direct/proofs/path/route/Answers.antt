use Rattle.std.proofs.Common.{◌≡◌, ℕ, Option, None, ap, sym, ◌∙◌, subst}
use Rattle.bsc_octets.specs.declared.vmac.Vmac.{Vmac}
use Rattle.bsc_octets.specs.Addresses.{broadcast}
use Rattle.bsc_direct.specs.Slots.{established}
use Rattle.bsc_direct.proofs.Following.{never_broadcast}
use Rattle.bsc_direct.specs.Paths.{slot_or, hub_path}
use Rattle.bsc_direct.proofs.path.route.Goals as goal

pub returns-in-Some-clause-path : goal.returns-in-Some-clause-path
returns-in-Some-clause-path c = λ calls s. ap (λ (o : Option ℕ). slot_or o (hub_path c.args.hub_use)) (c.in-Some.ensures calls s)

pub returns-in-Some-clause-broadcast : goal.returns-in-Some-clause-broadcast
returns-in-Some-clause-broadcast c = λ calls s to_all.
    ap (λ (o : Option ℕ). slot_or o (hub_path c.args.hub_use)) (c.in-Some.ensures calls s ∙ ap (λ (v : Vmac). established calls v) to_all ∙ never_broadcast c.args.direct.now calls s)

pub returns-in-None-clause-path : goal.returns-in-None-clause-path
returns-in-None-clause-path c = λ calls s. c.over_hub.ensures ∙ ap (λ (o : Option ℕ). slot_or o (hub_path c.args.hub_use)) (c.in-None.ensures calls s)
