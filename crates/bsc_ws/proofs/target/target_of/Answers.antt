use Rattle.std.proofs.Common.{rules, sym, subst}
use Rattle.bsc_ws.specs.Targets.{NamesAddress}
use Rattle.bsc_ws.proofs.target.target_of.Goals as goal

pub returns : goal.returns
returns c = (
  search rules,
  (
    c.in-Ok.parsed,
    c.in-Some.host.now,
    c.in-Ok.ensures.ok,
    c.in-Some.ensures.value,
    subst (NamesAddress c.in-Some.host.now) (sym c.new.ensures.ip) c.in-Some-address_of.ensures,
  ),
)
