use Rattle.std.proofs.Common.{◌∙◌, sym, subst}
use Rattle.bsc_settings.specs.Uris.{IsHubUri, AreUris}
use Rattle.bsc_settings.proofs.Texts.{some-now, is_some-now}
use Rattle.bsc_settings.proofs.node_table.join_parts.Goals as goal

pub invariant_of-result-clause-primary_fits : goal.invariant_of-result-clause-primary_fits
invariant_of-result-clause-primary_fits c =
    subst IsHubUri (sym c.in_ok-primary.ensures.value) c.args.peers.now.primary_fits

pub invariant_of-result-clause-failover_fits : goal.invariant_of-result-clause-failover_fits
invariant_of-result-clause-failover_fits c =
    some-now IsHubUri c.in_ok-failover.failover c.args.peers.now.failover c.in_ok-failover.ensures.value c.args.peers.now.failover_fits

pub invariant_of-result-clause-uris_fit : goal.invariant_of-result-clause-uris_fit
invariant_of-result-clause-uris_fit c =
    some-now AreUris c.in_ok-direct_uris.direct_uris c.args.peers.now.direct_uris c.in_ok-direct_uris.ensures.value c.args.peers.now.uris_fit

pub invariant_of-result-clause-uris_of_port : goal.invariant_of-result-clause-uris_of_port
invariant_of-result-clause-uris_of_port c =
    is_some-now c.in_ok-direct_uris.direct_uris c.args.peers.now.direct_uris c.in_ok-direct_uris.ensures.value ∙ c.args.peers.now.uris_of_port
