use Rattle.bsc_connector.proofs.Apart.{primary_apart, failover_apart}
use Rattle.bsc_connector.proofs.laws.dials_keep_apart.Goals as goal

pub returns-clause-primary : goal.returns-clause-primary
returns-clause-primary c = λ w E F d e range first later start second. primary_apart w E F d e range first later start second

pub returns-clause-failover : goal.returns-clause-failover
returns-clause-failover c = λ k w E F d e stands range first later quiet second. failover_apart k w E F d e stands range first later quiet second
