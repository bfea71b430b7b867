use Rattle.bsc_node_core.proofs.Refusing.{may-renew-so, may-renew-not}
use Rattle.bsc_node_core.proofs.state.State.may_renew.Goals as goal

pub returns-then-self : goal.returns-then-self
returns-then-self c = λ b out L h. may-renew-not b out c.args.self.now L c.if-self.true h

pub returns : goal.returns
returns c = λ b out L h. may-renew-so b out c.args.self.now L c.if-self.false h
