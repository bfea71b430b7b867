use Rattle.std.proofs.Common.{ap, sym}
use Rattle.bsc_node_core.specs.declared.touched.Touched.{Touched}
use Rattle.bsc_node_core.specs.Tables.{is_touched}
use Rattle.bsc_node_core.proofs.Copying.{caught-one, same-links}
use Rattle.bsc_node_core.proofs.links.Links.catch_up.Goals as goal

pub returns-in-Nothing : goal.returns-in-Nothing
returns-in-Nothing c = λ agrees name n. sym (agrees name n (ap (λ (t : Touched). is_touched t name) c.in-Nothing.is))

pub returns-in-One : goal.returns-in-One
returns-in-One c = λ agrees name n. caught-one c.args.self.now c.copy_one.new.self c.args.links.now c.in-One.name c.in-One.is c.copy_one.ensures agrees name n

pub returns-in-Many : goal.returns-in-Many
returns-in-Many c = λ agrees name n. same-links c.args.links.now c.copy_from.new.self c.copy_from.ensures.primary c.copy_from.ensures.failover c.copy_from.ensures.slots name
