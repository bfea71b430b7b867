use Rattle.std.proofs.Common.{None, arith, refl, sym, subst, ◌∙◌}
use Rattle.bsc_node_run.specs.Calling.{IsHeard}
use Rattle.bsc_node_run.proofs.Acting.{none_past, slot_called}
use Rattle.bsc_node_run.proofs.link_set.LinkSet.receive.Goals as goal

pub returns-then-k-lt-SLOTS-clause-new : goal.returns-then-k-lt-SLOTS-clause-new
returns-then-k-lt-SLOTS-clause-new g c d h = record {
  link = slot_called c.args.name c.in-Direct.k c.args.self.now.primary c.args.self.now.failover c.args.self.now.slots.items c.receive_in.new.slots.items
      c.in-Direct.is c.receive_in.ensures.new (omega (arith, c.if-k-lt-SLOTS.true)) (sym c.args.self.now.slots.ok.0 ∙ c.args.self.now.all);
  arrived = refl;
  over = refl;
  due = refl;
  waiting = refl;
  finished = refl;
  dialled = refl;
  held = refl;
}

pub returns-else-k-lt-SLOTS-clause-heard : goal.returns-else-k-lt-SLOTS-clause-heard
returns-else-k-lt-SLOTS-clause-heard g c = subst (λ o. IsHeard g.L.Link.talk o o None)
    (none_past c.args.name c.in-Direct.k c.args.self.now.primary c.args.self.now.failover c.args.self.now.slots.items c.in-Direct.is (sym c.args.self.now.slots.ok.0 ∙ c.args.self.now.all)
    (omega (arith, c.if-k-lt-SLOTS.false))) tt
