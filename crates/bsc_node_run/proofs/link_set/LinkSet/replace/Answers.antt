use Rattle.std.proofs.Common.{arith, refl, sym, ◌∙◌}
use Rattle.bsc_node_run.proofs.Acting.{none_past, slot_named}
use Rattle.bsc_node_run.proofs.link_set.LinkSet.replace.Goals as goal

pub returns-then-k-lt-SLOTS-clause-new : goal.returns-then-k-lt-SLOTS-clause-new
returns-then-k-lt-SLOTS-clause-new g c d h = record {
  link = slot_named c.args.name c.in-Direct.k c.args.self.now.primary c.args.self.now.failover c.args.self.now.slots.items c.replace_in.new.slots.items c.args.link
      c.in-Direct.is c.replace_in.ensures.new (omega (arith, c.if-k-lt-SLOTS.true)) (sym c.args.self.now.slots.ok.0 ∙ c.args.self.now.all);
  arrived = refl;
  over = refl;
  due = refl;
  waiting = refl;
  finished = refl;
  dialled = refl;
  held = refl;
}

pub returns-else-k-lt-SLOTS-clause-old : goal.returns-else-k-lt-SLOTS-clause-old
returns-else-k-lt-SLOTS-clause-old g c =
    none_past c.args.name c.in-Direct.k c.args.self.now.primary c.args.self.now.failover c.args.self.now.slots.items c.in-Direct.is (sym c.args.self.now.slots.ok.0 ∙ c.args.self.now.all)
    (omega (arith, c.if-k-lt-SLOTS.false))
