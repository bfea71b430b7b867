use Rattle.std.proofs.Common.{rules, ◌≡◌, ℕ, ◌%◌, ◌∷◌, Option, subst}
use Rattle.atomic_table.specs.Table.{rest}
use Rattle.bsc_ring.specs.Lists.{Item}
use Rattle.bsc_ring.proofs.Keeping.{loads_tail, item_in_hand, stores_head}
use Rattle.bsc_ring.proofs.steps.take_next.Goals as goal

pub load-tail-requires : goal.load-tail-requires
load-tail-requires c = (search rules, search rules, loads_tail _ _ c.args.seat.now.me (search rules) (search rules) (search rules))

pub exchange-item-requires : goal.exchange-item-requires
exchange-item-requires c =
    let slot : c.args.taken % c.args.capacity ≡ c.args.slot = search rules in (
      search rules,
      subst (λ (i : ℕ). (x : Option Item) × (c.load-tail.new.seat.me.1 ≡ (i, x) ∷ rest c.load-tail.new.seat.me.1)) slot
          (item_in_hand _ c.load-tail.result c.args.taken c.args.capacity c.args.seat.now.me c.load-tail.new.seat.me c.load-tail.ensures.2 (search rules) (search rules) (search rules)),
    )

pub store-requires : goal.store-requires
store-requires c = (
  search rules,
  search rules,
  stores_head _ _ c.load-tail.result c.args.taken c.args.capacity c.args.seat.now.me c.load-tail.new.seat.me c.exchange-item.new.seat.me c.load-tail.ensures.2
      (search rules) (search rules) (search rules) (search rules) (search rules),
)
