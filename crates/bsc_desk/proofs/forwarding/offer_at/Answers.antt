use Rattle.std.proofs.Common.{nat_lt, refl, ap, sym, Some, ◌∙◌}
use Rattle.bsc_history.specs.declared.ending.End.TheVariants.{Full}
use Rattle.bsc_desk.specs.declared.fate.Fate.TheVariants.{TooLong}
use Rattle.bsc_desk.specs.Fates.{Fares}
use Rattle.bsc_desk.proofs.Walks.{changes_set}
use Rattle.bsc_desk.proofs.forwarding.offer_at.Goals as goal

pub returns-then-is_short_of-clause-fares : goal.returns-then-is_short_of-clause-fares
returns-then-is_short_of-clause-fares c =
    let r = c.index_mut-row.result.now in
    changes_set (λ x s. Fares (Some Full) c.args.octets x (TooLong r.connection.number) s) c.args.rows.now.items c.args.place r r c.requires.live.0 c.index_mut-row.ensures.value
    (ap (nat_lt r.connection.who.max_bvlc) (sym c.len.ensures) ∙ sym c.is_short_of.ensures ∙ c.if-is_short_of.true, refl, refl)

pub returns-else-is_short_of-clause-fares : goal.returns-else-is_short_of-clause-fares
returns-else-is_short_of-clause-fares c =
    let r = c.index_mut-row.result.now in
    changes_set (λ x s. Fares (Some Full) c.args.octets x c.offer.result s) c.args.rows.now.items c.args.place r c.offer.new.self c.requires.live.0 c.index_mut-row.ensures.value c.offer.ensures
