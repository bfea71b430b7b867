use Rattle.std.proofs.Common.{[], ◌∷◌}
use Rattle.bsc_frame.specs.declared.check.Check.TheVariants.{C10, C10b, C10c, C11}
use Rattle.bsc_frame.specs.Walk.{PayloadFails}
use Rattle.bsc_frame.proofs.First.{first_here, first_after, not_so}
use Rattle.bsc_frame.proofs.payload_checks.payload_fault.Goals as goal

pub returns-then-is_missing : goal.returns-then-is_missing
returns-then-is_missing c = first_here (PayloadFails c.args.function c.args.p.now) C10 (C10b ∷ C10c ∷ C11 ∷ []) (c.is_missing.ensures.0 c.if-is_missing.true)

pub returns-then-is_below_fixed_part : goal.returns-then-is_below_fixed_part
returns-then-is_below_fixed_part c =
    let fails = PayloadFails c.args.function c.args.p.now in
    first_after fails C10 (C10b ∷ C10c ∷ C11 ∷ []) C10b (not_so _ c.is_missing.result c.is_missing.ensures.1 c.if-is_missing.false)
    (first_here fails C10b (C10c ∷ C11 ∷ []) (c.is_below_fixed_part.ensures.0 c.if-is_below_fixed_part.true))

pub returns-then-is_beyond_fixed_part : goal.returns-then-is_beyond_fixed_part
returns-then-is_beyond_fixed_part c =
    let fails = PayloadFails c.args.function c.args.p.now in
    first_after fails C10 (C10b ∷ C10c ∷ C11 ∷ []) C10c (not_so _ c.is_missing.result c.is_missing.ensures.1 c.if-is_missing.false)
    (first_after fails C10b (C10c ∷ C11 ∷ []) C10c (not_so _ c.is_below_fixed_part.result c.is_below_fixed_part.ensures.1 c.if-is_below_fixed_part.false)
    (first_here fails C10c (C11 ∷ []) (c.is_beyond_fixed_part.ensures.0 c.if-is_beyond_fixed_part.true)))

pub returns-then-is_out_of_range : goal.returns-then-is_out_of_range
returns-then-is_out_of_range c =
    let fails = PayloadFails c.args.function c.args.p.now in
    first_after fails C10 (C10b ∷ C10c ∷ C11 ∷ []) C11 (not_so _ c.is_missing.result c.is_missing.ensures.1 c.if-is_missing.false)
    (first_after fails C10b (C10c ∷ C11 ∷ []) C11 (not_so _ c.is_below_fixed_part.result c.is_below_fixed_part.ensures.1 c.if-is_below_fixed_part.false)
    (first_after fails C10c (C11 ∷ []) C11 (not_so _ c.is_beyond_fixed_part.result c.is_beyond_fixed_part.ensures.1 c.if-is_beyond_fixed_part.false)
    (first_here fails C11 [] (c.is_out_of_range.ensures.0 c.if-is_out_of_range.true))))
