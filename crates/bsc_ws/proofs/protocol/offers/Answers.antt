use Rattle.std.proofs.Common.{rules, sym, ◌∙◌, subst, Some, arith}
use Rattle.std.proofs.lemmas.Slice.Eq.{bytes_eq-Decides}
use Rattle.std.proofs.lemmas.Str.Pattern.{split_parts}
use Rattle.std.specs.Str.{IsTrimAscii}
use Rattle.bsc_ws.proofs.Offering.{last_offers, first_offers, rest_is_left}
use Rattle.bsc_ws.proofs.protocol.offers.Goals as goal

pub returns-then-eq : goal.returns-then-eq
returns-then-eq c = λ _. first_offers c.args.text.now c.loop.left.now c.in-Some.first.now c.in-Some.rest.now c.args.name.now
    c.loop.invariant.1
    (split_parts 44 c.loop.left.now (Some (c.in-Some.first, c.in-Some.rest)) c.in-Some.ensures.cases (omega arith)).0
    (subst (IsTrimAscii c.in-Some.first.now) ((bytes_eq-Decides _ _).0 (sym c.eq.ensures ∙ c.if-eq.true)) c.trim_ascii.ensures.value)

pub returns-in-None : goal.returns-in-None
returns-in-None c = λ same. last_offers c.args.text.now c.loop.left.now c.args.name.now c.loop.invariant.1
    (subst (IsTrimAscii c.loop.left.now) ((bytes_eq-Decides _ _).0 (sym c.eq-in-None.ensures ∙ same)) c.trim_ascii-in-None.ensures.value)

pub loop-preserved : goal.loop-preserved
loop-preserved c = (
  search rules,
  rest_is_left c.args.text.now c.loop.left.now c.in-Some.first.now c.in-Some.rest.now
      c.loop.invariant.1
      (split_parts 44 c.loop.left.now (Some (c.in-Some.first, c.in-Some.rest)) c.in-Some.ensures.cases (omega arith)).0,
)
