-- What is kept and the rest have no LF.
use Rattle.std.proofs.Common.{◌≡◌, ◌<◌, true, false, inl, inr, ⊎_elim, List, ℕ, [], ◌++◌, length, take, drop, refl, sym, ap, ◌∙◌, arith, length-append, vec_len}
use Rattle.std.proofs.lemmas.List.{take_all}
use Rattle.std.proofs.lemmas.Bool.{eqb-false}
use Rattle.bsc_text.specs.Lines.{has_no_lf}
use Rattle.bsc_text.proofs.Cutting.{has_no_lf-append}
use Rattle.bsc_text.proofs.Giving.{fed-last, fed-long, fed-more}
use Rattle.bsc_text.proofs.Spending.{none-left}
use Rattle.bsc_text.proofs.feed.Feed.keep_rest.Goals as goal

pub returns-then-cannot_fit-clause-fed : goal.returns-then-cannot_fit-clause-fed
returns-then-cannot_fit-clause-fed c = λ left ended.
    let self = c.args.self.now in
    let rest = drop self.at (take self.end self.chunk.items) in
    fed-long self self.carry.items rest rest (length rest) refl self.one_line c.requires (sym (take_all (length rest) rest (omega arith)))
    refl (⊎_elim (λ k. inl (omega (arith, ap length c.rest.ensures))) (λ k. inr (omega (arith, ap length c.rest.ensures))) (c.cannot_fit.ensures.cannot c.if-cannot_fit.true)) left

pub invariant_of-self-then-not-self : goal.invariant_of-self-then-not-self
invariant_of-self-then-not-self c =
    let self = c.args.self.now in
    let rest = drop self.at (take self.end self.chunk.items) in
    let kept : c.extend_from_slice.new.self.items ≡ self.carry.items ++ rest = grind arith in
    let may = c.cannot_fit.ensures.may c.if-cannot_fit.false in
    record {
      in_order = omega arith;
      in_chunk = omega arith;
      one_chunk = self.one_chunk;
      one_line = ap has_no_lf kept ∙ has_no_lf-append self.carry.items rest self.one_line c.requires;
      short_line = omega (arith, ap length kept, ap length c.rest.ensures, length-append self.carry.items rest);
      in_script = omega (arith, ap length kept, ap length c.rest.ensures, length-append self.carry.items rest);
    }

pub returns-then-not-self-clause-fed : goal.returns-then-not-self-clause-fed
returns-then-not-self-clause-fed c =
    let self = c.args.self.now in
    let rest = drop self.at (take self.end self.chunk.items) in
    let kept : self.carry.items ++ rest ≡ c.extend_from_slice.new.self.items = grind arith in
    let goes_on : self.ended ≡ false = grind arith in
    fed-more self _ kept (refl, goes_on) refl

pub returns-clause-fed : goal.returns-clause-fed
returns-clause-fed c =
    let self = c.args.self.now in
    let rest = drop self.at (take self.end self.chunk.items) in
    let kept : self.carry.items ++ rest ≡ c.replace-piece.result.items = grind arith in
    let none : c.replace-piece.new.dest.items ≡ [] = grind arith in
    let all : c.replace-piece.result.items ≡ c.extend_from_slice.new.self.items = grind arith in
    let some : 0 < length c.replace-piece.result.items = omega (
      arith,
      ap length all,
      eqb-false (vec_len c.extend_from_slice.new.self) 0 (sym c.is_empty.ensures ∙ c.if-is_empty.false),
      c.extend_from_slice.new.self.ok.0,
    ) in
    let over : self.ended ≡ true = grind arith in
    fed-last self c.give.new.self c.give.result c.replace-piece.result.items
    (c.replace-piece.new.dest.items ++ drop self.end (take self.end self.chunk.items))
    kept (ap has_no_lf (sym kept) ∙ has_no_lf-append self.carry.items rest self.one_line c.requires) some
    (ap (λ (x : List ℕ). x ++ drop self.end (take self.end self.chunk.items)) none ∙ none-left self.end self.end self.chunk.items refl)
    over c.give.ensures.given c.give.ensures.big c.give.ensures.more c.give.ensures.end
