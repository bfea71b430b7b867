-- What is kept and the rest up to the LF are a piece.
use Rattle.std.proofs.Common.{◌≡◌, ◌+◌, inl, inr, ⊎_elim, List, ℕ, [], ◌++◌, take, drop, refl, sym, ap, ◌∙◌, arith}
use Rattle.std.proofs.lemmas.List.{drop-drop, length-take-le}
use Rattle.bsc_text.proofs.Giving.{fed-whole, fed-long}
use Rattle.bsc_text.proofs.feed.Feed.next_whole.Goals as goal

pub returns-then-cannot_fit-clause-fed : goal.returns-then-cannot_fit-clause-fed
returns-then-cannot_fit-clause-fed c = λ left ended.
    let self = c.args.self.now in
    let rest = drop self.at (take self.end self.chunk.items) in
    fed-long self self.carry.items rest (take c.args.n rest) c.args.n refl self.one_line c.requires.no_lf refl
    (length-take-le c.args.n rest (omega arith)) (⊎_elim (λ k. inl (omega arith)) (λ k. inr (omega arith)) (c.cannot_fit.ensures.cannot c.if-cannot_fit.true)) left

pub returns-clause-fed : goal.returns-clause-fed
returns-clause-fed c =
    let self = c.args.self.now in
    let rest = drop self.at (take self.end self.chunk.items) in
    let piece : c.extend_from_slice.new.self.items ≡ self.carry.items ++ take (c.args.n + 1) rest = grind arith in
    let none : c.replace-piece.new.dest.items ≡ [] = grind arith in
    fed-whole self c.give.new.self c.give.result self.carry.items rest c.extend_from_slice.new.self.items
    (c.replace-piece.new.dest.items ++ drop (self.at + (c.args.n + 1)) (take self.end self.chunk.items)) c.args.n
    refl self.one_line c.requires piece
    (ap (λ (x : List ℕ). x ++ drop (self.at + (c.args.n + 1)) (take self.end self.chunk.items)) none ∙ sym (drop-drop (c.args.n + 1) self.at (take self.end self.chunk.items)))
    c.give.ensures.given c.give.ensures.big c.give.ensures.more c.give.ensures.end
