-- A chunk comes after what is kept.
use Rattle.std.proofs.Common.{ℕ, List, ◌≡◌, ◌++◌, ◌∙◌, ap, take, refl, rules}
use Rattle.std.proofs.lemmas.List.{with_items_is, places}
use Rattle.std.specs.Vec.{with_items}
use Rattle.bsc_text.proofs.Spending.{filled}
use Rattle.bsc_text.proofs.Taking.{gave_one, comes_behind, none_is_end}
use Rattle.bsc_text.proofs.feed.Feed.fill.Goals as goal

pub returns-clause-filled : goal.returns-clause-filled
returns-clause-filled g c = filled c.args.self.now _ c.in_ok-self.field-0 c.requires refl refl refl refl refl

pub returns-clause-took : goal.returns-clause-took
returns-clause-took g c =
    let n = c.in_ok-self.field-0 in
    let into = c.read.new.into in
    let chunk = with_items c.args.self.now.chunk into in
    let is : chunk.items ≡ into = with_items_is c.args.self.now.chunk into (search (rules, places)) in
    record {
      chunk = take n into;
      gave = gave_one (g.S.Source.reads c.args.source.now) (g.S.Source.reads c.read.new.self) n into c.in_ok-self.ensures.gave;
      grown = ap (λ (x : List ℕ). c.args.self.now.carry.items ++ take n x) is ∙ comes_behind c.args.self.now (take n into) c.requires;
      ended = none_is_end n into c.in_ok-self.ensures.within;
    }
