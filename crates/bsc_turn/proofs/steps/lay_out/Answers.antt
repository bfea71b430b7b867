use Rattle.std.proofs.Common.{rules, refl, ◌≡◌, ◌∷◌, [], Some}
use Rattle.bsc_turn.proofs.Keeping.{starts}
use Rattle.bsc_turn.proofs.steps.lay_out.Goals as goal

pub new-requires : goal.new-requires
new-requires g c =
    let items : c.push.new.self.items ≡ Some c.args.state ∷ [] = search rules in
    let st : c.of.result.value ≡ c.args.state = c.of.ensures in
    rw (items, st) (starts g.S.Stands.stands g.S.Stands.about (g.S.Stands.about c.args.state) c.args.callers c.args.state c.requires.bounds c.requires.stands refl)
