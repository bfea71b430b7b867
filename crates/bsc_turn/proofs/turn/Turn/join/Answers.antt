use Rattle.std.proofs.Common.{rules, ◌≡◌, ◌∙◌, sym, subst}
use Rattle.bsc_turn.specs.declared.view.View.{View}
use Rattle.bsc_turn.specs.Histories.{IsLonger}
use Rattle.bsc_turn.specs.Effects.{IsConsistent, after_join}
use Rattle.bsc_turn.specs.Passes.{first_state, view_of}
use Rattle.bsc_turn.proofs.Passing.{sound_as, joined_consistent, joined_apart, joined_longer, one_begins}
use Rattle.bsc_turn.proofs.turn.Turn.join.Goals as goal

pub returns-clause-pass : goal.returns-clause-pass
returns-clause-pass g c =
    let v = view_of c.args.pass.now in
    let w = view_of c.args.other in
    let s = c.requires.pass.1.1 in
    let t : IsConsistent (after_join v w) = joined_consistent v w c.into_seat-seat.result.me.0 c.into_seat.result.me.0 (search rules) (search rules) c.join_seats.ensures.consistent in
    let e : c.join_seats.new.seat.me.0 ≡ after_join v w = search rules in (
      (
        search rules,
        sound_as c.args.pass.now.number (g.S.Stands.about (first_state c.args.self.now)) c.args.self.now.callers c.into_badge.result.views c.join_seats.new.seat.me.0
            (after_join v w) (search rules) e (s.0, s.1, s.2, s.3, s.4, t),
      ),
      search rules,
    )

pub returns-clause-seen : goal.returns-clause-seen
returns-clause-seen g c =
    let v = view_of c.args.pass.now in
    let w = view_of c.args.other in
    let t : IsConsistent (after_join v w) = joined_consistent v w c.into_seat-seat.result.me.0 c.into_seat.result.me.0 (search rules) (search rules) c.join_seats.ensures.consistent in
    let e : view_of (record { badge = c.into_badge.result; number = c.args.pass.now.number }) ≡ after_join v w = search rules in
    subst (λ (x : View). IsLonger v.seen w.seen x.seen) (sym e) (joined_longer v w t)

pub returns-clause-one : goal.returns-clause-one
returns-clause-one g c =
    let v = view_of c.args.pass.now in
    let w = view_of c.args.other in
    let t : IsConsistent (after_join v w) = joined_consistent v w c.into_seat-seat.result.me.0 c.into_seat.result.me.0 (search rules) (search rules) c.join_seats.ensures.consistent in
    one_begins v.seen w.seen (after_join v w).seen (joined_longer v w t)

pub returns-clause-apart : goal.returns-clause-apart
returns-clause-apart g c same =
    let v = view_of c.args.pass.now in
    let w = view_of c.args.other in
    let t : IsConsistent (after_join v w) = joined_consistent v w c.into_seat-seat.result.me.0 c.into_seat.result.me.0 (search rules) (search rules) c.join_seats.ensures.consistent in
    joined_apart v w t (c.requires.pass.1.1.2 ∙ (same ∙ sym c.requires.other.1.1.2))
