use Rattle.std.proofs.Common.{[], refl, subst}
use Rattle.bsc_hub_core.specs.Calls.{ConnectsAs}
use Rattle.bsc_script.specs.States.{joined_as}
use Rattle.bsc_script.proofs.Connected.{awaits_still, connected, connects_worn, refused, refused_at, seated_at}
use Rattle.bsc_script.proofs.Entered.{at_same, stands_same, worn_is}
use Rattle.bsc_script.proofs.Seated.{state_joined, within_at}
use Rattle.bsc_script.proofs.script_hub.ScriptHub.connect.Goals as goal

pub connect-requires-clause-some : goal.connect-requires-clause-some
connect-requires-clause-some c = (let r = c.requires.some in (r.0.history, r.2.stands.core))

pub tell_joined-requires-clause-within : goal.tell_joined-requires-clause-within
tell_joined-requires-clause-within c =
    let r = c.requires.some in
    let row = c.in-Joined.row in
    let w = seated_at c.args.self.now _ c.seat.new.self c.args.at r.0 r.1 c.args.who.now row.conn row.replaced
    (record {
      place = r.2;
      free = r.3;
      rest = record { about = refl; clock = refl; peers = refl; names = refl };
      joins = (subst (λ a. ConnectsAs r.0.history 0 c.args.who.now a c.args.self.now.core c.connect.new.self) c.in-Joined.is (c.in_ok-row.ensures r.0.history r.2.stands.core)).1;
      seat = c.in_ok-seat-in-Joined.ensures;
    }) in
    within_at c.seat.new.self (state_joined r.0 r.1 c.args.who.now row.conn row.replaced) c.args.at (joined_as row.conn r.1) w.stands w.here

pub tell_joined-requires-clause-asked : goal.tell_joined-requires-clause-asked
tell_joined-requires-clause-asked c =
    let r = c.requires.some in
    let row = c.in-Joined.row in
    let w = seated_at c.args.self.now _ c.seat.new.self c.args.at r.0 r.1 c.args.who.now row.conn row.replaced
    (record {
      place = r.2;
      free = r.3;
      rest = record { about = refl; clock = refl; peers = refl; names = refl };
      joins = (subst (λ a. ConnectsAs r.0.history 0 c.args.who.now a c.args.self.now.core c.connect.new.self) c.in-Joined.is (c.in_ok-row.ensures r.0.history r.2.stands.core)).1;
      seat = c.in_ok-seat-in-Joined.ensures;
    }) in
    awaits_still c.args.self.now c.seat.new.self c.args.at r.0 (state_joined r.0 r.1 c.args.who.now row.conn row.replaced) r.1
    (joined_as row.conn r.1) r.2.stands r.2.here w.stands w.here refl refl refl c.requires.asked

pub tell_joined-requires-clause-some : goal.tell_joined-requires-clause-some
tell_joined-requires-clause-some c =
    let r = c.requires.some in
    let row = c.in-Joined.row in
    let w = seated_at c.args.self.now _ c.seat.new.self c.args.at r.0 r.1 c.args.who.now row.conn row.replaced
    (record {
      place = r.2;
      free = r.3;
      rest = record { about = refl; clock = refl; peers = refl; names = refl };
      joins = (subst (λ a. ConnectsAs r.0.history 0 c.args.who.now a c.args.self.now.core c.connect.new.self) c.in-Joined.is (c.in_ok-row.ensures r.0.history r.2.stands.core)).1;
      seat = c.in_ok-seat-in-Joined.ensures;
    }) in
    (state_joined r.0 r.1 c.args.who.now row.conn row.replaced, w.stands)

pub returns-in_ok-tell_joined-in-Joined : goal.returns-in_ok-tell_joined-in-Joined
returns-in_ok-tell_joined-in-Joined c s k w free =
    let row = c.in-Joined.row in
    connected c.args.self.now _ c.seat.new.self c.args.at s k c.args.who.now row.conn row.replaced
    (record {
      place = w;
      free = free;
      rest = record { about = refl; clock = refl; peers = refl; names = refl };
      joins = (subst (λ a. ConnectsAs s.history 0 c.args.who.now a c.args.self.now.core c.connect.new.self) c.in-Joined.is (c.in_ok-row.ensures s.history w.stands.core)).1;
      seat = c.in_ok-seat-in-Joined.ensures;
    })
    c.tell_joined.new.self _ c.args.text.now.items c.put_joined.new.text.items c.tell_joined.new.text.items c.name_at.result.now
    (c.by_join-due.ensures row.conn) c.name_at.ensures c.in_ok-put_joined-in-Joined.ensures c.in_ok-tell_joined-in-Joined.ensures

pub wear-requires-clause-some : goal.wear-requires-clause-some
wear-requires-clause-some c =
    let r = c.requires.some in
    let x = subst (λ a. ConnectsAs r.0.history 0 c.args.who.now a c.args.self.now.core c.connect.new.self) c.in-Worn.is (c.in_ok-row.ensures r.0.history r.2.stands.core) in
    (r.0, stands_same c.args.self.now _ r.0 (record { about = refl; clock = refl; peers = refl; names = refl }) x.1 r.2.stands)

pub returns-in_ok-wear-in-Worn : goal.returns-in_ok-wear-in-Worn
returns-in_ok-wear-in-Worn c s k w free =
    let x = subst (λ a. ConnectsAs s.history 0 c.args.who.now a c.args.self.now.core c.connect.new.self) c.in-Worn.is (c.in_ok-row.ensures s.history w.stands.core) in
    connects_worn c.wear.new.self s k c.args.who.now c.args.text.now.items c.wear.new.text.items (worn_is c.args.self.now s _ w.stands x.0)
    (c.in_ok-wear-in-Worn.ensures s k [] (at_same c.args.self.now _ c.args.at [] s k (record { about = refl; clock = refl; peers = refl; names = refl }) x.1 w))

pub tell_refused-requires-clause-some : goal.tell_refused-requires-clause-some
tell_refused-requires-clause-some c =
    let r = c.requires.some in (
      _,
      (refused_at c.args.self.now _ c.args.at r.0 r.1 c.args.who.now c.in-Refused.refusal r.2 (record { about = refl; clock = refl; peers = refl; names = refl })
          (subst (λ a. ConnectsAs r.0.history 0 c.args.who.now a c.args.self.now.core c.connect.new.self) c.in-Refused.is (c.in_ok-row.ensures r.0.history r.2.stands.core))).stands,
    )

pub returns-in_ok-tell_refused-in-Refused : goal.returns-in_ok-tell_refused-in-Refused
returns-in_ok-tell_refused-in-Refused c s k w free =
    refused c.args.self.now _ c.args.at s k c.args.who.now c.in-Refused.refusal w (record { about = refl; clock = refl; peers = refl; names = refl })
    (subst (λ a. ConnectsAs s.history 0 c.args.who.now a c.args.self.now.core c.connect.new.self) c.in-Refused.is (c.in_ok-row.ensures s.history w.stands.core))
    c.tell_refused.new.self c.args.text.now.items c.put_refusal.new.text.items c.tell_refused.new.text.items c.name_at-in-Refused.result.now c.name_at-in-Refused.ensures
    c.in_ok-put_refusal-in-Refused.ensures c.in_ok-tell_refused-in-Refused.ensures
