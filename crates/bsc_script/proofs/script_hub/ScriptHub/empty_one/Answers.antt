-- The outbox of a connection is emptied, where its name is open and it is to be.
use Rattle.std.proofs.Common.{true, false, sym, ◌∙◌}
use Rattle.bsc_script.specs.States.{has_joined_as}
use Rattle.bsc_script.proofs.Pairs.{position-gives}
use Rattle.bsc_script.proofs.Peers.{has_conn}
use Rattle.bsc_script.proofs.Changes.{indexed, settled_one}
use Rattle.bsc_script.proofs.Outboxes.{to_empty, unopened, unemptied, emptied_there}
use Rattle.bsc_script.proofs.script_hub.ScriptHub.empty_one.Goals as goal
use Rattle.std.proofs.lemmas.Result.{on_ok_weaker as on_ok}
use Rattle.bsc_lemmas.proofs.Lists.{position-none}

pub is_to_empty-requires-clause-some : goal.is_to_empty-requires-clause-some
is_to_empty-requires-clause-some c = (
    let r = c.requires.some in
    let p = position-gives (has_joined_as c.args.conn) r.0.peers c.in-Some.at (sym (c.in-Some.ensures.place r.0.peers (indexed c.args.self.now r.0 r.2))) in
    (r.0, p.0, record { stands = r.2; here = p.1; conn = has_conn c.args.conn p.0 p.2 }, (settled_one c.in-Some.at _ r.0 p.0 r.3 p.1).ready))

pub empty_at-requires-clause-some : goal.empty_at-requires-clause-some
empty_at-requires-clause-some c = (
    let r = c.requires.some in
    let p = position-gives (has_joined_as c.args.conn) r.0.peers c.in-Some.at (sym (c.in-Some.ensures.place r.0.peers (indexed c.args.self.now r.0 r.2))) in
    let conn = has_conn c.args.conn p.0 p.2 in
    let due = sym (c.is_to_empty.ensures r.0 p.0 (record { stands = r.2; here = p.1; conn = conn }) (settled_one c.in-Some.at _ r.0 p.0 r.3 p.1).ready) ∙ c.if-is_to_empty.true in
    (r.0, p.0, c.args.conn, r.1, to_empty c.args.self.now r.0 c.in-Some.at c.args.conn r.1 p.0 r.2 r.3 p.1 conn due))

pub returns-then-is_to_empty : goal.returns-then-is_to_empty
returns-then-is_to_empty c = λ s ds h g. (
    let p = position-gives (has_joined_as c.args.conn) s.peers c.in-Some.at (sym (c.in-Some.ensures.place s.peers (indexed c.args.self.now s h))) in
    let conn = has_conn c.args.conn p.0 p.2 in
    let due = sym (c.is_to_empty.ensures s p.0 (record { stands = h; here = p.1; conn = conn }) (settled_one c.in-Some.at _ s p.0 g p.1).ready) ∙ c.if-is_to_empty.true in
    on_ok c.empty_at.result (emptied_there c.empty_at.new.self s c.args.conn ds c.args.text.now.items c.empty_at.new.text.items p.0 p.3 due)
    (c.empty_at.ensures s p.0 c.args.conn ds (to_empty c.args.self.now s c.in-Some.at c.args.conn ds p.0 h g p.1 conn due)))

pub returns-else-is_to_empty : goal.returns-else-is_to_empty
returns-else-is_to_empty c = λ s ds h g. (
    let p = position-gives (has_joined_as c.args.conn) s.peers c.in-Some.at (sym (c.in-Some.ensures.place s.peers (indexed c.args.self.now s h))) in
    let conn = has_conn c.args.conn p.0 p.2 in
    let off = sym (c.is_to_empty.ensures s p.0 (record { stands = h; here = p.1; conn = conn }) (settled_one c.in-Some.at _ s p.0 g p.1).ready) ∙ c.if-is_to_empty.false in
    unemptied c.args.self.now s c.in-Some.at c.args.conn ds c.args.text.now.items p.0 h g p.1 conn p.3 off)

pub returns-in-None : goal.returns-in-None
returns-in-None c = λ s ds h g.
    unopened c.args.self.now s c.args.conn ds c.args.text.now.items h g (position-none (has_joined_as c.args.conn) s.peers (sym (c.in-None.ensures.place s.peers (indexed c.args.self.now s h))))
