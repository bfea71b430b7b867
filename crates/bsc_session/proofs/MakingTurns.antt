-- A turn is its opening, and then its hearing where the opening didn't stop the session.
-- It serves clauses of functions of `ending`, `serving` and `turning`.
use Rattle.std.proofs.Common.{◌≡◌, ℕ, ◌+◌, ◌≤◌, ◌<◌, Bool, true, false, is_some, is_none, ◌&&◌, cond, List, [], ◌∷◌, zero, suc, refl, ap, sym, ◌∙◌, subst, append-nil, arith}
use Rattle.std.proofs.Common.{Option, Some, None, Result, Ok, Err}
use Rattle.std.specs.Prelude.{length, nat_lt, if◌then◌else◌}
use Rattle.bsc_history.specs.declared.ending.End.{End}
use Rattle.bsc_history.specs.declared.reply.Reply.TheVariants.{Joined, Refused}
use Rattle.std.proofs.lemmas.List.{append_cancel_left}
use Rattle.bsc_turn.specs.declared.pass.Pass.{Pass}
use Rattle.bsc_turn.specs.Passes.{own_list}
use Rattle.bsc_hub.specs.declared.hub.Hub.{Hub}
use Rattle.bsc_edge.specs.declared.said.Said.{Said}
use Rattle.bsc_accept.specs.declared.step.Step.{Step}
use Rattle.bsc_accept.specs.declared.step.Step.TheVariants.{Ask}
use Rattle.bsc_session.specs.declared.bounds.TheConstants.{TAKES}
use Rattle.bsc_session.specs.declared.session_state.SessionState.{SessionState}
use Rattle.bsc_session.specs.declared.backlog.Backlog.{Backlog}
use Rattle.bsc_session.specs.declared.membership.Membership.{Membership}
use Rattle.bsc_session.specs.declared.stop.Stop.{Stop}
use Rattle.bsc_session.specs.Answering.{answered, said_hearing, step_of, stands_heard}
use Rattle.bsc_edge.specs.declared.fault.LinkFault.{LinkFault}
use Rattle.bsc_edge.specs.declared.incoming.Incoming.{Incoming}
use Rattle.bsc_edge.specs.declared.incoming.Incoming.TheVariants.{Message}
use Rattle.bsc_history.specs.declared.entry.Entry.{Entry}
use Rattle.bsc_edge.specs.declared.notice.Notice.{Notice}
use Rattle.bsc_edge.specs.declared.notice.Notice.TheVariants.{Asked}
use Rattle.bsc_edge.specs.Told.{Grows}
use Rattle.bsc_edge.proofs.Common.{grows_none, grows_then}
use Rattle.bsc_session.specs.Judging.{heard_told}
use Rattle.bsc_session.specs.CarryingOut.{is_more, stop_of}
use Rattle.bsc_session.specs.Following.{Follows, HasStanding, Held, IsFollowed, IsMember, SessionRuns, empties_by}
use Rattle.bsc_session.specs.Hearing.{Hears}
use Rattle.bsc_session.specs.Opening.{Opens, SameMember}
use Rattle.bsc_session.specs.MakingTurns.{Makes, Starts, lost_by}
use Rattle.bsc_session.specs.Notices.{AsksOnce, notices_in, notices_of}
use Rattle.bsc_session.specs.Puts.{puts}
use Rattle.bsc_session.specs.Reading.{start_at, started, ticked}
use Rattle.bsc_session.specs.Receiving.{Answer, replies, Hearing}
use Rattle.bsc_session.specs.Standings.{Standing, Terms, is_connected}
use Rattle.bsc_session.specs.Stops.{first_of}
use Rattle.bsc_session.specs.Taking.{Opening, end_told, notes_opening, opened, put_first, stop_before, wait_by, wait_in}
use Rattle.bsc_session.specs.Telling.{MakesTold}
use Rattle.bsc_session.specs.Turns.{after, empties_in, entries_in}
use Rattle.bsc_session.specs.Moments.{moment, traces}
use Rattle.bsc_session.proofs.HubCalls.{goes_nowhere}
use Rattle.bsc_session.proofs.Lists.{grows_as}
use Rattle.bsc_session.proofs.Notifying.{after_receive}
use Rattle.bsc_session.proofs.Losing.{line_behind, line_opening, lost_before, lost_hearing, wrote_hearing, wrote_opening}

pub member_same : (p : Pass) (m n : Option Membership) → SameMember m n → IsMember p m → IsMember p n
member_same p None None h k = tt
member_same p (Some m) (Some n) h k = rw (h.0, h.1, h.2) k
member_same p None (Some n) h k = absurd h
member_same p (Some m) None h k = absurd h

pub held_opened : (h : Hub) (v : Terms) (s : Standing) (now : ℕ) (p : Pass) (a b : SessionState) (old new : Option (List Said)) (pages pages' : Option (List ℕ))
    (result : Result Backlog Stop) → Held h v p a s → (k : Opens v s now a b (traces old pages) (traces new pages') result) → Held h v p b (opened s k.opening)
held_opened h v s now p a b old new pages pages' result held k = record {
  caller = held.caller;
  number = held.number;
  member = member_same p a.member b.member k.same held.member;
  follows = k.follows;
}

-- the opening stops the session
pub makes_opening : (h : Hub) (v : Terms) (s : Standing) (now : ℕ) (p : Pass) (a b : SessionState) (old new : Option (List Said)) (pages pages' : Option (List ℕ)) (stop : Stop)
    → s.receives < v.turns → Held h v p a s
    → Opens v s now a b (traces old pages) (traces new pages') (Err stop) → Makes v s now h (moment p a old pages) (moment p b new pages') (Some stop)
makes_opening h v s now p a b old new pages pages' stop room held k = record {
  turn = record { opening = k.opening; hearing = None };
  is = record { room = room; opening = k.is; heard = rw (sym k.stops) refl; hearing = tt };
  goes = goes_nowhere h p held.caller;
  gave = k.gave;
  empties = (let e : empties_by b.member ≡ empties_by a.member + (if is_none k.opening.met
      && (false && (is_connected (ticked s k.opening.reading) && nat_lt (length k.opening.frames) TAKES)) then 1 else 0) = rw (sym k.stops) at k.empties in e);
  said = grows_as old new _ _ (sym (append-nil (puts (put_first v s k.opening) k.opening.fault))) k.said;
  read = k.read;
  wrote = wrote_opening v s p k.opening pages pages' (Some stop) k.is k.stops k.records;
  line = line_opening v s k.opening (Some stop) k.is k.stops;
  stops = rw (sym k.stops) refl;
  is_worn = λ e. cc;
  held = held_opened h v s now p a b old new pages pages' (Err stop) held k;
  runs = λ going. cc;
}

-- and its link was told nothing
pub tells_opening : (h : Hub) (v : Terms) (s : Standing) (now : ℕ) (p : Pass) (a b : SessionState) (old new : Option (List Said)) (pages pages' : Option (List ℕ)) (stop : Stop)
    (n k : Option (List Notice)) → s.receives < v.turns → Held h v p a s
    → Opens v s now a b (traces old pages) (traces new pages') (Err stop) → k ≡ n → MakesTold v s now h (moment p a old pages) (moment p b new pages') n k (Some stop)
unfolding makes_opening
tells_opening h v s now p a b old new pages pages' stop n k room held o same =
    (makes_opening h v s now p a b old new pages pages' stop room held o, subst (λ (x : Option (List Notice)). Grows n x []) (sym same) (grows_none n))

-- the opening goes on, and the session hears
pub makes_hearing : (h : Hub) (v : Terms) (s : Standing) (now : ℕ) (p q : Pass) (a b c : SessionState) (old mid new : Option (List Said)) (pages pages' pages'' : Option (List ℕ))
    (stop : Option Stop) (backlog : Backlog) (wait : ℕ) → s.receives < v.turns
    → (k : Opens v s now a b (traces old pages) (traces mid pages') (Ok backlog)) → wait ≡ wait_by (is_more backlog)
    → Hears v (opened s k.opening) now wait h (moment p b mid pages') (moment q c new pages'') stop
    → Makes v s now h (moment p a old pages) (moment q c new pages'') stop
makes_hearing h v s now p q a b c old mid new pages pages' pages'' stop backlog wait room k waits hears =
    let w : wait ≡ wait_in k.opening = waits ∙ ap wait_by k.more in
    let l : Hears v (opened s k.opening) k.opening.reading (wait_in k.opening) h (moment p b mid pages') (moment q c new pages'') stop = rw (sym k.read, w) at hears in
    let unlost : k.opening.lost ≡ None = sym (lost_before v s k.opening k.is) ∙ ap lost_by (sym k.stops) in
    let same : l.hearing.lost ≡ lost_by stop = sym (lost_hearing v (opened s k.opening) k.opening.reading l.hearing l.is) ∙ ap lost_by (sym l.stops) in
    record {
      turn = record { opening = k.opening; hearing = Some l.hearing };
      is = record { room = room; opening = k.is; heard = rw (sym k.stops) refl; hearing = l.is };
      goes = l.goes;
      gave = l.given_same ∙ k.gave;
      empties = l.empties_same ∙ (
          let e : empties_by b.member ≡ empties_by a.member + (if is_none k.opening.met
          && (true && (is_connected (ticked s k.opening.reading) && nat_lt (length k.opening.frames) TAKES)) then 1 else 0) = rw (sym k.stops) at k.empties in e);
      said = grows_then old mid new (puts (put_first v s k.opening) k.opening.fault) (said_hearing v (opened s k.opening) k.opening.reading (wait_in k.opening) l.hearing) k.said l.said;
      read = k.read;
      wrote = rw same at (wrote_hearing v s p q k.opening l.hearing pages pages' pages'' (rw unlost at k.records) l.goes.sees l.wrote l.is.line);
      line = rw same at (line_behind (notes_opening v s k.opening) _ l.hearing.lost l.is.line);
      stops = rw (sym k.stops) l.stops;
      is_worn = l.is_worn;
      held = l.held;
      runs = l.runs;
    }

-- and its link was asked once, and then told what follows from the entries of that turn
pub tells_hearing : (h : Hub) (v : Terms) (s : Standing) (now : ℕ) (p q : Pass) (a b c : SessionState) (old mid new : Option (List Said)) (pages pages' pages'' : Option (List ℕ))
    (stop : Option Stop) (backlog : Backlog) (wait : ℕ) (n k l : Option (List Notice))
    → s.receives < v.turns → (o : Opens v s now a b (traces old pages) (traces mid pages') (Ok backlog)) → wait ≡ wait_by (is_more backlog)
    → Hears v (opened s o.opening) now wait h (moment p b mid pages') (moment q c new pages'') stop → k ≡ n → AsksOnce p q k l
    → MakesTold v s now h (moment p a old pages) (moment q c new pages'') n l stop
unfolding makes_hearing
tells_hearing h v s now p q a b c old mid new pages pages' pages'' stop backlog wait n k l room o waits hears same asks =
    let m : Makes v s now h (moment p a old pages) (moment q c new pages'') stop = makes_hearing h v s now p q a b c old mid new pages pages' pages'' stop backlog wait room o waits hears in
    let E : List Entry = entries_in v s m.turn in
    let mine : asks.E ≡ E = append_cancel_left (own_list p) asks.E E (sym asks.own ∙ m.goes.own) in
    let heard : is_some m.turn.hearing ≡ true = refl in
    let told : Asked ∷ notices_of asks.E ≡ notices_in v s m.turn =
    ap (λ (x : List Entry). Asked ∷ notices_of x) mine ∙ sym (after_receive v (opened s m.turn.opening) m.turn.opening.reading m.turn.hearing heard) in
    (m, subst (λ (x : Option (List Notice)). Grows x l (notices_in v s m.turn)) same (subst (λ (x : List Notice). Grows k l x) told asks.told))

-- ---- how many receives

receives_met : (s : Standing) (now : ℕ) (met : Option End) → (end_told s now met).receives ≡ s.receives
receives_met s now None = refl
receives_met s now (Some e) = refl

pub receives_opened : (s : Standing) (o : Opening) → (opened s o).receives ≡ s.receives
receives_opened s o = receives_met (ticked s o.reading) o.reading o.met

receives_answered : (s : Standing) (st : Step) (a : Option Answer) → (answered s st a).receives ≡ s.receives
receives_answered s (Ask who) (Some (replies at l (Joined c r))) = refl
receives_answered s (Ask who) (Some (replies at l (Refused r))) = refl
receives_answered s st a = refl

heard_by : (v : Terms) (s : Standing) (now : ℕ) (judged : Bool) (given : Result Incoming LinkFault) → (heard_told v s now judged given).receives ≡ s.receives
heard_by v s now true (Ok (Message m)) = refl
heard_by v s now false (Ok (Message m)) = refl
heard_by v s now true given = refl
heard_by v s now false given = refl

heard_one : (v : Terms) (s : Standing) (now : ℕ) (h : Hearing) → (stands_heard v s now h).receives ≡ s.receives + 1
heard_one v s now h = ap (λ k. k + 1) (heard_by v s now h.judged h.given)

receives_heard : (v : Terms) (s : Standing) (o : Opening) (h : Option Hearing) → is_some h ≡ true → (after v s (record { opening = o; hearing = h })).receives ≡ s.receives + 1
receives_heard v s o None some = cc
receives_heard v s o (Some h) some = receives_answered (stands_heard v (opened s o) o.reading h) (step_of v (opened s o) o.reading h) h.answer ∙ heard_one v (opened s o) o.reading h
    ∙ ap (λ k. k + 1) (receives_opened s o)

none_first : (a b : Option Stop) → None ≡ first_of a b → is_none a ≡ true
none_first None b h = refl
none_first (Some x) b h = cc

at_most_one : (b : Bool) → cond b 1 0 ≤ 1
at_most_one true = omega arith
at_most_one false = omega arith

-- a turn that goes on has received
pub receives_more : (v : Terms) (s : Standing) (h : Hub) (p q : Pass) (a b : SessionState) (now : ℕ) (old new : Option (List Said)) (pages pages' : Option (List ℕ))
    → (k : Makes v s now h (moment p a old pages) (moment q b new pages') None) → (after v s k.turn).receives ≡ s.receives + 1
receives_more v s h p q a b now old new pages pages' k =
    let some : is_some k.turn.hearing ≡ true = k.is.heard ∙ none_first (stop_before v s k.turn.opening) _ k.stops in
    receives_heard v s k.turn.opening k.turn.hearing some

not_zero : (n m : ℕ) → n ≡ m + 1 → n ≡ 0 → ⊥
not_zero n m h k = (let e : m + 1 ≡ 0 = sym h ∙ k in absurd (omega (arith, e)))

-- ---- the reading of a turn

-- after the first turn no reading starts the machine
kept_start : (n start now : ℕ) → (n ≡ 0 → ⊥) → start_at n start now ≡ start
kept_start zero start now more = absurd (more refl)
kept_start (suc n) start now more = refl

started_later : (s : Standing) (now : ℕ) → (s.receives ≡ 0 → ⊥) → started s now ≡ s
started_later s now more = (let begun_at : ℕ → Standing = λ k. record s { start = k } in ap begun_at (kept_start s.receives s.start now more))

-- the next turn begins at any reading
pub starts_more : (v : Terms) (s : Standing) (h : Hub) (p q : Pass) (a b : SessionState) (now next : ℕ) (old new : Option (List Said)) (pages pages' : Option (List ℕ)) → Starts v s now a
    → (k : Makes v s now h (moment p a old pages) (moment q b new pages') None) → Starts v (after v s k.turn) next b
starts_more v s h p q a b now next old new pages pages' starts k =
    let more = receives_more v s h p q a b now old new pages pages' k in
    record {
      runs = subst (λ (t : Standing). SessionRuns v b t) (sym (started_later (after v s k.turn) next (not_zero (after v s k.turn).receives s.receives more))) (k.runs refl);
      bounded = (let e : empties_by b.member ≡ empties_by a.member + empties_in v s k.turn = k.empties in let x = starts.bounded in
          let o = at_most_one (is_none k.turn.opening.met && (is_some k.turn.hearing && (is_connected (ticked s k.turn.opening.reading) && nat_lt (length k.turn.opening.frames) TAKES))) in
          omega (arith, e, x, o, more));
    }

pub follows_started : (s : Standing) (now : ℕ) (a : SessionState) → Follows a s → Follows a (started s now)
follows_started s now a f = record { conn = f.conn; address = f.address; ended = f.ended; receives = f.receives; found = f.found }

pub followed_started : (v : Terms) (s : Standing) (now : ℕ) (a : SessionState) → Follows a s → Starts v s now a → IsFollowed a
followed_started v s now a f st = (v, started s now, follows_started s now a f, st.runs)

pub room_started : (v : Terms) (s : Standing) (now : ℕ) (a : SessionState) → Starts v s now a → Follows a s → a.receives < 18446744073709551615 → empties_by a.member < 18446744073709551615
room_started v s now a st f room = (let x = st.bounded in let r = f.receives in omega (arith, x, r, room))

pub standing_opened : (h : Hub) (v : Terms) (s : Standing) (now : ℕ) (p : Pass) (a b : SessionState) (old new : Option (List Said)) (pages pages' : Option (List ℕ))
    (result : Result Backlog Stop) → stop_of result ≡ None → Held h v p a s → Opens v s now a b (traces old pages) (traces new pages') result → HasStanding h p b
standing_opened h v s now p a b old new pages pages' result going held k = (v, opened s k.opening, held_opened h v s now p a b old new pages pages' result held k, k.runs going)

pub room_opened : (h : Hub) (v : Terms) (s : Standing) (now : ℕ) (p : Pass) (a b : SessionState) (old new : Option (List Said)) (pages pages' : Option (List ℕ))
    (result : Result Backlog Stop) → Held h v p a s → Opens v s now a b (traces old pages) (traces new pages') result → a.receives < 18446744073709551615 → b.receives < 18446744073709551615
room_opened h v s now p a b old new pages pages' result held k room = (let e : b.receives ≡ a.receives = k.follows.receives ∙ receives_opened s k.opening ∙ sym held.follows.receives in rw e room)
