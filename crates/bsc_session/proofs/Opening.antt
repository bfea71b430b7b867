-- A turn's opening: the time, and what the outlet has.
-- It serves clauses of functions of `taking` and `turning`.
use Rattle.std.proofs.Common.{◌≡◌, ◌≢◌, ◌<◌, ℕ, Bool, true, false, not, cond, is_some, List, [], ◌++◌, length, map, refl, ap, sym, subst, ◌∙◌, append-nil, arith, inl, inr, lit≤}
use Rattle.std.proofs.Common.{Option, Some, None, Result, Ok, Err}
use Rattle.std.specs.Prelude.{nat_lt}
use Rattle.std.proofs.lemmas.Bool.{lt-ltb}
use Rattle.bsc_policy.specs.declared.policy.Policy.{Policy}
use Rattle.bsc_history.specs.declared.ending.End.{End}
use Rattle.bsc_history.specs.declared.ending.End.TheVariants.{Left, Full}
use Rattle.bsc_ring.specs.declared.ends.Outlet.{Outlet}
use Rattle.bsc_checks.specs.declared.phase.Phase.{Phase}
use Rattle.bsc_checks.specs.declared.phase.Phase.TheVariants.{Connected as PhaseConnected}
use Rattle.bsc_edge.specs.declared.fault.LinkFault.{LinkFault}
use Rattle.bsc_edge.specs.declared.said.Said.{Said}
use Rattle.bsc_edge.specs.Told.{Grows}
use Rattle.bsc_edge.proofs.Common.{grows_none, grows_then}
use Rattle.bsc_accept.specs.declared.accepting.Accepting.{Accepting}
use Rattle.bsc_accept.specs.declared.closing.Closing.{Closing}
use Rattle.bsc_accept.specs.declared.event.Event.TheVariants.{Ended, Tick}
use Rattle.bsc_accept.specs.declared.start.Start.{Start}
use Rattle.bsc_accept.specs.declared.step.Step.{Step}
use Rattle.bsc_accept.specs.declared.step.Step.TheVariants.{Close, Nothing}
use Rattle.bsc_accept.specs.Past.{Standing as MachineStanding, awaiting_request, connected, disconnecting, last_message, phase, standing}
use Rattle.bsc_accept.specs.Standing.{AcceptingAnswers, AcceptingStands, LeavesAccepting}
use Rattle.bsc_accept.specs.Steps.{ended_step, normal, tick_step}
use Rattle.bsc_accept.specs.Waits.{connect_wait_is_over, disconnect_wait_is_over, is_idle}
use Rattle.bsc_session.specs.declared.bounds.TheConstants.{TAKES}
use Rattle.bsc_session.specs.declared.session_state.SessionState.{SessionState}
use Rattle.bsc_session.specs.declared.backlog.Backlog.{Backlog}
use Rattle.bsc_session.specs.declared.backlog.Backlog.TheVariants.{MaybeMore, Nothing as NothingLeft}
use Rattle.bsc_session.specs.declared.membership.Membership.{Membership}
use Rattle.bsc_session.specs.declared.stop.Stop.{Stop}
use Rattle.bsc_session.specs.declared.taken.Taken.{Taken}
use Rattle.bsc_session.specs.declared.taken.Taken.TheVariants.{All, Part, Met, Cut, Lost}
use Rattle.bsc_session.specs.declared.why.Why.{Why}
use Rattle.bsc_session.specs.declared.why.Why.TheVariants.{EndedBy}
use Rattle.bsc_session.specs.Answering.{calls}
use Rattle.bsc_session.specs.Notes.Notes.{HasLine, Records, denied}
use Rattle.bsc_session.proofs.NoteFacts.Common.{no_line}
use Rattle.bsc_session.specs.Guarding.{denials, let_through}
use Rattle.bsc_session.specs.CarryingOut.{Carries, TellsMore, is_more, stop_of}
use Rattle.bsc_session.specs.Following.{Follows, HasFound, OutletHasEnded, SessionRuns, Tied, address_by, conn_of, given_by}
use Rattle.bsc_session.specs.TakingFrames.{Takes, cut_in, met_in, unput_in}
use Rattle.bsc_session.specs.Opening.{Attends, MeetsEnd, Opens, SameMember, TakesFrom, Ticks}
use Rattle.bsc_session.specs.Puts.{HasPut, octets_in, puts}
use Rattle.bsc_session.specs.Reading.{started, ticked, wanted_at}
use Rattle.bsc_session.specs.Standings.{Standing, Terms, is_connected, is_phase_connected, start_of, told, wanted}
use Rattle.bsc_session.specs.Stops.{closes, closing_in, stop_at, stop_for, stop_unrecorded}
use Rattle.bsc_session.specs.Taking.{last_alone, may_be_more, noted_of, passing, waiting_for}
use Rattle.bsc_session.specs.Moments.{traces}
use Rattle.bsc_session.proofs.Asking.{left_open, tied_told}
use Rattle.bsc_session.proofs.Hearing.{connected_joined, some_of}
use Rattle.bsc_session.proofs.Filtering.{noted-nil, passing-nil}
use Rattle.bsc_session.proofs.Lists.{grows_as, puts-append, well}
use Rattle.bsc_session.proofs.Recording.{records-nil}

-- ---- the time

cond_calls : (b : Bool) (c : Closing) → calls (cond b (Close c) Nothing) ≡ false
cond_calls true c = refl
cond_calls false c = refl

tick_calls : (s : Start) (last now : ℕ) (g : MachineStanding) → calls (tick_step s last now g) ≡ false
tick_calls s last now awaiting_request = cond_calls (connect_wait_is_over s now) _
tick_calls s last now connected = cond_calls (is_idle s last now) _
tick_calls s last now (disconnecting f) = cond_calls (disconnect_wait_is_over s f now) normal

follows_told : (a : SessionState) (s : Standing) (m : Accepting) (now : ℕ) → Follows a s
    → Follows (record { machine = m; member = a.member; ended = a.ended; receives = a.receives }) (told s (Tick now))
follows_told a s m now f = record { conn = f.conn; address = f.address; ended = f.ended; receives = f.receives; found = f.found }

-- the reading closes the session
pub ticks_closed : (v : Terms) (s : Standing) (now : ℕ) (a : SessionState) (m : Accepting) (st : Step) (c : Closing) (why : Why) (stop : Stop) → Follows a s → SessionRuns v a s
    → AcceptingAnswers a.machine m (Tick now) st
    → closing_in st ≡ Some c → why ≡ waiting_for (conn_of a.member) → stop ≡ stop_for why (Some c)
    → Ticks v s now a (record { machine = m; member = a.member; ended = a.ended; receives = a.receives }) (Some stop)
ticks_closed v s now a m st c why stop f r answers closing waits is =
    let does = answers (start_of v s) s.events r.machine in
    let k : closing_in (wanted v s (Tick now)) ≡ Some c = rw does.0 at closing in
    let w : why ≡ waiting_for s.conn = waits ∙ ap waiting_for f.conn in
    record { member = refl; stops = rw (k, is, w) refl; follows = follows_told a s m now f; runs = λ going. cc }

-- it doesn't
pub ticks_on : (v : Terms) (s : Standing) (now : ℕ) (a : SessionState) (m : Accepting) (st : Step) → Follows a s → SessionRuns v a s → AcceptingAnswers a.machine m (Tick now) st → LeavesAccepting st m
    → closing_in st ≡ None → Ticks v s now a (record { machine = m; member = a.member; ended = a.ended; receives = a.receives }) None
ticks_on v s now a m st f r answers left closing =
    let does = answers (start_of v s) s.events r.machine in
    let k : closing_in (wanted v s (Tick now)) ≡ None = rw does.0 at closing in
    let l : LeavesAccepting (wanted v s (Tick now)) m = rw does.0 at left in
    record {
      member = refl;
      stops = rw k refl;
      follows = follows_told a s m now f;
      runs = λ going. record {
        machine = does.1;
        waits = left_open (wanted v s (Tick now)) m None (waiting_for s.conn) None l (tick_calls (start_of v s) (last_message (start_of v s) s.events) now (standing s.events)) (rw k refl) refl;
        tied = tied_told s (Tick now) refl r.tied;
      };
    }

-- ---- the start

-- ---- the taking

keep_end : (e : Option End) (m : Membership) (p : Outlet) → ((d : End) → OutletHasEnded m.outlet d → OutletHasEnded p d) → HasFound e (Some m)
    → HasFound e (Some (record { conn = m.conn; address = m.address; outlet = p }))
keep_end None m p keeps h = tt
keep_end (Some d) m p keeps h = keeps d h

pub takes_from : (policy : Option Policy) (m : Membership) (p : Outlet) (old new : Option (List Said)) (pages pages' : Option (List ℕ)) (taken : Taken)
    → Takes policy m.address m.outlet p (traces old pages) (traces new pages') taken
    → TakesFrom policy (Some m) (Some (record { conn = m.conn; address = m.address; outlet = p })) (traces old pages) (traces new pages') taken
takes_from policy m p old new pages pages' taken t = record {
  frames = t.frames;
  same = (refl, refl, t.mark);
  keeps = λ e h. keep_end e m p t.keeps h;
  found = t.found;
  left = t.left;
  gave = t.gave;
  empties = t.empties;
  few = t.few;
  fits = t.fits;
  said = t.said;
  cause = t.cause;
  records = t.records;
  line = t.line;
}

address_same : (m n : Option Membership) → SameMember m n → address_by n ≡ address_by m
address_same None None h = refl
address_same (Some m) (Some n) h = ap (λ x. Some x) h.1
address_same None (Some n) h = absurd h
address_same (Some m) None h = absurd h

conn_same : (m n : Option Membership) → SameMember m n → conn_of n ≡ conn_of m
conn_same None None h = refl
conn_same (Some m) (Some n) h = ap (λ x. Some x) h.0
conn_same None (Some n) h = absurd h
conn_same (Some m) None h = absurd h

follows_taken : (a : SessionState) (n : Option Membership) (s : Standing) → SameMember a.member n → ((e : Option End) → HasFound e a.member → HasFound e n) → Follows a s
    → Follows (record { machine = a.machine; member = n; ended = a.ended; receives = a.receives }) s
follows_taken a n s same keeps f = record {
  conn = conn_same a.member n same ∙ f.conn;
  address = address_same a.member n same ∙ f.address;
  ended = f.ended;
  receives = f.receives;
  found = keeps a.ended f.found;
}

-- what a policy lets through to a connection, and what is noted of the others, by the session that follows it
passing_so : (v : Terms) (s : Standing) (policy : Option Policy) (m : Option Membership) (frames : List (List ℕ)) → v.policy ≡ policy → address_by m ≡ s.address
    → let_through policy (address_by m) frames ≡ passing v s frames
passing_so v s policy m frames fixed there = ap (λ x. let_through x (address_by m) frames) (sym fixed) ∙ ap (λ x. let_through v.policy x frames) there

noted_so : (v : Terms) (s : Standing) (policy : Option Policy) (m : Option Membership) (frames : List (List ℕ)) → v.policy ≡ policy → address_by m ≡ s.address
    → map denied (denials policy (address_by m) frames) ≡ noted_of v s frames
noted_so v s policy m frames fixed there = ap (λ x. map denied (denials x (address_by m) frames)) (sym fixed) ∙ ap (λ x. map denied (denials v.policy x frames)) there

-- the puts of a taking that met no End
said_so : (v : Terms) (s : Standing) (policy : Option Policy) (m n : Option Membership) (old new : Option (List Said)) (pages pages' : Option (List ℕ)) (taken : Taken) → v.policy ≡ policy
    → address_by m ≡ s.address
    → (t : TakesFrom policy m n (traces old pages) (traces new pages') taken) → Grows old new (puts (passing v s t.frames ++ []) (cut_in taken))
said_so v s policy m n old new pages pages' taken fixed there t = grows_as old new _ _
    (ap (λ w. puts w (cut_in taken)) (passing_so v s policy m t.frames fixed there ∙ sym (append-nil (passing v s t.frames)))) t.said

cause_so : (v : Terms) (s : Standing) (policy : Option Policy) (m n : Option Membership) (old new : Option (List Said)) (pages pages' : Option (List ℕ)) (taken : Taken) → v.policy ≡ policy
    → address_by m ≡ s.address
    → (t : TakesFrom policy m n (traces old pages) (traces new pages') taken) → HasPut (passing v s (last_alone t.frames)) (cut_in taken)
cause_so v s policy m n old new pages pages' taken fixed there t = subst (λ w. HasPut w (cut_in taken)) (passing_so v s policy m (last_alone t.frames) fixed there) t.cause

records_so : (v : Terms) (s : Standing) (policy : Option Policy) (m n : Option Membership) (old new : Option (List Said)) (pages pages' : Option (List ℕ)) (taken : Taken) → v.policy ≡ policy
    → address_by m ≡ s.address
    → (t : TakesFrom policy m n (traces old pages) (traces new pages') taken) → Records pages pages' (noted_of v s t.frames) (unput_in taken)
records_so v s policy m n old new pages pages' taken fixed there t = subst (λ w. Records pages pages' w (unput_in taken)) (noted_so v s policy m t.frames fixed there) t.records

line_so : (v : Terms) (s : Standing) (policy : Option Policy) (m n : Option Membership) (old new : Option (List Said)) (pages pages' : Option (List ℕ)) (taken : Taken) → v.policy ≡ policy
    → address_by m ≡ s.address
    → (t : TakesFrom policy m n (traces old pages) (traces new pages') taken) → HasLine (noted_of v s (last_alone t.frames)) (unput_in taken)
line_so v s policy m n old new pages pages' taken fixed there t = subst (λ w. HasLine w (unput_in taken)) (noted_so v s policy m (last_alone t.frames) fixed there) t.line

-- no End and no fault came, and no line was lost
attends_on : (v : Terms) (s : Standing) (now : ℕ) (policy : Option Policy) (a : SessionState) (n : Option Membership) (old new : Option (List Said)) (pages pages' : Option (List ℕ))
    (taken : Taken) (backlog : Backlog)
    → v.policy ≡ policy → met_in taken ≡ None → cut_in taken ≡ None → unput_in taken ≡ None
    → (t : TakesFrom policy a.member n (traces old pages) (traces new pages') taken) → is_more backlog ≡ may_be_more t.frames None
    → Follows a s → SessionRuns v a s
    → Attends v s now a (record { machine = a.machine; member = n; ended = a.ended; receives = a.receives }) (traces old pages) (traces new pages') (Ok backlog)
attends_on v s now policy a n old new pages pages' taken backlog fixed unmet uncut unlost t more f r = record {
  frames = t.frames;
  met = None;
  lost = None;
  fault = None;
  same = t.same;
  gave = t.gave;
  empties = rw (unmet, uncut, unlost) at t.empties;
  few = rw unmet at t.few;
  left = λ h. cc;
  said = rw uncut at (said_so v s policy a.member n old new pages pages' taken fixed f.address t);
  cause = rw uncut at (cause_so v s policy a.member n old new pages pages' taken fixed f.address t);
  records = rw unlost at (records_so v s policy a.member n old new pages pages' taken fixed f.address t);
  line = rw unlost at (line_so v s policy a.member n old new pages pages' taken fixed f.address t);
  stops = refl;
  more = more;
  follows = follows_taken a n s t.same t.keeps f;
  runs = λ going. record { machine = r.machine; waits = r.waits; tied = r.tied };
}

-- after fewer frames than a turn takes there is no more, and after as many there may be
few_more : (frames : List (List ℕ)) → length frames < TAKES → false ≡ may_be_more frames None
few_more frames few = ap not (sym (lt-ltb (length frames) TAKES few))

many_more : (frames : List (List ℕ)) → length frames ≡ TAKES → true ≡ may_be_more frames None
many_more frames many = ap (λ (n : ℕ). not (nat_lt n TAKES)) (sym many)

-- nothing more was there
pub attends_all : (v : Terms) (s : Standing) (now : ℕ) (policy : Option Policy) (a : SessionState) (n : Option Membership) (old new : Option (List Said)) (pages pages' : Option (List ℕ))
    → v.policy ≡ policy → TakesFrom policy a.member n (traces old pages) (traces new pages') All → Follows a s → SessionRuns v a s
    → Attends v s now a (record { machine = a.machine; member = n; ended = a.ended; receives = a.receives }) (traces old pages) (traces new pages') (Ok NothingLeft)
attends_all v s now policy a n old new pages pages' fixed t f r = attends_on v s now policy a n old new pages pages' All NothingLeft fixed refl refl refl t (few_more t.frames t.fits) f r

-- there may be more
pub attends_part : (v : Terms) (s : Standing) (now : ℕ) (policy : Option Policy) (a : SessionState) (n : Option Membership) (old new : Option (List Said)) (pages pages' : Option (List ℕ))
    → v.policy ≡ policy → TakesFrom policy a.member n (traces old pages) (traces new pages') Part → Follows a s → SessionRuns v a s
    → Attends v s now a (record { machine = a.machine; member = n; ended = a.ended; receives = a.receives }) (traces old pages) (traces new pages') (Ok MaybeMore)
attends_part v s now policy a n old new pages pages' fixed t f r = attends_on v s now policy a n old new pages pages' Part MaybeMore fixed refl refl refl t (many_more t.frames t.fits) f r

-- the taking was cut off by a fault
pub attends_cut : (v : Terms) (s : Standing) (now : ℕ) (policy : Option Policy) (a : SessionState) (n : Option Membership) (old new : Option (List Said)) (pages pages' : Option (List ℕ))
    (fault : LinkFault) (stop : Stop)
    → v.policy ≡ policy → TakesFrom policy a.member n (traces old pages) (traces new pages') (Cut fault) → Follows a s → stop ≡ stop_at fault
    → Attends v s now a (record { machine = a.machine; member = n; ended = a.ended; receives = a.receives }) (traces old pages) (traces new pages') (Err stop)
attends_cut v s now policy a n old new pages pages' fault stop fixed t f is = record {
  frames = t.frames;
  met = None;
  lost = None;
  fault = Some fault;
  same = t.same;
  gave = t.gave;
  empties = t.empties;
  few = t.few;
  left = λ h. cc;
  said = said_so v s policy a.member n old new pages pages' (Cut fault) fixed f.address t;
  cause = cause_so v s policy a.member n old new pages pages' (Cut fault) fixed f.address t;
  records = records_so v s policy a.member n old new pages pages' (Cut fault) fixed f.address t;
  line = line_so v s policy a.member n old new pages pages' (Cut fault) fixed f.address t;
  stops = ap (λ x. Some x) is;
  more = tt;
  follows = follows_taken a n s t.same t.keeps f;
  runs = λ going. cc;
}

-- the taking was cut off by a line that wasn't put
pub attends_lost : (v : Terms) (s : Standing) (now : ℕ) (policy : Option Policy) (a : SessionState) (n : Option Membership) (old new : Option (List Said)) (pages pages' : Option (List ℕ))
    (fault : LinkFault) (stop : Stop)
    → v.policy ≡ policy → TakesFrom policy a.member n (traces old pages) (traces new pages') (Lost fault) → Follows a s → stop ≡ stop_unrecorded fault
    → Attends v s now a (record { machine = a.machine; member = n; ended = a.ended; receives = a.receives }) (traces old pages) (traces new pages') (Err stop)
attends_lost v s now policy a n old new pages pages' fault stop fixed t f is = record {
  frames = t.frames;
  met = None;
  lost = Some fault;
  fault = None;
  same = t.same;
  gave = t.gave;
  empties = t.empties;
  few = t.few;
  left = λ h. cc;
  said = said_so v s policy a.member n old new pages pages' (Lost fault) fixed f.address t;
  cause = cause_so v s policy a.member n old new pages pages' (Lost fault) fixed f.address t;
  records = records_so v s policy a.member n old new pages pages' (Lost fault) fixed f.address t;
  line = line_so v s policy a.member n old new pages pages' (Lost fault) fixed f.address t;
  stops = ap (λ x. Some x) is;
  more = tt;
  follows = follows_taken a n s t.same t.keeps f;
  runs = λ going. cc;
}

ended_calls : (e : End) → calls (ended_step e) ≡ false
ended_calls Full = refl
ended_calls e = refl

-- the machine was told an End
pub meets : (v : Terms) (s : Standing) (now : ℕ) (e : End) (a : SessionState) (m : Accepting) (st : Step) (old new : Option (List Said)) (stop : Option Stop)
    → AcceptingStands a.machine (start_of v s) s.events → Tied s
    → AcceptingAnswers a.machine m (Ended now e) st → LeavesAccepting st m → Carries old new st (EndedBy e) stop
    → Carries old new (wanted v s (Ended now e)) (EndedBy e) stop × MeetsEnd v s now e a (record { machine = m; member = a.member; ended = Some e; receives = a.receives }) stop
meets v s now e a m st old new stop stood tied answers left carried =
    let does = answers (start_of v s) s.events stood in
    let k : Carries old new (wanted v s (Ended now e)) (EndedBy e) stop = rw does.0 at carried in
    let l : LeavesAccepting (wanted v s (Ended now e)) m = rw does.0 at left in (
      k,
      record {
        member = refl;
        ended = refl;
        receives = refl;
        runs = λ going. record {
          machine = does.1;
          waits = left_open (wanted v s (Ended now e)) m k.fault (EndedBy e) stop l (ended_calls e) k.stops going;
          tied = tied_told s (Ended now e) refl tied;
        };
      },
    )

not_left : (e : End) → e ≢ Left → Some e ≢ Some Left
not_left e h is = h cc

-- the taking came to an End, and what the machine then wanted was carried out
pub attends_met : (v : Terms) (s : Standing) (now : ℕ) (policy : Option Policy) (a b : SessionState) (n : Option Membership) (old mid new : Option (List Said))
    (pages pages' : Option (List ℕ)) (e : End) (stop : Option Stop) (result : Result Backlog Stop)
    → v.policy ≡ policy → TakesFrom policy a.member n (traces old pages) (traces mid pages') (Met e) → Follows a s
    → Carries mid new (wanted v s (Ended now e)) (EndedBy e) stop × MeetsEnd v s now e (record { machine = a.machine; member = n; ended = a.ended; receives = a.receives }) b stop
    → stop_of result ≡ stop → TellsMore result false → Attends v s now a b (traces old pages) (traces new pages') result
attends_met v s now policy a b n old mid new pages pages' e stop result fixed t f k is more = record {
  frames = t.frames;
  met = Some e;
  lost = None;
  fault = k.0.fault;
  same = rw k.1.member t.same;
  gave = rw k.1.member t.gave;
  empties = rw k.1.member t.empties;
  few = t.few;
  left = not_left e (t.left e refl);
  said = grows_as old new _ _ (sym (puts-append (passing v s t.frames) (octets_in (wanted v s (Ended now e))) k.0.fault k.0.cause))
      (grows_then old mid new (puts (passing v s t.frames) None) (puts (octets_in (wanted v s (Ended now e))) k.0.fault)
      (grows_as old mid _ _ (ap (λ w. puts w None) (passing_so v s policy a.member t.frames fixed f.address)) t.said) k.0.said);
  cause = k.0.cause;
  records = records_so v s policy a.member n old mid pages pages' (Met e) fixed f.address t;
  line = tt;
  stops = is ∙ k.0.stops;
  more = more;
  follows = record {
    conn = rw k.1.member (conn_same a.member n t.same ∙ f.conn);
    address = rw k.1.member (address_same a.member n t.same ∙ f.address);
    ended = k.1.ended;
    receives = k.1.receives ∙ f.receives;
    found = rw (k.1.ended, k.1.member) (t.found e refl);
  };
  runs = λ going. k.1.runs (sym is ∙ going);
}

-- ---- the opening

same_member : (m : Option Membership) → SameMember m m
same_member None = tt
same_member (Some m) = (refl, refl, refl)

-- the reading closes the session
pub opens_expired : (v : Terms) (s : Standing) (now : ℕ) (a b : SessionState) (old : Option (List Said)) (pages : Option (List ℕ)) (stop : Stop) → Ticks v (started s now) now a b (Some stop)
    → Opens v s now a b (traces old pages) (traces old pages) (Err stop)
opens_expired v s now a b old pages stop t = record {
  opening = record { reading = now; frames = []; met = None; lost = None; fault = None };
  read = refl;
  is = record { takes = inr (refl, refl); few = lit≤ tt; not_left = λ h. cc; line = no_line _; cause = well _ };
  same = rw t.member (same_member a.member);
  gave = rw t.member (sym (append-nil (given_by a.member)));
  empties = rw (t.member, sym t.stops) (omega arith);
  said = rw (passing-nil v s) (grows_none old);
  records = rw (noted-nil v s) (records-nil pages);
  stops = rw (sym t.stops) refl;
  more = tt;
  follows = t.follows;
  runs = λ going. cc;
}

closes_none : (w : Why) (c : Option Closing) → None ≡ closes w c → c ≡ None
closes_none w None h = refl
closes_none w (Some c) h = cc

-- nothing is taken outside of Connected
pub opens_apart : (v : Terms) (s : Standing) (now : ℕ) (a b : SessionState) (old : Option (List Said)) (pages : Option (List ℕ)) → Ticks v (started s now) now a b None
    → is_connected (ticked s now) ≡ false → Opens v s now a b (traces old pages) (traces old pages) (Ok NothingLeft)
opens_apart v s now a b old pages t apart = record {
  opening = record { reading = now; frames = []; met = None; lost = None; fault = None };
  read = refl;
  is = record { takes = inr (refl, refl); few = lit≤ tt; not_left = λ h. cc; line = no_line _; cause = well _ };
  same = rw t.member (same_member a.member);
  gave = rw t.member (sym (append-nil (given_by a.member)));
  empties = rw (t.member, sym t.stops, apart) (omega arith);
  said = rw (passing-nil v s) (grows_none old);
  records = rw (noted-nil v s) (records-nil pages);
  stops = rw (sym t.stops) refl;
  more = refl;
  follows = t.follows;
  runs = t.runs;
}

-- in Connected the frames are taken
pub opens_attended : (v : Terms) (s : Standing) (now : ℕ) (a b c : SessionState) (old new : Option (List Said)) (pages pages' : Option (List ℕ)) (result : Result Backlog Stop)
    → Ticks v (started s now) now a b None → is_connected (ticked s now) ≡ true
    → Attends v (ticked s now) now b c (traces old pages) (traces new pages') result → Opens v s now a c (traces old pages) (traces new pages') result
opens_attended v s now a b c old new pages pages' result t live k =
    let quiet : closing_in (wanted_at v s now) ≡ None = closes_none _ _ t.stops in
    record {
      opening = record { reading = now; frames = k.frames; met = k.met; lost = k.lost; fault = k.fault };
      read = refl;
      is = record { takes = inl (live, quiet); few = k.few; not_left = k.left; line = k.line; cause = k.cause };
      same = rw t.member at k.same;
      gave = rw t.member at k.gave;
      empties = rw (quiet, sym k.stops, live) (rw t.member at k.empties);
      said = k.said;
      records = k.records;
      stops = rw quiet k.stops;
      more = k.more;
      follows = k.follows;
      runs = k.runs;
    }

phase_connected : (p : Phase) → is_phase_connected p ≡ true → p ≡ PhaseConnected
phase_connected PhaseConnected h = refl
phase_connected p h = cc

-- in Connected there is a connection
pub followed_some : (v : Terms) (s : Standing) (a : SessionState) → Follows a s → SessionRuns v a s → is_connected s ≡ true → is_some a.member ≡ true
followed_some v s a f r h = some_of a.member s.conn f.conn (sym (connected_joined (standing s.events) (phase_connected (phase s.events) h)) ∙ r.tied)
