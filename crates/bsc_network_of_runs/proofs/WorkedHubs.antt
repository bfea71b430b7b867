-- Two hubs that were served, written out. At the first A and B connect, A asks for B's URIs, and B answers; then A connects again, in
-- place of its first connection, and sends an NPDU to all. At the second C sends an NPDU to itself.
-- No clause needs it: worked examples.
use Rattle.std.proofs.Common.{◌≡◌, ◌<◌, ℕ, true, List, [], ◌∷◌, ◌++◌, Option, Some, None, Result, Ok, is_none, is_some, refl, subst, inl, inr, lit<, lit≤}
use Rattle.std.specs.Prelude.{codes}
use Rattle.std.specs.List.{AllByRecursion}
use Rattle.bsc_octets.specs.declared.identity.Identity.{Identity}
use Rattle.bsc_octets.specs.Identities.{identity_of}
use Rattle.bsc_history.specs.declared.call.Call.TheVariants.{Connect, Forward, Leave}
use Rattle.bsc_history.specs.declared.ending.End.{End}
use Rattle.bsc_history.specs.declared.ending.End.TheVariants.{Left, Replaced}
use Rattle.bsc_history.specs.declared.entry.Entry.{Entry}
use Rattle.bsc_history.specs.declared.limits.About.{About}
use Rattle.bsc_history.specs.declared.looks.Look.{Look}
use Rattle.bsc_history.specs.declared.reply.Reply.{Reply}
use Rattle.bsc_history.specs.declared.reply.Reply.TheVariants.{Appended, Gone, Joined, SentAll}
use Rattle.bsc_history.specs.Laws.{Apart}
use Rattle.bsc_history.specs.Legality.{Legal}
use Rattle.bsc_history.proofs.OnLiterals.{history_on_literals}
use Rattle.bsc_edge.specs.declared.fault.LinkFault.{LinkFault}
use Rattle.bsc_edge.specs.declared.incoming.Incoming.{Incoming}
use Rattle.bsc_edge.specs.declared.incoming.Incoming.TheVariants.{Closed, Message}
use Rattle.bsc_edge.specs.declared.said.Said.{Said}
use Rattle.bsc_edge.specs.declared.said.Said.TheVariants.{Gave, Put}
use Rattle.bsc_checks.proofs.OnLiterals.{verdict_on_literals}
use Rattle.bsc_session.proofs.NoteFacts.Common.{no_line}
use Rattle.bsc_session.specs.declared.ended.Ended.{Ended}
use Rattle.bsc_session.specs.declared.why.Why.TheVariants.{PeerClosed}
use Rattle.bsc_session.specs.Answering.{AnswerFits, calls_hub, put_after, step_of}
use Rattle.bsc_session.specs.Judging.{LacksAtPass}
use Rattle.bsc_session.specs.Puts.{HasPut}
use Rattle.bsc_session.specs.Receiving.{Answer, replies}
use Rattle.bsc_session.specs.Serving.{received}
use Rattle.bsc_session.specs.Standings.{Standing, Terms}
use Rattle.bsc_session.specs.Stops.{stop_for}
use Rattle.bsc_session.specs.Taking.{Opening, full_wait, opened, stop_before}
use Rattle.bsc_session.specs.Talk.{Session}
use Rattle.bsc_session.specs.Turns.{IsTurn, Turn}
use Rattle.bsc_session.proofs.TalkWords.{heard_so, told_by}
use Rattle.bsc_network_of_runs.specs.Hubs.{HubRun, IsCallerOf, SessionOf}
use Rattle.bsc_network_of_runs.proofs.Passing.{all-here}

-- ---- who there is, and what they put

abbrev pub address : ℕ → List ℕ
address n = 0x02 ∷ 0x00 ∷ 0x00 ∷ 0x00 ∷ 0x00 ∷ n ∷ []

abbrev pub octets_of : ℕ → List ℕ
octets_of n = address n ++ n ∷ n ∷ n ∷ n ∷ n ∷ n ∷ n ∷ n ∷ n ∷ n ∷ n ∷ n ∷ n ∷ n ∷ n ∷ n ∷ 0x06 ∷ 0x40 ∷ 0x05 ∷ 0xD9 ∷ []

abbrev pub who : ℕ → Identity
who n = identity_of (octets_of n)

-- a message of this function and Message ID, without addresses, to one, and from one
abbrev pub plain : ℕ → ℕ → List ℕ → List ℕ
plain function id o = function ∷ 0x00 ∷ 0x00 ∷ id ∷ o

abbrev pub to : ℕ → ℕ → ℕ → List ℕ → List ℕ
to n function id o = function ∷ 0x04 ∷ 0x00 ∷ id ∷ (address n ++ o)

abbrev pub from : ℕ → ℕ → ℕ → List ℕ → List ℕ
from n function id o = function ∷ 0x08 ∷ 0x00 ∷ id ∷ (address n ++ o)

abbrev pub to_all : List ℕ
to_all = 0xFF ∷ 0xFF ∷ 0xFF ∷ 0xFF ∷ 0xFF ∷ 0xFF ∷ []

abbrev pub connect : ℕ → ℕ → List ℕ
connect n id = plain 0x06 id (octets_of n)

abbrev pub accept : ℕ → ℕ → List ℕ
accept n id = plain 0x07 id (octets_of n)

abbrev pub npdu : List ℕ
npdu = 0x01 ∷ 0x00 ∷ []

abbrev pub uris : List ℕ
uris = codes "ws://b/"

-- A asks B, and B answers; each as it is put, and as the hub passes it on
abbrev pub asks : List ℕ
asks = to 0x0B 0x02 2 []

abbrev pub asked : List ℕ
asked = from 0x0A 0x02 2 []

abbrev pub answers : List ℕ
answers = to 0x0A 0x03 2 uris

abbrev pub answered : List ℕ
answered = from 0x0B 0x03 2 uris

-- A's NPDU to all, and C's to itself
abbrev pub for_all : List ℕ
for_all = 0x01 ∷ 0x04 ∷ 0x00 ∷ 6 ∷ (to_all ++ npdu)

abbrev pub from_a : List ℕ
from_a = 0x01 ∷ 0x0C ∷ 0x00 ∷ 6 ∷ (address 0x0A ++ (to_all ++ npdu))

abbrev pub to_c : List ℕ
to_c = to 0x0C 0x01 2 npdu

abbrev pub from_c : List ℕ
from_c = from 0x0C 0x01 2 npdu

-- A's NPDU to B, over the direct connection
abbrev pub direct_npdu : List ℕ
direct_npdu = plain 0x01 4 npdu

-- ---- the hubs

abbrev pub first_hub : About
first_hub = record { hub = who 0x01; limits = record { rows = 4; outbox = 4; calls = 100; callers = 10 } }

abbrev pub second_hub : About
second_hub = record { hub = who 0x02; limits = record { rows = 4; outbox = 4; calls = 100; callers = 10 } }

abbrev pub terms_at : About → ℕ → Terms
terms_at a caller = record { caller = caller; hub = a.hub; times = record { connect_wait = 10000; disconnect_wait = 10000; heartbeat = 300000 }; turns = 100; policy = None }

abbrev pub look : ℕ → Look
look c = record { conn = c; taken = 0 }

abbrev pub joins : ℕ → ℕ → ℕ → Option ℕ → Entry
joins caller n c replaced = record { caller = caller; call = Connect (who n); looks = []; reply = Joined c replaced }

abbrev pub forwards : ℕ → ℕ → List ℕ → ℕ → Reply → Entry
forwards caller sender m receiver reply = record { caller = caller; call = Forward sender m; looks = look receiver ∷ []; reply = reply }

abbrev pub leaves : ℕ → ℕ → ℕ → End → Entry
leaves caller c taken ending = record { caller = caller; call = Leave c taken 2; looks = []; reply = Gone ending taken }

abbrev pub first_history : List Entry
first_history =
    joins 1 0x0A 1 None ∷ joins 2 0x0B 2 None ∷ forwards 1 1 asks 2 (Appended 2) ∷ forwards 2 2 answers 1 (Appended 1) ∷ joins 3 0x0A 3 (Some 1) ∷ leaves 1 1 1 Replaced
    ∷ forwards 3 3 for_all 2 (SentAll (2 ∷ []) [] []) ∷ leaves 3 3 0 Left ∷ leaves 2 2 2 Left ∷ []

abbrev pub second_history : List Entry
second_history = joins 1 0x0C 1 None ∷ forwards 1 1 to_c 1 (Appended 1) ∷ leaves 1 1 1 Left ∷ []

pub first_legal : Legal first_hub first_history
unfolding history_on_literals
first_legal = record {
  lawful = (
    record { replied = refl; named = refl; found = refl; called = refl },
    (
      record { replied = refl; named = refl; found = refl; called = refl },
      (
        record { replied = refl; named = refl; found = refl; called = refl },
        (
          record { replied = refl; named = refl; found = refl; called = refl },
          (
            record { replied = refl; named = refl; found = refl; called = refl },
            (
              record { replied = refl; named = refl; found = refl; called = refl },
              (
                record { replied = refl; named = refl; found = refl; called = refl },
                (record { replied = refl; named = refl; found = refl; called = refl }, (record { replied = refl; named = refl; found = refl; called = refl }, tt)),
              ),
            ),
          ),
        ),
      ),
    ),
  );
}

pub second_legal : Legal second_hub second_history
unfolding history_on_literals
second_legal = record {
  lawful = (
    record { replied = refl; named = refl; found = refl; called = refl },
    (record { replied = refl; named = refl; found = refl; called = refl }, (record { replied = refl; named = refl; found = refl; called = refl }, tt)),
  );
}

-- ---- turns of sessions

-- a turn in which these frames are taken and then this is given, with the hub's answer
abbrev gets : List (List ℕ) → Incoming → Option Answer → Turn
gets frames given answer = record { opening = record { reading = 0; frames = frames; met = None; lost = None; fault = None }; hearing = Some (heard_so (Ok given) true answer None) }

abbrev gets_first : List (List ℕ) → Opening
gets_first frames = record { reading = 0; frames = frames; met = None; lost = None; fault = None }

-- one that takes nothing, as it may be
hears : (a : About) (caller : ℕ) (s : Standing) (given : Result Incoming LinkFault) (answer : Option Answer) → s.receives < (terms_at a caller).turns
    → true ≡ is_none (stop_before (terms_at a caller) s (gets_first []))
    → LacksAtPass (terms_at a caller) (opened s (gets_first [])) true given
    → is_some answer ≡ calls_hub (terms_at a caller) (opened s (gets_first [])) (step_of (terms_at a caller) (opened s (gets_first [])) 0 (heard_so given true answer None)) given
    → AnswerFits (step_of (terms_at a caller) (opened s (gets_first [])) 0 (heard_so given true answer None)) answer
    → HasPut (put_after (terms_at a caller) (opened s (gets_first [])) 0 (heard_so given true answer None)) None
    → IsTurn (terms_at a caller) s (record { opening = gets_first []; hearing = Some (heard_so given true answer None) })
hears a caller s given answer room on memory calls fits cause = record {
  room = room;
  opening = record { takes = inr (refl, refl); few = lit≤ tt; not_left = λ h. cc; line = tt; cause = tt };
  heard = on;
  hearing = record { memory = memory; calls = calls; fits = fits; line = no_line _; cause = cause };
}

-- it met no End
not_met : (r e : End) → ◌≡◌ {A = Option End} None (Some e) → r ≡ e
not_met r e h = cc

-- ---- the first session of A: it asks, gets the answer, and is closed

abbrev pub first_talk : List Said
first_talk = Gave full_wait (Ok (Message (connect 0x0A 1))) ∷ Put (accept 0x01 1) None ∷ Gave full_wait (Ok (Message asks)) ∷ Put answered None ∷ Gave full_wait (Ok Closed) ∷ []

abbrev pub first_entries : List Entry
first_entries = joins 1 0x0A 1 None ∷ forwards 1 1 asks 2 (Appended 2) ∷ leaves 1 1 1 Replaced ∷ []

abbrev pub first_ended : Ended
first_ended = record { why = PeerClosed; conn = Some 1; taken = 1; empties = 2; turns = 3 }

pub first_of_a : Session (terms_at first_hub 1) first_talk (0 ∷ 0 ∷ 0 ∷ []) first_entries (answered ∷ []) first_ended
unfolding verdict_on_literals
first_of_a = told_by (terms_at first_hub 1) (record {
  went_on = gets [] (Message (connect 0x0A 1)) (Some (replies 0 [] (Joined 1 None))) ∷ gets [] (Message asks) (Some (replies 2 (look 2 ∷ []) (Appended 2))) ∷ [];
  last = Some (gets (answered ∷ []) Closed None);
  stop = stop_for PeerClosed None;
  turns = (
    hears first_hub 1 _ _ _ (lit< tt) refl tt refl refl tt,
    (
      hears first_hub 1 _ _ _ (lit< tt) refl tt refl tt tt,
      (
        record {
          room = lit< tt;
          opening = record { takes = inl (refl, refl); few = lit≤ tt; not_left = λ h. cc; line = tt; cause = tt };
          heard = refl;
          hearing = record { memory = tt; calls = refl; fits = tt; line = tt; cause = tt };
        },
        tt,
      ),
    ),
  );
  goes_on = (refl, (refl, tt));
  stops = refl;
}) Replaced (λ c e joined met. not_met Replaced e met)

pub first_received : answered ∷ [] ≡ received first_hub first_history (Some 1) 1
unfolding history_on_literals
first_received = refl

abbrev pub first_session : SessionOf first_hub first_history
first_session = record {
  terms = terms_at first_hub 1;
  talk = first_talk;
  readings = 0 ∷ 0 ∷ 0 ∷ [];
  entries = first_entries;
  ended = first_ended;
  session = subst (λ (frames : List (List ℕ)). Session (terms_at first_hub 1) first_talk (0 ∷ 0 ∷ 0 ∷ []) first_entries frames first_ended) first_received first_of_a;
  stand = refl;
  hub = refl;
}

-- ---- the session of B: it is asked, answers, and gets A's NPDU

abbrev pub b_talk : List Said
b_talk =
    Gave full_wait (Ok (Message (connect 0x0B 1))) ∷ Put (accept 0x01 1) None ∷ Put asked None ∷ Gave full_wait (Ok (Message answers)) ∷ Put from_a None ∷ Gave full_wait (Ok Closed) ∷ []

abbrev pub b_entries : List Entry
b_entries = joins 2 0x0B 2 None ∷ forwards 2 2 answers 1 (Appended 1) ∷ leaves 2 2 2 Left ∷ []

abbrev pub b_ended : Ended
b_ended = record { why = PeerClosed; conn = Some 2; taken = 2; empties = 2; turns = 3 }

pub of_b : Session (terms_at first_hub 2) b_talk (0 ∷ 0 ∷ 0 ∷ []) b_entries (asked ∷ from_a ∷ []) b_ended
unfolding verdict_on_literals
of_b = told_by (terms_at first_hub 2) (record {
  went_on = gets [] (Message (connect 0x0B 1)) (Some (replies 1 [] (Joined 2 None))) ∷ gets (asked ∷ []) (Message answers) (Some (replies 3 (look 1 ∷ []) (Appended 1))) ∷ [];
  last = Some (gets (from_a ∷ []) Closed None);
  stop = stop_for PeerClosed None;
  turns = (
    hears first_hub 2 _ _ _ (lit< tt) refl tt refl refl tt,
    (
      record {
        room = lit< tt;
        opening = record { takes = inl (refl, refl); few = lit≤ tt; not_left = λ h. cc; line = tt; cause = tt };
        heard = refl;
        hearing = record { memory = tt; calls = refl; fits = tt; line = tt; cause = tt };
      },
      (
        record {
          room = lit< tt;
          opening = record { takes = inl (refl, refl); few = lit≤ tt; not_left = λ h. cc; line = tt; cause = tt };
          heard = refl;
          hearing = record { memory = tt; calls = refl; fits = tt; line = tt; cause = tt };
        },
        tt,
      ),
    ),
  );
  goes_on = (refl, (refl, tt));
  stops = refl;
}) Left (λ c e joined met. not_met Left e met)

pub b_received : asked ∷ from_a ∷ [] ≡ received first_hub first_history (Some 2) 2
unfolding history_on_literals
b_received = refl

abbrev pub b_session : SessionOf first_hub first_history
b_session = record {
  terms = terms_at first_hub 2;
  talk = b_talk;
  readings = 0 ∷ 0 ∷ 0 ∷ [];
  entries = b_entries;
  ended = b_ended;
  session = subst (λ (frames : List (List ℕ)). Session (terms_at first_hub 2) b_talk (0 ∷ 0 ∷ 0 ∷ []) b_entries frames b_ended) b_received of_b;
  stand = refl;
  hub = refl;
}

-- ---- the second session of A: it takes over, and sends to all

abbrev pub again_talk : List Said
again_talk = Gave full_wait (Ok (Message (connect 0x0A 5))) ∷ Put (accept 0x01 5) None ∷ Gave full_wait (Ok (Message for_all)) ∷ Gave full_wait (Ok Closed) ∷ []

abbrev pub again_entries : List Entry
again_entries = joins 3 0x0A 3 (Some 1) ∷ forwards 3 3 for_all 2 (SentAll (2 ∷ []) [] []) ∷ leaves 3 3 0 Left ∷ []

abbrev pub again_ended : Ended
again_ended = record { why = PeerClosed; conn = Some 3; taken = 0; empties = 2; turns = 3 }

pub again_of_a : Session (terms_at first_hub 3) again_talk (0 ∷ 0 ∷ 0 ∷ []) again_entries [] again_ended
unfolding verdict_on_literals
again_of_a = told_by (terms_at first_hub 3) (record {
  went_on = gets [] (Message (connect 0x0A 5)) (Some (replies 4 [] (Joined 3 (Some 1)))) ∷ gets [] (Message for_all) (Some (replies 6 (look 2 ∷ []) (SentAll (2 ∷ []) [] []))) ∷ [];
  last = Some (gets [] Closed None);
  stop = stop_for PeerClosed None;
  turns = (hears first_hub 3 _ _ _ (lit< tt) refl tt refl refl tt, (hears first_hub 3 _ _ _ (lit< tt) refl tt refl tt tt, (hears first_hub 3 _ _ _ (lit< tt) refl tt refl tt tt, tt)));
  goes_on = (refl, (refl, tt));
  stops = refl;
}) Left (λ c e joined met. not_met Left e met)

pub again_received : [] ≡ received first_hub first_history (Some 3) 0
unfolding history_on_literals
again_received = refl

abbrev pub again_session : SessionOf first_hub first_history
again_session = record {
  terms = terms_at first_hub 3;
  talk = again_talk;
  readings = 0 ∷ 0 ∷ 0 ∷ [];
  entries = again_entries;
  ended = again_ended;
  session = subst (λ (frames : List (List ℕ)). Session (terms_at first_hub 3) again_talk (0 ∷ 0 ∷ 0 ∷ []) again_entries frames again_ended) again_received again_of_a;
  stand = refl;
  hub = refl;
}

-- ---- the session of C at the second hub

abbrev pub c_talk : List Said
c_talk = Gave full_wait (Ok (Message (connect 0x0C 1))) ∷ Put (accept 0x02 1) None ∷ Gave full_wait (Ok (Message to_c)) ∷ Put from_c None ∷ Gave full_wait (Ok Closed) ∷ []

abbrev pub c_ended : Ended
c_ended = record { why = PeerClosed; conn = Some 1; taken = 1; empties = 2; turns = 3 }

pub of_c : Session (terms_at second_hub 1) c_talk (0 ∷ 0 ∷ 0 ∷ []) second_history (from_c ∷ []) c_ended
unfolding verdict_on_literals
of_c = told_by (terms_at second_hub 1) (record {
  went_on = gets [] (Message (connect 0x0C 1)) (Some (replies 0 [] (Joined 1 None))) ∷ gets [] (Message to_c) (Some (replies 1 (look 1 ∷ []) (Appended 1))) ∷ [];
  last = Some (gets (from_c ∷ []) Closed None);
  stop = stop_for PeerClosed None;
  turns = (
    hears second_hub 1 _ _ _ (lit< tt) refl tt refl refl tt,
    (
      hears second_hub 1 _ _ _ (lit< tt) refl tt refl tt tt,
      (
        record {
          room = lit< tt;
          opening = record { takes = inl (refl, refl); few = lit≤ tt; not_left = λ h. cc; line = tt; cause = tt };
          heard = refl;
          hearing = record { memory = tt; calls = refl; fits = tt; line = tt; cause = tt };
        },
        tt,
      ),
    ),
  );
  goes_on = (refl, (refl, tt));
  stops = refl;
}) Left (λ c e joined met. not_met Left e met)

pub c_received : from_c ∷ [] ≡ received second_hub second_history (Some 1) 1
unfolding history_on_literals
c_received = refl

abbrev pub c_session : SessionOf second_hub second_history
c_session = record {
  terms = terms_at second_hub 1;
  talk = c_talk;
  readings = 0 ∷ 0 ∷ 0 ∷ [];
  entries = second_history;
  ended = c_ended;
  session = subst (λ (frames : List (List ℕ)). Session (terms_at second_hub 1) c_talk (0 ∷ 0 ∷ 0 ∷ []) second_history frames c_ended) c_received of_c;
  stand = refl;
  hub = refl;
}

-- ---- their runs

abbrev pub first_sessions : List (SessionOf first_hub first_history)
first_sessions = first_session ∷ b_session ∷ again_session ∷ []

pub first_callers : AllByRecursion (λ (e : Entry). IsCallerOf first_sessions e.caller) first_history
first_callers = (
  (0, first_session, refl, refl),
  (
    (1, b_session, refl, refl),
    (
      (0, first_session, refl, refl),
      (
        (1, b_session, refl, refl),
        ((2, again_session, refl, refl), ((0, first_session, refl, refl), ((2, again_session, refl, refl), ((2, again_session, refl, refl), ((1, b_session, refl, refl), tt))))),
      ),
    ),
  ),
)

pub first_apart : Apart (λ (s : SessionOf first_hub first_history). s.terms.caller) first_sessions
first_apart = (((λ h. cc), ((λ h. cc), tt)), (((λ h. cc), tt), (tt, tt)))

abbrev pub first_run : HubRun
first_run = record {
  about = first_hub;
  history = first_history;
  sessions = first_sessions;
  legal = first_legal;
  apart = first_apart;
  forwarders = λ before later e sender m is call.
      all-here (λ (x : Entry). IsCallerOf first_sessions x.caller) before e later (subst (AllByRecursion (λ (x : Entry). IsCallerOf first_sessions x.caller)) is first_callers);
}

pub second_callers : AllByRecursion (λ (e : Entry). IsCallerOf (c_session ∷ []) e.caller) second_history
second_callers = ((0, c_session, refl, refl), ((0, c_session, refl, refl), ((0, c_session, refl, refl), tt)))

abbrev pub second_run : HubRun
second_run = record {
  about = second_hub;
  history = second_history;
  sessions = c_session ∷ [];
  legal = second_legal;
  apart = (tt, tt);
  forwarders = λ before later e sender m is call.
      all-here (λ (x : Entry). IsCallerOf (c_session ∷ []) x.caller) before e later (subst (AllByRecursion (λ (x : Entry). IsCallerOf (c_session ∷ []) x.caller)) is second_callers);
}
