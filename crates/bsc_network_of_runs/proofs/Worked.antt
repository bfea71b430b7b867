-- A hub that was served, written out: A connects, sends an NPDU to itself, gets it, and closes. What its session put was passed on.
-- No clause needs it: worked examples.
use Rattle.std.proofs.Common.{◌≡◌, ℕ, List, [], ◌∷◌, Some, refl, subst}
use Rattle.std.specs.Prelude.{slice_get}
use Rattle.std.specs.List.{AllByRecursion}
use Rattle.bsc_octets.specs.Identities.{identity_of}
use Rattle.bsc_octets.specs.Functions.{npdus}
use Rattle.bsc_history.specs.declared.entry.Entry.{Entry}
use Rattle.bsc_history.specs.declared.limits.About.{About}
use Rattle.bsc_history.specs.Legality.{Legal}
use Rattle.bsc_history.proofs.OnLiterals.{history_on_literals}
use Rattle.bsc_session.specs.Serving.{received}
use Rattle.bsc_session.specs.Talk.{Session}
use Rattle.bsc_session.proofs.TalkWords.{back, hub_octets, terms}
use Rattle.bsc_node_links.specs.Talks.{put_in}
use Rattle.bsc_session_laws.proofs.WorkedLaws.{a_hears_itself, made, over, talk}
use Rattle.bsc_network_of_runs.specs.Hubs.{HubRun, SessionOf}
use Rattle.bsc_network_of_runs.specs.Passing.{PassesOn, WasPassedOn}
use Rattle.bsc_network_of_runs.proofs.Passing.{all-here}

abbrev pub the_hub : About
the_hub = record { hub = identity_of hub_octets; limits = record { rows = 4; outbox = 4; calls = 100; callers = 10 } }

-- the history is legal, and by it the frame entered the outbox
pub it_is_legal : Legal the_hub made
unfolding history_on_literals
it_is_legal = record {
  lawful = (
    record { replied = refl; named = refl; found = refl; called = refl },
    (record { replied = refl; named = refl; found = refl; called = refl }, (record { replied = refl; named = refl; found = refl; called = refl }, tt)),
  );
}

pub it_is_received : back ∷ [] ≡ received the_hub made (Some 1) 1
unfolding history_on_literals
it_is_received = refl

abbrev pub the_session : SessionOf the_hub made
the_session = record {
  terms = terms;
  talk = talk;
  readings = 0 ∷ 0 ∷ 0 ∷ [];
  entries = made;
  ended = over;
  session = subst (λ (frames : List (List ℕ)). Session terms talk (0 ∷ 0 ∷ 0 ∷ []) made frames over) it_is_received a_hears_itself;
  stand = refl;
  hub = refl;
}

-- all entries are of the session's caller
pub its_callers : AllByRecursion (λ (e : Entry). 3 ≡ e.caller) made
its_callers = (refl, (refl, (refl, tt)))

-- the hub's run
abbrev pub the_run : HubRun
the_run = record {
  about = the_hub;
  history = made;
  sessions = the_session ∷ [];
  legal = it_is_legal;
  apart = (tt, tt);
  forwarders = λ before later e sender m is call. (0, the_session, refl, all-here (λ (x : Entry). 3 ≡ x.caller) before e later (subst (AllByRecursion (λ (x : Entry). 3 ≡ x.caller)) is its_callers));
}

-- its session put one NPDU
it_puts_back : slice_get (npdus (put_in talk)) 0 ≡ Some back
it_puts_back = refl

-- and that was passed on, by the law
it_was_passed_on : ((h : HubRun) → PassesOn h) → WasPassedOn the_run the_session 0 back
it_was_passed_on law = law the_run 0 the_session 0 back refl it_puts_back
