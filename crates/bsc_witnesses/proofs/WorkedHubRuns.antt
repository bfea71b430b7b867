-- A run of the command `hub`, written out: the hub is made, its journal can't be begun, and so it is stopped.
-- No clause needs it: worked examples.
use Rattle.std.proofs.Common.{◌≡◌, ℕ, List, [], ◌∷◌, Option, Some, None, Result, Ok, inl, refl, sym, subst, ◌∙◌, lit<}
use Rattle.std.specs.declared.alloc.Global.{Global}
use Rattle.std.specs.declared.sync.Arc.{Arc}
use Rattle.std.specs.Arc.{arc_value}
use Rattle.uuid.proofs.OnLiterals.{uuid_on_literals}
use Rattle.bsc_history.specs.declared.call.Call.TheVariants.{Stop}
use Rattle.bsc_history.specs.declared.counts.Counts.{Counts}
use Rattle.bsc_history.specs.declared.entry.Entry.{Entry}
use Rattle.bsc_history.specs.declared.limits.About.{About}
use Rattle.bsc_history.specs.declared.reply.Reply.TheVariants.{Counted}
use Rattle.bsc_history.specs.declared.told.AlreadyStopped.{AlreadyStopped}
use Rattle.bsc_history.specs.declared.told.Told.{Told}
use Rattle.bsc_history.specs.Legality.{Legal}
use Rattle.bsc_history.proofs.OnLiterals.{history_on_literals}
use Rattle.bsc_turn.specs.declared.pass.Pass.{Pass}
use Rattle.bsc_desk.specs.Entries.{plain}
use Rattle.bsc_hub.specs.declared.hub.Hub.{Hub}
use Rattle.bsc_hub.specs.Calls.{stop_made}
use Rattle.bsc_hub.specs.Passing.{IsCaller, Passed, about_of}
use Rattle.bsc_script.proofs.OnLiterals.{script_on_literals}
use Rattle.bsc_session.specs.declared.job.SessionJob.{SessionJob}
use Rattle.bsc_session.specs.declared.session_end.SessionEnd.{SessionEnd}
use Rattle.bsc_settings.specs.Parts.{identity_of, limits_of}
use Rattle.bsc_journal.specs.Saying.{IsHubLine, IsIdentity}
use Rattle.bsc_hub_command.specs.declared.place.HubPlace.{HubPlace}
use Rattle.bsc_hub_command.specs.HubLines.{hub_text}
use Rattle.bsc_hub_command.specs.Served.{HubRuns, HubTelling, HubTerms, HubWorld, LimitedTo, StopsAlone, telling}
use Rattle.bsc_witnesses.proofs.Pieces.{lawful}
use Rattle.bsc_witnesses.proofs.Passes.{view, knowing, is_pass, consistent}

-- the hub, as its settings say
abbrev the_hub : About
the_hub = record {
  hub = record {
    vmac = record { 0 = 0x02 ∷ 0 ∷ 0 ∷ 0 ∷ 0 ∷ 0xFF ∷ [] };
    device = record {
      0 = 0x00 ∷ 0x11 ∷ 0x22 ∷ 0x33 ∷ 0x44 ∷ 0x55 ∷ 0x66 ∷ 0x77 ∷ 0x88 ∷ 0x99 ∷ 0xAA ∷ 0xBB ∷ 0xCC ∷ 0xDD ∷ 0xEE ∷ 0xFF ∷ [];
    };
    max_bvlc = 1600;
    max_npdu = 1497;
  };
  limits = record { rows = 256; outbox = 64; calls = 4503599627370496; callers = 4611686018427387904 };
}

hub_says : IsHubLine (hub_text the_hub) the_hub
unfolding script_on_literals uuid_on_literals
hub_says = record { line = refl; words = refl }

hub_is : IsIdentity the_hub.hub
unfolding script_on_literals uuid_on_literals
hub_is = record { long = refl; octets = refl; said = refl }

abbrev none : Counts
none = record { joined = 0; replaced = 0; refused = 0; unicasts = 0; broadcasts = 0; appended = 0; dropped = 0; full = 0; missed = 0 }

abbrev stops : Entry
stops = record { caller = 0; call = Stop; looks = []; reply = Counted none }

stops-legal : Legal the_hub (stops ∷ [])
unfolding history_on_literals
stops-legal = record { lawful = (lawful refl refl refl refl, tt) }

abbrev stop : Result (Told Counts) AlreadyStopped
stop = Ok (record { at = 0; said = none })

-- No job was made, and no journal was begun.
abbrev no_job : SessionJob ℕ ℕ ℕ → SessionEnd ℕ ℕ ℕ → Type 0
no_job job left = ⊥

abbrev no_journal : Option (List ℕ) → ℕ → ℕ → Type 0
no_journal prefix number journal = ⊥

abbrev tells : HubTelling ℕ ℕ ℕ
tells = telling no_job no_journal (λ link. None) (λ journal. None) (λ journal. 0)

-- what there is outside: nothing is asked for, and one journal couldn't be begun
abbrev outside : ℕ → HubWorld ℕ ℕ ℕ
outside unbegun = record {
  links = Some [];
  came = Some [];
  waits = Some [];
  quiets = 0;
  port = Some None;
  faults = 0;
  jobs = Some [];
  given_back = Some [];
  out = [];
  unstarted = 0;
  begun = None;
  unbegun = unbegun;
  lost = Some [];
  limits = None;
  written = Some [];
  asking = record { looks = Some []; asked = 0; endings = Some [] };
}

-- no limit of files is told
untold : (limit : Option ℕ) → LimitedTo limit None None
untold None = refl
untold (Some octets) = tt

module _ (hub : Arc Hub Global) (asked : HubTerms) (is : about_of (arc_value hub) ≡ the_hub)
    (settles : the_hub ≡ record { hub = identity_of asked.settings; limits = limits_of asked.settings }) (p : Pass) where
  abbrev first : Pass
  first = knowing (arc_value hub) p (view (arc_value hub) [] [])

  abbrev last : Pass
  last = knowing (arc_value hub) p (view (arc_value hub) (plain stops ∷ []) (stops ∷ []))

  first_is_caller : IsCaller (arc_value hub) first
  first_is_caller = (is_pass (arc_value hub) p (view (arc_value hub) [] []) refl refl refl refl (consistent (arc_value hub) [] [] refl tt), record { lawful = tt })

  last_is_caller : IsCaller (arc_value hub) last
  last_is_caller = (
    is_pass (arc_value hub) p (view (arc_value hub) (plain stops ∷ []) (stops ∷ [])) refl refl refl refl (consistent (arc_value hub) (plain stops ∷ []) (stops ∷ []) refl (refl, tt)),
    subst (λ (a : About). Legal a (stops ∷ [])) (sym is) stops-legal,
  )

  stopped : Passed (arc_value hub) first [] (stop_made 0 stop) last
  stopped = record {
    caller = last_is_caller;
    number = refl;
    grows = (plain stops ∷ [], refl);
    all_own = refl;
    takes_in = refl;
    makes = record { before = []; begins = ([], refl); ends = refl; place = refl; grew = refl };
    draws = refl;
    drawn = λ asked_none. refl;
  }

  alone : StopsAlone (record { hub = arc_value hub; first = first; last = last })
  unfolding history_on_literals
  alone = (stop, stopped, (refl, refl))

  -- what is kept of the hub: itself and its own pass, and no journal
  abbrev place : HubPlace ℕ
  place = record { kept = record { hub = Some hub; pass = Some last }; own = None }

  runs : HubRuns tells asked place (outside 0) (outside 1) 4
  runs = record {
    hub = hub;
    first = first;
    last = last;
    made = refl;
    keeps = refl;
    caller = first_is_caller;
    new = (refl, refl, refl, refl, refl);
    about = is ∙ settles;
    said = subst (λ (a : About). IsHubLine (hub_text a) a) (sym is) hub_says;
    identity = subst (λ (a : About). IsIdentity a.hub) (sym is) hub_is;
    limited = untold asked.limit;
    went = inl (record {
      none = refl;
      begun = tt;
      untouched = record { links = refl; came = refl; waits = refl; quiets = refl; port = refl; faults = refl; jobs = refl; given_back = refl; out = refl; unstarted = refl; lost = refl; asking = refl };
      stops = alone;
      says = inl (refl, inl (lit< tt), refl);
    });
  }

-- The own pass of a hub that was made is kept.
loses_its_pass : (asked : HubTerms) (place : HubPlace ℕ) (before after : HubWorld ℕ ℕ ℕ) (status : ℕ) → place.kept.pass ≡ None → HubRuns tells asked place before after status → ⊥
loses_its_pass asked place before after status none x = (let bad : ◌≡◌ {A = Option Pass} None (Some x.last) = sym none ∙ x.keeps in cc)

-- So is the hub itself.
loses_its_hub : (asked : HubTerms) (place : HubPlace ℕ) (before after : HubWorld ℕ ℕ ℕ) (status : ℕ) → place.kept.hub ≡ None → HubRuns tells asked place before after status → ⊥
loses_its_hub asked place before after status none x = (let bad : ◌≡◌ {A = Option (Arc Hub Global)} None (Some x.hub) = sym none ∙ x.made in cc)
