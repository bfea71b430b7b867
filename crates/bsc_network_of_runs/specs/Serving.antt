-- What a serving call promises of the session of a hub's run.
use Rattle.std.specs.Prelude.{◌≡◌, List, []}
use Rattle.bsc_history.specs.declared.mark.Stamped.{Stamped}
use Rattle.bsc_history.specs.Entries.{own}
use Rattle.bsc_history.specs.Marks.{entries}
use Rattle.bsc_turn.specs.Histories.{StartsWith}
use Rattle.bsc_turn.specs.Passes.{own_list, number_of, seen}
use Rattle.bsc_hub.specs.Passing.{about_of}
use Rattle.bsc_session.specs.declared.ended.Ended.{Ended}
use Rattle.bsc_session.specs.Serving.{Serves}
use Rattle.bsc_session.specs.Standings.{Terms}
use Rattle.bsc_session.specs.Worlds.{SessionWorld}
use Rattle.bsc_network_of_runs.specs.Hubs.{SessionOf}

-- A serving call was made with a new pass of this hub, and H goes on from what the pass has then seen, with no more entries of its
-- caller.
pub record StandsIn (v : Terms) (before after : SessionWorld) (H : List Stamped) : Type 0 where
  pub hub : v.hub ≡ (about_of before.hub).hub
  pub caller : v.caller ≡ number_of before.pass
  pub new : own_list before.pass ≡ []
  pub since : StartsWith H (seen after.pass)
  pub all : own (entries H) (number_of before.pass) ≡ own_list after.pass

-- Such a call gave a session of the hub with the history H: by its terms, with its talk and its end.
abbrev pub ServingGivesSessions : Type 0
ServingGivesSessions = (v : Terms) (before after : SessionWorld) (ended : Ended) (H : List Stamped)
    → (x : Serves v before after ended) → StandsIn v before after H
    → (s : SessionOf (about_of before.hub) (entries H)) × (s.terms ≡ v) × (s.talk ≡ x.T) × (s.ended ≡ ended)
