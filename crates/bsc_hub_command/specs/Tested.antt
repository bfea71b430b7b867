-- What is written where settings of a hub are tried.
use Rattle.std.specs.Prelude.{ℕ, ◌⊎◌, List, Option}
use Rattle.bsc_player.specs.LastLines.{SaysOrRunsOut}
use Rattle.bsc_policy.specs.declared.policy.Policy.{Policy}
use Rattle.bsc_settings.specs.declared.hub.HubSettings.{HubSettings}
use Rattle.bsc_settings_told.specs.Told.{hub_told}
use Rattle.bsc_hub_command.specs.Settled.{IsSettled, Unsettled}

-- Either the file wasn't read, its settings were refused, or memory ran out, as where a hub is served; or its settings, with the
-- policy in them, are good, and each is written with its value and whether that is the default.
abbrev pub TestsHub : (List ℕ → Type 0) → ℕ → ℕ → ℕ → Option (List ℕ) → Option (List ℕ) → Type 0
TestsHub holds f f' s before after =
    Unsettled holds f f' s before after
    ⊎ ((v : HubSettings) × (policy : Option Policy) × IsSettled holds v policy × SaysOrRunsOut s 0 before after (hub_told v policy))
