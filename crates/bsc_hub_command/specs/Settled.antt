-- What is read of the file of settings.
use Rattle.std.specs.Prelude.{◌≡◌, ℕ, ◌⊎◌, List, codes, Option, Some, None}
use Rattle.toml.specs.Data.{Members}
use Rattle.bsc_outside.specs.Faults.{HasRisen}
use Rattle.bsc_policy.specs.declared.policy.Policy.{Policy}
use Rattle.bsc_session.specs.Jobs.{policy_of}
use Rattle.bsc_player.specs.LastLines.{EndsWith, RanOut, SaysOrRunsOut, read_line}
use Rattle.bsc_settings.specs.declared.hub.HubSettings.{HubSettings}
use Rattle.bsc_settings.specs.declared.key.KeyName.{KeyName}
use Rattle.bsc_settings.specs.declared.settings.Settings.{Settings}
use Rattle.bsc_settings.specs.Documents.{IsDocument}
use Rattle.bsc_settings.specs.Faults.{fault_of}
use Rattle.bsc_settings.specs.Fields.{IsSaidBy}
use Rattle.bsc_settings.specs.Table.{name_of}
use Rattle.bsc_hub_command.specs.Lines.{settings_line}

-- The file has these octets, as far as that is told, and they are settings with these of a hub, and with this policy, if any.
pub record IsSettled (holds : List ℕ → Type 0) (v : HubSettings) (policy : Option Policy) : Type 0 where
  pub text : List ℕ
  pub held : holds text
  pub doc : Members
  pub document : IsDocument text doc
  pub settings : Settings
  pub said : IsSaidBy doc settings
  pub hub : settings.hub ≡ Some v
  pub guarded : policy_of settings.policy ≡ policy

-- The octets are refused under this name: they are no document; or this key is the first at fault; or they have no hub.
abbrev pub IsRefusedAsHub : List ℕ → List ℕ → Type 0
IsRefusedAsHub text name =
    ((name ≡ codes "-") × ((doc : Members) → IsDocument text doc → ⊥))
    ⊎ ((key : KeyName) × (doc : Members) × (name ≡ name_of key) × IsDocument text doc × (fault_of doc ≡ Some key))
    ⊎ ((settings : Settings) × (doc : Members) × (name ≡ codes "hub") × IsDocument text doc × IsSaidBy doc settings × (settings.hub ≡ None))

-- The file wasn't read, its settings were refused, or memory ran out.
abbrev pub Unsettled : (List ℕ → Type 0) → ℕ → ℕ → ℕ → Option (List ℕ) → Option (List ℕ) → Type 0
Unsettled holds f f' s before after =
    (HasRisen f f' × EndsWith s 3 before after read_line)
    ⊎ ((text : List ℕ) × (name : List ℕ) × holds text × IsRefusedAsHub text name × SaysOrRunsOut s 5 before after (settings_line name))
    ⊎ RanOut s before after
