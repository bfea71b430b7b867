-- What is read of the files of settings and of the script.
use Rattle.std.specs.Prelude.{◌≡◌, ℕ, ◌⊎◌, List, codes, Option, Some, None}
use Rattle.toml.specs.Data.{Members}
use Rattle.bsc_outside.specs.Faults.{HasRisen}
use Rattle.bsc_player.specs.LastLines.{EndsWith, RanOut, SaysOrRunsOut, read_line}
use Rattle.bsc_settings.specs.declared.key.KeyName.{KeyName}
use Rattle.bsc_settings.specs.declared.node.NodeSettings.{NodeSettings}
use Rattle.bsc_settings.specs.declared.settings.Settings.{Settings}
use Rattle.bsc_settings.specs.Documents.{IsDocument}
use Rattle.bsc_settings.specs.Faults.{fault_of}
use Rattle.bsc_settings.specs.Fields.{IsSaidBy}
use Rattle.bsc_settings.specs.Table.{name_of}
use Rattle.bsc_node_command.specs.Lines.{settings_line}

-- The file has these octets, as far as that is told, and they are settings with these of a node.
pub record IsSettled (holds : List ℕ → Type 0) (v : NodeSettings) : Type 0 where
  pub text : List ℕ
  pub held : holds text
  pub doc : Members
  pub document : IsDocument text doc
  pub settings : Settings
  pub said : IsSaidBy doc settings
  pub node : settings.node ≡ Some v

-- The octets are refused under this name: they are no document; or this key is the first at fault; or they have no node.
abbrev pub IsRefusedAsNode : List ℕ → List ℕ → Type 0
IsRefusedAsNode text name =
    ((name ≡ codes "-") × ((doc : Members) → IsDocument text doc → ⊥))
    ⊎ ((key : KeyName) × (doc : Members) × (name ≡ name_of key) × IsDocument text doc × (fault_of doc ≡ Some key))
    ⊎ ((settings : Settings) × (doc : Members) × (name ≡ codes "node") × IsDocument text doc × IsSaidBy doc settings × (settings.node ≡ None))

-- A file wasn't read, or memory ran out.
abbrev pub Unread : ℕ → ℕ → ℕ → Option (List ℕ) → Option (List ℕ) → Type 0
Unread f f' s before after = (HasRisen f f' × EndsWith s 3 before after read_line) ⊎ RanOut s before after

-- The file wasn't read, or memory ran out, or its settings were refused.
abbrev pub Unsettled : (List ℕ → Type 0) → ℕ → ℕ → ℕ → Option (List ℕ) → Option (List ℕ) → Type 0
Unsettled holds f f' s before after =
    Unread f f' s before after
    ⊎ ((text : List ℕ) × (name : List ℕ) × holds text × IsRefusedAsNode text name × SaysOrRunsOut s 5 before after (settings_line name))
