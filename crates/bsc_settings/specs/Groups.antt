-- The texts of a policy: groups, and what a rule does.
use Rattle.std.specs.Prelude.{ℕ, nat_le, Bool, true, false, ◌&&◌, ◌||◌, if◌then◌else◌, List, codes, length, Option, Some, None}
use Rattle.std.specs.List.{list_all}
use Rattle.bsc_text.specs.Grammar.{is_letter}
use Rattle.bsc_text.specs.Lines.{same_octets}
use Rattle.bsc_settings.specs.declared.bounds.TheConstants.{MAX_GROUP_LEN}

-- Whether a text is the name of a group: letters, from 1 to the most.
abbrev pub is_group : List ℕ → Bool
is_group text = nat_le 1 (length text) && nat_le (length text) MAX_GROUP_LEN && list_all is_letter text

-- Whether a text may stand at either side of a rule: it is `*`, which stands for all groups, or the name of one.
abbrev pub is_group_or_all : List ℕ → Bool
is_group_or_all text = same_octets text (codes "*") || is_group text

-- Whether a rule allows, by what it is told to do: `allow` or `deny`.
abbrev pub allows_of : List ℕ → Option Bool
allows_of text =
    if same_octets text (codes "allow") then Some true else if same_octets text (codes "deny") then Some false else None
