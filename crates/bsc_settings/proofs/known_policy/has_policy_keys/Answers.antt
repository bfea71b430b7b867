use Rattle.std.proofs.Common.{◌∙◌, ◌||◌, codes, refl}
use Rattle.bsc_text.specs.Lines.{same_octets}
use Rattle.bsc_settings.proofs.Keys.{all_keys}
use Rattle.bsc_settings.proofs.known_policy.has_policy_keys.Goals as goal

pub returns-then-not-has_lists_alone : goal.returns-then-not-has_lists_alone
returns-then-not-has_lists_alone c =
    let alone = c.has_lists_alone.ensures ∙ all_keys (λ key. same_octets key (codes "member") || same_octets key (codes "rule")) c.args.table.now.entries in
    rw (← alone) (rw c.if-not-has_lists_alone.true refl)

pub returns-then-not-has_known_members : goal.returns-then-not-has_known_members
returns-then-not-has_known_members c =
    let alone = c.has_lists_alone.ensures ∙ all_keys (λ key. same_octets key (codes "member") || same_octets key (codes "rule")) c.args.table.now.entries in
    rw (← alone, ← c.has_known_members.ensures) (rw (c.if-not-has_lists_alone.false, c.if-not-has_known_members.true) refl)

pub returns : goal.returns
returns c =
    let alone = c.has_lists_alone.ensures ∙ all_keys (λ key. same_octets key (codes "member") || same_octets key (codes "rule")) c.args.table.now.entries in
    rw (← alone, ← c.has_known_members.ensures, ← c.has_known_rules.ensures) (rw (c.if-not-has_lists_alone.false, c.if-not-has_known_members.false) refl)
