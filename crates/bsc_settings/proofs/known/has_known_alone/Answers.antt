use Rattle.std.proofs.Common.{◌∙◌, ◌||◌, codes, refl}
use Rattle.bsc_text.specs.Lines.{same_octets}
use Rattle.bsc_settings.proofs.Keys.{all_keys}
use Rattle.bsc_settings.proofs.known.has_known_alone.Goals as goal

pub returns-then-not-has_tables_alone : goal.returns-then-not-has_tables_alone
returns-then-not-has_tables_alone c =
    let alone = c.has_tables_alone.ensures ∙ all_keys (λ key. same_octets key (codes "hub") || same_octets key (codes "node") || same_octets key (codes "policy")) c.args.doc.now.entries in
    rw (← alone) (rw c.if-not-has_tables_alone.true refl)

pub returns-then-not-is_hub_known : goal.returns-then-not-is_hub_known
returns-then-not-is_hub_known c =
    let alone = c.has_tables_alone.ensures ∙ all_keys (λ key. same_octets key (codes "hub") || same_octets key (codes "node") || same_octets key (codes "policy")) c.args.doc.now.entries in
    rw (← alone, ← c.is_hub_known.ensures) (rw (c.if-not-has_tables_alone.false, c.if-not-is_hub_known.true) refl)

pub returns-then-not-is_node_known : goal.returns-then-not-is_node_known
returns-then-not-is_node_known c =
    let alone = c.has_tables_alone.ensures ∙ all_keys (λ key. same_octets key (codes "hub") || same_octets key (codes "node") || same_octets key (codes "policy")) c.args.doc.now.entries in
    rw (← alone, ← c.is_hub_known.ensures, ← c.is_node_known.ensures) (rw (c.if-not-has_tables_alone.false, c.if-not-is_hub_known.false, c.if-not-is_node_known.true) refl)

pub returns : goal.returns
returns c =
    let alone = c.has_tables_alone.ensures ∙ all_keys (λ key. same_octets key (codes "hub") || same_octets key (codes "node") || same_octets key (codes "policy")) c.args.doc.now.entries in
    rw (← alone, ← c.is_hub_known.ensures, ← c.is_node_known.ensures, ← c.is_policy_known.ensures)
    (rw (c.if-not-has_tables_alone.false, c.if-not-is_hub_known.false, c.if-not-is_node_known.false) refl)
