-- Rows that are read in parts.
-- It serves the clauses of `read_node`.
use Rattle.std.proofs.Common.{◌≡◌, ◌∙◌, ◌++◌, ℕ, Bool, true, false, List, [], ◌∷◌, codes, Option, Some, None, Result, Ok, Err, IfErr, is_some, if◌then◌else◌, refl, sym, subst, ap}
use Rattle.std.specs.Result.{IsErrAnd}
use Rattle.toml.specs.Data.{Members, get_member}
use Rattle.bsc_settings.specs.declared.key.KeyName.{KeyName}
use Rattle.bsc_settings.specs.declared.fault.SettingFault.{SettingFault}
use Rattle.bsc_settings.specs.declared.fault.SettingFault.TheVariants as setting_fault
use Rattle.bsc_settings.specs.Table.{Row, node_table, least_reconnect_row}
use Rattle.bsc_settings.specs.Values.{value_at}
use Rattle.bsc_settings.specs.Documents.{amount, node_rows_of}
use Rattle.bsc_settings.specs.Faults.{first_at_fault, NamesFirst, ◌before◌}
use Rattle.bsc_settings.specs.Fields.{peer_rows, size_rows, bound_rows}

step : (b : Bool) (key : KeyName) (x y z : Option KeyName) → z ≡ (x before y) →
    (if b then z else Some key) ≡ ((if b then x else Some key) before y)
step true key x y z same = same
step false key x y z same = refl

-- the first fault of some rows and others is that of the first, or else of the others
pub first-joined : (rows others : List Row) (table : Members) →
    first_at_fault (rows ++ others) table ≡ (first_at_fault rows table before first_at_fault others table)
first-joined [] others table = refl
first-joined (r ∷ rows) others table =
    step (is_some (value_at r table)) r.key (first_at_fault rows table) (first_at_fault others table) (first_at_fault (rows ++ others) table) (first-joined rows others table)

-- the first fault of a node is that of its three parts
parts-first : (accepts : Bool) (least : ℕ) (table : Members) → first_at_fault (node_table accepts least) table
    ≡ (first_at_fault (peer_rows accepts) table before first_at_fault size_rows table before first_at_fault (bound_rows least) table)
parts-first accepts least table =
    first-joined (peer_rows accepts) (size_rows ++ bound_rows least) table
    ∙ ap (λ x. first_at_fault (peer_rows accepts) table before x) (first-joined size_rows (bound_rows least) table)

pub peers-fault : (table : Members) (accepts : Bool) (key : KeyName) → accepts ≡ is_some (get_member (codes "direct_port") table) →
    first_at_fault (peer_rows accepts) table ≡ Some key → first_at_fault (node_rows_of table) table ≡ Some key
peers-fault table accepts key same first =
    parts-first (is_some (get_member (codes "direct_port") table)) (amount (value_at least_reconnect_row table)) table
    ∙ ap (λ x. x before first_at_fault size_rows table before first_at_fault (bound_rows (amount (value_at least_reconnect_row table))) table)
    (subst (λ (b : Bool). first_at_fault (peer_rows b) table ≡ Some key) same first)

pub sizes-fault : (table : Members) (accepts : Bool) (key : KeyName) → accepts ≡ is_some (get_member (codes "direct_port") table) →
    first_at_fault (peer_rows accepts) table ≡ None → first_at_fault size_rows table ≡ Some key → first_at_fault (node_rows_of table) table ≡ Some key
sizes-fault table accepts key same fine first =
    parts-first (is_some (get_member (codes "direct_port") table)) (amount (value_at least_reconnect_row table)) table
    ∙ ap (λ x. x before first_at_fault size_rows table before first_at_fault (bound_rows (amount (value_at least_reconnect_row table))) table)
    (subst (λ (b : Bool). first_at_fault (peer_rows b) table ≡ None) same fine)
    ∙ ap (λ x. x before first_at_fault (bound_rows (amount (value_at least_reconnect_row table))) table) first

pub bounds-fault : (table : Members) (accepts : Bool) (least : ℕ) (key : KeyName) → accepts ≡ is_some (get_member (codes "direct_port") table) →
    amount (value_at least_reconnect_row table) ≡ least → first_at_fault (peer_rows accepts) table ≡ None →
    first_at_fault size_rows table ≡ None → first_at_fault (bound_rows least) table ≡ Some key → first_at_fault (node_rows_of table) table ≡ Some key
bounds-fault table accepts least key same equal fine sizes first =
    parts-first (is_some (get_member (codes "direct_port") table)) (amount (value_at least_reconnect_row table)) table
    ∙ ap (λ x. x before first_at_fault size_rows table before first_at_fault (bound_rows (amount (value_at least_reconnect_row table))) table)
    (subst (λ (b : Bool). first_at_fault (peer_rows b) table ≡ None) same fine)
    ∙ ap (λ x. x before first_at_fault (bound_rows (amount (value_at least_reconnect_row table))) table) sizes
    ∙ subst (λ (n : ℕ). first_at_fault (bound_rows n) table ≡ Some key) (sym equal) first

-- a fault that is a key names it
pub names : (fault : SettingFault) (key : KeyName) (first : Option KeyName) → fault ≡ setting_fault.Key key → first ≡ Some key → NamesFirst fault first
names fault key first is named = subst (λ (f : SettingFault). NamesFirst f first) (sym is) named

pub names-err : {T : Type 0} (r : Result T SettingFault) (key : KeyName) (first : Option KeyName) →
    IsErrAnd r (λ fault. fault ≡ setting_fault.Key key) → first ≡ Some key → IfErr r (λ fault. NamesFirst fault first)
names-err (Ok x) key first is named = absurd is
names-err (Err fault) key first is named = names fault key first is named
