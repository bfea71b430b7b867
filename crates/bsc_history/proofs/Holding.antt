-- The holder of an address after one entry more.
-- It serves the clauses of `join_takes_over`.
use Rattle.std.proofs.Common.{◌≡◌, Bool, cond, List, [], ◌∷◌, ◌++◌, filter, find, Option, Some, None, is_none, option_to_list, refl, ap, ◌∙◌}
use Rattle.std.specs.Option.{option_or}
use Rattle.std.proofs.lemmas.Bool.{false_from_ne_true}
use Rattle.std.proofs.lemmas.List.Folds.{find-append}
use Rattle.bsc_octets.specs.declared.vmac.Vmac.{Vmac}
use Rattle.bsc_octets.specs.Addresses.{same_vmac}
use Rattle.bsc_history.specs.declared.limits.About.{About}
use Rattle.bsc_history.specs.declared.entry.Entry.{Entry}
use Rattle.bsc_history.specs.declared.connection.Connection.{Connection}
use Rattle.bsc_history.specs.Entries.{connection_of, moment}
use Rattle.bsc_history.specs.Ends.{end_by, live}
use Rattle.bsc_history.specs.Holders.{holder}
use Rattle.bsc_history.specs.Legality.{Lawful, Legal}
use Rattle.bsc_history.proofs.Lists.{In-filter, none_found}
use Rattle.bsc_history.proofs.More.{live-more}
use Rattle.bsc_history.proofs.Uniqueness.{settled, comes, vmac_refl, vmac_clash}
use Rattle.bsc_octets.proofs.Common.{vmac_same}

abbrev has : Vmac → Connection → Bool
has v c = same_vmac c.who.vmac v

-- Who joins holds its address.
pub holder-join : (a : About) (H : List Entry) (e : Entry) (x : Connection) → Legal a H → Lawful a (moment H e) → connection_of e ≡ Some x → holder (H ++ e ∷ []) x.who.vmac ≡ Some x
holder-join a H e x legal lawful new =
    let v = x.who.vmac in
    let s = settled a H legal in
    let K = λ (y : Connection). is_none (end_by y.number e) in
    let gone : find (has v) (filter K (live H)) ≡ None = none_found (has v) (filter K (live H)) (λ y m. (
    let r = In-filter K y (live H) m in
    false_from_ne_true (has v y) (λ h. vmac_clash H e y x s.holders s.devices (comes a H e x lawful new) r.0 r.1 (vmac_same y.who.vmac v h)))) in
    ap (find (has v)) (live-more H e ∙ ap (λ (o : Option Connection). filter K (live H) ++ option_to_list o) new) ∙ find-append (has v) (filter K (live H)) (x ∷ [])
    ∙ ap (λ (o : Option Connection). option_or o (find (has v) (x ∷ []))) gone
    ∙ ap (λ (b : Bool). cond b (Some x) None) (vmac_refl v v refl)
