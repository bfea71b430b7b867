-- Of rows whose live connections have addresses of their own, one that has an address is the one that is found by it.
-- It serves the clauses of `holder_if`.
use Rattle.std.proofs.Common.{◌≡◌, ◌≢◌, inl, inr, ℕ, Bool, true, false, cond, List, [], ◌∷◌, map, filter, Option, Some, None, MatchOption, refl, ap, sym, ◌∙◌, subst}
use Rattle.std.proofs.lemmas.Bool.{and_from, and_parts}
use Rattle.bsc_octets.specs.declared.vmac.Vmac.{Vmac}
use Rattle.bsc_octets.specs.Addresses.{same_vmac}
use Rattle.bsc_history.specs.declared.connection.Connection.{Connection}
use Rattle.bsc_history.specs.Laws.{Apart}
use Rattle.bsc_history.proofs.Lists.{In, In_from_all, In_kept, find_says}
use Rattle.bsc_legality.specs.declared.row.Row.{Row}
use Rattle.bsc_legality.specs.Rows.{AreAlone, connection, has_number, holder_in, is_open, is_open_with, row_of}
use Rattle.bsc_legality.proofs.Live.{In-map}
use Rattle.bsc_octets.proofs.Common.{vmac_same}

abbrev holds : Vmac → Connection → Bool
holds v c = same_vmac c.who.vmac v

alone_found : (rows : List Row) (r : Row) (v : Vmac) → AreAlone rows → In r rows → is_open r ≡ true → same_vmac r.connection.who.vmac v ≡ true → holder_in rows v ≡ Some r
alone_found [] r v alone m going same = absurd m
alone_found (x ∷ rows) r v alone m going same =
    let K = λ (c : Connection). c.who.vmac in
    let F = filter is_open rows in
    let off : (b : Bool) → Apart K (map connection (cond b (x ∷ F) F)) → Apart K (map connection F) =
    λ b. elim b as (λ b. Apart K (map connection (cond b (x ∷ F) F)) → Apart K (map connection F)) [ true ↦ λ h. h.1 | false ↦ λ h. h ] in
    let rest : AreAlone rows = off (is_open x) alone in
    elim m [
      | inl e ↦ (
          let both : is_open_with (holds v) r ≡ true = and_from (is_open r) (same_vmac r.connection.who.vmac v) going same in
          let here : is_open_with (holds v) x ≡ true = subst (λ (z : Row). is_open_with (holds v) z ≡ true) (sym e) both in
          ap (λ (b : Bool). cond b (Some x) (holder_in rows v)) here ∙ ap Some e)
      | inr n ↦ (
          let by : (b : Bool) → is_open_with (holds v) x ≡ b → cond b (Some x) (holder_in rows v) ≡ Some r =
          λ b. elim b as (λ b. is_open_with (holds v) x ≡ b → cond b (Some x) (holder_in rows v) ≡ Some r) [
            | true ↦ λ t. (
                let two = and_parts (is_open x) (same_vmac x.connection.who.vmac v) t in
                let apart = subst (λ (b : Bool). Apart K (map connection (cond b (x ∷ F) F))) two.0 alone in
                let other = In_from_all (λ (y : Connection). K (connection x) ≢ K y) (connection r) (map connection F) apart.0 (In-map r F (In_kept is_open r rows n going)) in
                absurd (other (vmac_same x.connection.who.vmac v two.1 ∙ sym (vmac_same r.connection.who.vmac v same))))
            | false ↦ λ t. alone_found rows r v rest n going same
          ] in
          by (is_open_with (holds v) x) refl)
    ]

-- a row that is found by a number is among the rows
pub found_among : (rows : List Row) (c : ℕ) (r : Row) → row_of rows c ≡ Some r → In r rows
found_among rows c r is =
    let on : (o : Option Row) → o ≡ Some r → MatchOption o ((x : Row) → In x rows → has_number c x ≡ false) (λ x. In x rows × (has_number c x ≡ true))
    → In r rows = λ o. elim o as (λ o. o ≡ Some r → MatchOption o ((x : Row) → In x rows → has_number c x ≡ false) (λ x. In x rows × (has_number c x ≡ true)) → In r rows) [
      | None ↦ λ e no. cc
      | Some x ↦ λ e it. (let same : x ≡ r = cc in subst (λ (z : Row). In z rows) same it.0)
    ] in
    on (row_of rows c) is (find_says (has_number c) rows)

pub holds_it : (rows : List Row) (c : ℕ) (r : Row) (v : Vmac) → AreAlone rows → row_of rows c ≡ Some r → is_open r ≡ true → same_vmac r.connection.who.vmac v ≡ true → holder_in rows v ≡ Some r
holds_it rows c r v alone is going same = alone_found rows r v alone (found_among rows c r is) going same
