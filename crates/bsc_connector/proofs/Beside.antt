-- The primary hub stays connected until it is lost.
-- It serves the clauses of `no_failover_beside_the_primary`.
use Rattle.std.proofs.Common.{◌≡◌, ℕ, true, false, List, [], ◌∷◌, ◌++◌, refl, sym, ap, ◌∙◌, append_assoc, append-nil}
use Rattle.std.specs.List.{list_any}
use Rattle.bsc_connector.specs.declared.side.Side.TheVariants.{Primary, Failover}
use Rattle.bsc_connector.specs.declared.event.ConnectorEvent.{ConnectorEvent}
use Rattle.bsc_connector.specs.declared.event.ConnectorEvent.TheVariants.{Start, Connected, Failed, Lost, Tick}
use Rattle.bsc_connector.specs.declared.event.HubEvent.{HubEvent}
use Rattle.bsc_connector.specs.Sides.{fails, is_up}
use Rattle.bsc_connector.proofs.SideLemmas.{up-stays, up-said}
use Rattle.bsc_lemmas.proofs.Booleans.{or_left, or_right}

stays_up_more : (E : List HubEvent) (now : ℕ) (e : ConnectorEvent) → is_up Primary E ≡ true → fails Primary e ≡ false → is_up Primary (E ++ record { now = now; event = e } ∷ []) ≡ true
stays_up_more E now Start u f = up-stays Primary E (record { now = now; event = Start }) refl ∙ u
stays_up_more E now (Connected Primary) u f = up-said Primary E (record { now = now; event = Connected Primary }) refl
stays_up_more E now (Connected Failover) u f = up-stays Primary E (record { now = now; event = Connected Failover }) refl ∙ u
stays_up_more E now (Failed Primary) u f = cc
stays_up_more E now (Failed Failover) u f = up-stays Primary E (record { now = now; event = Failed Failover }) refl ∙ u
stays_up_more E now (Lost Primary) u f = cc
stays_up_more E now (Lost Failover) u f = up-stays Primary E (record { now = now; event = Lost Failover }) refl ∙ u
stays_up_more E now Tick u f = up-stays Primary E (record { now = now; event = Tick }) refl ∙ u

pub stays_up : (E F : List HubEvent) → is_up Primary E ≡ true → list_any (λ e. fails Primary e.event) F ≡ false → is_up Primary (E ++ F) ≡ true
stays_up E [] u quiet = rw append-nil u
stays_up E (e ∷ F) u quiet =
    ap (λ xs. is_up Primary xs) (sym (append_assoc E (e ∷ []) F))
    ∙ stays_up (E ++ e ∷ []) F (stays_up_more E e.now e.event u (or_left (fails Primary e.event) _ quiet)) (or_right (fails Primary e.event) _ quiet)
