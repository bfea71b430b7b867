-- Which octets name somebody: what a hub puts of itself is a Connect-Accept of its own or names nobody, and what it carries names
-- nobody.
-- It serves clauses of functions of `laws`.
use Rattle.std.proofs.Common.{◌≡◌, inl, inr, ℕ, Bool, true, false, not, cond, ◌&&◌, List, [], ◌∷◌, Option, Some, None, refl, ap, sym, subst, ◌∙◌}
use Rattle.std.specs.Prelude.{map, ⊤}
use Rattle.std.specs.List.{AllByRecursion, list_any}
use Rattle.bsc_octets.specs.declared.identity.Identity.{Identity}
use Rattle.bsc_octets.specs.declared.vmac.Vmac.{Vmac}
use Rattle.bsc_octets.specs.Envelopes.{announces_dest}
use Rattle.bsc_octets.specs.Forwarding.{function_in, flags_in, out}
use Rattle.bsc_octets.specs.Functions.{is_response}
use Rattle.bsc_frame.specs.declared.check.Check.{Check}
use Rattle.bsc_frame.specs.declared.message.Message.{Message}
use Rattle.bsc_frame.specs.declared.body.Body.{Body}
use Rattle.bsc_frame.specs.declared.body.Body.TheVariants.{DisconnectRequest, HeartbeatRequest}
use Rattle.bsc_history.specs.declared.limits.About.{About}
use Rattle.bsc_history.specs.declared.entry.Entry.{Entry}
use Rattle.bsc_history.specs.declared.looks.Look.{Look}
use Rattle.bsc_history.specs.declared.call.Call.{Call}
use Rattle.bsc_history.specs.declared.call.Call.TheVariants.{Forward}
use Rattle.bsc_history.specs.declared.ending.End.{End}
use Rattle.bsc_history.specs.declared.ending.End.TheVariants.{Full}
use Rattle.bsc_history.specs.declared.reply.Refusal.{Refusal}
use Rattle.bsc_history.specs.declared.reply.Refusal.TheVariants.{Stopped as HubStopped, Duplicate, TableFull}
use Rattle.bsc_history.specs.Ends.{is_live}
use Rattle.bsc_history.specs.Outboxes.{added_by, meant, out_of, takes}
use Rattle.bsc_checks.specs.declared.place.Place.{Place}
use Rattle.bsc_checks.specs.declared.place.Place.TheVariants.{HubPort}
use Rattle.bsc_checks.specs.declared.verdict.Verdict.{Verdict}
use Rattle.bsc_checks.specs.declared.verdict.Verdict.TheVariants.{Pass, Carry as Carried, Silent, Nak}
use Rattle.bsc_checks.specs.Places.{dest_in, is_to_carry}
use Rattle.bsc_checks.specs.Table.{code_of, checks_of}
use Rattle.bsc_checks.specs.PlaceTests.{is_unicast}
use Rattle.bsc_checks.specs.Failing.{fails}
use Rattle.bsc_checks.specs.Outcomes.{message_in, answered, refused, accepted, decided, first_failing, outcome_of}
use Rattle.bsc_accept.specs.declared.start.Start.{Start}
use Rattle.bsc_accept.specs.declared.event.Event.{Event}
use Rattle.bsc_accept.specs.declared.event.Event.TheVariants.{Message as Came, Joined, Refused, Ended, Finish, Tick}
use Rattle.bsc_accept.specs.declared.step.Step.{Step}
use Rattle.bsc_accept.specs.declared.step.Step.TheVariants.{Up as GoesUp}
use Rattle.bsc_accept.specs.Messages.{who_asks, is_farewell_answer}
use Rattle.bsc_accept.specs.Past.{Standing, awaiting_request, connected, disconnecting, standing, phase, last_message}
use Rattle.bsc_accept.specs.Waits.{connect_wait_is_over, is_idle, disconnect_wait_is_over}
use Rattle.bsc_accept.specs.Steps.{ask_step, connected_step, passed_step, message_step, refused_step, asked_id, ended_step, finish_step, tick_step, step}
use Rattle.bsc_node_identity.specs.Naming.{is_connect, IsConnectOf}
use Rattle.bsc_network.specs.Worlds.{Hub, Link, Posted, entries}
use Rattle.bsc_network.specs.Outboxes.{Frame, at_place, frames_by}
use Rattle.bsc_network_laws.proofs.Moves.{octets_wanted, IsWanted, IsSaid}
use Rattle.bsc_accept.proofs.OwnOctets.{IsJudged}
use Rattle.std.proofs.lemmas.Option.{same_Some as some_same}

-- ---- verdicts

-- the octets of a NAK verdict name nobody
abbrev NamesNobody : Verdict → Type 0
NamesNobody (Nak check octets) = is_connect octets.items ≡ false
NamesNobody v = ⊤

nobody_answered : (b : Bool) (m : List ℕ) (place : Place) (check : Check) (code : ℕ) → NamesNobody (answered b m place check code)
nobody_answered true m place check code = refl
nobody_answered false m place check code = tt

nobody_refused : (m : List ℕ) (place : Place) (check : Check) (code : Option ℕ) → NamesNobody (refused m place check code)
nobody_refused m place check None = tt
nobody_refused m place check (Some code) = nobody_answered (is_unicast (dest_in m) && not (is_response (function_in m))) m place check code

nobody_accepted : (b : Bool) (m : List ℕ) → NamesNobody (accepted b m)
nobody_accepted true m = tt
nobody_accepted false m = tt

nobody_decided : (m : List ℕ) (place : Place) (o : Option Check) → NamesNobody (decided m place o)
nobody_decided m place None = nobody_accepted (is_to_carry place m) m
nobody_decided m place (Some check) = nobody_refused m place check (code_of check)

nobody_judged : (m : List ℕ) (place : Place) (max : ℕ) → NamesNobody (outcome_of m place max)
unfolding outcome_of
nobody_judged m place max = nobody_decided m place (first_failing (fails m place max) (checks_of place m))

-- ---- what a hub puts of itself

-- The octets that a step puts, where they name somebody, name this peer.
abbrev PutsAs : Identity → Step → Type 0
PutsAs who st = (o : List ℕ) → octets_wanted st ≡ Some o → is_connect o ≡ true → IsConnectOf who o

as-if : (who : Identity) (b : Bool) (x y : Step) → PutsAs who x → PutsAs who y → PutsAs who (cond b x y)
as-if who true x y p q = p
as-if who false x y p q = q

not_true : (b : Bool) → b ≡ false → b ≡ true → ⊥
not_true b p q = cc

-- the octets are these, which name nobody
these : (who : Identity) (p o : List ℕ) → is_connect p ≡ false → Some p ≡ Some o → is_connect o ≡ true → IsConnectOf who o
these who p o h is names = absurd (not_true (is_connect o) (ap is_connect (sym (some_same p o is)) ∙ h) names)

nothing : (who : Identity) (o : List ℕ) → None ≡ Some o → is_connect o ≡ true → IsConnectOf who o
nothing who o h = cc

as-asked : (own : Identity) (who : Option Identity) → PutsAs own (ask_step who)
as-asked own (Some who) = nothing own
as-asked own None = nothing own

as-connected : (own : Identity) (id : ℕ) (body : Body) → PutsAs own (connected_step id body)
as-connected own id HeartbeatRequest = λ o is. these own _ o refl is
as-connected own id DisconnectRequest = λ o is. these own _ o refl is
as-connected own id body = nothing own

as-passed : (own : Identity) (g : Standing) (msg : Message) → PutsAs own (passed_step g msg)
as-passed own awaiting_request msg = as-asked own (who_asks msg.body)
as-passed own connected msg = as-connected own msg.id msg.body
as-passed own (disconnecting f) msg = as-if own (is_farewell_answer f.id msg) _ _ (nothing own) (nothing own)

as-message : (own : Identity) (g : Standing) (v : Verdict) → NamesNobody v → PutsAs own (message_step g v)
as-message own g (Pass msg) h = as-passed own g msg
as-message own g (Carried envelope) h = nothing own
as-message own g (Silent check) h = nothing own
as-message own g (Nak check octets) h = λ o is. these own octets.items o h is

as-refused : (own : Identity) (id : ℕ) (r : Refusal) → PutsAs own (refused_step id r)
as-refused own id (Duplicate holder) = λ o is. these own _ o refl is
as-refused own id (TableFull rows) = nothing own
as-refused own id HubStopped = nothing own

as-ended : (own : Identity) (e : End) → PutsAs own (ended_step e)
as-ended own Full = nothing own
as-ended own e = λ o is. these own _ o refl is

as-finish : (own : Identity) (g : Standing) (id : ℕ) → PutsAs own (finish_step g id)
as-finish own awaiting_request id = nothing own
as-finish own connected id = λ o is. these own _ o refl is
as-finish own (disconnecting f) id = nothing own

as-tick : (own : Identity) (s : Start) (last now : ℕ) (g : Standing) → PutsAs own (tick_step s last now g)
as-tick own s last now awaiting_request = as-if own (connect_wait_is_over s now) _ _ (nothing own) (nothing own)
as-tick own s last now connected = as-if own (is_idle s last now) _ _ (nothing own) (nothing own)
as-tick own s last now (disconnecting f) = as-if own (disconnect_wait_is_over s f now) _ _ (nothing own) (nothing own)

as-step : (s : Start) (E : List Event) (e : Event) → IsJudged e → PutsAs s.own (step s E e)
as-step s E (Came now v) judged = as-message s.own (standing E) v (subst NamesNobody (sym judged.3) (nobody_judged judged.0 judged.1 judged.2))
as-step s E Joined judged = λ o is names. (asked_id E, inr (sym (some_same _ o is)))
as-step s E (Refused r) judged = as-refused s.own (asked_id E) r
as-step s E (Ended now e) judged = as-ended s.own e
as-step s E (Finish now id) judged = as-finish s.own (standing E) id
as-step s E (Tick now) judged = as-tick s.own s (last_message s E) now (standing E)

-- What a hub's machine wants to be put names the hub, where it names somebody.
pub own_names : (a : About) (st : Step) → IsWanted a st → (o : List ℕ) → octets_wanted st ≡ Some o → is_connect o ≡ true → IsConnectOf a.hub o
own_names a st wanted = subst (λ who. PutsAs who st) wanted.3 (subst (PutsAs wanted.0.own) (sym wanted.5) (as-step wanted.0 wanted.1 wanted.2 wanted.4))

-- ---- what a hub carries

abbrev carries : Step → Bool
carries GoesUp = true
carries other = false

carries-if : (b : Bool) (x y : Step) → carries x ≡ false → carries y ≡ false → carries (cond b x y) ≡ false
carries-if true x y p q = p
carries-if false x y p q = q

carries-asked : (who : Option Identity) → carries (ask_step who) ≡ false
carries-asked (Some who) = refl
carries-asked None = refl

carries-connected : (id : ℕ) (body : Body) → carries (connected_step id body) ≡ false
carries-connected id HeartbeatRequest = refl
carries-connected id DisconnectRequest = refl
carries-connected id body = refl

carries-passed : (g : Standing) (msg : Message) → carries (passed_step g msg) ≡ false
carries-passed awaiting_request msg = carries-asked (who_asks msg.body)
carries-passed connected msg = carries-connected msg.id msg.body
carries-passed (disconnecting f) msg = carries-if (is_farewell_answer f.id msg) _ _ refl refl

carries-answered : (g : Standing) (b : Bool) (m : List ℕ) (place : Place) (check : Check) (code : ℕ) → carries (message_step g (answered b m place check code)) ≡ false
carries-answered g true m place check code = refl
carries-answered g false m place check code = refl

carries-refused : (g : Standing) (m : List ℕ) (place : Place) (check : Check) (code : Option ℕ) → carries (message_step g (refused m place check code)) ≡ false
carries-refused g m place check None = refl
carries-refused g m place check (Some code) = carries-answered g (is_unicast (dest_in m) && not (is_response (function_in m))) m place check code

carries-accepted : (g : Standing) (b : Bool) (m : List ℕ) → carries (message_step g (accepted b m)) ≡ true → b ≡ true
carries-accepted g true m h = refl
carries-accepted g false m h = absurd (not_true (carries (passed_step g (message_in m))) (carries-passed g (message_in m)) h)

carries-decided : (g : Standing) (m : List ℕ) (place : Place) (o : Option Check) → carries (message_step g (decided m place o)) ≡ true → is_to_carry place m ≡ true
carries-decided g m place None h = carries-accepted g (is_to_carry place m) m h
carries-decided g m place (Some check) h = absurd (not_true _ (carries-refused g m place check (code_of check)) h)

carries-judged : (g : Standing) (m : List ℕ) (place : Place) (max : ℕ) → carries (message_step g (outcome_of m place max)) ≡ true → is_to_carry place m ≡ true
unfolding outcome_of
carries-judged g m place max h = carries-decided g m place (first_failing (fails m place max) (checks_of place m)) h

without_dest : (who : Identity) (m : List ℕ) → IsConnectOf who m → announces_dest (flags_in m) ≡ false
without_dest who m (id, inl is) = ap (λ (o : List ℕ). announces_dest (flags_in o)) is ∙ refl
without_dest who m (id, inr is) = ap (λ (o : List ℕ). announces_dest (flags_in o)) is ∙ refl

-- What a hub carries names nobody, where it would name who put it.
pub carried_names_nobody : (h : Hub) (k : Link) (m : List ℕ) (who : Identity) → IsSaid h k m GoesUp → (is_connect m ≡ true → IsConnectOf who m) → is_connect m ≡ false
carried_names_nobody h k m who said right = by (is_connect m) refl
  where
    by : (b : Bool) → is_connect m ≡ b → b ≡ false
    by false is = refl
    by true is =
        absurd (not_true (announces_dest (flags_in m)) (without_dest who m (right is))
        (carries-judged (standing said.events) m (HubPort (phase said.events)) h.about.hub.max_bvlc (sym (ap carries said.is))))

-- ---- what enters outboxes

connect-out : (m : List ℕ) (v : Vmac) → is_connect (out m v) ≡ is_connect m
unfolding out
connect-out m v = refl

-- a call that hands in nothing that names somebody
abbrev pub IsPlain : Call → Type 0
IsPlain (Forward sender m) = is_connect m ≡ false
IsPlain call = ⊤

plain-if : (b : Bool) (o : List ℕ) → is_connect o ≡ false → AllByRecursion (λ x. is_connect x ≡ false) (cond b (o ∷ []) [])
plain-if true o h = (h, tt)
plain-if false o h = tt

plain-added : (a : About) (G : List Entry) (entered : List (List ℕ)) (c : ℕ) (call : Call) (looks : List Look) → IsPlain call
    → AllByRecursion (λ o. is_connect o ≡ false) (added_by a G entered c call looks)
unfolding added_by
plain-added a G entered c (Forward sender m) looks plain = plain-if (is_live G sender && list_any (takes a (out_of G sender m) entered looks c) (meant G sender m)) (out_of G sender m)
    (connect-out m _ ∙ plain)
plain-added a G entered c call looks plain = tt

placed : (place : ℕ) (os : List (List ℕ)) → AllByRecursion (λ o. is_connect o ≡ false) os → AllByRecursion (λ (f : Frame). is_connect f.octets ≡ false) (map (at_place place) os)
placed place [] all = tt
placed place (o ∷ os) all = (all.0, placed place os all.1)

-- What such a call adds to an outbox names nobody.
pub plain-frames : (a : About) (posted : List Posted) (c : ℕ) (p : Posted) → IsPlain p.entry.call → AllByRecursion (λ (f : Frame). is_connect f.octets ≡ false) (frames_by a (entries posted) c p)
plain-frames a posted c p plain = placed p.sent_at _ (plain-added a (entries posted) _ c p.entry.call p.entry.looks plain)
