-- What a hub's sessions put is what its sessions were given, each once.
-- It serves clauses of functions of `laws`.
use Rattle.std.proofs.Common.{◌≡◌, ◌⊎◌, inl, inr, ℕ, ◌==◌, Bool, true, false, cond, List, [], ◌∷◌, ◌++◌, length, filter, take, drop, Option, Some, None, refl, ap, sym, subst, ◌∙◌}
use Rattle.std.specs.Prelude.{flat_map, is_none, slice_get}
use Rattle.std.specs.List.{AllByRecursion}
use Rattle.std.proofs.Common.{take-append-drop}
use Rattle.std.proofs.lemmas.Bool.{eq-eqb}
use Rattle.std.proofs.lemmas.Grind.{flat_map-append}
use Rattle.std.proofs.lemmas.List.Elements.{filter-append}
use Rattle.std.proofs.lemmas.Option.{same_Some}
use Rattle.bsc_octets.specs.declared.vmac.Vmac.{Vmac}
use Rattle.bsc_octets.specs.Functions.{is_npdu, npdus}
use Rattle.bsc_policy.specs.declared.policy.Policy.{Policy}
use Rattle.bsc_history.specs.declared.call.Call.TheVariants.{Forward}
use Rattle.bsc_history.specs.declared.entry.Entry.{Entry}
use Rattle.bsc_history.specs.declared.limits.About.{About}
use Rattle.bsc_history.specs.Entries.{own}
use Rattle.bsc_history.specs.Entering.{EnterByForwards, EnteredBy}
use Rattle.bsc_history.specs.Legality.{Legal}
use Rattle.bsc_history.specs.Outboxes.{sent}
use Rattle.bsc_history.proofs.Parts.{sent_on}
use Rattle.bsc_checks.specs.declared.verdict.Verdict.{Verdict}
use Rattle.bsc_checks.specs.declared.verdict.Verdict.TheVariants.{Pass, Carry as Carried, Silent, Nak}
use Rattle.bsc_edge.specs.declared.said.Said.{Said}
use Rattle.bsc_lines.specs.declared.denial.Denial.{Denial}
use Rattle.bsc_session.specs.declared.ended.Ended.{Ended}
use Rattle.bsc_session.specs.Course.{end_of}
use Rattle.bsc_session.specs.Guarding.{denied_frame, let_through}
use Rattle.bsc_session.specs.Serving.{received}
use Rattle.bsc_session.specs.Standings.{Terms}
use Rattle.bsc_session.specs.Talk.{Session}
use Rattle.bsc_session_laws.specs.Laws.{AreAllBut, ForwardsAreCarried, IsOfConnection, IsUnentered, MessagesAreGiven}
use Rattle.bsc_session_laws.specs.Messages.{JudgedMessage, allowed, allowed_by, forwarded, forwarded_in, messages_of}
use Rattle.bsc_node_links.specs.Talks.{given_in}
use Rattle.bsc_network_of_runs.specs.Hubs.{HubRun, IsCallerOf, SessionOf}
use Rattle.bsc_session_laws.specs.Npdus.{NpdusAreTaken}
use Rattle.bsc_network_of_runs.specs.Passing.{PassesOn, PassesOnOnce, WasPassedOn}
use Rattle.bsc_network_of_runs.proofs.Lists.{AtMostOne, got-filter, got-given, got-mapped, got-taken, same-split, take-split, take-taken}
use Rattle.bsc_lemmas.proofs.Lists.{got-left, got-split}

-- ---- what a policy lets through

-- The frame at an index of those that are let through stands at this index among all.
record Through (policy : Option Policy) (to : Option Vmac) (frames : List (List ℕ)) (i : ℕ) (o : List ℕ) : Type 0 where
  index : ℕ
  at : slice_get frames index ≡ Some o
  before : take i (let_through policy to frames) ≡ let_through policy to (take index frames)

kept-front : {A : Type 0} (p : A → Bool) (xs : List A) (i k : ℕ) → length (filter p (take k xs)) ≡ i → take i (filter p xs) ≡ filter p (take k xs)
kept-front {A} p xs i k is =
    ap (λ (n : ℕ). take n (filter p xs)) (sym is)
    ∙ ap (λ (l : List A). take (length (filter p (take k xs))) (filter p l)) (sym (take-append-drop k xs))
    ∙ ap (take (length (filter p (take k xs)))) (filter-append p (take k xs) (drop k xs))
    ∙ take-split (filter p (take k xs)) (filter p (drop k xs))

through : (policy : Option Policy) (to : Option Vmac) (frames : List (List ℕ)) (i : ℕ) (o : List ℕ) → slice_get (let_through policy to frames) i ≡ Some o → Through policy to frames i o
through None to frames i o h = record { index = i; at = h; before = refl }
through (Some p) to frames i o h =
    let passes = λ (f : List ℕ). is_none (denied_frame p to f) in
    let k = got-filter passes frames i o h in
    record { index = k.index; at = k.at; before = kept-front passes frames i k.index k.before }

-- ---- who forwarded

-- what an entry of a caller forwards
abbrev forward_of : ℕ → Entry → List (List ℕ)
forward_of p e = cond (e.caller == p) (forwarded_in e.call) []

forwarded-own : (p : ℕ) (xs : List Entry) → flat_map (forward_of p) xs ≡ forwarded (own xs p)
forwarded-own p [] = refl
forwarded-own p (e ∷ xs) = by (e.caller == p) (forwarded-own p xs)
  where
    by : (b : Bool) → flat_map (forward_of p) xs ≡ forwarded (own xs p) → cond b (forwarded_in e.call) [] ++ flat_map (forward_of p) xs ≡ forwarded (cond b (e ∷ own xs p) (own xs p))
    by true rest = ap (λ (l : List (List ℕ)). forwarded_in e.call ++ l) rest
    by false rest = rest

own-first : (p : ℕ) (e : Entry) (later : List Entry) → e.caller ≡ p → own (e ∷ later) p ≡ e ∷ own later p
own-first p e later is = ap (λ (b : Bool). cond b (e ∷ own later p) (own later p)) (eq-eqb e.caller p is)

own-split : (p : ℕ) (H before later : List Entry) (e : Entry) → H ≡ before ++ e ∷ later → e.caller ≡ p → own H p ≡ own before p ++ e ∷ own later p
own-split p H before later e is caller =
    ap (λ (l : List Entry). own l p) is ∙ filter-append (λ (x : Entry). x.caller == p) before (e ∷ later) ∙ ap (λ (l : List Entry). own before p ++ l) (own-first p e later caller)

forwards-here : (e : Entry) (sender : ℕ) (m : List ℕ) → e.call ≡ Forward sender m → forwarded_in e.call ≡ m ∷ []
forwards-here e sender m is = ap forwarded_in is

-- among the caller's Forwards the message stands behind those of before
forwarded-at : (p : ℕ) (H before later : List Entry) (e : Entry) (sender : ℕ) (m : List ℕ) → H ≡ before ++ e ∷ later → e.caller ≡ p → e.call ≡ Forward sender m
    → slice_get (forwarded (own H p)) (length (forwarded (own before p))) ≡ Some m
forwarded-at p H before later e sender m is caller call =
    let rest = forwarded (own later p) in
    let front = forwarded (own before p) in
    let all : forwarded (own H p) ≡ front ++ m ∷ rest =
    ap forwarded (own-split p H before later e is caller)
    ∙ flat_map-append (λ (x : Entry). forwarded_in x.call) (own before p) (e ∷ own later p)
    ∙ ap (λ (l : List (List ℕ)). front ++ (l ++ rest)) (forwards-here e sender m call) in
    ap (λ (l : List (List ℕ)). slice_get l (length front)) all ∙ got-split front m rest

pub all-here : {A : Type 0} (P : A → Type 0) (xs : List A) (y : A) (ys : List A) → AllByRecursion P (xs ++ y ∷ ys) → P y
all-here P [] y ys all = all.0
all-here P (x ∷ xs) y ys all = all-here P xs y ys all.1

-- ---- what was given

allows_one : AtMostOne (λ (m : JudgedMessage). allowed_by m.octets m.verdict m.denied)
allows_one m = by m.verdict m.denied
  where
    by : (w : Verdict) (d : Option Denial) → (allowed_by m.octets w d ≡ []) ⊎ ((y : List ℕ) × (allowed_by m.octets w d ≡ y ∷ []))
    by (Pass msg) d = inl refl
    by (Carried envelope) None = inr (m.octets, refl)
    by (Carried envelope) (Some x) = inl refl
    by (Silent check) d = inl refl
    by (Nak check octets) d = inl refl

allows_itself : (o : List ℕ) (w : Verdict) (d : Option Denial) (m : List ℕ) → allowed_by o w d ≡ m ∷ [] → o ≡ m
allows_itself o (Pass msg) d m h = cc
allows_itself o (Carried envelope) None m h = cc
allows_itself o (Carried envelope) (Some x) m h = cc
allows_itself o (Silent check) d m h = cc
allows_itself o (Nak check octets) d m h = cc

allowed-at : (Cause : List ℕ → Type 0) (all made : List (List ℕ)) (g : ℕ) (m : List ℕ) → AreAllBut Cause all made → slice_get made g ≡ Some m → slice_get all g ≡ Some m
allowed-at Cause all made g m (inl e) h = ap (λ (l : List (List ℕ)). slice_get l g) e ∙ h
allowed-at Cause all made g m (inr r) h = ap (λ (l : List (List ℕ)). slice_get l g) r.2 ∙ got-left made (r.0 ∷ []) g m h

-- ---- the laws of sessions

abbrev pub TakenLaw : Type 0
TakenLaw = (v : Terms) (T : List Said) (R : List ℕ) (E : List Entry) (frames : List (List ℕ)) (ended : Ended) → (x : Session v T R E frames ended) → NpdusAreTaken v T frames x.course

abbrev pub GivenLaw : Type 0
GivenLaw = (v : Terms) (T : List Said) (R : List ℕ) (E : List Entry) (frames : List (List ℕ)) (ended : Ended) → (x : Session v T R E frames ended) → MessagesAreGiven v T x.course

abbrev pub ForwardsLaw : Type 0
ForwardsLaw = (v : Terms) (T : List Said) (R : List ℕ) (E : List Entry) (frames : List (List ℕ)) (ended : Ended) → (x : Session v T R E frames ended) → ForwardsAreCarried v E ended x.course

-- ---- the law of outboxes

abbrev pub EnteringLaw : Type 0
EnteringLaw = (a : About) (H : List Entry) → Legal a H → EnterByForwards a H

-- ---- a hub

module _ (entering_law : EnteringLaw) (taken_law : TakenLaw) (given_law : GivenLaw) (forwards_law : ForwardsLaw) (h : HubRun) where
  -- what the sender's session was given
  record Sender (before : List Entry) (caller sender : ℕ) (m : List ℕ) : Type 0 where
    number : ℕ
    from : SessionOf h.about h.history
    found : slice_get h.sessions number ≡ Some from
    is_its : caller ≡ from.terms.caller
    sends_as : from.ended.conn ≡ Some sender
    index : ℕ
    given : slice_get (given_in from.talk) index ≡ Some m
    as_many : length (allowed (take index (messages_of from.session.course))) ≡ length (forwarded (own before from.terms.caller))

  sender_of : (before later : List Entry) (e : Entry) (sender : ℕ) (m : List ℕ) → h.history ≡ before ++ e ∷ later → e.call ≡ Forward sender m → IsCallerOf h.sessions e.caller
      → Sender before e.caller sender m
  sender_of before later e sender m is call (number, x, found, caller) =
      let v = x.terms in
      let c = x.session.course in
      let f = λ (j : JudgedMessage). allowed_by j.octets j.verdict j.denied in
      let law : ForwardsAreCarried v x.entries x.ended c = forwards_law v x.talk x.readings x.entries (received h.about h.history x.ended.conn x.ended.taken) x.ended x.session in
      let split : x.entries ≡ own before v.caller ++ e ∷ own later v.caller = sym x.stand ∙ own-split v.caller h.history before later e is (sym caller) in
      let made : slice_get (forwarded x.entries) (length (forwarded (own before v.caller))) ≡ Some m =
      ap (λ (l : List Entry). slice_get (forwarded l) (length (forwarded (own before v.caller)))) (sym x.stand) ∙ forwarded-at v.caller h.history before later e sender m is (sym caller) call in
      let k = got-given f allows_one (messages_of c) (length (forwarded (own before v.caller))) m
      (allowed-at (IsUnentered c.last) (allowed (messages_of c)) (forwarded x.entries) (length (forwarded (own before v.caller))) m law.made made) in
      let octets : k.from.octets ≡ m = allows_itself k.from.octets k.from.verdict k.from.denied m k.gives in
      record {
        number = number;
        from = x;
        found = found;
        is_its = sym caller;
        sends_as = all-here (IsOfConnection x.ended.conn) (own before v.caller) e (own later v.caller) (subst (AllByRecursion (IsOfConnection x.ended.conn)) split law.own) sender m call;
        index = k.index;
        given = ap (λ (l : List (List ℕ)). slice_get l k.index) (sym (given_law v x.talk x.readings x.entries (received h.about h.history x.ended.conn x.ended.taken) x.ended x.session))
            ∙ got-mapped (λ (j : JudgedMessage). j.octets) (messages_of c) k.index k.from k.at ∙ ap Some octets;
        as_many = k.before;
      }

  passed : (s : SessionOf h.about h.history) (c n place : ℕ) (o : List ℕ) → s.ended.conn ≡ Some c → (x : EnteredBy h.about h.history c place o)
      → n ≡ length (npdus (let_through s.terms.policy (end_of s.session.course).address (sent h.about x.before c))) → WasPassedOn h s n o
  passed s c n place o joined x nth =
      let from = sender_of x.before x.later x.forward x.from.number x.message x.is x.call (h.forwarders x.before x.later x.forward x.from.number x.message x.is x.call) in
      record {
        conn = c;
        joined = joined;
        place = place;
        entered = x;
        nth = nth;
        number = from.number;
        sender = from.from;
        found = from.found;
        caller = from.is_its;
        sends_as = from.sends_as;
        index = from.index;
        given = from.given;
        as_many = from.as_many;
      }

  -- what entered before
  front_is : (c place : ℕ) (o : List ℕ) (x : EnteredBy h.about h.history c place o) → take place (sent h.about h.history c) ≡ sent h.about x.before c
  front_is c place o x =
      let g = sent_on h.about h.history x.before (x.forward ∷ x.later) c x.is in
      ap (λ (k : ℕ). take k (sent h.about h.history c)) x.behind ∙ ap (take (length (sent h.about x.before c))) g.1 ∙ take-split (sent h.about x.before c) g.0

  by_conn : (s : SessionOf h.about h.history) (n : ℕ) (o : List ℕ) → (conn : Option ℕ) → s.ended.conn ≡ conn
      → slice_get (npdus (let_through s.terms.policy (end_of s.session.course).address (received h.about h.history conn s.ended.taken))) n ≡ Some o → WasPassedOn h s n o
  by_conn s n o None is got = absurd (none s.terms.policy got)
    where
      none : (policy : Option Policy) → slice_get (npdus (let_through policy (end_of s.session.course).address [])) n ≡ Some o → ⊥
      none None g = cc
      none (Some p) g = cc
  by_conn s n o (Some c) is got =
      let policy = s.terms.policy in
      let to = (end_of s.session.course).address in
      let H = h.history in
      let frames = take s.ended.taken (sent h.about H c) in
      let k = got-filter is_npdu (let_through policy to frames) n o got in
      let t = through policy to frames k.index o k.at in
      let x : EnteredBy h.about H c t.index o = entering_law h.about H h.legal c t.index o (got-taken s.ended.taken (sent h.about H c) t.index o t.at) in
      let front : take t.index frames ≡ sent h.about x.before c = take-taken s.ended.taken (sent h.about H c) t.index o t.at ∙ front_is c t.index o x in
      passed s c n t.index o is x (sym k.before ∙ ap (λ (l : List (List ℕ)). length (npdus l)) (t.before ∙ ap (let_through policy to) front))

  pub passes_on : PassesOn h
  passes_on number s n o at got =
      let law : NpdusAreTaken s.terms s.talk (received h.about h.history s.ended.conn s.ended.taken) s.session.course =
      taken_law s.terms s.talk s.readings s.entries (received h.about h.history s.ended.conn s.ended.taken) s.ended s.session in
      by_conn s n o s.ended.conn refl (ap (λ (l : List (List ℕ)). slice_get l n) (sym law) ∙ got)

-- ---- once

-- What one session was given, at one index, was forwarded by one entry.
pub one_forward : (h : HubRun) (s t : SessionOf h.about h.history) (n j : ℕ) (o k : List ℕ) (p : WasPassedOn h s n o) (q : WasPassedOn h t j k) → p.number ≡ q.number → p.index ≡ q.index
    → p.entered.before ≡ q.entered.before
one_forward h s t n j o k p q number index =
    let S = SessionOf h.about h.history in
    let same : p.sender ≡ q.sender = same_Some p.sender q.sender (sym p.found ∙ ap (λ (i : ℕ). slice_get h.sessions i) number ∙ q.found) in
    let caller = q.sender.terms.caller in
    let many : length (allowed (take p.index (messages_of q.sender.session.course))) ≡ length (forwarded (own p.entered.before caller)) =
    subst (λ (x : S). length (allowed (take p.index (messages_of x.session.course))) ≡ length (forwarded (own p.entered.before x.terms.caller))) same p.as_many in
    let as_many : length (forwarded (own p.entered.before caller)) ≡ length (forwarded (own q.entered.before caller)) =
    sym many ∙ ap (λ (i : ℕ). length (allowed (take i (messages_of q.sender.session.course)))) index ∙ q.as_many in
    let first : p.entered.forward.caller ≡ caller = p.caller ∙ ap (λ (x : S). x.terms.caller) same in
    let gives_p : forward_of caller p.entered.forward ≡ p.entered.message ∷ [] =
    ap (λ (b : Bool). cond b (forwarded_in p.entered.forward.call) []) (eq-eqb p.entered.forward.caller caller first) ∙ ap forwarded_in p.entered.call in
    let gives_q : forward_of caller q.entered.forward ≡ q.entered.message ∷ [] =
    ap (λ (b : Bool). cond b (forwarded_in q.entered.forward.call) []) (eq-eqb q.entered.forward.caller caller q.caller) ∙ ap forwarded_in q.entered.call in
    same-split (forward_of caller) p.entered.before q.entered.before p.entered.forward q.entered.forward p.entered.later q.entered.later p.entered.message q.entered.message gives_p gives_q
    (sym p.entered.is ∙ q.entered.is)
    (ap length (forwarded-own caller p.entered.before) ∙ as_many ∙ sym (ap length (forwarded-own caller q.entered.before)))

pub passes_on_once : (h : HubRun) → PassesOnOnce h
passes_on_once h s n j o k p q number index =
    let before : p.entered.before ≡ q.entered.before = one_forward h s s n j o k p q number index in
    let conn : p.conn ≡ q.conn = same_Some p.conn q.conn (sym p.joined ∙ q.joined) in
    let put = λ (G : List Entry) (c : ℕ). length (npdus (let_through s.terms.policy (end_of s.session.course).address (sent h.about G c))) in
    p.nth ∙ ap (λ (G : List Entry). put G p.conn) before ∙ ap (put q.entered.before) conn ∙ sym q.nth
