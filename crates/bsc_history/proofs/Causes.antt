-- How a connection has ended stands for good, and has a cause that names the connection.
-- It serves the clauses of `end_stays` and `ends_by_cause`.
use Rattle.std.proofs.Common.{◌≡◌, ℕ, ◌==◌, Bool, true, false, ◌&&◌, cond, if◌then◌else◌, List, [], ◌∷◌, ◌++◌, Option, Some, None, is_none, refl, ap, sym, ◌∙◌, subst, append_assoc}
use Rattle.std.specs.List.{list_any}
use Rattle.std.specs.Option.{option_or}
use Rattle.std.proofs.lemmas.Bool.{eqb-true}
use Rattle.bsc_octets.specs.Forwarding.{destination, is_broadcast}
use Rattle.bsc_history.specs.declared.limits.About.{About}
use Rattle.bsc_history.specs.declared.call.Call.{Call}
use Rattle.bsc_history.specs.declared.call.Call.TheVariants.{Connect, Forward, Leave, Stop, Count}
use Rattle.bsc_history.specs.declared.ending.End.{End}
use Rattle.bsc_history.specs.declared.ending.End.TheVariants.{Left, Replaced, Full, Stopped as EndStopped}
use Rattle.bsc_history.specs.declared.entry.Entry.{Entry}
use Rattle.bsc_history.specs.declared.looks.Look.{Look}
use Rattle.bsc_history.specs.declared.reply.Refusal.TheVariants.{Stopped as RefusedStopped, Duplicate, TableFull}
use Rattle.bsc_history.specs.declared.reply.Reply.{Reply}
use Rattle.bsc_history.specs.declared.reply.Reply.TheVariants.{Joined, Refused, Appended, Closed, Skipped, Stopped}
use Rattle.bsc_history.specs.declared.connection.Connection.{Connection}
use Rattle.bsc_history.specs.Entries.{joins, moment}
use Rattle.bsc_history.specs.Ends.{end_by, end_by_call, end_by_reply, ended, first_end, is_live}
use Rattle.bsc_history.specs.Holders.{holder}
use Rattle.bsc_history.specs.Outboxes.{is_found_full, is_too_long, meant, out_of, sent}
use Rattle.bsc_history.specs.Replies.{broadcast_reply, connect_reply, forward_reply, refused_as_held, reply, unicast_reply, unless_ended}
use Rattle.bsc_history.specs.Legality.{Lawful, Legal}
use Rattle.bsc_history.specs.Laws.{EndStays, EndsByCause, IsCause}
use Rattle.bsc_history.proofs.More.{along, ended-more}
use Rattle.bsc_history.proofs.Named.{live_until_ended}

-- an End stays

first_end_stays : (c : ℕ) (ending : End) (es more : List Entry) → first_end c es ≡ Some ending → first_end c (es ++ more) ≡ Some ending
first_end_stays c ending [] more h = cc
first_end_stays c ending (e ∷ es) more h =
    let on : (o : Option End) → option_or o (first_end c es) ≡ Some ending
    → option_or o (first_end c (es ++ more)) ≡ Some ending = λ o. elim o as (λ o. option_or o (first_end c es) ≡ Some ending → option_or o (first_end c (es ++ more)) ≡ Some ending) [
      | None ↦ λ k. first_end_stays c ending es more k
      | Some w ↦ λ k. k
    ] in
    on (end_by c e) h

pub end_stays : (H : List Entry) → EndStays H
unfolding ended
end_stays [] c ending more h = cc
end_stays (e ∷ H) c ending more h =
    let by : (b : Bool) → cond b (first_end c H) (ended H c) ≡ Some ending
    → cond b (first_end c (H ++ more)) (ended (H ++ more) c) ≡ Some ending =
    λ b. elim b as (λ b. cond b (first_end c H) (ended H c) ≡ Some ending → cond b (first_end c (H ++ more)) (ended (H ++ more) c) ≡ Some ending) [
      | true ↦ λ k. first_end_stays c ending H more k
      | false ↦ λ k. end_stays H c ending more k
    ] in
    by (joins c e) h

-- the cause of an End

-- a Connect ends the one that it replaced
connect_cause : (s u f : Bool) (r : Option ℕ) (rows n : ℕ) (o : Option ℕ) (c : ℕ) (w : End)
    → end_by_reply c (if s then Refused RefusedStopped else if u then Refused (Duplicate None) else refused_as_held r (if f then Refused (TableFull rows) else Joined n o)) ≡ Some w
    → (w ≡ Replaced) × ((if s then Refused RefusedStopped else if u then Refused (Duplicate None) else refused_as_held r (if f then Refused (TableFull rows) else Joined n o)) ≡ Joined n (Some c))
connect_cause true u f r rows n o c w h = cc
connect_cause false true f r rows n o c w h = cc
connect_cause false false f (Some k) rows n o c w h = cc
connect_cause false false true None rows n o c w h = cc
connect_cause false false false None rows n None c w h = cc
connect_cause false false false None rows n (Some k) c w h =
    let by : (b : Bool) → (k == c) ≡ b → cond b (Some Replaced) None ≡ Some w → (w ≡ Replaced)
    × (Joined n (Some k) ≡ Joined n (Some c)) = λ b. elim b as (λ b. (k == c) ≡ b → cond b (Some Replaced) None ≡ Some w → (w ≡ Replaced) × (Joined n (Some k) ≡ Joined n (Some c))) [
      | true ↦ λ e g. (cc, ap (λ (j : ℕ). Joined n (Some j)) (eqb-true k c e))
      | false ↦ λ e g. cc
    ] in
    by (k == c) refl h

-- a unicast ends its holder, where it finds it full
unicast_cause : (a : About) (H : List Entry) (m o : List ℕ) (looks : List Look) (r : Option Connection) (c : ℕ) (w : End) → end_by_reply c (unicast_reply a H m o looks r) ≡ Some w
    → (w ≡ Full) × (unicast_reply a H m o looks r ≡ Closed c)
unicast_cause a H m o looks None c w h = cc
unicast_cause a H m o looks (Some x) c w h =
    let n = x.number in
    let Goal = λ (r : Reply). end_by_reply c r ≡ Some w → (w ≡ Full) × (r ≡ Closed c) in
    let closed : (b : Bool) → (n == c) ≡ b → cond b (Some Full) None ≡ Some w → (w ≡ Full)
    × (Closed n ≡ Closed c) = λ b. elim b as (λ b. (n == c) ≡ b → cond b (Some Full) None ≡ Some w → (w ≡ Full) × (Closed n ≡ Closed c)) [
      | true ↦ λ e g. (cc, ap (λ (j : ℕ). Closed j) (eqb-true n c e))
      | false ↦ λ e g. cc
    ] in
    let by : (l f : Bool) → Goal (cond l (Skipped n) (cond f (Closed n) (Appended n))) = λ l f. elim l as (λ l. Goal (cond l (Skipped n) (cond f (Closed n) (Appended n)))) [
      | true ↦ λ g. cc
      | false ↦ elim f as (λ f. Goal (cond f (Closed n) (Appended n))) [ true ↦ closed (n == c) refl | false ↦ λ g. cc ]
    ] in
    by (is_too_long o x) (is_found_full a (sent a H n) looks n) h

-- a Forward ends none but by a unicast
forward_cause : (s : Bool) (v : Option End) (b : Bool) (every single : Reply) (c : ℕ) (w : End) → end_by_reply c every ≡ None
    → (end_by_reply c single ≡ Some w → (w ≡ Full) × (single ≡ Closed c)) → end_by_reply c (cond s Stopped (unless_ended v (cond b every single))) ≡ Some w → (w ≡ Full) × (b ≡ false)
    × (cond s Stopped (unless_ended v (cond b every single)) ≡ Closed c)
forward_cause true v b every single c w none one h = cc
forward_cause false (Some k) b every single c w none one h = cc
forward_cause false None true every single c w none one h = cc
forward_cause false None false every single c w none one h = let r = one h in (r.0, refl, r.1)

-- a Leave ends its own connection
leave_cause : (k c : ℕ) (w : End) → option_or (cond (k == c) (Some Left) None) None ≡ Some w → (w ≡ Left) × (k ≡ c)
leave_cause k c w h =
    let by : (b : Bool) → (k == c) ≡ b → option_or (cond b (Some Left) None) None ≡ Some w → (w ≡ Left)
    × (k ≡ c) = λ b. elim b as (λ b. (k == c) ≡ b → option_or (cond b (Some Left) None) None ≡ Some w → (w ≡ Left) × (k ≡ c)) [
      | true ↦ λ e g. (cc, eqb-true k c e)
      | false ↦ λ e g. cc
    ] in
    by (k == c) refl h

-- The entry that ends c is the cause of its End.
pub cause_by : (a : About) (H : List Entry) (e : Entry) (c : ℕ) (w : End) → Lawful a (moment H e) → end_by c e ≡ Some w → IsCause c w e
unfolding connect_reply forward_reply
cause_by a H e c w lawful h =
    let Ends = λ (call : Call) (r : Reply). option_or (end_by_call c call) (end_by_reply c r) ≡ Some w in
    let by : (call : Call) → e.call ≡ call → Ends call (reply a H call e.looks) → e.reply ≡ reply a H call e.looks
    → IsCause c w e = λ call. elim call as (λ call. e.call ≡ call → Ends call (reply a H call e.looks) → e.reply ≡ reply a H call e.looks → IsCause c w e) [
      | Connect who ↦ λ is g said. (
          let r = connect_cause _ _ _ _ _ _ _ c w g in
          subst (λ v. IsCause c v e) (sym r.0) (who, _, is, said ∙ r.1))
      | Forward sender m ↦ λ is g said. (
          let o = out_of H sender m in
          let held = holder H (destination m) in
          let r = forward_cause _ (ended H sender) (is_broadcast m) (broadcast_reply a H o e.looks (meant H sender m)) (unicast_reply a H m o e.looks held) c w refl
          (unicast_cause a H m o e.looks held c w) g in
          subst (λ v. IsCause c v e) (sym r.0) (sender, m, is, r.1, said ∙ r.2))
      | Leave k taken empties ↦ λ is g said. (
          let r = leave_cause k c w g in
          subst (λ v. IsCause c v e) (sym r.0) (taken, empties, is ∙ ap (λ (j : ℕ). Leave j taken empties) r.1))
      | Stop ↦ λ is g said. (let same : EndStopped ≡ w = cc in subst (λ v. IsCause c v e) same is)
      | Count ↦ λ is g said. cc
    ] in
    let said : e.reply ≡ reply a H e.call e.looks = lawful.replied in
    by e.call refl (sym (ap (λ (r : Reply). option_or (end_by_call c e.call) (end_by_reply c r)) said) ∙ h) said

pub ends_by_cause : (a : About) (H : List Entry) → Legal a H → EndsByCause H
unfolding ended
ends_by_cause a H legal = along a EndsByCause (λ c w h. cc) (λ G e legalG p lawful c w h.
    let came = list_any (joins c) G in
    let Goal = (before : List Entry) × (x : Entry) × (after : List Entry) × (G ++ e ∷ [] ≡ before ++ x ∷ after) × (is_live before c ≡ true) × IsCause c w x in
    let here : (b : Bool) → came ≡ b → ended G c ≡ None → cond b (end_by c e) None ≡ Some w → Goal = λ b. elim b as (λ b. came ≡ b → ended G c ≡ None → cond b (end_by c e) None ≡ Some w → Goal) [
      | true ↦ λ was none k. (G, e, [], refl, live_until_ended a G legalG c ∙ ap (λ (b : Bool). b && is_none (ended G c)) was ∙ ap (λ (o : Option End). is_none o) none, cause_by a G e c w lawful k)
      | false ↦ λ was none k. cc
    ] in
    let on : (o : Option End) → ended G c ≡ o → option_or o (cond came (end_by c e) None) ≡ Some w
    → Goal = λ o. elim o as (λ o. ended G c ≡ o → option_or o (cond came (end_by c e) None) ≡ Some w → Goal) [
      | None ↦ λ is k. here came refl is k
      | Some v ↦ λ is k. (
          let r = p c w (is ∙ k) in
          (r.0, r.1, r.2 ++ e ∷ [], ap (λ (F : List Entry). F ++ e ∷ []) r.3 ∙ append_assoc r.0 (r.1 ∷ r.2) (e ∷ []), r.4, r.5))
    ] in
    on (ended G c) refl (sym (ended-more G e c) ∙ h)) H legal
