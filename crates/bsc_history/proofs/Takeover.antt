-- Who joins holds its address, and takes over from its device's live connection.
-- It serves the clauses of `join_takes_over`.
use Rattle.std.proofs.Common.{◌≡◌, inl, inr, ℕ, ◌==◌, Bool, true, false, cond, List, [], ◌∷◌, Option, Some, None, MatchOption, is_none, is_some, refl, ap, sym, ◌∙◌, subst}
use Rattle.std.specs.List.{list_any}
use Rattle.std.specs.Option.{option_or}
use Rattle.std.proofs.lemmas.Bool.{and_parts, eq-eqb}
use Rattle.bsc_octets.specs.Addresses.{same_device}
use Rattle.bsc_octets.specs.declared.identity.Identity.{Identity}
use Rattle.bsc_history.specs.declared.limits.About.{About}
use Rattle.bsc_history.specs.declared.call.Call.{Call}
use Rattle.bsc_history.specs.declared.call.Call.TheVariants.{Connect}
use Rattle.bsc_history.specs.declared.ending.End.{End}
use Rattle.bsc_history.specs.declared.ending.End.TheVariants.{Replaced}
use Rattle.bsc_history.specs.declared.entry.Entry.{Entry}
use Rattle.bsc_history.specs.declared.reply.Reply.TheVariants.{Joined}
use Rattle.bsc_history.specs.declared.connection.Connection.{Connection}
use Rattle.bsc_history.specs.Entries.{connection_of, joins, made_by}
use Rattle.bsc_history.specs.Ends.{end_by, end_by_call, end_by_reply, ended, is_live, live, numbered}
use Rattle.bsc_history.specs.Holders.{of_device}
use Rattle.bsc_history.specs.Replies.{number_of}
use Rattle.bsc_history.specs.Legality.{Legal}
use Rattle.bsc_history.specs.Laws.{JoinTakesOver}
use Rattle.bsc_history.proofs.Lists.{In, find_says}
use Rattle.bsc_history.proofs.More.{ended-more}
use Rattle.bsc_history.proofs.Holding.{holder-join}
use Rattle.bsc_history.proofs.Uniqueness.{comes, is_None}
use Rattle.bsc_history.proofs.Named.{live_until_ended}

live_In : (x : Connection) (xs : List Connection) → In x xs → is_some (numbered x.number xs) ≡ true
live_In x [] m = absurd m
live_In x (y ∷ ys) (inl e) = rw (eq-eqb y.number x.number (ap (λ (z : Connection). z.number) e)) refl
live_In x (y ∷ ys) (inr m) = elim (y.number == x.number) as (λ b. is_some (cond b (Some y) (numbered x.number ys)) ≡ true) [ true ↦ refl | false ↦ live_In x ys m ]

-- a device's connection is live
of_device_live : (H : List Entry) (who : Identity) (k : ℕ) → number_of (of_device H who.device) ≡ Some k → is_live H k ≡ true
of_device_live H who k h =
    let p = λ (c : Connection). same_device c.who.device who.device in
    let on : (o : Option Connection) → MatchOption o ((z : Connection) → In z (live H) → p z ≡ false) (λ z. In z (live H) × (p z ≡ true)) → number_of o ≡ Some k
    → is_live H k ≡ true = λ o. elim o as (λ o. MatchOption o ((z : Connection) → In z (live H) → p z ≡ false) (λ z. In z (live H) × (p z ≡ true)) → number_of o ≡ Some k → is_live H k ≡ true) [
      | None ↦ λ f g. cc
      | Some x ↦ λ f g. (let same : x.number ≡ k = cc in subst (λ n. is_some (numbered n (live H)) ≡ true) same (live_In x (live H) f.0))
    ] in
    on (of_device H who.device) (find_says p (live H)) h

pub join_takes_over : (a : About) (H : List Entry) → Legal a H → JoinTakesOver a H
join_takes_over a H legal e who c replaced lawful is said =
    let x : Connection = record { number = c; caller = e.caller; who = who } in
    let new : connection_of e ≡ Some x = ap (λ (call : Call). made_by e.caller call e.reply) is ∙ ap (made_by e.caller (Connect who)) said in
    let r = comes a H e x lawful new in
    let took : replaced ≡ number_of (of_device H who.device) = (let j : Joined c replaced ≡ Joined c (number_of (of_device H who.device)) = sym said ∙ r.1 in cc) in (
      ap number_of (holder-join a H e x legal lawful new),
      took,
      λ k old. (
          let now = of_device_live H who k (sym took ∙ old) in
          let came = and_parts (list_any (joins k) H) (is_none (ended H k)) (sym (live_until_ended a H legal k) ∙ now) in
          let ends : end_by k e ≡ Some Replaced = ap (λ (call : Call). option_or (end_by_call k call) (end_by_reply k e.reply)) is ∙ ap (end_by_reply k) said
          ∙ ap (λ (o : Option ℕ). end_by_reply k (Joined c o)) old ∙ ap (λ (b : Bool). cond b (Some Replaced) None) (eq-eqb k k refl) in
          ended-more H e k ∙ ap (λ (w : Option End). option_or w (cond (list_any (joins k) H) (end_by k e) None)) (is_None (ended H k) came.1)
          ∙ ap (λ (b : Bool). cond b (end_by k e) None) came.0 ∙ ends),
    )
