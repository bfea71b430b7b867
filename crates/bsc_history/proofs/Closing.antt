-- A unicast that finds its holder's outbox full ends that connection as Full, and nothing is added.
-- It serves the clauses of `full_closes`.
use Rattle.std.proofs.Common.{◌≡◌, inl, inr, ℕ, ◌==◌, Bool, true, false, not, cond, List, [], ◌∷◌, Option, Some, None, is_none, option_to_list, refl, ap, sym, ◌∙◌}
use Rattle.std.specs.List.{list_any}
use Rattle.std.specs.Option.{option_or}
use Rattle.std.proofs.lemmas.Bool.{eqb-true, and_parts, or_cases, not-true}
use Rattle.bsc_octets.specs.Forwarding.{destination}
use Rattle.bsc_history.specs.declared.limits.About.{About}
use Rattle.bsc_history.specs.declared.call.Call.{Call}
use Rattle.bsc_history.specs.declared.ending.End.{End}
use Rattle.bsc_history.specs.declared.ending.End.TheVariants.{Full}
use Rattle.bsc_history.specs.declared.entry.Entry.{Entry}
use Rattle.bsc_history.specs.declared.looks.Look.{Look}
use Rattle.bsc_history.specs.declared.connection.Connection.{Connection}
use Rattle.bsc_history.specs.Entries.{joins}
use Rattle.bsc_history.specs.Ends.{end_by, end_by_call, end_by_reply, ended, is_live, live}
use Rattle.bsc_history.specs.Holders.{holder}
use Rattle.bsc_history.specs.Outboxes.{is_found_full, is_too_long, means, meant, out_of, sent, takes}
use Rattle.bsc_history.specs.Replies.{broadcast_reply, number_of, unicast_reply}
use Rattle.bsc_history.specs.Legality.{Legal}
use Rattle.bsc_history.specs.Laws.{FullCloses}
use Rattle.bsc_history.proofs.Finding.{fits, fits_live, found_by, none_takes, nothing_added, replied_by}
use Rattle.bsc_history.proofs.More.{ended-more}
use Rattle.bsc_history.proofs.Named.{live_until_ended, meant-unicast}
use Rattle.bsc_history.proofs.Uniqueness.{is_None}

-- the holder that the frame isn't too long for has the number c
holder_is : (o : List ℕ) (c : ℕ) (r : Option Connection) → list_any (fits o c) (option_to_list r) ≡ true → number_of r ≡ Some c
holder_is o c None h = cc
holder_is o c (Some x) h = elim (or_cases (fits o c x) false h) [
  | inl here ↦ ap Some (eqb-true x.number c (and_parts (x.number == c) (not (is_too_long o x)) here).0)
  | inr bad ↦ cc
]

module _ (a : About) (H : List Entry) (o : List ℕ) (looks : List Look) (c : ℕ) (full : is_found_full a (sent a H c) looks c ≡ true) where
  unicast_closes : (m : List ℕ) (r : Option Connection) → list_any (fits o c) (option_to_list r) ≡ true → end_by_reply c (unicast_reply a H m o looks r) ≡ Some Full
  unicast_closes m None h = cc
  unicast_closes m (Some x) h =
      elim (or_cases (fits o c x) false h) [
        | inl here ↦ (
            let two = and_parts (x.number == c) (not (is_too_long o x)) here in
            let short : is_too_long o x ≡ false = not-true (is_too_long o x) two.1 in
            let found : is_found_full a (sent a H x.number) looks x.number ≡ true = ap (λ (k : ℕ). is_found_full a (sent a H k) looks k) (eqb-true x.number c two.0) ∙ full in
            rw (short, found, two.0) refl)
        | inr bad ↦ cc
      ]

  -- where the holder is found full, no outbox takes the frame
  none_gets : (r : Option Connection) → number_of r ≡ Some c → (k : ℕ) → list_any (takes a o (sent a H k) looks k) (option_to_list r) ≡ false
  none_gets None h k = refl
  none_gets (Some x) h k =
      let same : x.number ≡ c = cc in
      let by : (b : Bool) → (x.number == k) ≡ b → list_any (takes a o (sent a H k) looks k) (x ∷ []) ≡ false =
      λ b. elim b as (λ b. (x.number == k) ≡ b → list_any (takes a o (sent a H k) looks k) (x ∷ []) ≡ false) [
        | true ↦ λ e. none_takes a o (sent a H k) looks k (ap (λ (n : ℕ). is_found_full a (sent a H n) looks n) (sym (eqb-true x.number k e) ∙ same) ∙ full) (x ∷ [])
        | false ↦ λ e. rw e refl
      ] in
      by (x.number == k) refl

pub full_closes : (a : About) (H : List Entry) → Legal a H → FullCloses a H
full_closes a H legal e sender m c lawful is one full =
    let o = out_of H sender m in
    let r = holder H (destination m) in
    let found = found_by a H e sender m c lawful is full in
    let just : meant H sender m ≡ option_to_list r = meant-unicast a H sender m legal one in
    let fit : list_any (fits o c) (option_to_list r) ≡ true = ap (list_any (fits o c)) (sym just) ∙ found.2 in
    let held = holder_is o c r fit in
    let replied : e.reply ≡ unicast_reply a H m o e.looks r = replied_by a H e sender m lawful is found.0 found.1
    ∙ ap (λ (b : Bool). cond b (broadcast_reply a H o e.looks (meant H sender m)) (unicast_reply a H m o e.looks r)) one in
    let now : is_live H c ≡ true = fits_live o c (means m sender) (live H) found.2 in
    let came = and_parts (list_any (joins c) H) (is_none (ended H c)) (sym (live_until_ended a H legal c) ∙ now) in
    let ends : end_by c e ≡ Some Full = ap (λ (call : Call). option_or (end_by_call c call) (end_by_reply c e.reply)) is ∙ ap (end_by_reply c) replied
    ∙ unicast_closes a H o e.looks c full m r fit in (
      held,
      ended-more H e c ∙ ap (λ (w : Option End). option_or w (cond (list_any (joins c) H) (end_by c e) None)) (is_None (ended H c) came.1) ∙ ap (λ (b : Bool). cond b (end_by c e) None) came.0 ∙ ends,
      λ k. nothing_added a H e sender m k is (ap (list_any (takes a o (sent a H k) e.looks k)) just ∙ none_gets a H o e.looks c full r held k),
    )
