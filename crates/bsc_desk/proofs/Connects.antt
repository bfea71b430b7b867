-- A connect, refused or joined.
-- It serves clauses of functions of `desk`.
use Rattle.std.proofs.Common.{◌≡◌, ℕ, ◌+◌, ◌<◌, ◌&&◌, nat_lt, Bool, true, false, not, cond, List, [], ◌∷◌, ◌++◌, length, map, filter, find, Option, Some, None, is_some, refl, ap}
use Rattle.std.proofs.Common.{sym, ◌∙◌, subst, arith, append-nil}
use Rattle.std.specs.List.{AllByRecursion}
use Rattle.std.specs.Option.{option_or}
use Rattle.std.proofs.lemmas.Bool.{and_from, eq-eqb, lt-ltb}
use Rattle.std.proofs.lemmas.List.{map-append}
use Rattle.std.proofs.lemmas.List.Folds.{find-append}
use Rattle.bsc_octets.specs.Addresses.{broadcast, same_vmac, zero_vmac}
use Rattle.bsc_octets.specs.declared.identity.Identity.{Identity}
use Rattle.bsc_history.specs.declared.limits.About.{About}
use Rattle.bsc_history.specs.declared.connection.Connection.{Connection}
use Rattle.bsc_history.specs.declared.ending.End.{End}
use Rattle.bsc_history.specs.declared.ending.End.TheVariants.{Replaced}
use Rattle.bsc_history.specs.declared.entry.Entry.{Entry}
use Rattle.bsc_history.specs.declared.mark.Mark.{Mark}
use Rattle.bsc_history.specs.declared.mark.Stamped.{Stamped}
use Rattle.bsc_history.specs.declared.reply.Refusal.{Refusal}
use Rattle.bsc_history.specs.declared.reply.Reply.{Reply}
use Rattle.bsc_history.specs.declared.reply.Reply.TheVariants.{Joined as JoinedReply, Refused as RefusedReply}
use Rattle.bsc_history.specs.Counting.{one_if, plus}
use Rattle.bsc_history.specs.Entries.{moment}
use Rattle.bsc_history.specs.Ends.{end_by, ended, is_one, joined}
use Rattle.bsc_history.specs.Legality.{Lawful, Legal}
use Rattle.bsc_history.specs.Marks.{entries}
use Rattle.bsc_history.specs.Outboxes.{added_by, sent}
use Rattle.bsc_history.specs.Replies.{connect_reply}
use Rattle.bsc_history.proofs.Fresh.{fresh_joins, fresh_sent}
use Rattle.bsc_history.proofs.Marks.{mark_new}
use Rattle.bsc_history.proofs.More.{ended-more, entries-more, sent-more}
use Rattle.bsc_history.proofs.Uniqueness.{comes, not_joined}
use Rattle.bsc_ring.specs.Ends.{IsNewInlet, capacity_of, ending_of, inlet_mark, known_taken, loads, pushed}
use Rattle.bsc_desk.specs.declared.desk.Desk.{Desk}
use Rattle.bsc_desk.specs.declared.row.Row.{Row}
use Rattle.bsc_desk.specs.Changes.{EachBecomes, FinishesIf}
use Rattle.bsc_desk.specs.Entries.{connect_entry, connect_stamped}
use Rattle.bsc_desk.specs.Live.{connection, is_row, known_in}
use Rattle.bsc_desk.specs.Standing.{DeskStands, IsInletOf, all_found}
use Rattle.bsc_desk.specs.Tallies.{no_counts}
use Rattle.bsc_desk.proofs.Looks.{all_found-more, fresh_found}
use Rattle.bsc_desk.proofs.Standings.{Keeps, RowGoes, goes_all, kept, stands_more, stands_same}
use Rattle.bsc_desk.proofs.Walks.{each_connections, each_found, each_weaker, has_number}
use Rattle.bsc_history.proofs.Common.{length_entries}
use Rattle.bsc_lemmas.proofs.Lists.{all-push}
use Rattle.bsc_lemmas.proofs.Numbers.{eq_turned as eqb_comm}
use Rattle.bsc_lemmas.proofs.Options.{or_none}

pub lawful_connect : (d : Desk) (S : List Stamped) (caller : ℕ) (who : Identity) (reply : Reply) → DeskStands d S → same_vmac who.vmac zero_vmac ≡ false
    → same_vmac who.vmac broadcast ≡ false → d.tally.made < d.about.limits.calls → reply ≡ connect_reply d.about (entries S) who → Lawful d.about (moment (entries S) (connect_entry caller who reply))
lawful_connect d S caller who reply p zero all calls says = record {
  replied = says;
  named = refl;
  found = refl;
  called = and_from (not (same_vmac who.vmac zero_vmac) && not (same_vmac who.vmac broadcast)) (nat_lt (length (entries S)) d.about.limits.calls)
      (and_from (not (same_vmac who.vmac zero_vmac)) (not (same_vmac who.vmac broadcast)) (ap not zero) (ap not all))
      (ap (λ (n : ℕ). nat_lt n d.about.limits.calls) (length_entries S ∙ sym p.entered) ∙ lt-ltb d.tally.made d.about.limits.calls calls);
}

-- a refusal
pub stands_refused : (d n : Desk) (S : List Stamped) (caller : ℕ) (who : Identity) (m : Mark) (refusal : Refusal) → DeskStands d S
    → Lawful d.about (moment (entries S) (connect_entry caller who (RefusedReply refusal))) → n.about ≡ d.about → n.stopped_at ≡ d.stopped_at → n.tally.made ≡ d.tally.made + 1
    → n.tally.counts ≡ plus d.tally.counts (record no_counts { refused = 1 }) → n.rows.items ≡ d.rows.items → DeskStands n (S ++ connect_stamped caller who m (RefusedReply refusal) ∷ [])
unfolding added_by
stands_refused d n S caller who m refusal p lawful about stop made count rows =
    let s = connect_stamped caller who m (RefusedReply refusal) in
    stands_same d n S s p lawful (record { goes_on = refl; stays = λ c. refl; joins_none = refl })
    (record { ends_none = λ c. refl; looks_none = refl; adds_nothing = λ c. refl }) about stop made count rows

-- a row by a connect, which ends the connection that it replaces

same_test : (replaced : Option ℕ) (r : Row) → is_row replaced r ≡ is_one r.connection.number replaced
same_test None r = refl
same_test (Some k) r = eqb_comm r.connection.number k

joined_one : (a : About) (H : List Entry) (caller : ℕ) (who : Identity) (conn : ℕ) (replaced : Option ℕ) (r t : Row) → FinishesIf (is_row replaced r) Replaced r t
    → RowGoes a H (connect_entry caller who (JoinedReply conn replaced)) r t
unfolding added_by
joined_one a H caller who conn replaced r t fin =
    let e = connect_entry caller who (JoinedReply conn replaced) in
    let c = r.connection.number in
    let by : (b : Bool) → is_one c replaced ≡ b → FinishesIf b Replaced r t → RowGoes a H e r t = λ b. elim b as (λ b. is_one c replaced ≡ b → FinishesIf b Replaced r t → RowGoes a H e r t) [
      | true ↦ λ h f. (
        f.same,
        record {
          mark = f.pushes.mark;
          holds = f.pushes.holds;
          items = f.pushes.items ∙ sym (append-nil (pushed r.inlet));
          looks = f.pushes.loads ∙ sym (append-nil (loads r.inlet));
          ends = t.tied ∙ f.ends ∙ ap (λ (o : Option End). option_or o (Some Replaced)) (sym r.tied) ∙ sym (ap (λ (b : Bool). option_or (ending_of r.inlet) (cond b (Some Replaced) None)) h);
        },
      )
      | false ↦ λ h f. (
        ap connection f,
        record {
          mark = ap (λ (x : Row). inlet_mark x.inlet) f;
          holds = ap (λ (x : Row). capacity_of x.inlet) f;
          items = ap (λ (x : Row). pushed x.inlet) f ∙ sym (append-nil (pushed r.inlet));
          looks = ap (λ (x : Row). loads x.inlet) f ∙ sym (append-nil (loads r.inlet));
          ends = ap (λ (x : Row). ending_of x.inlet) f ∙ sym (ap (λ (b : Bool). option_or (ending_of r.inlet) (cond b (Some Replaced) None)) h ∙ or_none (ending_of r.inlet));
        },
      )
    ] in
    by (is_one c replaced) refl (subst (λ b. FinishesIf b Replaced r t) (same_test replaced r) fin)

-- the inlet of the connection that joins
pub inlet_new : (a : About) (S : List Stamped) (caller : ℕ) (who : Identity) (conn : ℕ) (replaced : Option ℕ) (r : Row) → Legal a (entries S)
    → Lawful a (moment (entries S) (connect_entry caller who (JoinedReply conn replaced))) → IsNewInlet r.inlet → capacity_of r.inlet ≡ a.limits.outbox
    → IsInletOf a (S ++ connect_stamped caller who (inlet_mark r.inlet) (JoinedReply conn replaced) ∷ []) conn r.inlet
unfolding added_by
inlet_new a S caller who conn replaced r legal lawful new holds =
    let H = entries S in
    let s = connect_stamped caller who (inlet_mark r.inlet) (JoinedReply conn replaced) in
    let e = s.entry in
    let more = entries-more S s in
    let x : Connection = record { number = conn; caller = caller; who = who } in
    let next = (comes a H e x lawful refl).0 in
    let far : length (joined H) < conn = omega arith in
    let fresh = fresh_joins a H conn legal far in
    let quiet : sent a (H ++ e ∷ []) conn ≡ [] = sent-more a H e conn ∙ append-nil (sent a H conn) ∙ fresh_sent a H conn legal far in
    let unseen : all_found (H ++ e ∷ []) conn ≡ [] = all_found-more H e conn ∙ append-nil (all_found H conn) ∙ fresh_found a H conn legal far in
    record {
      holds = holds;
      marked = mark_new S s conn fresh (eq-eqb conn conn refl);
      items = new.0 ∙ sym (ap (λ (G : List Entry). sent a G conn) more ∙ quiet);
      looks = new.1 ∙ sym (ap (λ (G : List Entry). all_found G conn) more ∙ unseen);
      finished = new.2 ∙ sym (ap (λ (G : List Entry). ended G conn) more ∙ ended-more H e conn ∙ ap (λ (b : Bool). option_or (ended H conn) (cond b (end_by conn e) None)) fresh
          ∙ ap (λ (w : Option End). option_or w None) (not_joined H conn fresh));
    }

none_leave : (xs : List Connection) → filter (λ x. not false) xs ≡ xs
none_leave [] = refl
none_leave (x ∷ xs) = ap (λ (l : List Connection). x ∷ l) (none_leave xs)

pub stands_joined : (d n : Desk) (S : List Stamped) (caller : ℕ) (who : Identity) (conn : ℕ) (replaced : Option ℕ) (after : List Row) (new : Row) → DeskStands d S
    → Lawful d.about (moment (entries S) (connect_entry caller who (JoinedReply conn replaced))) → n.about ≡ d.about → n.stopped_at ≡ d.stopped_at → n.tally.made ≡ d.tally.made + 1
    → n.tally.counts ≡ plus d.tally.counts (record no_counts { joined = 1; replaced = one_if (is_some replaced) })
    → EachBecomes (λ r t. FinishesIf (is_row replaced r) Replaced r t) d.rows.items after → n.rows.items ≡ after ++ new ∷ []
    → connection new ≡ record { number = conn; caller = caller; who = who } → IsNewInlet new.inlet → capacity_of new.inlet ≡ d.about.limits.outbox
    → DeskStands n (S ++ connect_stamped caller who (inlet_mark new.inlet) (JoinedReply conn replaced) ∷ [])
stands_joined d n S caller who conn replaced after new p lawful about stop made count each rows is fresh holds =
    let a = d.about in
    let H = entries S in
    let s = connect_stamped caller who (inlet_mark new.inlet) (JoinedReply conn replaced) in
    let R = λ (r t : Row). FinishesIf (is_row replaced r) Replaced r t in
    let goes = each_weaker R (RowGoes a H s.entry) d.rows.items after (λ r t f. joined_one a H caller who conn replaced r t f) each in
    let same = each_connections (RowGoes a H s.entry) d.rows.items after (λ r t g. g.0) goes in
    let old = goes_all a S s d.rows.items after (kept d S p) goes in
    let one = subst (λ k. IsInletOf a (S ++ s ∷ []) k new.inlet) (sym (ap (λ (x : Connection). x.number) is)) (inlet_new a S caller who conn replaced new p.legal lawful fresh holds) in
    let keeps : Keeps d n s.entry = record {
      about = about;
      stop = stop ∙ sym (or_none d.stopped_at);
      made = made;
      count = count;
      rows = ap (map connection) rows ∙ map-append connection after (new ∷ []) ∙ ap (λ (k : Connection). map connection after ++ k ∷ []) is
          ∙ ap (λ (l : List Connection). l ++ record { number = conn; caller = caller; who = who } ∷ []) (same ∙ sym (none_leave (map connection d.rows.items)));
    } in
    stands_more d n S s p lawful keeps (subst (AllByRecursion (λ r. IsInletOf a (S ++ s ∷ []) r.connection.number r.inlet)) (sym rows)
    (all-push (λ r. IsInletOf a (S ++ s ∷ []) r.connection.number r.inlet) after new old one))

-- what is known of each outbox stays, and of the new one nothing is known

pub known_finish : (b : Bool) (ending : End) (r t : Row) → FinishesIf b ending r t → (t.connection ≡ r.connection) × (known_in (Some t) ≡ known_in (Some r))
known_finish true ending r t f = (f.same, f.known)
known_finish false ending r t f = (ap connection f, ap (λ (x : Row). known_taken x.inlet) f)

pub known_joined : (replaced : Option ℕ) (c : ℕ) (rows after : List Row) (new : Row) → EachBecomes (λ r t. FinishesIf (is_row replaced r) Replaced r t) rows after → known_taken new.inlet ≡ 0
    → known_in (find (has_number c) (after ++ new ∷ [])) ≡ known_in (find (has_number c) rows)
known_joined replaced c rows after new each none =
    let on : (o : Option Row) → known_in (option_or o (cond (has_number c new) (Some new) None)) ≡ known_in o =
    λ o. elim o as (λ o. known_in (option_or o (cond (has_number c new) (Some new) None)) ≡ known_in o) [
      | None ↦ elim (has_number c new) as (λ b. known_in (cond b (Some new) None) ≡ 0) [ true ↦ none | false ↦ refl ]
      | Some r ↦ refl
    ] in
    ap known_in (find-append (has_number c) after (new ∷ [])) ∙ on (find (has_number c) after)
    ∙ each_found known_in (λ r t. FinishesIf (is_row replaced r) Replaced r t) c rows after (λ r t f. known_finish (is_row replaced r) Replaced r t f) each
