-- A reply is read back from its text, at the end of a line.
-- It serves bsc_audit, bsc_audit_laws and bsc_journal_laws.
use Rattle.std.proofs.Common.{◌≡◌, ℕ, Bool, true, ◌&&◌, cond, List, [], ◌∷◌, ◌++◌, map, codes, decimal, Option, Some, None, refl, ap, sym, ◌∙◌, append-nil, append_assoc}
use Rattle.std.specs.Option.{option_map}
use Rattle.std.proofs.lemmas.Bool.{and_parts}
use Rattle.bsc_history.specs.declared.call.Call.{Call}
use Rattle.bsc_history.specs.declared.counts.Counts.{Counts}
use Rattle.bsc_history.specs.declared.ending.End.{End}
use Rattle.bsc_history.specs.declared.ending.End.TheVariants.{Left, Replaced, Full, Stopped as EndStopped}
use Rattle.bsc_history.specs.declared.reply.Refusal.{Refusal}
use Rattle.bsc_history.specs.declared.reply.Refusal.TheVariants.{Stopped as RefusedStopped, Duplicate, TableFull}
use Rattle.bsc_history.specs.declared.reply.Reply.{Reply}
use Rattle.bsc_history.specs.declared.reply.Reply.TheVariants.{Joined, Refused, Appended, Closed, Skipped, NoHolder, SentAll, NotCurrent, Stopped, Gone, Counted}
use Rattle.bsc_lines.specs.Replies.{list_words, replacing_words}
use Rattle.bsc_lines.specs.Lines.{reply_text}
use Rattle.bsc_journal.specs.Reading.{Read, after_one, counts_of, kept, loose_words, numbers_in, reply_in}
use Rattle.bsc_journal.specs.Saying.{FitsCall, are_short, is_connect, is_short, reply_is_short}
use Rattle.bsc_journal.proofs.CallsBack.{NoNumber, numbers_back}
use Rattle.bsc_journal.proofs.Numbers.{number_back}
use Rattle.bsc_journal.proofs.Loosening.{ends, list_front, number_front, number_last}

-- ---- what reads a reply by its number, its End or its numbers

joined_back : (b : Bool) (conn : ℕ) (replaced : Option ℕ) → reply_is_short (Joined conn replaced) ≡ true →
    reply_in b (loose_words (reply_text (Joined conn replaced))) ≡ Some (Joined conn replaced)
joined_back b conn None h =
    let p = and_parts (is_short conn) true h in
    ap (λ (ws : List (List ℕ)). reply_in b (codes "joined" ∷ ws)) (number_front conn [] p.0 refl)
    ∙ ap (λ (o : Option ℕ). option_map (λ n. Joined n None) o) (number_back conn p.0)
joined_back b conn (Some gone) h =
    let p = and_parts (is_short conn) (are_short (gone ∷ [])) h in
    let q = and_parts (is_short gone) true p.1 in
    let words : loose_words (reply_text (Joined conn (Some gone))) ≡ codes "joined" ∷ decimal conn ∷ codes "replacing" ∷ decimal gone ∷ [] =
    ap (λ (ws : List (List ℕ)). codes "joined" ∷ ws)
    (number_front conn (replacing_words (Some gone)) p.0 refl
    ∙ ap (λ (ws : List (List ℕ)). decimal conn ∷ codes "replacing" ∷ ws) (number_last gone q.0)) in
    ap (reply_in b) words ∙ (λ i. option_map (λ n. Joined n (number_back gone q.0 i)) (number_back conn p.0 i))

refused_back : (b : Bool) (refusal : Refusal) → reply_is_short (Refused refusal) ≡ true → (refusal ≡ RefusedStopped → b ≡ true) →
    reply_in b (loose_words (reply_text (Refused refusal))) ≡ Some (Refused refusal)
refused_back b RefusedStopped h f = ap (λ (c : Bool). Some (cond c (Refused RefusedStopped) Stopped)) (f refl)
refused_back b (Duplicate None) h f = refl
refused_back b (Duplicate (Some holder)) h f =
    let p = and_parts (is_short holder) true h in
    ap (λ (ws : List (List ℕ)). reply_in b (codes "duplicate" ∷ ws)) (number_last holder p.0)
    ∙ ap (λ (o : Option ℕ). Some (Refused (Duplicate o))) (number_back holder p.0)
refused_back b (TableFull rows) h f =
    ap (λ (ws : List (List ℕ)). reply_in b (codes "tablefull" ∷ ws)) (number_last rows h)
    ∙ ap (λ (o : Option ℕ). option_map (λ n. Refused (TableFull n)) o) (number_back rows h)

sent_back : (b : Bool) (conn : ℕ) → is_short conn ≡ true → reply_in b (loose_words (reply_text (Appended conn))) ≡ Some (Appended conn)
sent_back b conn h =
    ap (λ (ws : List (List ℕ)). reply_in b (codes "sent" ∷ ws)) (number_last conn h)
    ∙ ap (λ (o : Option ℕ). option_map Appended o) (number_back conn h)

full_back : (b : Bool) (conn : ℕ) → is_short conn ≡ true → reply_in b (loose_words (reply_text (Closed conn))) ≡ Some (Closed conn)
full_back b conn h =
    ap (λ (ws : List (List ℕ)). reply_in b (codes "full" ∷ ws)) (number_last conn h)
    ∙ ap (λ (o : Option ℕ). option_map Closed o) (number_back conn h)

long_back : (b : Bool) (conn : ℕ) → is_short conn ≡ true → reply_in b (loose_words (reply_text (Skipped conn))) ≡ Some (Skipped conn)
long_back b conn h =
    ap (λ (ws : List (List ℕ)). reply_in b (codes "long" ∷ ws)) (number_last conn h)
    ∙ ap (λ (o : Option ℕ). option_map Skipped o) (number_back conn h)

gone_back : (b : Bool) (ending : End) (taken : ℕ) → is_short taken ≡ true → reply_in b (loose_words (reply_text (Gone ending taken))) ≡ Some (Gone ending taken)
gone_back b Left taken h =
    ap (λ (ws : List (List ℕ)). reply_in b (codes "gone" ∷ codes "left" ∷ ws)) (number_last taken h)
    ∙ ap (λ (o : Option ℕ). option_map (Gone Left) o) (number_back taken h)
gone_back b Replaced taken h =
    ap (λ (ws : List (List ℕ)). reply_in b (codes "gone" ∷ codes "replaced" ∷ ws)) (number_last taken h)
    ∙ ap (λ (o : Option ℕ). option_map (Gone Replaced) o) (number_back taken h)
gone_back b Full taken h =
    ap (λ (ws : List (List ℕ)). reply_in b (codes "gone" ∷ codes "full" ∷ ws)) (number_last taken h)
    ∙ ap (λ (o : Option ℕ). option_map (Gone Full) o) (number_back taken h)
gone_back b EndStopped taken h =
    ap (λ (ws : List (List ℕ)). reply_in b (codes "gone" ∷ codes "stopped" ∷ ws)) (number_last taken h)
    ∙ ap (λ (o : Option ℕ). option_map (Gone EndStopped) o) (number_back taken h)

not_current_back : (b : Bool) (ending : End) → reply_in b (loose_words (reply_text (NotCurrent ending))) ≡ Some (NotCurrent ending)
not_current_back b Left = refl
not_current_back b Replaced = refl
not_current_back b Full = refl
not_current_back b EndStopped = refl

-- ---- a broadcast's lists

-- numbers at the end of a line
list_last : (ns : List ℕ) → are_short ns ≡ true → loose_words (list_words ns) ≡ map decimal ns ++ []
list_last ns h = ap loose_words (sym (append-nil (list_words ns))) ∙ list_front ns [] h refl

-- three lists, by their words
sent_of : Read (List ℕ) → Option Reply
sent_of to =
    let missed = numbers_in (after_one to.rest) in
    let skipped = numbers_in (after_one missed.rest) in
    Some (SentAll to.value missed.value skipped.value)

sent_from : List ℕ → Read (List ℕ) → Option Reply
sent_from to missed = let skipped = numbers_in (after_one missed.rest) in Some (SentAll to missed.value skipped.value)

regrouped : (a b c d e : List ℕ) → (((a ++ b) ++ c) ++ d) ++ e ≡ a ++ (b ++ (c ++ (d ++ e)))
regrouped a b c d e = append_assoc ((a ++ b) ++ c) d e ∙ append_assoc (a ++ b) c (d ++ e) ∙ append_assoc a b (c ++ (d ++ e))

sent_all_back : (b : Bool) (to missed skipped : List ℕ) → reply_is_short (SentAll to missed skipped) ≡ true →
    reply_in b (loose_words (reply_text (SentAll to missed skipped))) ≡ Some (SentAll to missed skipped)
unfolding sent_of sent_from
sent_all_back b to missed skipped h =
    let p = and_parts (are_short to) (are_short missed && are_short skipped) h in
    let q = and_parts (are_short missed) (are_short skipped) p.1 in
    let last : List (List ℕ) = map decimal skipped ++ [] in
    let middle : List (List ℕ) = map decimal missed ++ (codes "skipped" ∷ last) in
    let words : loose_words (reply_text (SentAll to missed skipped)) ≡ codes "sentall" ∷ codes "to" ∷ (map decimal to ++ (codes "missed" ∷ middle)) =
    ap (λ (o : List ℕ). loose_words (codes "sentall to=" ++ o))
    (regrouped (list_words to) (codes " missed=") (list_words missed) (codes " skipped=") (list_words skipped))
    ∙ ap (λ (ws : List (List ℕ)). codes "sentall" ∷ codes "to" ∷ ws)
    (list_front to (codes " missed=" ++ (list_words missed ++ (codes " skipped=" ++ list_words skipped))) p.0 refl
    ∙ ap (λ (ws : List (List ℕ)). map decimal to ++ (codes "missed" ∷ ws))
    (list_front missed (codes " skipped=" ++ list_words skipped) q.0 refl
    ∙ ap (λ (ws : List (List ℕ)). map decimal missed ++ (codes "skipped" ∷ ws)) (list_last skipped q.1))) in
    ap (reply_in b) words
    ∙ ap sent_of (numbers_back to (codes "missed" ∷ middle) p.0 refl)
    ∙ ap (sent_from to) (numbers_back missed (codes "skipped" ∷ last) q.0 refl)
    ∙ ap (λ (r : Read (List ℕ)). Some (SentAll to missed r.value)) (numbers_back skipped [] q.1 refl)

-- ---- counts

-- a number behind a name, and then other words
named : (name : List (List ℕ) → List (List ℕ)) (n : ℕ) (o : List ℕ) (ws : List (List ℕ)) → is_short n ≡ true → ends o ≡ true →
    loose_words o ≡ ws → name (loose_words (decimal n ++ o)) ≡ name (decimal n ∷ ws)
named name n o ws h e f = ap name (number_front n o h e ∙ ap (λ (v : List (List ℕ)). decimal n ∷ v) f)

counts_back : (b : Bool) (k : Counts) → reply_is_short (Counted k) ≡ true → reply_in b (loose_words (reply_text (Counted k))) ≡ Some (Counted k)
counts_back b k h =
    let p1 = and_parts (is_short k.joined) (are_short (k.replaced ∷ k.refused ∷ k.unicasts ∷ k.broadcasts ∷ k.appended ∷ k.dropped ∷ k.full ∷ k.missed ∷ [])) h in
    let p2 = and_parts (is_short k.replaced) (are_short (k.refused ∷ k.unicasts ∷ k.broadcasts ∷ k.appended ∷ k.dropped ∷ k.full ∷ k.missed ∷ [])) p1.1 in
    let p3 = and_parts (is_short k.refused) (are_short (k.unicasts ∷ k.broadcasts ∷ k.appended ∷ k.dropped ∷ k.full ∷ k.missed ∷ [])) p2.1 in
    let p4 = and_parts (is_short k.unicasts) (are_short (k.broadcasts ∷ k.appended ∷ k.dropped ∷ k.full ∷ k.missed ∷ [])) p3.1 in
    let p5 = and_parts (is_short k.broadcasts) (are_short (k.appended ∷ k.dropped ∷ k.full ∷ k.missed ∷ [])) p4.1 in
    let p6 = and_parts (is_short k.appended) (are_short (k.dropped ∷ k.full ∷ k.missed ∷ [])) p5.1 in
    let p7 = and_parts (is_short k.dropped) (are_short (k.full ∷ k.missed ∷ [])) p6.1 in
    let p8 = and_parts (is_short k.full) (are_short (k.missed ∷ [])) p7.1 in
    let p9 = and_parts (is_short k.missed) true p8.1 in
    let t9 = codes " missed=" ++ decimal k.missed in
    let t8 = codes " full=" ++ (decimal k.full ++ t9) in
    let t7 = codes " dropped=" ++ (decimal k.dropped ++ t8) in
    let t6 = codes " appended=" ++ (decimal k.appended ++ t7) in
    let t5 = codes " broadcasts=" ++ (decimal k.broadcasts ++ t6) in
    let t4 = codes " unicasts=" ++ (decimal k.unicasts ++ t5) in
    let t3 = codes " refused=" ++ (decimal k.refused ++ t4) in
    let t2 = codes " replaced=" ++ (decimal k.replaced ++ t3) in
    let v9 = codes "missed" ∷ decimal k.missed ∷ [] in
    let v8 = codes "full" ∷ decimal k.full ∷ v9 in
    let v7 = codes "dropped" ∷ decimal k.dropped ∷ v8 in
    let v6 = codes "appended" ∷ decimal k.appended ∷ v7 in
    let v5 = codes "broadcasts" ∷ decimal k.broadcasts ∷ v6 in
    let v4 = codes "unicasts" ∷ decimal k.unicasts ∷ v5 in
    let v3 = codes "refused" ∷ decimal k.refused ∷ v4 in
    let v2 = codes "replaced" ∷ decimal k.replaced ∷ v3 in
    let w9 : loose_words t9 ≡ v9 = ap (λ (ws : List (List ℕ)). codes "missed" ∷ ws) (number_last k.missed p9.0) in
    let w8 : loose_words t8 ≡ v8 = named (λ ws. codes "full" ∷ ws) k.full t9 v9 p8.0 refl w9 in
    let w7 : loose_words t7 ≡ v7 = named (λ ws. codes "dropped" ∷ ws) k.dropped t8 v8 p7.0 refl w8 in
    let w6 : loose_words t6 ≡ v6 = named (λ ws. codes "appended" ∷ ws) k.appended t7 v7 p6.0 refl w7 in
    let w5 : loose_words t5 ≡ v5 = named (λ ws. codes "broadcasts" ∷ ws) k.broadcasts t6 v6 p5.0 refl w6 in
    let w4 : loose_words t4 ≡ v4 = named (λ ws. codes "unicasts" ∷ ws) k.unicasts t5 v5 p4.0 refl w5 in
    let w3 : loose_words t3 ≡ v3 = named (λ ws. codes "refused" ∷ ws) k.refused t4 v4 p3.0 refl w4 in
    let w2 : loose_words t2 ≡ v2 = named (λ ws. codes "replaced" ∷ ws) k.replaced t3 v3 p2.0 refl w3 in
    ap (reply_in b) (named (λ ws. codes "counts" ∷ codes "joined" ∷ ws) k.joined t2 v2 p1.0 refl w2)
    ∙ (λ i. counts_of (kept (number_back k.joined p1.0 i) (kept (number_back k.replaced p2.0 i) (kept (number_back k.refused p3.0 i)
    (kept (number_back k.unicasts p4.0 i) (kept (number_back k.broadcasts p5.0 i) (kept (number_back k.appended p6.0 i)
    (kept (number_back k.dropped p7.0 i) (kept (number_back k.full p8.0 i) (kept (number_back k.missed p9.0 i) []))))))))))

-- ---- all replies

-- A reply is read back behind a call that it fits.
pub reply_back : (call : Call) (reply : Reply) → reply_is_short reply ≡ true → FitsCall call reply →
    reply_in (is_connect call) (loose_words (reply_text reply)) ≡ Some reply
reply_back call (Joined conn replaced) h f = joined_back (is_connect call) conn replaced h
reply_back call (Refused RefusedStopped) h f = refused_back (is_connect call) RefusedStopped h (λ e. f)
reply_back call (Refused (Duplicate holder)) h f = refused_back (is_connect call) (Duplicate holder) h (λ e. absurd cc)
reply_back call (Refused (TableFull rows)) h f = refused_back (is_connect call) (TableFull rows) h (λ e. absurd cc)
reply_back call (Appended conn) h f = sent_back (is_connect call) conn h
reply_back call (Closed conn) h f = full_back (is_connect call) conn h
reply_back call (Skipped conn) h f = long_back (is_connect call) conn h
reply_back call NoHolder h f = refl
reply_back call (SentAll to missed skipped) h f = sent_all_back (is_connect call) to missed skipped h
reply_back call (NotCurrent ending) h f = not_current_back (is_connect call) ending
reply_back call Stopped h f = ap (λ (c : Bool). Some (cond c (Refused RefusedStopped) Stopped)) f
reply_back call (Gone ending taken) h f = gone_back (is_connect call) ending taken h
reply_back call (Counted k) h f = counts_back (is_connect call) k h

-- No number begins a reply.
pub reply_begins : (reply : Reply) → NoNumber (loose_words (codes " " ++ reply_text reply))
reply_begins (Joined conn replaced) = refl
reply_begins (Refused RefusedStopped) = refl
reply_begins (Refused (Duplicate None)) = refl
reply_begins (Refused (Duplicate (Some holder))) = refl
reply_begins (Refused (TableFull rows)) = refl
reply_begins (Appended conn) = refl
reply_begins (Closed conn) = refl
reply_begins (Skipped conn) = refl
reply_begins NoHolder = refl
reply_begins (SentAll to missed skipped) = refl
reply_begins (NotCurrent ending) = refl
reply_begins Stopped = refl
reply_begins (Gone ending taken) = refl
reply_begins (Counted k) = refl
