-- The lines of entries and of denials have no LF and no CR.
-- It serves the clauses of `command_audits`, `journals_audit` and `run_audits`.
use Rattle.std.proofs.Common.{◌≡◌, ℕ, ◌==◌, true, not, ◌&&◌, List, [], ◌∷◌, ◌++◌, flat_map, codes, decimal, Option, Some, None, refl, ap}
use Rattle.std.specs.List.{list_all}
use Rattle.std.specs.Option.{option_to_list}
use Rattle.std.proofs.lemmas.Bool.{and_from, and_parts, both_ways, ne_eqb}
use Rattle.hex.specs.Hex.{encode_upper}
use Rattle.bsc_octets.specs.Identities.{identity_octets}
use Rattle.bsc_history.specs.declared.call.Call.{Call}
use Rattle.bsc_history.specs.declared.call.Call.TheVariants.{Connect, Forward, Leave, Stop, Count}
use Rattle.bsc_history.specs.declared.counts.Counts.{Counts}
use Rattle.bsc_history.specs.declared.ending.End.{End}
use Rattle.bsc_history.specs.declared.ending.End.TheVariants.{Left, Replaced, Full, Stopped as EndStopped}
use Rattle.bsc_history.specs.declared.entry.Entry.{Entry}
use Rattle.bsc_history.specs.declared.looks.Look.{Look}
use Rattle.bsc_history.specs.declared.reply.Refusal.TheVariants.{Stopped as RefusedStopped, Duplicate, TableFull}
use Rattle.bsc_history.specs.declared.reply.Reply.{Reply}
use Rattle.bsc_history.specs.declared.reply.Reply.TheVariants.{Joined, Refused, Appended, Closed, Skipped, NoHolder, SentAll, NotCurrent, Stopped, Gone, Counted}
use Rattle.bsc_lines.specs.declared.denial.Denial.{Denial}
use Rattle.bsc_lines.specs.declared.denial.Denial.TheVariants.{OfConnect, OfPair}
use Rattle.bsc_lines.specs.Denials.{denial_line}
use Rattle.bsc_lines.specs.Lines.{call_text, entry_line, look_text, looks_text, reply_text, then_number}
use Rattle.bsc_lines.specs.Replies.{counts_words, ending_word, holder_words, list_words, replacing_words}
use Rattle.bsc_journal.specs.Saying.{HasLine, HasOctets, are_octets, are_short, call_is_short, is_short, look_is_short, reply_is_short}
use Rattle.bsc_journal.proofs.Loosening.{hex_plain, plain, plain_digits}
use Rattle.bsc_journal.proofs.Numbers.{digits}
use Rattle.bsc_session.specs.Notes.Octets.{DenialHasOctets}
use Rattle.bsc_journal_laws.specs.Lines.{is_clean, is_inner}
use Rattle.bsc_journal_laws.proofs.Shorts.{short_32}

pub append : (a b : List ℕ) → is_clean a ≡ true → is_clean b ≡ true → is_clean (a ++ b) ≡ true
append [] b h k = k
append (c ∷ a) b h k =
    let p = and_parts (is_inner c) (is_clean a) h in
    and_from (is_inner c) (is_clean (a ++ b)) p.0 (append a b p.1 k)

inner : (c : ℕ) → plain c ≡ true → is_inner c ≡ true
inner c h = and_from (not (c == 10)) (not (c == 13))
    (ap not (ne_eqb c 10 (λ e. both_ways (plain c) (ap plain e) h)))
    (ap not (ne_eqb c 13 (λ e. both_ways (plain c) (ap plain e) h)))

of_plain : (w : List ℕ) → list_all plain w ≡ true → is_clean w ≡ true
of_plain [] h = refl
of_plain (c ∷ w) h =
    let p = and_parts (plain c) (list_all plain w) h in
    and_from (is_inner c) (is_clean w) (inner c p.0) (of_plain w p.1)

pub number : (n : ℕ) → is_short n ≡ true → is_clean (decimal n) ≡ true
number n h = of_plain (decimal n) (plain_digits (decimal n) (digits n h))

pub hex : (o : List ℕ) → are_octets o ≡ true → is_clean (encode_upper o) ≡ true
hex o h = of_plain (encode_upper o) (hex_plain o h)

pub behind : (n : ℕ) → is_short n ≡ true → is_clean (then_number n) ≡ true
behind n h = append (codes " ") (decimal n) refl (number n h)

more_numbers : (ns : List ℕ) → are_short ns ≡ true → is_clean (flat_map (λ k. codes "," ++ decimal k) ns) ≡ true
more_numbers [] h = refl
more_numbers (n ∷ ns) h =
    let p = and_parts (is_short n) (are_short ns) h in
    append (codes "," ++ decimal n) (flat_map (λ k. codes "," ++ decimal k) ns) (append (codes ",") (decimal n) refl (number n p.0)) (more_numbers ns p.1)

numbers : (ns : List ℕ) → are_short ns ≡ true → is_clean (list_words ns) ≡ true
numbers [] h = refl
numbers (n ∷ ns) h =
    let p = and_parts (is_short n) (are_short ns) h in
    append (decimal n) (flat_map (λ k. codes "," ++ decimal k) ns) (number n p.0) (more_numbers ns p.1)

look : (k : Look) → look_is_short k ≡ true → is_clean (look_text k) ≡ true
look k h =
    let p = and_parts (is_short k.conn) (is_short k.taken) h in
    append (decimal k.conn) (codes ":" ++ decimal k.taken) (number k.conn p.0) (append (codes ":") (decimal k.taken) refl (number k.taken p.1))

more_looks : (ks : List Look) → list_all look_is_short ks ≡ true → is_clean (flat_map (λ l. codes "," ++ look_text l) ks) ≡ true
more_looks [] h = refl
more_looks (k ∷ ks) h =
    let p = and_parts (look_is_short k) (list_all look_is_short ks) h in
    append (codes "," ++ look_text k) (flat_map (λ l. codes "," ++ look_text l) ks) (append (codes ",") (look_text k) refl (look k p.0)) (more_looks ks p.1)

looks : (ks : List Look) → list_all look_is_short ks ≡ true → is_clean (looks_text ks) ≡ true
looks [] h = refl
looks (k ∷ ks) h =
    let p = and_parts (look_is_short k) (list_all look_is_short ks) h in
    append (look_text k) (flat_map (λ l. codes "," ++ look_text l) ks) (look k p.0) (more_looks ks p.1)

call : (c : Call) (ks : List Look) → call_is_short c ≡ true → list_all look_is_short ks ≡ true → HasOctets c → is_clean (call_text c ks) ≡ true
call (Connect who) ks h k o = append (codes "connect ") (encode_upper (identity_octets who)) refl (hex (identity_octets who) o.octets)
call (Forward conn frame) ks h k o =
    let d = codes " looks " ++ looks_text ks in
    let c = encode_upper frame ++ d in
    let b = codes " " ++ c in
    append (codes "forward") (then_number conn ++ b) refl
    (append (then_number conn) b (behind conn h)
    (append (codes " ") c refl
    (append (encode_upper frame) d (hex frame o.0)
    (append (codes " looks ") (looks_text ks) refl (looks ks k)))))
call (Leave conn taken empties) ks h k o =
    let p = and_parts (is_short conn) (are_short (taken ∷ empties ∷ [])) h in
    let q = and_parts (is_short taken) (are_short (empties ∷ [])) p.1 in
    let r = and_parts (is_short empties) true q.1 in
    let b = then_number taken ++ then_number empties in
    append (codes "leave") (then_number conn ++ b) refl (append (then_number conn) b (behind conn p.0) (append (then_number taken) (then_number empties) (behind taken q.0) (behind empties r.0)))
call Stop ks h k o = refl
call Count ks h k o = refl

ending : (e : End) → is_clean (ending_word e) ≡ true
ending Left = refl
ending Replaced = refl
ending Full = refl
ending EndStopped = refl

named : (w : List ℕ) (n : ℕ) → is_clean w ≡ true → is_short n ≡ true → is_clean (w ++ codes " " ++ decimal n) ≡ true
named w n h k = append (w ++ codes " ") (decimal n) (append w (codes " ") h refl) (number n k)

if_any : (o : Option ℕ) → are_short (option_to_list o) ≡ true → is_clean (replacing_words o) ≡ true
if_any None h = refl
if_any (Some n) h = named (codes " replacing") n refl (and_parts (is_short n) true h).0

holder : (o : Option ℕ) → are_short (option_to_list o) ≡ true → is_clean (holder_words o) ≡ true
holder None h = refl
holder (Some n) h = named (codes "duplicate") n refl (and_parts (is_short n) true h).0

count : (w : List ℕ) (n : ℕ) (rest : List ℕ) → is_clean w ≡ true → is_short n ≡ true → is_clean rest ≡ true → is_clean (w ++ (decimal n ++ rest)) ≡ true
count w n rest h k l = append w (decimal n ++ rest) h (append (decimal n) rest (number n k) l)

counts : (k : Counts) → reply_is_short (Counted k) ≡ true → is_clean (counts_words k) ≡ true
counts k h =
    let a = and_parts (is_short k.joined) (are_short (k.replaced ∷ k.refused ∷ k.unicasts ∷ k.broadcasts ∷ k.appended ∷ k.dropped ∷ k.full ∷ k.missed ∷ [])) h in
    let b = and_parts (is_short k.replaced) (are_short (k.refused ∷ k.unicasts ∷ k.broadcasts ∷ k.appended ∷ k.dropped ∷ k.full ∷ k.missed ∷ [])) a.1 in
    let c = and_parts (is_short k.refused) (are_short (k.unicasts ∷ k.broadcasts ∷ k.appended ∷ k.dropped ∷ k.full ∷ k.missed ∷ [])) b.1 in
    let d = and_parts (is_short k.unicasts) (are_short (k.broadcasts ∷ k.appended ∷ k.dropped ∷ k.full ∷ k.missed ∷ [])) c.1 in
    let e = and_parts (is_short k.broadcasts) (are_short (k.appended ∷ k.dropped ∷ k.full ∷ k.missed ∷ [])) d.1 in
    let f = and_parts (is_short k.appended) (are_short (k.dropped ∷ k.full ∷ k.missed ∷ [])) e.1 in
    let g = and_parts (is_short k.dropped) (are_short (k.full ∷ k.missed ∷ [])) f.1 in
    let i = and_parts (is_short k.full) (are_short (k.missed ∷ [])) g.1 in
    let j = and_parts (is_short k.missed) true i.1 in
    let z8 = codes " missed=" ++ decimal k.missed in
    let z7 = codes " full=" ++ (decimal k.full ++ z8) in
    let z6 = codes " dropped=" ++ (decimal k.dropped ++ z7) in
    let z5 = codes " appended=" ++ (decimal k.appended ++ z6) in
    let z4 = codes " broadcasts=" ++ (decimal k.broadcasts ++ z5) in
    let z3 = codes " unicasts=" ++ (decimal k.unicasts ++ z4) in
    let z2 = codes " refused=" ++ (decimal k.refused ++ z3) in
    let z1 = codes " replaced=" ++ (decimal k.replaced ++ z2) in
    append (codes "counts") (codes " joined=" ++ (decimal k.joined ++ z1)) refl
    (count (codes " joined=") k.joined z1 refl a.0
    (count (codes " replaced=") k.replaced z2 refl b.0
    (count (codes " refused=") k.refused z3 refl c.0
    (count (codes " unicasts=") k.unicasts z4 refl d.0
    (count (codes " broadcasts=") k.broadcasts z5 refl e.0
    (count (codes " appended=") k.appended z6 refl f.0
    (count (codes " dropped=") k.dropped z7 refl g.0
    (count (codes " full=") k.full z8 refl i.0
    (append (codes " missed=") (decimal k.missed) refl (number k.missed j.0))))))))))

reply : (r : Reply) → reply_is_short r ≡ true → is_clean (reply_text r) ≡ true
reply (Joined conn replaced) h =
    let p = and_parts (is_short conn) (are_short (option_to_list replaced)) h in
    append (codes "joined" ++ codes " " ++ decimal conn) (replacing_words replaced) (named (codes "joined") conn refl p.0) (if_any replaced p.1)
reply (Refused (Duplicate o)) h = holder o h
reply (Refused (TableFull rows)) h = named (codes "tablefull") rows refl h
reply (Refused RefusedStopped) h = refl
reply (Appended conn) h = named (codes "sent") conn refl h
reply (Closed conn) h = named (codes "full") conn refl h
reply (Skipped conn) h = named (codes "long") conn refl h
reply NoHolder h = refl
reply (SentAll to missed skipped) h =
    let p = and_parts (are_short to) (are_short missed && are_short skipped) h in
    let q = and_parts (are_short missed) (are_short skipped) p.1 in
    let a = codes "sentall to=" ++ list_words to in
    let b = a ++ codes " missed=" in
    let c = b ++ list_words missed in
    let d = c ++ codes " skipped=" in
    append d (list_words skipped)
    (append c (codes " skipped=")
    (append b (list_words missed)
    (append a (codes " missed=")
    (append (codes "sentall to=") (list_words to) refl (numbers to p.0)) refl)
    (numbers missed q.0)) refl)
    (numbers skipped q.1)
reply (NotCurrent e) h = append (codes "notcurrent ") (ending_word e) refl (ending e)
reply Stopped h = refl
reply (Gone e taken) h = append (codes "gone ") (ending_word e ++ codes " " ++ decimal taken) refl (named (ending_word e) taken (ending e) h)
reply (Counted k) h = counts k h

pub entry_clean : (place : ℕ) (e : Entry) → HasLine place e → is_clean (entry_line place e) ≡ true
unfolding entry_line
entry_clean place e has =
    let d = codes " " ++ reply_text e.reply in
    let c = call_text e.call e.looks ++ d in
    let b = codes " " ++ c in
    append (decimal place) (then_number e.caller ++ b) (number place has.place_short)
    (append (then_number e.caller) b (behind e.caller has.caller_short)
    (append (codes " ") c refl
    (append (call_text e.call e.looks) d (call e.call e.looks has.call_short has.looks_short has.octets)
    (append (codes " ") (reply_text e.reply) refl (reply e.reply has.reply_short)))))

pub denial_clean : (d : Denial) → DenialHasOctets d → is_clean (denial_line d) ≡ true
unfolding denial_line
denial_clean (OfConnect vmac) h = append (codes "deny 0 connect ") (encode_upper vmac.0) refl (hex vmac.0 h.0)
denial_clean (OfPair rule from to) h =
    let d = codes " to " ++ encode_upper to.0 in
    let c = encode_upper from.0 ++ d in
    let b = codes " from " ++ c in
    append (codes "deny") (then_number rule ++ b) refl
    (append (then_number rule) b (behind rule (short_32 rule h.0))
    (append (codes " from ") c refl
    (append (encode_upper from.0) d (hex from.0 h.1.0)
    (append (codes " to ") (encode_upper to.0) refl (hex to.0 h.2.0)))))
