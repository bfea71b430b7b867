-- The line of an entry is no longer than an audit takes.
-- It serves clauses of functions of `laws`.
use Rattle.std.proofs.Common.{◌≡◌, ℕ, ◌+◌, ◌*◌, ◌≤◌, true, ◌&&◌, List, [], ◌∷◌, ◌++◌, length, flat_map, codes, decimal, Option, Some, None, arith, length-append}
use Rattle.std.specs.List.{list_all}
use Rattle.std.specs.Option.{option_to_list}
use Rattle.std.proofs.lemmas.Bool.{and_parts}
use Rattle.std.proofs.lemmas.Fmt.{length-decimal-le}
use Rattle.hex.specs.Hex.{encode_upper, upper_digits}
use Rattle.hex.proofs.HexLemmas.{length-encode_with}
use Rattle.bsc_octets.specs.Identities.{identity_octets}
use Rattle.bsc_history.specs.declared.call.Call.{Call}
use Rattle.bsc_history.specs.declared.call.Call.TheVariants.{Connect, Forward, Leave, Stop, Count}
use Rattle.bsc_history.specs.declared.counts.Counts.{Counts}
use Rattle.bsc_history.specs.declared.ending.End.{End}
use Rattle.bsc_history.specs.declared.ending.End.TheVariants.{Left, Replaced, Full, Stopped as EndStopped}
use Rattle.bsc_history.specs.declared.entry.Entry.{Entry}
use Rattle.bsc_history.specs.declared.looks.Look.{Look}
use Rattle.bsc_history.specs.declared.reply.Refusal.TheVariants.{Stopped as RefusedStopped, Duplicate, TableFull}
use Rattle.bsc_history.specs.declared.reply.Reply.{Reply}
use Rattle.bsc_history.specs.declared.reply.Reply.TheVariants.{Joined, Refused, Appended, Closed, Skipped, NoHolder, SentAll, NotCurrent, Stopped, Gone, Counted}
use Rattle.bsc_lines.specs.declared.denial.Denial.{Denial}
use Rattle.bsc_lines.specs.declared.denial.Denial.TheVariants.{OfConnect, OfPair}
use Rattle.bsc_lines.specs.Denials.{denial_line}
use Rattle.bsc_lines.specs.Lines.{call_text, entry_line, look_text, looks_text, reply_text, then_number}
use Rattle.bsc_lines.specs.Replies.{counts_words, ending_word, holder_words, list_words, replacing_words}
use Rattle.bsc_journal.specs.Saying.{HasLine, HasOctets, are_short, call_is_short, is_short, look_is_short, reply_is_short}
use Rattle.bsc_journal.proofs.Numbers.{short_below, short_fits}
use Rattle.bsc_session.specs.Notes.Octets.{DenialHasOctets}
use Rattle.bsc_journal_laws.specs.Lines.{IsSmall, frame_size, names_in}
use Rattle.bsc_journal_laws.proofs.Shorts.{short_32}

-- one behind another
pub two : (a b : List ℕ) (m n : ℕ) → length a ≤ m → length b ≤ n → length (a ++ b) ≤ m + n
two a b m n h k = (let long = length-append a b in omega (arith, long, h, k))

pub number : (n : ℕ) → is_short n ≡ true → length (decimal n) ≤ 19
number n h = length-decimal-le 19 n (omega arith) (short_below n h) (short_fits n h)

pub behind : (n : ℕ) → is_short n ≡ true → length (then_number n) ≤ 1 + 19
behind n h = two (codes " ") (decimal n) 1 19 (omega arith) (number n h)

more_numbers : (ns : List ℕ) → are_short ns ≡ true → length (flat_map (λ k. codes "," ++ decimal k) ns) ≤ 20 * length ns
more_numbers [] h = omega arith
more_numbers (n ∷ ns) h =
    let p = and_parts (is_short n) (are_short ns) h in
    let rest = flat_map (λ k. codes "," ++ decimal k) ns in
    let all = two (codes "," ++ decimal n) rest (1 + 19) (20 * length ns) (two (codes ",") (decimal n) 1 19 (omega arith) (number n p.0)) (more_numbers ns p.1) in
    omega (arith, all)

numbers : (ns : List ℕ) → are_short ns ≡ true → length (list_words ns) ≤ 20 * length ns + 1
numbers [] h = omega arith
numbers (n ∷ ns) h =
    let p = and_parts (is_short n) (are_short ns) h in
    let rest = flat_map (λ k. codes "," ++ decimal k) ns in
    let all = two (decimal n) rest 19 (20 * length ns) (number n p.0) (more_numbers ns p.1) in
    omega (arith, all)

look : (k : Look) → look_is_short k ≡ true → length (look_text k) ≤ 19 + (1 + 19)
look k h =
    let p = and_parts (is_short k.conn) (is_short k.taken) h in
    two (decimal k.conn) (codes ":" ++ decimal k.taken) 19 (1 + 19) (number k.conn p.0) (two (codes ":") (decimal k.taken) 1 19 (omega arith) (number k.taken p.1))

more_looks : (ks : List Look) → list_all look_is_short ks ≡ true → length (flat_map (λ l. codes "," ++ look_text l) ks) ≤ 40 * length ks
more_looks [] h = omega arith
more_looks (k ∷ ks) h =
    let p = and_parts (look_is_short k) (list_all look_is_short ks) h in
    let rest = flat_map (λ l. codes "," ++ look_text l) ks in
    let all = two (codes "," ++ look_text k) rest (1 + (19 + (1 + 19))) (40 * length ks) (two (codes ",") (look_text k) 1 (19 + (1 + 19)) (omega arith) (look k p.0)) (more_looks ks p.1) in
    omega (arith, all)

looks : (ks : List Look) → list_all look_is_short ks ≡ true → length (looks_text ks) ≤ 40 * length ks + 1
looks [] h = omega arith
looks (k ∷ ks) h =
    let p = and_parts (look_is_short k) (list_all look_is_short ks) h in
    let rest = flat_map (λ l. codes "," ++ look_text l) ks in
    let all = two (look_text k) rest (19 + (1 + 19)) (40 * length ks) (look k p.0) (more_looks ks p.1) in
    omega (arith, all)

pub hex : (o : List ℕ) → length (encode_upper o) ≤ 2 * length o
hex o = (let long = length-encode_with upper_digits o in omega (arith, long))

call : (c : Call) (ks : List Look) → call_is_short c ≡ true → list_all look_is_short ks ≡ true → HasOctets c → length (call_text c ks) ≤ 2 * frame_size c + 40 * length ks + 100
call (Connect who) ks h k o =
    let long : length (identity_octets who) ≡ 26 = o.long in
    let all = two (codes "connect ") (encode_upper (identity_octets who)) 8 (2 * length (identity_octets who)) (omega arith) (hex (identity_octets who)) in
    omega (arith, all, long)
call (Forward conn frame) ks h k o =
    let d = codes " looks " ++ looks_text ks in
    let c = encode_upper frame ++ d in
    let b = codes " " ++ c in
    let of_d = two (codes " looks ") (looks_text ks) 7 (40 * length ks + 1) (omega arith) (looks ks k) in
    let of_c = two (encode_upper frame) d (2 * length frame) (7 + (40 * length ks + 1)) (hex frame) of_d in
    let of_b = two (codes " ") c 1 (2 * length frame + (7 + (40 * length ks + 1))) (omega arith) of_c in
    let of_a = two (then_number conn) b (1 + 19) (1 + (2 * length frame + (7 + (40 * length ks + 1)))) (behind conn h) of_b in
    let all = two (codes "forward") (then_number conn ++ b) 7 ((1 + 19) + (1 + (2 * length frame + (7 + (40 * length ks + 1))))) (omega arith) of_a in
    omega (arith, all)
call (Leave conn taken empties) ks h k o =
    let p = and_parts (is_short conn) (are_short (taken ∷ empties ∷ [])) h in
    let q = and_parts (is_short taken) (are_short (empties ∷ [])) p.1 in
    let r = and_parts (is_short empties) true q.1 in
    let b = then_number taken ++ then_number empties in
    let of_b = two (then_number taken) (then_number empties) (1 + 19) (1 + 19) (behind taken q.0) (behind empties r.0) in
    let of_a = two (then_number conn) b (1 + 19) ((1 + 19) + (1 + 19)) (behind conn p.0) of_b in
    let all = two (codes "leave") (then_number conn ++ b) 5 ((1 + 19) + ((1 + 19) + (1 + 19))) (omega arith) of_a in
    omega (arith, all)
call Stop ks h k o = omega arith
call Count ks h k o = omega arith

ending : (e : End) → length (ending_word e) ≤ 8
ending Left = omega arith
ending Replaced = omega arith
ending Full = omega arith
ending EndStopped = omega arith

named : (w : List ℕ) (n : ℕ) → length w ≤ 12 → is_short n ≡ true → length (w ++ codes " " ++ decimal n) ≤ (12 + 1) + 19
named w n h k = two (w ++ codes " ") (decimal n) (12 + 1) 19 (two w (codes " ") 12 1 h (omega arith)) (number n k)

if_any : (o : Option ℕ) → are_short (option_to_list o) ≡ true → length (replacing_words o) ≤ (12 + 1) + 19
if_any None h = omega arith
if_any (Some n) h = named (codes " replacing") n (omega arith) (and_parts (is_short n) true h).0

holder : (o : Option ℕ) → are_short (option_to_list o) ≡ true → length (holder_words o) ≤ (12 + 1) + 19
holder None h = omega arith
holder (Some n) h = named (codes "duplicate") n (omega arith) (and_parts (is_short n) true h).0

count : (w : List ℕ) (n : ℕ) (rest : List ℕ) (m : ℕ) → length w ≤ 12 → is_short n ≡ true → length rest ≤ m → length (w ++ (decimal n ++ rest)) ≤ 31 + m
count w n rest m h k l =
    let all = two w (decimal n ++ rest) 12 (19 + m) h (two (decimal n) rest 19 m (number n k) l) in
    omega (arith, all)

counts : (k : Counts) → reply_is_short (Counted k) ≡ true → length (counts_words k) ≤ 6 + 279
counts k h =
    let a = and_parts (is_short k.joined) (are_short (k.replaced ∷ k.refused ∷ k.unicasts ∷ k.broadcasts ∷ k.appended ∷ k.dropped ∷ k.full ∷ k.missed ∷ [])) h in
    let b = and_parts (is_short k.replaced) (are_short (k.refused ∷ k.unicasts ∷ k.broadcasts ∷ k.appended ∷ k.dropped ∷ k.full ∷ k.missed ∷ [])) a.1 in
    let c = and_parts (is_short k.refused) (are_short (k.unicasts ∷ k.broadcasts ∷ k.appended ∷ k.dropped ∷ k.full ∷ k.missed ∷ [])) b.1 in
    let d = and_parts (is_short k.unicasts) (are_short (k.broadcasts ∷ k.appended ∷ k.dropped ∷ k.full ∷ k.missed ∷ [])) c.1 in
    let e = and_parts (is_short k.broadcasts) (are_short (k.appended ∷ k.dropped ∷ k.full ∷ k.missed ∷ [])) d.1 in
    let f = and_parts (is_short k.appended) (are_short (k.dropped ∷ k.full ∷ k.missed ∷ [])) e.1 in
    let g = and_parts (is_short k.dropped) (are_short (k.full ∷ k.missed ∷ [])) f.1 in
    let i = and_parts (is_short k.full) (are_short (k.missed ∷ [])) g.1 in
    let j = and_parts (is_short k.missed) true i.1 in
    let z8 = codes " missed=" ++ decimal k.missed in
    let z7 = codes " full=" ++ (decimal k.full ++ z8) in
    let z6 = codes " dropped=" ++ (decimal k.dropped ++ z7) in
    let z5 = codes " appended=" ++ (decimal k.appended ++ z6) in
    let z4 = codes " broadcasts=" ++ (decimal k.broadcasts ++ z5) in
    let z3 = codes " unicasts=" ++ (decimal k.unicasts ++ z4) in
    let z2 = codes " refused=" ++ (decimal k.refused ++ z3) in
    let z1 = codes " replaced=" ++ (decimal k.replaced ++ z2) in
    let o8 = two (codes " missed=") (decimal k.missed) 12 19 (omega arith) (number k.missed j.0) in
    let o7 = count (codes " full=") k.full z8 31 (omega arith) i.0 o8 in
    let o6 = count (codes " dropped=") k.dropped z7 62 (omega arith) g.0 o7 in
    let o5 = count (codes " appended=") k.appended z6 93 (omega arith) f.0 o6 in
    let o4 = count (codes " broadcasts=") k.broadcasts z5 124 (omega arith) e.0 o5 in
    let o3 = count (codes " unicasts=") k.unicasts z4 155 (omega arith) d.0 o4 in
    let o2 = count (codes " refused=") k.refused z3 186 (omega arith) c.0 o3 in
    let o1 = count (codes " replaced=") k.replaced z2 217 (omega arith) b.0 o2 in
    let o0 = count (codes " joined=") k.joined z1 248 (omega arith) a.0 o1 in
    two (codes "counts") (codes " joined=" ++ (decimal k.joined ++ z1)) 6 279 (omega arith) o0

reply : (r : Reply) → reply_is_short r ≡ true → length (reply_text r) ≤ 20 * names_in r + 300
reply (Joined conn replaced) h =
    let p = and_parts (is_short conn) (are_short (option_to_list replaced)) h in
    let all = two (codes "joined" ++ codes " " ++ decimal conn) (replacing_words replaced) ((12 + 1) + 19) ((12 + 1) + 19) (named (codes "joined") conn (omega arith) p.0) (if_any replaced p.1) in
    omega (arith, all)
reply (Refused (Duplicate o)) h = (let all = holder o h in omega (arith, all))
reply (Refused (TableFull rows)) h = (let all = named (codes "tablefull") rows (omega arith) h in omega (arith, all))
reply (Refused RefusedStopped) h = omega arith
reply (Appended conn) h = (let all = named (codes "sent") conn (omega arith) h in omega (arith, all))
reply (Closed conn) h = (let all = named (codes "full") conn (omega arith) h in omega (arith, all))
reply (Skipped conn) h = (let all = named (codes "long") conn (omega arith) h in omega (arith, all))
reply NoHolder h = omega arith
reply (SentAll to missed skipped) h =
    let p = and_parts (are_short to) (are_short missed && are_short skipped) h in
    let q = and_parts (are_short missed) (are_short skipped) p.1 in
    let a = codes "sentall to=" ++ list_words to in
    let b = a ++ codes " missed=" in
    let c = b ++ list_words missed in
    let d = c ++ codes " skipped=" in
    let of_a = two (codes "sentall to=") (list_words to) 11 (20 * length to + 1) (omega arith) (numbers to p.0) in
    let of_b = two a (codes " missed=") (11 + (20 * length to + 1)) 8 of_a (omega arith) in
    let of_c = two b (list_words missed) ((11 + (20 * length to + 1)) + 8) (20 * length missed + 1) of_b (numbers missed q.0) in
    let of_d = two c (codes " skipped=") (((11 + (20 * length to + 1)) + 8) + (20 * length missed + 1)) 9 of_c (omega arith) in
    let all = two d (list_words skipped) ((((11 + (20 * length to + 1)) + 8) + (20 * length missed + 1)) + 9) (20 * length skipped + 1) of_d (numbers skipped q.1) in
    omega (arith, all)
reply (NotCurrent e) h = (let all = two (codes "notcurrent ") (ending_word e) 11 8 (omega arith) (ending e) in omega (arith, all))
reply Stopped h = omega arith
reply (Gone e taken) h =
    let word = ending e in
    let all = two (codes "gone ") (ending_word e ++ codes " " ++ decimal taken) 5 ((12 + 1) + 19) (omega arith) (named (ending_word e) taken (omega (arith, word)) h) in
    omega (arith, all)
reply (Counted k) h = (let all = counts k h in omega (arith, all))

pub entry_long : (place : ℕ) (e : Entry) → HasLine place e → length (entry_line place e) ≤ 2 * frame_size e.call + 40 * length e.looks + 20 * names_in e.reply + 500
unfolding entry_line
entry_long place e has =
    let d = codes " " ++ reply_text e.reply in
    let c = call_text e.call e.looks ++ d in
    let b = codes " " ++ c in
    let R = 20 * names_in e.reply + 300 in
    let K = 2 * frame_size e.call + 40 * length e.looks + 100 in
    let of_d = two (codes " ") (reply_text e.reply) 1 R (omega arith) (reply e.reply has.reply_short) in
    let of_c = two (call_text e.call e.looks) d K (1 + R) (call e.call e.looks has.call_short has.looks_short has.octets) of_d in
    let of_b = two (codes " ") c 1 (K + (1 + R)) (omega arith) of_c in
    let of_a = two (then_number e.caller) b (1 + 19) (1 + (K + (1 + R))) (behind e.caller has.caller_short) of_b in
    let all = two (decimal place) (then_number e.caller ++ b) 19 ((1 + 19) + (1 + (K + (1 + R)))) (number place has.place_short) of_a in
    omega (arith, all)

pub denial_long : (d : Denial) → DenialHasOctets d → length (denial_line d) ≤ 100
unfolding denial_line
denial_long (OfConnect vmac) h =
    let long : length vmac.0 ≡ 6 = h.1 in
    let all = two (codes "deny 0 connect ") (encode_upper vmac.0) 15 (2 * length vmac.0) (omega arith) (hex vmac.0) in
    omega (arith, all, long)
denial_long (OfPair rule from to) h =
    let one : length from.0 ≡ 6 = h.1.1 in
    let other : length to.0 ≡ 6 = h.2.1 in
    let d = codes " to " ++ encode_upper to.0 in
    let c = encode_upper from.0 ++ d in
    let b = codes " from " ++ c in
    let of_d = two (codes " to ") (encode_upper to.0) 4 (2 * length to.0) (omega arith) (hex to.0) in
    let of_c = two (encode_upper from.0) d (2 * length from.0) (4 + 2 * length to.0) (hex from.0) of_d in
    let of_b = two (codes " from ") c 6 (2 * length from.0 + (4 + 2 * length to.0)) (omega arith) of_c in
    let of_a = two (then_number rule) b (1 + 19) (6 + (2 * length from.0 + (4 + 2 * length to.0))) (behind rule (short_32 rule h.0)) of_b in
    let all = two (codes "deny") (then_number rule ++ b) 4 ((1 + 19) + (6 + (2 * length from.0 + (4 + 2 * length to.0)))) (omega arith) of_a in
    omega (arith, all, one, other)

-- The line of an entry fits.
pub lines_fit : (place : ℕ) (e : Entry) → HasLine place e → IsSmall e → length (entry_line place e) ≤ 300000
lines_fit place e has small =
    let all = entry_long place e has in
    let frame = small.frame in
    let few = small.looks in
    let names = small.names in
    omega (arith, all, frame, few, names)
