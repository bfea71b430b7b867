-- What the looks at a connection found: with an entry more, where nobody has joined yet, and the newest of it.
-- It serves clauses of functions of `connecting`, `desk`, `looking` and `rows`.
use Rattle.std.proofs.Common.{◌≡◌, ℕ, ◌+◌, ◌<◌, ◌==◌, Bool, true, false, not, ◌||◌, cond, List, [], ◌∷◌, ◌++◌, length, map, filter, flat_map, fold, is_none, is_some, Some}
use Rattle.std.proofs.Common.{option_to_list, refl, ap, sym, ◌∙◌, arith, append-nil, length-append}
use Rattle.std.specs.List.{list_any}
use Rattle.std.proofs.lemmas.Bool.{and_left, or_parts}
use Rattle.std.proofs.lemmas.Grind.{flat_map-append}
use Rattle.bsc_history.specs.declared.limits.About.{About}
use Rattle.bsc_history.specs.declared.call.Call.{Call}
use Rattle.bsc_history.specs.declared.call.Call.TheVariants.{Forward}
use Rattle.bsc_history.specs.declared.connection.Connection.{Connection}
use Rattle.bsc_history.specs.declared.entry.Entry.{Entry}
use Rattle.bsc_history.specs.declared.looks.Look.{Look}
use Rattle.bsc_history.specs.declared.mark.Stamped.{Stamped}
use Rattle.bsc_history.specs.Entries.{connection_of, joins}
use Rattle.bsc_history.specs.Ends.{ended, is_live, joined, live, numbered}
use Rattle.bsc_history.specs.Laws.{is_among}
use Rattle.bsc_history.specs.Legality.{Legal, looks_at}
use Rattle.bsc_history.specs.Marks.{entries}
use Rattle.bsc_history.specs.Outboxes.{is_too_long, looked, means, meant, newer, out_of}
use Rattle.bsc_history.specs.Replies.{is_stopped, numbers}
use Rattle.bsc_history.proofs.Fresh.{fresh_joins}
use Rattle.bsc_history.proofs.More.{along, joined-more}
use Rattle.bsc_history.proofs.Named.{live_until_ended}
use Rattle.bsc_ring.specs.declared.ends.Inlet.{Inlet}
use Rattle.bsc_ring.specs.Ends.{loads}
use Rattle.bsc_ring.specs.Lists.{newest}
use Rattle.bsc_desk.specs.Standing.{IsInletOf, all_found, found_at}

-- with more looks, and with an entry more

found_at-append : (c : ℕ) (ks ls : List Look) → found_at c (ks ++ ls) ≡ found_at c ks ++ found_at c ls
found_at-append c [] ls = refl
found_at-append c (k ∷ ks) ls =
    let rest = found_at-append c ks ls in
    let T = map (λ (l : Look). l.taken) in
    let P = filter (λ (l : Look). l.conn == c) in
    elim (k.conn == c) as (λ b. T (cond b (k ∷ P (ks ++ ls)) (P (ks ++ ls))) ≡ T (cond b (k ∷ P ks) (P ks)) ++ found_at c ls) [
      | true ↦ ap (λ (l : List ℕ). k.taken ∷ l) rest
      | false ↦ rest
    ]

pub all_found-more : (H : List Entry) (e : Entry) (c : ℕ) → all_found (H ++ e ∷ []) c ≡ all_found H c ++ found_at c e.looks
unfolding all_found
all_found-more H e c =
    let f = λ (x : Entry). x.looks in
    ap (found_at c) (flat_map-append f H (e ∷ []) ∙ ap (λ (l : List Look). flat_map f H ++ l) (append-nil e.looks))
    ∙ found_at-append c (flat_map f H) e.looks

-- the newest

newest_from : (c n : ℕ) (looks : List Look) → fold (newer c) n looks ≡ newest (n ∷ found_at c looks)
unfolding newest
newest_from c n [] = refl
newest_from c n (k ∷ ks) =
    let F = filter (λ (l : Look). l.conn == c) ks in
    elim (k.conn == c) as (λ b. fold (newer c) (cond b k.taken n) ks ≡ newest (n ∷ map (λ (l : Look). l.taken) (cond b (k ∷ F) F))) [
      | true ↦ newest_from c k.taken ks
      | false ↦ newest_from c n ks
    ]

newest_zero : (l : List ℕ) → newest (0 ∷ l) ≡ newest l
unfolding newest
newest_zero [] = refl
newest_zero (n ∷ l) = refl

newest_found : (H : List Entry) (c : ℕ) → newest (all_found H c) ≡ looked H c
unfolding all_found looked
newest_found H c =
    let looks = flat_map (λ (x : Entry). x.looks) H in
    sym (newest_zero (found_at c looks)) ∙ sym (newest_from c 0 looks)

-- The newest load of a connection's inlet is the newest look at the connection.
pub newest_look : (a : About) (S : List Stamped) (c : ℕ) (i : Inlet) → IsInletOf a S c i → newest (loads i) ≡ looked (entries S) c
newest_look a S c i p = ap newest p.looks ∙ newest_found (entries S) c

-- before it joins nobody looks at a connection

among_numbered : (c : ℕ) (xs : List Connection) → is_among c (numbers xs) ≡ is_some (numbered c xs)
among_numbered c [] = refl
among_numbered c (x ∷ xs) =
    elim (x.number == c) as (λ b. (b || is_among c (numbers xs)) ≡ is_some (cond b (Some x) (numbered c xs))) [
      | true ↦ refl
      | false ↦ among_numbered c xs
    ]

none_kept : (c : ℕ) (p : Connection → Bool) (xs : List Connection) → is_among c (numbers xs) ≡ false → is_among c (numbers (filter p xs)) ≡ false
none_kept c p [] none = refl
none_kept c p (x ∷ xs) none =
    let two = or_parts (x.number == c) (is_among c (numbers xs)) none in
    let rest = none_kept c p xs two.1 in
    elim (p x) as (λ b. is_among c (numbers (cond b (x ∷ filter p xs) (filter p xs))) ≡ false) [
      | true ↦ ap (λ (b : Bool). b || is_among c (numbers (filter p xs))) two.0 ∙ rest
      | false ↦ rest
    ]

not_looked_at : (G : List Entry) (c : ℕ) (call : Call) → is_live G c ≡ false → is_among c (looks_at G call) ≡ false
not_looked_at G c (Forward sender m) out =
    let short = λ (x : Connection). not (is_too_long (out_of G sender m) x) in
    let none = none_kept c short (meant G sender m) (none_kept c (means m sender) (live G) (among_numbered c (live G) ∙ out)) in
    elim (is_stopped G || not (is_none (ended G sender))) as (λ b. is_among c (cond b [] (numbers (filter short (meant G sender m)))) ≡ false) [
      | true ↦ refl
      | false ↦ none
    ]
not_looked_at G c call out = refl

none_found_at : (c : ℕ) (looks : List Look) → is_among c (map (λ k. k.conn) looks) ≡ false → found_at c looks ≡ []
none_found_at c [] none = refl
none_found_at c (k ∷ ks) none =
    let two = or_parts (k.conn == c) (is_among c (map (λ (l : Look). l.conn) ks)) none in
    let F = filter (λ (l : Look). l.conn == c) ks in
    ap (λ (b : Bool). map (λ (l : Look). l.taken) (cond b (k ∷ F) F)) two.0 ∙ none_found_at c ks two.1

pub fresh_found : (a : About) (H : List Entry) (c : ℕ) → Legal a H → length (joined H) < c → all_found H c ≡ []
unfolding all_found
fresh_found a H c legal = along a (λ G. length (joined G) < c → all_found G c ≡ []) (λ above. refl) (λ G e legalG p lawful above.
    let grown : length (joined (G ++ e ∷ [])) ≡ length (joined G) + length (option_to_list (connection_of e)) = ap length (joined-more G e)
    ∙ length-append (joined G) (option_to_list (connection_of e)) in
    let before : length (joined G) < c = omega arith in
    let out : is_live G c ≡ false = live_until_ended a G legalG c
    ∙ and_left (list_any (joins c) G) (is_none (ended G c)) (fresh_joins a G c legalG before) in
    let none : found_at c e.looks ≡ [] = none_found_at c e.looks (ap (is_among c) lawful.named ∙ not_looked_at G c e.call out) in
    all_found-more G e c ∙ ap (λ (l : List ℕ). all_found G c ++ l) none ∙ append-nil (all_found G c) ∙ p before) H legal
