-- What a Forward finds where a look of it finds an outbox full.
-- It serves the clauses of `full_closes`, `full_misses` and `one_of_three`.
use Rattle.std.proofs.Common.{◌≡◌, inl, inr, ℕ, ◌==◌, Bool, true, false, not, ◌&&◌, ◌||◌, cond, List, [], ◌∷◌, ◌++◌, map, filter, Option, Some, None, is_some, refl, ap, sym, ◌∙◌, append-nil}
use Rattle.std.specs.List.{list_any}
use Rattle.std.proofs.lemmas.Bool.{eqb-true, and_parts, and_right, or_cases, or_left, or_right, both_ways}
use Rattle.bsc_octets.specs.Forwarding.{destination, is_broadcast}
use Rattle.bsc_history.specs.declared.limits.About.{About}
use Rattle.bsc_history.specs.declared.call.Call.{Call}
use Rattle.bsc_history.specs.declared.call.Call.TheVariants.{Forward}
use Rattle.bsc_history.specs.declared.ending.End.{End}
use Rattle.bsc_history.specs.declared.entry.Entry.{Entry}
use Rattle.bsc_history.specs.declared.looks.Look.{Look}
use Rattle.bsc_history.specs.declared.reply.Reply.TheVariants.{Stopped}
use Rattle.bsc_history.specs.declared.connection.Connection.{Connection}
use Rattle.bsc_history.specs.Entries.{moment}
use Rattle.bsc_history.specs.Ends.{ended, is_live, numbered}
use Rattle.bsc_history.specs.Holders.{holder}
use Rattle.bsc_history.specs.Outboxes.{added_by, finds_full, is_found_full, is_too_long, meant, out_of, sent, takes}
use Rattle.bsc_history.specs.Replies.{broadcast_reply, forward_reply, is_stopped, numbers, reply, unicast_reply, unless_ended}
use Rattle.bsc_history.specs.Legality.{Lawful, looks_at}
use Rattle.bsc_history.specs.Laws.{is_among}
use Rattle.bsc_history.proofs.Lists.{none_passes}
use Rattle.bsc_history.proofs.More.{sent-more}
use Rattle.bsc_history.proofs.Named.{among_filter, and_true}
use Rattle.bsc_history.proofs.Common.{aimed as looked_at}

-- the look that finds it full names it
pub look_names : (f : Look → Bool) (c : ℕ) (looks : List Look) → list_any (λ k. (k.conn == c) && f k) looks ≡ true → is_among c (map (λ k. k.conn) looks) ≡ true
look_names f c [] h = h
look_names f c (k ∷ ks) h = elim (or_cases ((k.conn == c) && f k) (list_any (λ l. (l.conn == c) && f l) ks) h) [
  | inl here ↦ or_left (k.conn == c) (is_among c (map (λ l. l.conn) ks)) (and_parts (k.conn == c) (f k) here).0
  | inr later ↦ or_right (k.conn == c) (is_among c (map (λ l. l.conn) ks)) (look_names f c ks later)
]

-- whether x is the connection c, and the frame isn't too long for it
abbrev pub fits : List ℕ → ℕ → Connection → Bool
fits o c x = (x.number == c) && not (is_too_long o x)

pub fits_live : (o : List ℕ) (c : ℕ) (p : Connection → Bool) (xs : List Connection) → list_any (fits o c) (filter p xs) ≡ true → is_some (numbered c xs) ≡ true
fits_live o c p [] h = h
fits_live o c p (x ∷ xs) h =
    let rest = fits_live o c p xs in
    let by : (b k : Bool) → (x.number == c) ≡ b → list_any (fits o c) (cond k (x ∷ filter p xs) (filter p xs)) ≡ true
    → is_some (cond b (Some x) (numbered c xs)) ≡ true = λ b k. elim b as (λ b. (x.number == c) ≡ b → list_any (fits o c) (cond k (x ∷ filter p xs) (filter p xs)) ≡ true
    → is_some (cond b (Some x) (numbered c xs)) ≡ true) [
      | true ↦ λ e g. refl
      | false ↦ elim k as (λ k. (x.number == c) ≡ false → list_any (fits o c) (cond k (x ∷ filter p xs) (filter p xs)) ≡ true → is_some (numbered c xs) ≡ true) [
        | true ↦ λ e g. elim (or_cases (fits o c x) (list_any (fits o c) (filter p xs)) g) [
          | inl here ↦ absurd (both_ways (x.number == c) e (and_parts (x.number == c) (not (is_too_long o x)) here).0)
          | inr later ↦ rest later
        ]
        | false ↦ λ e g. rest g
      ]
    ] in
    by (x.number == c) (p x) refl h

-- What a lawful Forward finds where its look finds c full: the hub hasn't stopped, the sender hasn't ended, and c is
-- one of those that the frame means and isn't too long for.
pub found_by : (a : About) (H : List Entry) (e : Entry) (sender : ℕ) (m : List ℕ) (c : ℕ) → Lawful a (moment H e) → e.call ≡ Forward sender m → is_found_full a (sent a H c) e.looks c ≡ true
    → (is_stopped H ≡ false) × (ended H sender ≡ None) × (list_any (fits (out_of H sender m) c) (meant H sender m) ≡ true)
found_by a H e sender m c lawful is full =
    let o = out_of H sender m in
    let xs = meant H sender m in
    let looked : is_among c (looks_at H (Forward sender m)) ≡ true = ap (λ (call : Call). is_among c (looks_at H call)) (sym is) ∙ ap (is_among c) (sym lawful.named)
    ∙ look_names (λ k. finds_full a (sent a H c) k.taken) c e.looks full in
    let at = looked_at (is_stopped H) (ended H sender) c (numbers (filter (λ x. not (is_too_long o x)) xs)) looked in
    (at.0, at.1, sym (among_filter c (λ x. not (is_too_long o x)) (fits o c) (λ x. refl) xs) ∙ at.2)

-- The reply of a lawful Forward where the hub hasn't stopped and the sender hasn't ended.
pub replied_by : (a : About) (H : List Entry) (e : Entry) (sender : ℕ) (m : List ℕ) → Lawful a (moment H e) → e.call ≡ Forward sender m → is_stopped H ≡ false → ended H sender ≡ None
    → e.reply ≡ cond (is_broadcast m) (broadcast_reply a H (out_of H sender m) e.looks (meant H sender m)) (unicast_reply a H m (out_of H sender m) e.looks (holder H (destination m)))
unfolding forward_reply
replied_by a H e sender m lawful is open_hub unended =
    let body = cond (is_broadcast m) (broadcast_reply a H (out_of H sender m) e.looks (meant H sender m)) (unicast_reply a H m (out_of H sender m) e.looks (holder H (destination m))) in
    lawful.replied ∙ ap (λ (call : Call). reply a H call e.looks) is ∙ ap (λ (b : Bool). cond b Stopped (unless_ended (ended H sender) body)) open_hub
    ∙ ap (λ (w : Option End). unless_ended w body) unended

-- at c, which is found full, a connection that the frame isn't too long for is found full
pub same_full : (a : About) (H : List Entry) (o : List ℕ) (looks : List Look) (c : ℕ) → is_found_full a (sent a H c) looks c ≡ true → (x : Connection)
    → ((x.number == c) && (not (is_too_long o x) && is_found_full a (sent a H x.number) looks x.number)) ≡ fits o c x
same_full a H o looks c full x =
    let by : (b : Bool) → (x.number == c) ≡ b → (b && (not (is_too_long o x) && is_found_full a (sent a H x.number) looks x.number)) ≡ (b && not (is_too_long o x)) =
    λ b. elim b as (λ b. (x.number == c) ≡ b → (b && (not (is_too_long o x) && is_found_full a (sent a H x.number) looks x.number)) ≡ (b && not (is_too_long o x))) [
      | true ↦ λ e. ap (λ (k : ℕ). not (is_too_long o x) && is_found_full a (sent a H k) looks k) (eqb-true x.number c e) ∙ ap (λ (k : Bool). not (is_too_long o x) && k) full
          ∙ and_true (not (is_too_long o x))
      | false ↦ λ e. refl
    ] in
    by (x.number == c) refl

-- nothing is added to an outbox that is found full
pub none_takes : (a : About) (o : List ℕ) (entered : List (List ℕ)) (looks : List Look) (c : ℕ) → is_found_full a entered looks c ≡ true → (xs : List Connection)
    → list_any (takes a o entered looks c) xs ≡ false
none_takes a o entered looks c full xs = none_passes (takes a o entered looks c) xs
    (λ x m. ap (λ (k : Bool). (x.number == c) && not (is_too_long o x || k)) full ∙ ap (λ (k : Bool). (x.number == c) && not k) (or_right (is_too_long o x) true refl)
    ∙ and_right (x.number == c) false refl)

-- where no connection that a Forward means takes the frame for c, the outbox of c stays as it is
pub nothing_added : (a : About) (H : List Entry) (e : Entry) (sender : ℕ) (m : List ℕ) (c : ℕ) → e.call ≡ Forward sender m
    → list_any (takes a (out_of H sender m) (sent a H c) e.looks c) (meant H sender m) ≡ false → sent a (H ++ e ∷ []) c ≡ sent a H c
unfolding added_by
nothing_added a H e sender m c is none =
    let o = out_of H sender m in
    let s = sent a H c in
    sent-more a H e c ∙ ap (λ (call : Call). s ++ added_by a H s c call e.looks) is
    ∙ ap (λ (b : Bool). s ++ cond b (o ∷ []) []) (and_right (is_live H sender) (list_any (takes a o s e.looks c) (meant H sender m)) none) ∙ append-nil s
