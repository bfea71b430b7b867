-- A state tells exactly which condition an entry breaks behind the history that it stands for, and a condition is broken exactly
-- where the history isn't legal any more.
-- It serves clauses of functions of `breaching`, `laws` and `legality`.
use Rattle.std.proofs.Common.{◌≡◌, ◌↔◌, ◌≤◌, ◌-◌, inl, inr, ℕ, Bool, true, false, not, ◌&&◌, ◌||◌, cond, nat_le, nat_lt, List, [], ◌∷◌, ◌++◌, length, map, filter, Option, Some}
use Rattle.std.proofs.Common.{None, IsTrue, refl, ap, sym, ◌∙◌, subst, append_assoc, append-nil, arith, drop, get_or, take, Result, Ok, Err, IfOk}
use Rattle.std.specs.List.{list_any, list_all}
use Rattle.std.specs.Option.{option_or}
use Rattle.std.proofs.lemmas.Bool.{and_from, and_parts}
use Rattle.std.proofs.lemmas.List.{take_all}
use Rattle.bsc_octets.specs.Addresses.{broadcast, same_vmac, zero_vmac}
use Rattle.bsc_octets.specs.Forwarding.{has_route}
use Rattle.bsc_history.specs.declared.limits.About.{About}
use Rattle.bsc_history.specs.declared.call.Call.{Call}
use Rattle.bsc_history.specs.declared.call.Call.TheVariants.{Connect, Forward, Leave, Stop, Count}
use Rattle.bsc_history.specs.declared.entry.Entry.{Entry}
use Rattle.bsc_history.specs.declared.looks.Look.{Look}
use Rattle.bsc_history.specs.declared.reply.Reply.{Reply}
use Rattle.bsc_history.specs.Entries.{moment}
use Rattle.bsc_history.specs.Legality.{can_find, is_of, looks_at, may_call, Lawful, Legal}
use Rattle.bsc_history.specs.Outboxes.{looked, sent}
use Rattle.bsc_history.specs.Replies.{is_stopped, reply}
use Rattle.bsc_history.proofs.Lists.{In}
use Rattle.bsc_history.proofs.More.{Legal-front, Legal-more}
use Rattle.bsc_legality.specs.declared.breach.Breach.{Breach}
use Rattle.bsc_legality.specs.declared.breach.Breach.TheVariants.{Address, NotOwn, NoRoute, Calls, AfterStop, Outboxes, Taken, Due}
use Rattle.bsc_legality.specs.declared.row.Row.{Row}
use Rattle.bsc_legality.specs.declared.legality.Legality.{Legality}
use Rattle.bsc_legality.specs.Breaches.{breach, call_breach, calls_breach, look_breach, outbox_breach, reply_breach, taken_breach}
use Rattle.bsc_legality.specs.BreachesIn.{IsRouted, breach_in, call_breach_in, calls_breach_in, look_breach_in, outbox_breach_in, reply_breach_in, taken_breach_in}
use Rattle.bsc_legality.specs.Deciding.{conns, due, is_of_in, looks_due, may_call_in}
use Rattle.bsc_legality.specs.Rows.{can_find_at, has_number, row_of}
use Rattle.bsc_legality.specs.Sameness.{same_numbers, same_reply}
use Rattle.bsc_legality.specs.Standing.{LegalityStands}
use Rattle.bsc_legality.proofs.Decides.{Has, Seated, Stands, due_rows, due_same, has, has_of, looks_same, of_same, seated, stands_own}
use Rattle.bsc_legality.proofs.Sameness.{numbers_same, numbers_self, reply_same, reply_self}

-- ---- lists that are filtered

-- what comes first, and what follows it
pub cut_first : {A : Type 0} (xs ys : List A) (x d : A) → 1 ≤ length xs → x ≡ get_or xs 0 d → take (length xs - 1) (drop 1 xs) ≡ ys → xs ≡ x ∷ ys
cut_first [] ys x d h e p = absurd (omega (arith, h))
cut_first {A} (y ∷ zs) ys x d h e p = ap (λ (z : A). z ∷ zs) (sym e) ∙ ap (λ (l : List A). x ∷ l) (sym (take_all (length (y ∷ zs) - 1) zs (omega arith)) ∙ p)

-- the number of what passes was put behind others, in front of those that are left
kept_front : {A : Type 0} (f : A → ℕ) (b : Bool) (made new : List ℕ) (x : A) (F : List A) → new ≡ made ++ cond b (f x ∷ []) [] → new ++ map f F ≡ made ++ map f (cond b (x ∷ F) F)
kept_front f true made new x F e = ap (λ (l : List ℕ). l ++ map f F) e ∙ append_assoc made (f x ∷ []) (map f F)
kept_front f false made new x F e = ap (λ (l : List ℕ). l ++ map f F) e ∙ ap (λ (l : List ℕ). l ++ map f F) (append-nil made)

-- The number of what comes first was put behind others, where it passes: the numbers so far, and those of what follows, are all.
pub kept_first : {A : Type 0} (f : A → ℕ) (p : A → Bool) (b : Bool) (made new total : List ℕ) (xs ys : List A) (x : A) → xs ≡ x ∷ ys → b ≡ p x →
    new ≡ made ++ cond b (f x ∷ []) [] → made ++ map f (filter p xs) ≡ total → new ++ map f (filter p ys) ≡ total
kept_first {A} f p b made new total xs ys x cut passes put all =
    kept_front f (p x) made new x (filter p ys) (put ∙ ap (λ (c : Bool). made ++ cond c (f x ∷ []) []) passes)
    ∙ ap (λ (zs : List A). made ++ map f (filter p zs)) (sym cut) ∙ all

-- nothing is left
pub kept_none : {A : Type 0} (f : A → ℕ) (p : A → Bool) (made total : List ℕ) (xs : List A) → xs ≡ [] → made ++ map f (filter p xs) ≡ total → made ≡ total
kept_none {A} f p made total xs none all = sym (append-nil made) ∙ ap (λ (zs : List A). made ++ map f (filter p zs)) (sym none) ∙ all

-- what is so of what was made
pub if_made : {A B : Type 0} (P Q : A → Type 0) (r : Result A B) → ((x : A) → P x → Q x) → IfOk r P → IfOk r Q
if_made P Q (Ok x) f h = f x h
if_made P Q (Err e) f h = tt

-- ---- where nothing is broken

abbrev Broken : Type 0
Broken = Option Breach

none_if : (b : Bool) (x : Breach) → cond {A = Broken} b None (Some x) ≡ None → b ≡ true
none_if true x h = refl
none_if false x h = absurd (let no : Some x ≡ None = h in cc)

none_then : (b : Bool) (t : Broken) (x : Breach) → cond {A = Broken} b t (Some x) ≡ None → (b ≡ true) × (t ≡ None)
none_then true t x h = (refl, h)
none_then false t x h = absurd (let no : Some x ≡ None = h in cc)

none_else : (b : Bool) (t : Broken) (x : Breach) → cond {A = Broken} b (Some x) t ≡ None → (b ≡ false) × (t ≡ None)
none_else true t x h = absurd (let no : Some x ≡ None = h in cc)
none_else false t x h = (refl, h)

none_or : (o p : Broken) → option_or o p ≡ None → (o ≡ None) × (p ≡ None)
none_or None p h = (refl, h)
none_or (Some x) p h = absurd (let no : Some x ≡ None = h in cc)

neither : (z b : Bool) → (z || b) ≡ false → (not z && not b) ≡ true
neither true b h = absurd (let no : true ≡ false = h in cc)
neither false true h = absurd (let no : true ≡ false = h in cc)
neither false false h = refl

not_either : (z b : Bool) → (not z && not b) ≡ true → (z || b) ≡ false
not_either true b h = absurd (let no : false ≡ true = h in cc)
not_either false true h = absurd (let no : false ≡ true = h in cc)
not_either false false h = refl

not_so : (b : Bool) → not b ≡ true → b ≡ false
not_so true h = absurd (let no : false ≡ true = h in cc)
not_so false h = refl

-- nothing is broken by what is so
kept_if : (b : Bool) (x : Breach) → b ≡ true → cond {A = Broken} b None (Some x) ≡ None
kept_if b x e = ap (λ (c : Bool). cond {A = Broken} c None (Some x)) e

kept_then : (b : Bool) (t : Broken) (x : Breach) → b ≡ true → t ≡ None → cond {A = Broken} b t (Some x) ≡ None
kept_then b t x e n = ap (λ (c : Bool). cond {A = Broken} c t (Some x)) e ∙ n

kept_else : (b : Bool) (t : Broken) (x : Breach) → b ≡ false → t ≡ None → cond {A = Broken} b (Some x) t ≡ None
kept_else b t x e n = ap (λ (c : Bool). cond {A = Broken} c (Some x) t) e ∙ n

kept_or : (o p : Broken) → o ≡ None → p ≡ None → option_or o p ≡ None
kept_or o p e n = ap (λ (q : Broken). option_or q p) e ∙ n

-- ---- calls, by a state

taken_can : (w : Option Row) (c taken : ℕ) → taken_breach_in w c taken ≡ None → can_find_at w taken ≡ true
taken_can None c taken h = absurd (let no : Some (Taken c taken 0 0) ≡ None = h in cc)
taken_can (Some r) c taken h = none_if (nat_le r.looked taken && nat_le taken r.entered) (Taken c taken r.looked r.entered) h

may_from : (l : Legality) (caller : ℕ) (call : Call) → call_breach_in l caller call ≡ None → may_call_in l caller call ≡ true
may_from l caller (Connect who) h =
    let z = same_vmac who.vmac zero_vmac in
    let b = same_vmac who.vmac broadcast in
    let k = none_else (z || b) (calls_breach_in l) Address h in
    let lt = nat_lt l.entries l.about.limits.calls in
    and_from (not z && not b) lt (neither z b k.0) (none_if lt (Calls l.about.limits.calls) k.1)
may_from l caller (Forward sender m) h =
    let lt = nat_lt l.entries l.about.limits.calls in
    let own = is_of_in l.rows.items caller sender in
    let k = none_then own (cond {A = Broken} (has_route m) (calls_breach_in l) (Some NoRoute)) (NotOwn sender) h in
    let r = none_then (has_route m) (calls_breach_in l) NoRoute k.1 in
    and_from (own && has_route m) lt (and_from own (has_route m) k.0 r.0) (none_if lt (Calls l.about.limits.calls) r.1)
may_from l caller (Leave conn taken empties) h =
    let own = is_of_in l.rows.items caller conn in
    let w = row_of l.rows.items conn in
    let k = none_then own (taken_breach_in w conn taken) (NotOwn conn) h in
    and_from own (can_find_at w taken) k.0 (taken_can w conn taken k.1)
may_from l caller Stop h = ap not (none_else l.stopped None AfterStop h).0
may_from l caller Count h = none_if (nat_lt l.entries l.about.limits.calls) (Calls l.about.limits.calls) h

pub routed : (l : Legality) (caller : ℕ) (call : Call) → call_breach_in l caller call ≡ None → IsRouted call
routed l caller (Connect who) h = tt
routed l caller (Forward sender m) h =
    let k = none_then (is_of_in l.rows.items caller sender) (cond {A = Broken} (has_route m) (calls_breach_in l) (Some NoRoute)) (NotOwn sender) h in
    (none_then (has_route m) (calls_breach_in l) NoRoute k.1).0
routed l caller (Leave conn taken empties) h = tt
routed l caller Stop h = tt
routed l caller Count h = tt

-- ---- a state and its history

calls_same : (l : Legality) (H : List Entry) → Stands l H → calls_breach_in l ≡ calls_breach l.about H
calls_same l H s = ap (λ (n : ℕ). cond {A = Broken} (nat_lt n l.about.limits.calls) None (Some (Calls l.about.limits.calls))) s.count

taken_same : (l : Legality) (H : List Entry) (c taken : ℕ) → Has l H c → taken_breach_in (row_of l.rows.items c) c taken ≡ taken_breach l.about H c taken
taken_same l H c taken h =
    let r = h.row in
    ap (λ (w : Option Row). taken_breach_in w c taken) h.finds
    ∙ ap (λ (n : ℕ). cond {A = Broken} (nat_le n taken && nat_le taken r.entered) None (Some (Taken c taken n r.entered))) (h.is.newest ∙ ap (looked H) h.number_so)
    ∙ ap (λ (n : ℕ). cond {A = Broken} (nat_le (looked H c) taken && nat_le taken n) None (Some (Taken c taken (looked H c) n))) (h.is.frames ∙ ap (λ (k : ℕ). length (sent l.about H k)) h.number_so)

called_same : (l : Legality) (H : List Entry) (caller : ℕ) (call : Call) → Stands l H → call_breach_in l caller call ≡ call_breach l.about H caller call
called_same l H caller (Connect who) s = ap (λ (o : Broken). cond {A = Broken} (same_vmac who.vmac zero_vmac || same_vmac who.vmac broadcast) (Some Address) o) (calls_same l H s)
called_same l H caller (Forward sender m) s =
    ap (λ (b : Bool). cond {A = Broken} b (cond {A = Broken} (has_route m) (calls_breach_in l) (Some NoRoute)) (Some (NotOwn sender))) (of_same l H caller sender s)
    ∙ ap (λ (o : Broken). cond {A = Broken} (is_of H caller sender) (cond {A = Broken} (has_route m) o (Some NoRoute)) (Some (NotOwn sender))) (calls_same l H s)
called_same l H caller (Leave conn taken empties) s =
    let rows = l.rows.items in
    let T = taken_breach_in (row_of rows conn) conn taken in
    let U = taken_breach l.about H conn taken in
    let N : Broken = Some (NotOwn conn) in
    let by : (b : Bool) → is_of_in rows caller conn ≡ b → cond {A = Broken} b T N ≡ cond {A = Broken} b U N =
    λ b. elim b as (λ b. is_of_in rows caller conn ≡ b → cond {A = Broken} b T N ≡ cond {A = Broken} b U N) [
      | true ↦ λ e. taken_same l H conn taken (has_of l H caller conn s e)
      | false ↦ λ e. refl
    ] in
    by (is_of_in rows caller conn) refl ∙ ap (λ (b : Bool). cond {A = Broken} b U N) (of_same l H caller conn s)
called_same l H caller Stop s = ap (λ (b : Bool). cond {A = Broken} b (Some AfterStop) None) s.stopped_so
called_same l H caller Count s = calls_same l H s

looks_are_same : (l : Legality) (H : List Entry) (looks : List Look) → Stands l H → ((c : ℕ) → In c (conns looks) → list_any (has_number c) l.rows.items ≡ true)
    → look_breach_in l.rows.items looks ≡ look_breach l.about H looks
looks_are_same l H [] s named = refl
looks_are_same l H (k ∷ looks) s named =
    ap (λ (o : Broken). option_or o (look_breach_in l.rows.items looks)) (taken_same l H k.conn k.taken (has l H k.conn s (named k.conn (inl refl))))
    ∙ ap (option_or (taken_breach l.about H k.conn k.taken)) (looks_are_same l H looks s (λ c m. named c (inr m)))

-- where the looks are at whom they have to be
said_same : (l : Legality) (H : List Entry) (e : Entry) → Stands l H → Seated l H e.call → conns e.looks ≡ looks_due l e.call →
    option_or (look_breach_in l.rows.items e.looks) (reply_breach_in l e) ≡ option_or (look_breach l.about H e.looks) (reply_breach l.about H e)
said_same l H e s sits named =
    ap (λ (o : Broken). option_or o (reply_breach_in l e)) (looks_are_same l H e.looks s (λ c m. due_rows l e.call c (subst (In c) named m)))
    ∙ ap (option_or (look_breach l.about H e.looks)) (ap (λ (r : Reply). cond {A = Broken} (same_reply e.reply r) None (Some (Due r))) (due_same l H e.call e.looks s sits named))

-- where the caller may call
rest_same : (l : Legality) (H : List Entry) (e : Entry) → Stands l H → Seated l H e.call →
    option_or (outbox_breach_in l e.call e.looks) (option_or (look_breach_in l.rows.items e.looks) (reply_breach_in l e))
    ≡ option_or (outbox_breach H e.call e.looks) (option_or (look_breach l.about H e.looks) (reply_breach l.about H e))
rest_same l H e s sits =
    let A = option_or (look_breach_in l.rows.items e.looks) (reply_breach_in l e) in
    let B = option_or (look_breach l.about H e.looks) (reply_breach l.about H e) in
    let O = outbox_breach_in l e.call e.looks in
    let by : (o : Broken) → O ≡ o → option_or o A ≡ option_or o B = λ o. elim o as (λ o. O ≡ o → option_or o A ≡ option_or o B) [
      | None ↦ λ h. said_same l H e s sits (numbers_same (conns e.looks) (looks_due l e.call) (none_if (same_numbers (conns e.looks) (looks_due l e.call)) (Outboxes (looks_due l e.call)) h))
      | Some x ↦ λ h. refl
    ] in
    by O refl
    ∙ ap (λ (o : Broken). option_or o B) (ap (λ (ks : List ℕ). cond {A = Broken} (same_numbers (conns e.looks) ks) None (Some (Outboxes ks))) (looks_same l H e.call s sits))

own_same : (l : Legality) (H : List Entry) (e : Entry) → Stands l H → breach_in l e ≡ breach l.about H e
own_same l H e s =
    let A = option_or (outbox_breach_in l e.call e.looks) (option_or (look_breach_in l.rows.items e.looks) (reply_breach_in l e)) in
    let B = option_or (outbox_breach H e.call e.looks) (option_or (look_breach l.about H e.looks) (reply_breach l.about H e)) in
    let C = call_breach_in l e.caller e.call in
    let by : (o : Broken) → C ≡ o → option_or o A ≡ option_or o B = λ o. elim o as (λ o. C ≡ o → option_or o A ≡ option_or o B) [
      | None ↦ λ h. rest_same l H e s (seated l H e.caller e.call s (may_from l e.caller e.call h))
      | Some x ↦ λ h. refl
    ] in
    by C refl ∙ ap (λ (o : Broken). option_or o B) (called_same l H e.caller e.call s)

pub breach_same : (l : Legality) (a : About) (H : List Entry) (e : Entry) → LegalityStands l a H → breach_in l e ≡ breach a H e
breach_same l a H e s = subst (λ (x : About). breach_in l e ≡ breach x H e) s.about_so (own_same l H e (stands_own l a H s))

-- nothing is broken by the caller
pub called_so : (l : Legality) (e : Entry) → call_breach_in l e.caller e.call ≡ None →
    option_or (outbox_breach_in l e.call e.looks) (option_or (look_breach_in l.rows.items e.looks) (reply_breach_in l e)) ≡ breach_in l e
called_so l e h = sym (ap (λ (o : Broken). option_or o (option_or (outbox_breach_in l e.call e.looks) (option_or (look_breach_in l.rows.items e.looks) (reply_breach_in l e)))) h)

-- something is
pub called_not : (l : Legality) (e : Entry) (x : Breach) → call_breach_in l e.caller e.call ≡ Some x → Some x ≡ breach_in l e
called_not l e x h = sym (ap (λ (o : Broken). option_or o (option_or (outbox_breach_in l e.call e.looks) (option_or (look_breach_in l.rows.items e.looks) (reply_breach_in l e)))) h)

-- ---- lawful entries

may_of : (a : About) (H : List Entry) (caller : ℕ) (call : Call) → call_breach a H caller call ≡ None → may_call a H caller call ≡ true
may_of a H caller (Connect who) h =
    let z = same_vmac who.vmac zero_vmac in
    let b = same_vmac who.vmac broadcast in
    let k = none_else (z || b) (calls_breach a H) Address h in
    let lt = nat_lt (length H) a.limits.calls in
    and_from (not z && not b) lt (neither z b k.0) (none_if lt (Calls a.limits.calls) k.1)
may_of a H caller (Forward sender m) h =
    let lt = nat_lt (length H) a.limits.calls in
    let own = is_of H caller sender in
    let k = none_then own (cond {A = Broken} (has_route m) (calls_breach a H) (Some NoRoute)) (NotOwn sender) h in
    let r = none_then (has_route m) (calls_breach a H) NoRoute k.1 in
    and_from (own && has_route m) lt (and_from own (has_route m) k.0 r.0) (none_if lt (Calls a.limits.calls) r.1)
may_of a H caller (Leave conn taken empties) h =
    let own = is_of H caller conn in
    let can = can_find a H conn taken in
    let k = none_then own (taken_breach a H conn taken) (NotOwn conn) h in
    and_from own can k.0 (none_if can (Taken conn taken (looked H conn) (length (sent a H conn))) k.1)
may_of a H caller Stop h = ap not (none_else (is_stopped H) None AfterStop h).0
may_of a H caller Count h = none_if (nat_lt (length H) a.limits.calls) (Calls a.limits.calls) h

none_called : (a : About) (H : List Entry) (caller : ℕ) (call : Call) → may_call a H caller call ≡ true → call_breach a H caller call ≡ None
none_called a H caller (Connect who) h =
    let z = same_vmac who.vmac zero_vmac in
    let b = same_vmac who.vmac broadcast in
    let lt = nat_lt (length H) a.limits.calls in
    let k = and_parts (not z && not b) lt h in
    kept_else (z || b) (calls_breach a H) Address (not_either z b k.0) (kept_if lt (Calls a.limits.calls) k.1)
none_called a H caller (Forward sender m) h =
    let lt = nat_lt (length H) a.limits.calls in
    let own = is_of H caller sender in
    let k = and_parts (own && has_route m) lt h in
    let r = and_parts own (has_route m) k.0 in
    kept_then own (cond {A = Broken} (has_route m) (calls_breach a H) (Some NoRoute)) (NotOwn sender) r.0
    (kept_then (has_route m) (calls_breach a H) NoRoute r.1 (kept_if lt (Calls a.limits.calls) k.1))
none_called a H caller (Leave conn taken empties) h =
    let own = is_of H caller conn in
    let can = can_find a H conn taken in
    let k = and_parts own can h in
    kept_then own (taken_breach a H conn taken) (NotOwn conn) k.0 (kept_if can (Taken conn taken (looked H conn) (length (sent a H conn))) k.1)
none_called a H caller Stop h = kept_else (is_stopped H) None AfterStop (not_so (is_stopped H) h) refl
none_called a H caller Count h = kept_if (nat_lt (length H) a.limits.calls) (Calls a.limits.calls) h

all_found : (a : About) (H : List Entry) (looks : List Look) → look_breach a H looks ≡ None → list_all (λ k. can_find a H k.conn k.taken) looks ≡ true
all_found a H [] h = refl
all_found a H (k ∷ looks) h =
    let can = can_find a H k.conn k.taken in
    let p = none_or (taken_breach a H k.conn k.taken) (look_breach a H looks) h in
    and_from can (list_all (λ j. can_find a H j.conn j.taken) looks) (none_if can (Taken k.conn k.taken (looked H k.conn) (length (sent a H k.conn))) p.0) (all_found a H looks p.1)

none_found : (a : About) (H : List Entry) (looks : List Look) → list_all (λ k. can_find a H k.conn k.taken) looks ≡ true → look_breach a H looks ≡ None
none_found a H [] h = refl
none_found a H (k ∷ looks) h =
    let can = can_find a H k.conn k.taken in
    let p = and_parts can (list_all (λ j. can_find a H j.conn j.taken) looks) h in
    kept_or (taken_breach a H k.conn k.taken) (look_breach a H looks) (kept_if can (Taken k.conn k.taken (looked H k.conn) (length (sent a H k.conn))) p.0) (none_found a H looks p.1)

lawful_from : (a : About) (H : List Entry) (e : Entry) → breach a H e ≡ None → Lawful a (moment H e)
lawful_from a H e h =
    let at = conns e.looks in
    let p = none_or (call_breach a H e.caller e.call) (option_or (outbox_breach H e.call e.looks) (option_or (look_breach a H e.looks) (reply_breach a H e))) h in
    let q = none_or (outbox_breach H e.call e.looks) (option_or (look_breach a H e.looks) (reply_breach a H e)) p.1 in
    let r = none_or (look_breach a H e.looks) (reply_breach a H e) q.1 in
    let wanted = reply a H e.call e.looks in
    record {
      replied = reply_same e.reply wanted (none_if (same_reply e.reply wanted) (Due wanted) r.1);
      named = numbers_same at (looks_at H e.call) (none_if (same_numbers at (looks_at H e.call)) (Outboxes (looks_at H e.call)) q.0);
      found = all_found a H e.looks r.0;
      called = may_of a H e.caller e.call p.0;
    }

none_lawful : (a : About) (H : List Entry) (e : Entry) → Lawful a (moment H e) → breach a H e ≡ None
none_lawful a H e lawful =
    let at = conns e.looks in
    let wanted = reply a H e.call e.looks in
    kept_or (call_breach a H e.caller e.call) (option_or (outbox_breach H e.call e.looks) (option_or (look_breach a H e.looks) (reply_breach a H e))) (none_called a H e.caller e.call lawful.called)
    (kept_or (outbox_breach H e.call e.looks) (option_or (look_breach a H e.looks) (reply_breach a H e))
    (kept_if (same_numbers at (looks_at H e.call)) (Outboxes (looks_at H e.call)) (ap (same_numbers at) (sym lawful.named) ∙ numbers_self at))
    (kept_or (look_breach a H e.looks) (reply_breach a H e) (none_found a H e.looks lawful.found)
    (kept_if (same_reply e.reply wanted) (Due wanted) (ap (same_reply e.reply) (sym lawful.replied) ∙ reply_self e.reply))))

pub names_each : (a : About) (H : List Entry) (e : Entry) → Legal a H → (breach a H e ≡ None) ↔ Legal a (H ++ e ∷ [])
names_each a H e legal = (
  λ none. Legal-more a H e legal (lawful_from a H e none),
  λ more. none_lawful a H e (Legal-front a H e more).1,
)
