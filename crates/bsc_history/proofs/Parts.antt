-- A first part of a history, and what stays as the history grows.
-- It serves the clauses of `frames_enter_by_forwards`.
use Rattle.std.proofs.Common.{◌≡◌, ℕ, ◌==◌, Bool, true, ◌||◌, List, [], ◌∷◌, ◌++◌, Option, Some, None, is_some, option_to_list, refl, ap, sym, ◌∙◌, subst, append_assoc, append-nil}
use Rattle.std.specs.List.{list_any, AllByRecursion}
use Rattle.std.specs.Option.{option_or}
use Rattle.std.proofs.lemmas.List.Elements.{filter-append}
use Rattle.std.proofs.lemmas.List.Folds.{find-append}
use Rattle.bsc_history.specs.declared.limits.About.{About}
use Rattle.bsc_history.specs.declared.entry.Entry.{Entry}
use Rattle.bsc_history.specs.declared.connection.Connection.{Connection}
use Rattle.bsc_history.specs.Entries.{Moment, connection_of, is_number, joins, moment, moments_after, own}
use Rattle.bsc_history.specs.Ends.{joined, joined_where, numbered}
use Rattle.bsc_history.specs.Outboxes.{added, sent, vmac_in, vmac_of}
use Rattle.bsc_history.specs.Legality.{Lawful, Legal}
use Rattle.bsc_history.proofs.More.{filter_true, sent-more}
use Rattle.bsc_history.proofs.Named.{find_one, some_or}
use Rattle.bsc_history.proofs.Common.{joined-append}

-- legality

pub All-parts : (P : Moment → Type 0) (G es rest : List Entry) → AllByRecursion P (moments_after G (es ++ rest)) → AllByRecursion P (moments_after G es)
    × AllByRecursion P (moments_after (G ++ es) rest)
All-parts P G [] rest h = (tt, rw append-nil h)
All-parts P G (e ∷ es) rest h =
    let r = All-parts P (G ++ e ∷ []) es rest h.1 in
    ((h.0, r.0), subst (λ F. AllByRecursion P (moments_after F rest)) (append_assoc G (e ∷ []) es) r.1)

-- A first part of a legal history is legal.
pub Legal-first : (a : About) (F rest : List Entry) → Legal a (F ++ rest) → Legal a F
Legal-first a F rest legal = record { lawful = (All-parts (Lawful a) [] F rest legal.lawful).0 }

-- Of a legal history each entry is lawful after those before it.
pub Legal-at : (a : About) (F rest : List Entry) (e : Entry) → Legal a (F ++ e ∷ rest) → Lawful a (record { before = F; entry = e })
Legal-at a F rest e legal = (All-parts (Lawful a) [] F (e ∷ rest) legal.lawful).1.0

-- what stays

pub own-append : (F rest : List Entry) (p : ℕ) → own (F ++ rest) p ≡ own F p ++ own rest p
own-append F rest p = filter-append (λ (e : Entry). e.caller == p) F rest

-- Among all that joined there is a connection of the number c exactly where c has joined.
pub numbered_joined : (F : List Entry) (c : ℕ) → is_some (numbered c (joined F)) ≡ list_any (joins c) F
unfolding joined_where
numbered_joined [] c = refl
numbered_joined (e ∷ F) c =
    let o = connection_of e in
    ap (λ (l : List Connection). is_some (numbered c (l ++ joined F))) (filter_true (option_to_list o))
    ∙ ap is_some (find-append (λ (x : Connection). x.number == c) (option_to_list o) (joined F))
    ∙ some_or (numbered c (option_to_list o)) (numbered c (joined F))
    ∙ ap (λ (b : Bool). b || is_some (numbered c (joined F))) (find_one c o)
    ∙ ap (λ (b : Bool). is_number c o || b) (numbered_joined F c)

-- A connection that has joined stays the one of its number, and its address stays.
pub numbered_stays : (F rest : List Entry) (c : ℕ) → list_any (joins c) F ≡ true → numbered c (joined (F ++ rest)) ≡ numbered c (joined F)
numbered_stays F rest c h =
    let first : (o p : Option Connection) → is_some o ≡ true → option_or o p ≡ o = λ o p. elim o as (λ o. is_some o ≡ true → option_or o p ≡ o) [ None ↦ λ k. cc | Some x ↦ λ k. refl ] in
    ap (numbered c) (joined-append F rest) ∙ find-append (λ (x : Connection). x.number == c) (joined F) (joined rest)
    ∙ first (numbered c (joined F)) (numbered c (joined rest)) (numbered_joined F c ∙ h)

pub vmac_stays : (F rest : List Entry) (c : ℕ) → list_any (joins c) F ≡ true → vmac_of (F ++ rest) c ≡ vmac_of F c
vmac_stays F rest c h = ap vmac_in (numbered_stays F rest c h)

-- What entered an outbox is there in each longer history.
pub sent_grows : (a : About) (F rest : List Entry) (c : ℕ) → (later : List (List ℕ)) × (sent a (F ++ rest) c ≡ sent a F c ++ later)
sent_grows a F [] c = ([], ap (λ (l : List Entry). sent a l c) (append-nil F) ∙ sym (append-nil (sent a F c)))
sent_grows a F (e ∷ es) c =
    let r = sent_grows a (F ++ e ∷ []) es c in
    let new = added a (moment F e) (sent a F c) c in
    (new ++ r.0, ap (λ (l : List Entry). sent a l c) (sym (append_assoc F (e ∷ []) es)) ∙ r.1 ∙ ap (λ (l : List (List ℕ)). l ++ r.0) (sent-more a F e c) ∙ append_assoc (sent a F c) new r.0)

-- What had entered before is the first part of what enters.
pub sent_on : (a : About) (H before later : List Entry) (c : ℕ) → H ≡ before ++ later → (more : List (List ℕ)) × (sent a H c ≡ sent a before c ++ more)
sent_on a H before later c is = (let g = sent_grows a before later c in (g.0, ap (λ (l : List Entry). sent a l c) is ∙ g.1))
