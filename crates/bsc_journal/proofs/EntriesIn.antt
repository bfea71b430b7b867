-- An entry, read a word at a time.
-- It serves the clauses of `read_words`.
use Rattle.std.proofs.Common.{◌≡◌, ℕ, List, [], ◌∷◌, Option, Some, None, refl, ap, ◌∙◌}
use Rattle.bsc_history.specs.declared.call.Call.{Call}
use Rattle.bsc_history.specs.declared.looks.Look.{Look}
use Rattle.bsc_history.specs.declared.reply.Reply.{Reply}
use Rattle.bsc_text.specs.Grammar.{number_of}
use Rattle.bsc_journal.specs.Reading.{Asked, Read, asked, call_in, entry_in, entry_of, number_in, placed, read, reply_in}
use Rattle.bsc_journal.specs.Saying.{is_connect}
use Rattle.bsc_journal.proofs.CallsIn.{no_number, taken_apart}

no_caller : (p : Option ℕ) (a : Option (Read Asked)) → entry_of p None a ≡ None
no_caller None a = refl
no_caller (Some p) a = refl

pub entry_second : (ws : List (List ℕ)) (p : ℕ) (r : List (List ℕ)) → number_in ws ≡ Some (read p r) → number_in r ≡ None → entry_in ws ≡ None
entry_second [] p r e f = refl
entry_second (w ∷ []) p r e f = refl
entry_second (w ∷ x ∷ ws) p r e f =
    let a = taken_apart (number_of w) (x ∷ ws) p r e in
    ap (λ (o : Option ℕ). entry_of (number_of w) o (call_in ws)) (no_number (number_of x) ws (ap number_in a.1 ∙ f)) ∙ no_caller (number_of w) (call_in ws)

-- the place and the caller of words that are an entry as far as they
pub begun : (ws : List (List ℕ)) (p : ℕ) (r : List (List ℕ)) (q : ℕ) (s : List (List ℕ)) → number_in ws ≡ Some (read p r) → number_in r ≡ Some (read q s) →
    entry_in ws ≡ entry_of (Some p) (Some q) (call_in s)
begun [] p r q s e f = cc
begun (w ∷ []) p r q s e f =
    let a = taken_apart (number_of w) [] p r e in
    let no : None ≡ Some (read q s) = ap number_in a.1 ∙ f in
    absurd cc
begun (w ∷ x ∷ ws) p r q s e f =
    let a = taken_apart (number_of w) (x ∷ ws) p r e in
    let b = taken_apart (number_of x) ws q s (ap number_in a.1 ∙ f) in
    λ i. entry_of (a.0 i) (b.0 i) (call_in (b.1 i))

pub entry_call : (ws : List (List ℕ)) (p : ℕ) (r : List (List ℕ)) (q : ℕ) (s : List (List ℕ)) → number_in ws ≡ Some (read p r) → number_in r ≡ Some (read q s) →
    call_in s ≡ None → entry_in ws ≡ None
entry_call ws p r q s e f g = begun ws p r q s e f ∙ ap (entry_of (Some p) (Some q)) g

pub entry_reply : (ws : List (List ℕ)) (p : ℕ) (r : List (List ℕ)) (q : ℕ) (s : List (List ℕ)) (call : Call) (looks : List Look) (t : List (List ℕ)) →
    number_in ws ≡ Some (read p r) → number_in r ≡ Some (read q s) → call_in s ≡ Some (read (asked call looks) t) →
    reply_in (is_connect call) t ≡ None → entry_in ws ≡ None
entry_reply ws p r q s call looks t e f g h =
    begun ws p r q s e f ∙ ap (entry_of (Some p) (Some q)) g ∙ ap (λ (o : Option Reply). placed p q (asked call looks) o) h

pub entry_all : (ws : List (List ℕ)) (p : ℕ) (r : List (List ℕ)) (q : ℕ) (s : List (List ℕ)) (call : Call) (looks : List Look) (t : List (List ℕ)) (reply : Reply) →
    number_in ws ≡ Some (read p r) → number_in r ≡ Some (read q s) → call_in s ≡ Some (read (asked call looks) t) →
    reply_in (is_connect call) t ≡ Some reply → entry_in ws ≡ Some (p, record { caller = q; call = call; looks = looks; reply = reply })
entry_all ws p r q s call looks t reply e f g h =
    begun ws p r q s e f ∙ ap (entry_of (Some p) (Some q)) g ∙ ap (λ (o : Option Reply). placed p q (asked call looks) o) h
