-- How questions and learnt URIs change by one call more.
-- It serves clauses of functions of `laws` and `resolve`.
use Rattle.std.proofs.Common.{◌≡◌, ℕ, Bool, true, false, cond, ◌||◌, ◌&&◌, List, [], ◌∷◌, ◌++◌, reverse, Option, Some, None, is_some, refl, ap, sym, ◌∙◌}
use Rattle.std.specs.List.{list_any, filter_map}
use Rattle.std.specs.Option.{option_or}
use Rattle.std.specs.Set.{is_member}
use Rattle.std.proofs.lemmas.Bool.{or_parts}
use Rattle.std.proofs.lemmas.List.{reverse-append}
use Rattle.bsc_octets.specs.declared.vmac.Vmac.{Vmac}
use Rattle.bsc_octets.specs.Addresses.{same_vmac}
use Rattle.bsc_connector.specs.Back.{newest_of, first_of, since}
use Rattle.bsc_connector.proofs.BackLemmas.{newest_of-more, since-more, list_any-more}
use Rattle.bsc_resolve.specs.declared.question.Question.{Question}
use Rattle.bsc_resolve.specs.declared.call.ResolveCall.{ResolveCall}
use Rattle.bsc_resolve.specs.declared.call.ResolveCall.TheVariants.{Ask, Answered, Refused, Tick}
use Rattle.bsc_resolve.specs.Resolving.{vmac_of, question_for, asks_for, uris_for, ends, unless_ended, question, learnt, is_held}
use Rattle.bsc_lemmas.proofs.Options.{none_if as none_from}

-- the question, unless the call ended it
abbrev pub unless_ends : ℕ → Vmac → ResolveCall → Option Question → Option Question
unless_ends wait v call None = None
unless_ends wait v call (Some q) = cond (ends wait v q call) None (Some q)

ended_more : (wait : ℕ) (v : Vmac) (calls : List ResolveCall) (call : ResolveCall) (o : Option Question)
    → unless_ended wait v (calls ++ call ∷ []) o ≡ unless_ends wait v call (unless_ended wait v calls o)
ended_more wait v calls call None = refl
ended_more wait v calls call (Some q) = rw (list_any-more (ends wait v q) calls call) (by (list_any (ends wait v q) calls))
  where
    by : (b : Bool) → cond (b || ends wait v q call) None (Some q) ≡ unless_ends wait v call (cond b None (Some q))
    by true = refl
    by false = refl

-- A call that doesn't ask for v can only end the question for it.
pub question-more : (wait : ℕ) (calls : List ResolveCall) (call : ResolveCall) (v : Vmac) → question_for v call ≡ None
    → question wait (calls ++ call ∷ []) v ≡ unless_ends wait v call (question wait calls v)
question-more wait calls call v n =
    let s : since (asks_for v) (calls ++ call ∷ []) ≡ since (asks_for v) calls ++ call ∷ [] = since-more (asks_for v) calls call
    ∙ ap (λ (o : Option Question). cond (is_some o) [] (since (asks_for v) calls ++ call ∷ [])) n in
    let q : newest_of (question_for v) (calls ++ call ∷ []) ≡ newest_of (question_for v) calls = newest_of-more (question_for v) calls call
    ∙ ap (λ (o : Option Question). option_or o (newest_of (question_for v) calls)) n in
    ap (λ (xs : List ResolveCall). unless_ended wait v xs (newest_of (question_for v) (calls ++ call ∷ []))) s
    ∙ ap (λ (o : Option Question). unless_ended wait v (since (asks_for v) calls ++ call ∷ []) o) q
    ∙ ended_more wait v (since (asks_for v) calls) call (newest_of (question_for v) calls)

-- A call that asks for v is the question.
pub question-asked : (wait : ℕ) (calls : List ResolveCall) (call : ResolveCall) (v : Vmac) (asked : Question) → question_for v call ≡ Some asked → question wait (calls ++ call ∷ []) v ≡ Some asked
question-asked wait calls call v asked n =
    let s : since (asks_for v) (calls ++ call ∷ []) ≡ [] = since-more (asks_for v) calls call ∙ ap (λ (o : Option Question). cond (is_some o) [] (since (asks_for v) calls ++ call ∷ [])) n in
    let q : newest_of (question_for v) (calls ++ call ∷ []) ≡ Some asked = newest_of-more (question_for v) calls call
    ∙ ap (λ (o : Option Question). option_or o (newest_of (question_for v) calls)) n in
    ap (λ (xs : List ResolveCall). unless_ended wait v xs (newest_of (question_for v) (calls ++ call ∷ []))) s
    ∙ ap (λ (o : Option Question). unless_ended wait v [] o) q

pub learnt-more : (calls : List ResolveCall) (call : ResolveCall) (v : Vmac) → learnt (calls ++ call ∷ []) v ≡ option_or (uris_for v call) (learnt calls v)
learnt-more calls call v = newest_of-more (uris_for v) calls call

-- ---- what is held was spoken of

any_back : (test : ResolveCall → Bool) (calls : List ResolveCall) → list_any test (reverse calls) ≡ list_any test calls
any_back test [] = refl
any_back test (c ∷ calls) =
    ap (list_any test) (reverse-append (c ∷ []) calls)
    ∙ list_any-more test (reverse calls) c
    ∙ ap (λ b. b || test c) (any_back test calls)
    ∙ swap (list_any test calls) (test c)
  where
    swap : (a b : Bool) → (a || b) ≡ (b || a)
    swap true true = refl
    swap true false = refl
    swap false true = refl
    swap false false = refl

first_none : {A : Type 0} (f : ResolveCall → Option A) (calls : List ResolveCall) → list_any (λ c. is_some (f c)) calls ≡ false → first_of f calls ≡ None
first_none f [] h = refl
first_none f (c ∷ calls) h =
    let p = or_parts (is_some (f c)) (list_any (λ c. is_some (f c)) calls) h in
    ap (λ o. option_or o (first_of f calls)) (none_from (f c) p.0) ∙ first_none f calls p.1

newest_none : {A : Type 0} (f : ResolveCall → Option A) (calls : List ResolveCall) → list_any (λ c. is_some (f c)) calls ≡ false → newest_of f calls ≡ None
newest_none f calls h = first_none f (reverse calls) (any_back (λ c. is_some (f c)) calls ∙ h)

none_asked : (v : Vmac) (calls : List ResolveCall) → is_member same_vmac (filter_map vmac_of calls) v ≡ false → list_any (λ c. is_some (question_for v c)) calls ≡ false
none_asked v [] h = refl
none_asked v (Ask now id w ∷ calls) h = let p = or_parts (same_vmac v w) (is_member same_vmac (filter_map vmac_of calls) v) h in rw p.0 (none_asked v calls p.1)
none_asked v (Answered id w uris ∷ calls) h = none_asked v calls (or_parts (same_vmac v w) (is_member same_vmac (filter_map vmac_of calls) v) h).1
none_asked v (Refused id w ∷ calls) h = none_asked v calls (or_parts (same_vmac v w) (is_member same_vmac (filter_map vmac_of calls) v) h).1
none_asked v (Tick now ∷ calls) h = none_asked v calls h

none_answered : (v : Vmac) (calls : List ResolveCall) → is_member same_vmac (filter_map vmac_of calls) v ≡ false → list_any (λ c. is_some (uris_for v c)) calls ≡ false
none_answered v [] h = refl
none_answered v (Ask now id w ∷ calls) h = none_answered v calls (or_parts (same_vmac v w) (is_member same_vmac (filter_map vmac_of calls) v) h).1
none_answered v (Answered id w uris ∷ calls) h = let p = or_parts (same_vmac v w) (is_member same_vmac (filter_map vmac_of calls) v) h in rw p.0 (none_answered v calls p.1)
none_answered v (Refused id w ∷ calls) h = none_answered v calls (or_parts (same_vmac v w) (is_member same_vmac (filter_map vmac_of calls) v) h).1
none_answered v (Tick now ∷ calls) h = none_answered v calls h

-- A VMAC of which no call speaks isn't held.
none_held : (wait : ℕ) (calls : List ResolveCall) (v : Vmac) → is_member same_vmac (filter_map vmac_of calls) v ≡ false → is_held wait calls v ≡ false
none_held wait calls v h =
    let q : question wait calls v ≡ None = ap (unless_ended wait v (since (asks_for v) calls)) (newest_none (question_for v) calls (none_asked v calls h)) in
    let u : learnt calls v ≡ None = newest_none (uris_for v) calls (none_answered v calls h) in
    rw (q, u) refl

pub held_spoken : (wait : ℕ) (calls : List ResolveCall) (v : Vmac) → (is_member same_vmac (filter_map vmac_of calls) v && is_held wait calls v) ≡ is_held wait calls v
held_spoken wait calls v = by (is_member same_vmac (filter_map vmac_of calls) v) refl
  where
    by : (b : Bool) → is_member same_vmac (filter_map vmac_of calls) v ≡ b → (b && is_held wait calls v) ≡ is_held wait calls v
    by true h = refl
    by false h = sym (none_held wait calls v h)
