-- What is kept goes on standing for what happened.
-- It serves clauses of functions of `laws` and `resolve`.
use Rattle.std.proofs.Common.{◌≡◌, ◌<◌, ◌≤◌, ◌==◌, ℕ, Bool, true, false, not, cond, ◌||◌, ◌&&◌, List, [], ◌∷◌, ◌++◌, length, map, filter, get_or, Option, Some, None, is_some, refl}
use Rattle.std.proofs.Common.{ap, sym, ◌∙◌, subst, arith}
use Rattle.std.specs.Prelude.{nat_le, vec_len}
use Rattle.std.specs.Option.{option_map, option_or}
use Rattle.std.specs.List.{list_all, position, filter_map, IsDistinct}
use Rattle.std.proofs.lemmas.Bool.{le-leb, lt-leb}
use Rattle.std.proofs.lemmas.List.{map-append}
use Rattle.std.proofs.lemmas.List.Folds.{find-append, list_all-append}
use Rattle.std.proofs.lemmas.Map.Keys.{IsDistinct-push, IsDistinct-from_apart}
use Rattle.std.proofs.lemmas.Map.Made.{length-from_keys, is_member-filter}
use Rattle.bsc_octets.specs.declared.vmac.Vmac.{Vmac}
use Rattle.bsc_octets.specs.Addresses.{same_vmac}
use Rattle.bsc_resolve.specs.declared.bounds.TheConstants.{ROOM}
use Rattle.bsc_resolve.specs.declared.question.Question.{Question}
use Rattle.bsc_resolve.specs.declared.call.ResolveCall.{ResolveCall}
use Rattle.bsc_resolve.specs.declared.call.ResolveCall.TheVariants.{Ask, Answered, Refused, Tick}
use Rattle.bsc_resolve.specs.declared.ask_refusal.AskRefusal.{AskRefusal}
use Rattle.bsc_resolve.specs.declared.ask_refusal.AskRefusal.TheVariants.{Full, Pending, NoMemory}
use Rattle.bsc_resolve.specs.declared.entry.Entry.{Entry}
use Rattle.bsc_resolve.specs.declared.resolve.Resolve.{Resolve}
use Rattle.bsc_resolve.specs.Resolving.{vmac_of, uris_for, question, learnt, is_held, held, ask_refusal, has_id, awaits}
use Rattle.bsc_resolve.specs.Kept.{is_for, entry_of, vmacs, kept_question, kept_uris, holds_something, at_first, ticked, unless_passed, with_question, with_uris, without_question, awaiting_place}
use Rattle.bsc_resolve.specs.Standing.{Agrees, ResolveStands, IsAsked, IsAskRefused, AnswersAnswer, AnswersRefusal, StandsOn, IsUnchanged}
use Rattle.bsc_resolve.proofs.Finding.{find_placed, awaiting_is, awaiting_none, KeepsVmac, first_same, first_other, vmacs_first, full_first, entry_filtered, apart_filtered}
use Rattle.bsc_resolve.proofs.Finding.{full_filtered, held_question, held_uris, entry_ticked, vmacs_ticked, ticked_question, ticked_uris, is_among, is_held_kept, length_vmacs}
use Rattle.bsc_resolve.proofs.OneMore.{unless_ends, question-more, question-asked, learnt-more, held_spoken}
use Rattle.bsc_octets.proofs.Common.{vmac_laws, vmac_same}
use Rattle.bsc_lemmas.proofs.Booleans.{or_left}
use Rattle.bsc_lemmas.proofs.Options.{none_if}
use Rattle.bsc_lemmas.proofs.Lists.{position-none as none_found}

-- ---- one VMAC changes

-- After the call there are for w a question q and URIs u, and for the others what there was.
pub record SetsAt (es after : List Entry) (w : Vmac) (q : Option Question) (u : Option (List ℕ)) : Type 0 where
  pub question : kept_question (entry_of after w) ≡ q
  pub uris : kept_uris (entry_of after w) ≡ u
  pub other_question : (v : Vmac) → same_vmac v w ≡ false → kept_question (entry_of after v) ≡ kept_question (entry_of es v)
  pub other_uris : (v : Vmac) → same_vmac v w ≡ false → kept_uris (entry_of after v) ≡ kept_uris (entry_of es v)

sets_first : (f : Entry → Entry) (w : Vmac) (es : List Entry) (e : Entry) → KeepsVmac f → entry_of es w ≡ Some e → SetsAt es (at_first (is_for w) f es) w (f e).question (f e).uris
sets_first f w es e keeps is = record {
  question = ap kept_question (first_same f w es keeps ∙ ap (option_map f) is);
  uris = ap kept_uris (first_same f w es keeps ∙ ap (option_map f) is);
  other_question = λ v n. ap kept_question (first_other f v w es keeps n);
  other_uris = λ v n. ap kept_uris (first_other f v w es keeps n);
}

or_nothing : (o : Option Entry) → option_or o None ≡ o
or_nothing None = refl
or_nothing (Some e) = refl

pushed : (es : List Entry) (e : Entry) (v : Vmac) (b : Bool) → is_for v e ≡ b → entry_of (es ++ e ∷ []) v ≡ option_or (entry_of es v) (cond b (Some e) None)
pushed es e v b h = find-append (is_for v) es (e ∷ []) ∙ ap (λ (c : Bool). option_or (entry_of es v) (cond c (Some e) None)) h

sets_pushed : (w : Vmac) (es : List Entry) (q : Option Question) (u : Option (List ℕ)) → entry_of es w ≡ None → SetsAt es (es ++ record { vmac = w; question = q; uris = u } ∷ []) w q u
sets_pushed w es q u none =
    let e : Entry = record { vmac = w; question = q; uris = u } in
    let here : entry_of (es ++ e ∷ []) w ≡ Some e = pushed es e w true (vmac_laws.refl w) ∙ ap (λ (o : Option Entry). option_or o (Some e)) none in
    record {
      question = ap kept_question here;
      uris = ap kept_uris here;
      other_question = λ v n. ap kept_question (pushed es e v false n ∙ or_nothing (entry_of es v));
      other_uris = λ v n. ap kept_uris (pushed es e v false n ∙ or_nothing (entry_of es v));
    }

-- letting go of entries that hold nothing changes nothing
sets_left : (es after : List Entry) (w : Vmac) (q : Option Question) (u : Option (List ℕ)) → IsDistinct same_vmac (vmacs after) → SetsAt es after w q u → SetsAt es (filter holds_something after) w q u
sets_left es after w q u apart k =
    let left_question : (v : Vmac) → kept_question (entry_of (filter holds_something after) v) ≡ kept_question (entry_of after v) = λ v. ap kept_question (entry_filtered v after apart)
    ∙ held_question (entry_of after v) in
    let left_uris : (v : Vmac) → kept_uris (entry_of (filter holds_something after) v) ≡ kept_uris (entry_of after v) = λ v. ap kept_uris (entry_filtered v after apart)
    ∙ held_uris (entry_of after v) in
    record {
      question = left_question w ∙ k.question;
      uris = left_uris w ∙ k.uris;
      other_question = λ v n. left_question v ∙ k.other_question v n;
      other_uris = λ v n. left_uris v ∙ k.other_uris v n;
    }

-- ---- what is kept agrees with one call more

asks_end : (wait now id : ℕ) (v w : Vmac) (o : Option Question) → unless_ends wait v (Ask now id w) o ≡ o
asks_end wait now id v w None = refl
asks_end wait now id v w (Some q) = refl

answers_end : (wait id : ℕ) (v w : Vmac) (uris : List ℕ) (o : Option Question) → same_vmac v w ≡ false → unless_ends wait v (Answered id w uris) o ≡ o
answers_end wait id v w uris None n = refl
answers_end wait id v w uris (Some q) n = rw n refl

naks_end : (wait id : ℕ) (v w : Vmac) (o : Option Question) → same_vmac v w ≡ false → unless_ends wait v (Refused id w) o ≡ o
naks_end wait id v w None n = refl
naks_end wait id v w (Some q) n = rw n refl

-- what holds at w and at each other VMAC holds at each
each : (P : Vmac → Type 0) (w : Vmac) → P w → ((v : Vmac) → same_vmac v w ≡ false → P v) → (v : Vmac) → P v
each P w here others v = by (same_vmac v w) refl
  where
    by : (b : Bool) → same_vmac v w ≡ b → P v
    by true s = subst P (sym (vmac_same v w s)) here
    by false n = others v n

asked_agrees : (es after : List Entry) (wait : ℕ) (calls : List ResolveCall) (now id : ℕ) (w : Vmac) → Agrees es wait calls
    → SetsAt es after w (Some (record { id = id; asked = now })) (kept_uris (entry_of es w)) → Agrees after wait (calls ++ Ask now id w ∷ [])
asked_agrees es after wait calls now id w a k =
    let call : ResolveCall = Ask now id w in
    let asked : Question = record { id = id; asked = now } in
    record {
      question = each (λ v. kept_question (entry_of after v) ≡ question wait (calls ++ call ∷ []) v) w
          (k.question ∙ sym (question-asked wait calls call w asked (ap (λ (b : Bool). cond b (Some asked) None) (vmac_laws.refl w))))
          (λ v n. k.other_question v n ∙ a.question v ∙ sym (question-more wait calls call v (ap (λ (b : Bool). cond b (Some asked) None) n) ∙ asks_end wait now id v w (question wait calls v)));
      uris = each (λ v. kept_uris (entry_of after v) ≡ learnt (calls ++ call ∷ []) v) w
          (k.uris ∙ a.uris w ∙ sym (learnt-more calls call w))
          (λ v n. k.other_uris v n ∙ a.uris v ∙ sym (learnt-more calls call v));
    }

answered_agrees : (es after : List Entry) (wait : ℕ) (calls : List ResolveCall) (id : ℕ) (w : Vmac) (uris : List ℕ) (q : Question) → Agrees es wait calls
    → kept_question (entry_of es w) ≡ Some q → (q.id == id) ≡ true → SetsAt es after w None (Some uris) → Agrees after wait (calls ++ Answered id w uris ∷ [])
answered_agrees es after wait calls id w uris q a had same k =
    let call : ResolveCall = Answered id w uris in
    record {
      question = each (λ v. kept_question (entry_of after v) ≡ question wait (calls ++ call ∷ []) v) w
          (k.question ∙ sym (question-more wait calls call w refl ∙ ap (unless_ends wait w call) (sym (a.question w) ∙ had) ∙ rw (vmac_laws.refl w, same) refl))
          (λ v n. k.other_question v n ∙ a.question v ∙ sym (question-more wait calls call v refl ∙ answers_end wait id v w uris (question wait calls v) n));
      uris = each (λ v. kept_uris (entry_of after v) ≡ learnt (calls ++ call ∷ []) v) w
          (k.uris ∙ sym (learnt-more calls call w ∙ ap (λ (b : Bool). option_or (cond b (Some uris) None) (learnt calls w)) (vmac_laws.refl w)))
          (λ v n. k.other_uris v n ∙ a.uris v ∙ sym (learnt-more calls call v ∙ ap (λ (b : Bool). option_or (cond b (Some uris) None) (learnt calls v)) n));
    }

refused_agrees : (es after : List Entry) (wait : ℕ) (calls : List ResolveCall) (id : ℕ) (w : Vmac) (q : Question) → Agrees es wait calls → kept_question (entry_of es w) ≡ Some q
    → (q.id == id) ≡ true → SetsAt es after w None (kept_uris (entry_of es w)) → Agrees after wait (calls ++ Refused id w ∷ [])
refused_agrees es after wait calls id w q a had same k =
    let call : ResolveCall = Refused id w in
    record {
      question = each (λ v. kept_question (entry_of after v) ≡ question wait (calls ++ call ∷ []) v) w
          (k.question ∙ sym (question-more wait calls call w refl ∙ ap (unless_ends wait w call) (sym (a.question w) ∙ had) ∙ rw (vmac_laws.refl w, same) refl))
          (λ v n. k.other_question v n ∙ a.question v ∙ sym (question-more wait calls call v refl ∙ naks_end wait id v w (question wait calls v) n));
      uris = each (λ v. kept_uris (entry_of after v) ≡ learnt (calls ++ call ∷ []) v) w
          (k.uris ∙ a.uris w ∙ sym (learnt-more calls call w))
          (λ v n. k.other_uris v n ∙ a.uris v ∙ sym (learnt-more calls call v));
    }

passes_as_ended : (wait now : ℕ) (v : Vmac) (o : Option Question) → unless_passed wait now o ≡ unless_ends wait v (Tick now) o
passes_as_ended wait now v None = refl
passes_as_ended wait now v (Some q) = refl

ticked_agrees : (es : List Entry) (wait : ℕ) (calls : List ResolveCall) (now : ℕ) → IsDistinct same_vmac (vmacs es) → Agrees es wait calls
    → Agrees (filter holds_something (map (ticked wait now) es)) wait (calls ++ Tick now ∷ [])
ticked_agrees es wait calls now apart a =
    let told = map (ticked wait now) es in
    let told_apart : IsDistinct same_vmac (vmacs told) = subst (IsDistinct same_vmac) (sym (vmacs_ticked wait now es)) apart in
    record {
      question = λ v.
          ap kept_question (entry_filtered v told told_apart) ∙ held_question (entry_of told v)
          ∙ ap kept_question (entry_ticked wait now v es) ∙ ticked_question wait now (entry_of es v)
          ∙ ap (unless_passed wait now) (a.question v) ∙ passes_as_ended wait now v (question wait calls v)
          ∙ sym (question-more wait calls (Tick now) v refl);
      uris = λ v.
          ap kept_uris (entry_filtered v told told_apart) ∙ held_uris (entry_of told v)
          ∙ ap kept_uris (entry_ticked wait now v es) ∙ ticked_uris wait now (entry_of es v)
          ∙ a.uris v ∙ sym (learnt-more calls (Tick now) v);
    }

-- ---- how many VMACs are held

held_by : (r : Resolve) (wait : ℕ) (calls : List ResolveCall) (v : Vmac) → ResolveStands r wait calls → is_some (entry_of r.entries.items v) ≡ is_held wait calls v
held_by r wait calls v s = is_held_kept v r.entries.items s.full ∙ ap (λ (o : Option Question). is_some o || is_some (kept_uris (entry_of r.entries.items v))) (s.agrees.question v)
    ∙ ap (λ (o : Option (List ℕ)). is_some (question wait calls v) || is_some o) (s.agrees.uris v)

held_alike : (wait : ℕ) (calls : List ResolveCall) (v w : Vmac) → same_vmac v w ≡ true → is_held wait calls v ≡ is_held wait calls w
held_alike wait calls v w h = ap (is_held wait calls) (vmac_same v w h)

held_count : (r : Resolve) (wait : ℕ) (calls : List ResolveCall) → ResolveStands r wait calls → length r.entries.items ≡ held wait calls
held_count r wait calls s =
    sym (length_vmacs r.entries.items)
    ∙ length-from_keys vmac_laws (vmacs r.entries.items) (filter (is_held wait calls) (filter_map vmac_of calls)) s.apart (λ v.
    is_among v r.entries.items ∙ held_by r wait calls v s ∙ sym (held_spoken wait calls v)
    ∙ sym (is_member-filter vmac_laws (is_held wait calls) v (λ w h. held_alike wait calls v w h) (filter_map vmac_of calls)))

-- ---- questions

-- a refusal by whether the VMAC is held, how many are, and the question for it
abbrev refusal_of : Bool → ℕ → Option Question → Option AskRefusal
refusal_of h n o = cond (not h && nat_le ROOM n) (Some (Full n)) (option_map (λ (q : Question). Pending q.id) o)

refusal_by : (r : Resolve) (wait : ℕ) (calls : List ResolveCall) (v : Vmac) → ResolveStands r wait calls
    → ask_refusal wait calls v ≡ refusal_of (is_some (entry_of r.entries.items v)) (length r.entries.items) (kept_question (entry_of r.entries.items v))
refusal_by r wait calls v s =
    ap (λ (h : Bool). refusal_of h (held wait calls) (question wait calls v)) (sym (held_by r wait calls v s))
    ∙ ap (λ (n : ℕ). refusal_of (is_some (entry_of r.entries.items v)) n (question wait calls v)) (sym (held_count r wait calls s))
    ∙ ap (refusal_of (is_some (entry_of r.entries.items v)) (length r.entries.items)) (sym (s.agrees.question v))

-- an entry without a question
pub asked_again : (old new : Resolve) (v : Vmac) (place : ℕ) (e : Entry) (now id : ℕ) → position (is_for v) old.entries.items ≡ Some place → e ≡ get_or old.entries.items place e → e.question ≡ None
    → new.wait ≡ old.wait → new.entries.items ≡ at_first (is_for v) (with_question (record { id = id; asked = now })) old.entries.items → IsAsked old new now id v
asked_again old new v place e now id placed at none waits items wait calls s =
    let es = old.entries.items in
    let f : Entry → Entry = with_question (record { id = id; asked = now }) in
    let found : entry_of es v ≡ Some e = find_placed (is_for v) es place e placed at in
    let after = at_first (is_for v) f es in (
      refusal_by old wait calls v s ∙ ap (λ (o : Option Entry). refusal_of (is_some o) (length es) (kept_question o)) found ∙ ap (refusal_of true (length es)) none,
      record {
        waits = waits ∙ s.waits;
        agrees = subst (λ l. Agrees l wait (calls ++ Ask now id v ∷ [])) (sym items)
            (asked_agrees es after wait calls now id v s.agrees (subst (λ u. SetsAt es after v (Some (record { id = id; asked = now })) u) (sym (ap kept_uris found))
            (sets_first f v es e (λ x. refl) found)));
        apart = subst (λ l. IsDistinct same_vmac (vmacs l)) (sym items) (subst (IsDistinct same_vmac) (sym (vmacs_first (is_for v) f es (λ x. refl))) s.apart);
        full = subst (λ l. list_all holds_something l ≡ true) (sym items) (full_first (is_for v) f es (λ x. refl) s.full);
      },
    )

-- an entry with a question
pub asked_twice : (old : Resolve) (v : Vmac) (place : ℕ) (e : Entry) (q : Question) → position (is_for v) old.entries.items ≡ Some place → e ≡ get_or old.entries.items place e
    → e.question ≡ Some q → IsAskRefused old v (Pending q.id)
asked_twice old v place e q placed at some wait calls s =
    let found : entry_of old.entries.items v ≡ Some e = find_placed (is_for v) old.entries.items place e placed at in
    refusal_by old wait calls v s ∙ ap (λ (o : Option Entry). refusal_of (is_some o) (length old.entries.items) (kept_question o)) found ∙ ap (refusal_of true (length old.entries.items)) some

-- no entry
refusal_without : (old : Resolve) (v : Vmac) (wait : ℕ) (calls : List ResolveCall) → position (is_for v) old.entries.items ≡ None → ResolveStands old wait calls
    → ask_refusal wait calls v ≡ cond (nat_le ROOM (length old.entries.items)) (Some (Full (length old.entries.items))) None
refusal_without old v wait calls placed s = refusal_by old wait calls v s
    ∙ ap (λ (o : Option Entry). refusal_of (is_some o) (length old.entries.items) (kept_question o)) (none_found (is_for v) old.entries.items placed)

pub asked_full : (old : Resolve) (v : Vmac) (n : ℕ) → position (is_for v) old.entries.items ≡ None → ROOM ≤ length old.entries.items → n ≡ length old.entries.items → IsAskRefused old v (Full n)
asked_full old v n placed big same wait calls s = refusal_without old v wait calls placed s
    ∙ ap (λ (b : Bool). cond b (Some (Full (length old.entries.items))) None) (le-leb ROOM (length old.entries.items) big) ∙ ap (λ (k : ℕ). Some (Full k)) (sym same)

pub asked_in_vain : (old : Resolve) (v : Vmac) → position (is_for v) old.entries.items ≡ None → length old.entries.items < ROOM → IsAskRefused old v NoMemory
asked_in_vain old v placed small wait calls s = refusal_without old v wait calls placed s
    ∙ ap (λ (b : Bool). cond b (Some (Full (length old.entries.items))) None) (lt-leb ROOM (length old.entries.items) small)

pub asked_first : (old new : Resolve) (v : Vmac) (now id : ℕ) → position (is_for v) old.entries.items ≡ None → length old.entries.items < ROOM → new.wait ≡ old.wait
    → new.entries.items ≡ old.entries.items ++ record { vmac = v; question = Some (record { id = id; asked = now }); uris = None } ∷ [] → IsAsked old new now id v
asked_first old new v now id placed small waits items wait calls s =
    let es = old.entries.items in
    let q : Question = record { id = id; asked = now } in
    let e : Entry = record { vmac = v; question = Some q; uris = None } in
    let none : entry_of es v ≡ None = none_found (is_for v) es placed in (
      asked_in_vain old v placed small wait calls s,
      record {
        waits = waits ∙ s.waits;
        agrees = subst (λ l. Agrees l wait (calls ++ Ask now id v ∷ [])) (sym items)
            (asked_agrees es (es ++ e ∷ []) wait calls now id v s.agrees (subst (λ u. SetsAt es (es ++ e ∷ []) v (Some q) u) (sym (ap kept_uris none)) (sets_pushed v es (Some q) None none)));
        apart = subst (λ l. IsDistinct same_vmac (vmacs l)) (sym items)
            (subst (IsDistinct same_vmac) (sym (map-append (λ (x : Entry). x.vmac) es (e ∷ []))) (IsDistinct-push vmac_laws (vmacs es) v s.apart (is_among v es ∙ ap is_some none)));
        full = subst (λ l. list_all holds_something l ≡ true) (sym items) (list_all-append holds_something es (e ∷ []) ∙ ap (λ (b : Bool). b && (true && true)) s.full);
      },
    )

pub as_before : (old new : Resolve) → new.wait ≡ old.wait → new.entries.items ≡ old.entries.items → IsUnchanged old new
as_before old new waits items wait calls s = record {
  waits = waits ∙ s.waits;
  agrees = subst (λ l. Agrees l wait calls) (sym items) s.agrees;
  apart = subst (λ l. IsDistinct same_vmac (vmacs l)) (sym items) s.apart;
  full = subst (λ l. list_all holds_something l ≡ true) (sym items) s.full;
}

-- ---- answers, NAKs and the time

awaits_by : (r : Resolve) (wait : ℕ) (calls : List ResolveCall) (id : ℕ) (v : Vmac) → ResolveStands r wait calls → has_id id (kept_question (entry_of r.entries.items v)) ≡ awaits wait calls id v
awaits_by r wait calls id v s = ap (has_id id) (s.agrees.question v)

-- whether the question of an ID is under way
pub awaits_kept : (r : Resolve) (id : ℕ) (v : Vmac) (wait : ℕ) (calls : List ResolveCall) → ResolveStands r wait calls
    → is_some (awaiting_place r.entries.items id v) ≡ awaits wait calls id v
awaits_kept r id v wait calls s = by (awaiting_place r.entries.items id v) refl
  where
    by : (o : Option ℕ) → awaiting_place r.entries.items id v ≡ o → is_some (awaiting_place r.entries.items id v) ≡ awaits wait calls id v
    by None e = ap is_some e ∙ sym (awaiting_none r.entries.items id v e) ∙ awaits_by r wait calls id v s
    by (Some place) e = ap is_some e ∙ sym ((awaiting_is r.entries.items id v place e).1) ∙ awaits_by r wait calls id v s

-- the entry and the question with that ID
had : (id : ℕ) (o : Option Entry) → has_id id (kept_question o) ≡ true → (e : Entry) × (q : Question) × (o ≡ Some e) × (kept_question o ≡ Some q) × ((q.id == id) ≡ true)
had id None h = cc
had id (Some e) h = by e.question refl h
  where
    by : (o : Option Question) → e.question ≡ o → has_id id o ≡ true → (x : Entry) × (q : Question) × (Some e ≡ Some x) × (e.question ≡ Some q) × ((q.id == id) ≡ true)
    by None s k = cc
    by (Some q) s k = (e, q, refl, s, k)

pub answer_counts : (old new : Resolve) (id : ℕ) (v : Vmac) (uris : List ℕ) (place : ℕ) → awaiting_place old.entries.items id v ≡ Some place → new.wait ≡ old.wait
    → new.entries.items ≡ at_first (is_for v) (with_uris uris) old.entries.items → AnswersAnswer old new id v uris true
answer_counts old new id v uris place awaiting waits items wait calls s =
    let es = old.entries.items in
    let f : Entry → Entry = with_uris uris in
    let is = (awaiting_is es id v place awaiting).1 in
    let h = had id (entry_of es v) is in (
      sym is ∙ awaits_by old wait calls id v s,
      record {
        waits = waits ∙ s.waits;
        agrees = subst (λ l. Agrees l wait (calls ++ Answered id v uris ∷ [])) (sym items)
            (answered_agrees es (at_first (is_for v) f es) wait calls id v uris h.1 s.agrees h.3 h.4 (sets_first f v es h.0 (λ x. refl) h.2));
        apart = subst (λ l. IsDistinct same_vmac (vmacs l)) (sym items) (subst (IsDistinct same_vmac) (sym (vmacs_first (is_for v) f es (λ x. refl))) s.apart);
        full = subst (λ l. list_all holds_something l ≡ true) (sym items) (full_first (is_for v) f es (λ x. refl) s.full);
      },
    )

pub answer_is_lost : (old : Resolve) (id : ℕ) (v : Vmac) (uris : List ℕ) → awaiting_place old.entries.items id v ≡ None → AnswersAnswer old old id v uris false
answer_is_lost old id v uris awaiting wait calls s = (sym (awaiting_none old.entries.items id v awaiting) ∙ awaits_by old wait calls id v s, s)

pub nak_counts : (old new : Resolve) (id : ℕ) (v : Vmac) (place : ℕ) → awaiting_place old.entries.items id v ≡ Some place → new.wait ≡ old.wait
    → new.entries.items ≡ filter holds_something (at_first (is_for v) without_question old.entries.items) → AnswersRefusal old new id v true
nak_counts old new id v place awaiting waits items wait calls s =
    let es = old.entries.items in
    let f : Entry → Entry = without_question in
    let after = at_first (is_for v) f es in
    let after_apart : IsDistinct same_vmac (vmacs after) = subst (IsDistinct same_vmac) (sym (vmacs_first (is_for v) f es (λ x. refl))) s.apart in
    let is = (awaiting_is es id v place awaiting).1 in
    let h = had id (entry_of es v) is in (
      sym is ∙ awaits_by old wait calls id v s,
      record {
        waits = waits ∙ s.waits;
        agrees = subst (λ l. Agrees l wait (calls ++ Refused id v ∷ [])) (sym items)
            (refused_agrees es (filter holds_something after) wait calls id v h.1 s.agrees h.3 h.4
            (sets_left es after v None (kept_uris (entry_of es v)) after_apart (subst (λ u. SetsAt es after v None u) (sym (ap kept_uris h.2)) (sets_first f v es h.0 (λ x. refl) h.2))));
        apart = subst (λ l. IsDistinct same_vmac (vmacs l)) (sym items) (apart_filtered holds_something after after_apart);
        full = subst (λ l. list_all holds_something l ≡ true) (sym items) (full_filtered after);
      },
    )

pub nak_is_lost : (old : Resolve) (id : ℕ) (v : Vmac) → awaiting_place old.entries.items id v ≡ None → AnswersRefusal old old id v false
nak_is_lost old id v awaiting wait calls s = (sym (awaiting_none old.entries.items id v awaiting) ∙ awaits_by old wait calls id v s, s)

pub time_passes : (old new : Resolve) (now : ℕ) → new.wait ≡ old.wait → new.entries.items ≡ filter holds_something (map (ticked old.wait now) old.entries.items) → StandsOn old new (Tick now)
time_passes old new now waits items wait calls s =
    let es = old.entries.items in
    let told : new.entries.items ≡ filter holds_something (map (ticked wait now) es) = items ∙ ap (λ (n : ℕ). filter holds_something (map (ticked n now) es)) s.waits in
    record {
      waits = waits ∙ s.waits;
      agrees = subst (λ l. Agrees l wait (calls ++ Tick now ∷ [])) (sym told) (ticked_agrees es wait calls now s.apart s.agrees);
      apart = subst (λ l. IsDistinct same_vmac (vmacs l)) (sym told) (apart_filtered holds_something (map (ticked wait now) es)
          (subst (IsDistinct same_vmac) (sym (vmacs_ticked wait now es)) s.apart));
      full = subst (λ l. list_all holds_something l ≡ true) (sym told) (full_filtered (map (ticked wait now) es));
    }

pub learnt_at : (r : Resolve) (v : Vmac) (place : ℕ) (e : Entry) (wait : ℕ) (calls : List ResolveCall) → position (is_for v) r.entries.items ≡ Some place → e ≡ get_or r.entries.items place e
    → ResolveStands r wait calls → e.uris ≡ learnt calls v
learnt_at r v place e wait calls placed at s = ap kept_uris (sym (find_placed (is_for v) r.entries.items place e placed at)) ∙ s.agrees.uris v

pub learnt_nowhere : (r : Resolve) (v : Vmac) (wait : ℕ) (calls : List ResolveCall) → position (is_for v) r.entries.items ≡ None → ResolveStands r wait calls → None ≡ learnt calls v
learnt_nowhere r v wait calls placed s = ap kept_uris (sym (none_found (is_for v) r.entries.items placed)) ∙ s.agrees.uris v

pub made : (r : Resolve) (wait : ℕ) → r.wait ≡ wait → r.entries.items ≡ [] → ResolveStands r wait []
made r wait waits items = record {
  waits = waits;
  agrees = subst (λ l. Agrees l wait []) (sym items) (record { question = λ v. refl; uris = λ v. refl });
  apart = subst (λ l. IsDistinct same_vmac (vmacs l)) (sym items) nothing;
  full = subst (λ l. list_all holds_something l ≡ true) (sym items) refl;
}
  where
    nothing : IsDistinct same_vmac []
    nothing = IsDistinct-from_apart same_vmac [] (λ i j d below within. absurd (omega arith))

-- ---- laws

pub few_held : (r : Resolve) (wait : ℕ) (calls : List ResolveCall) → ResolveStands r wait calls → held wait calls ≤ ROOM
few_held r wait calls s = subst (λ (n : ℕ). n ≤ ROOM) (held_count r wait calls s) (let few : vec_len r.entries ≤ ROOM = r.few in omega (arith, few, r.entries.ok.0))

pub learnt_stays : (calls : List ResolveCall) (call : ResolveCall) (v : Vmac) → uris_for v call ≡ None → learnt (calls ++ call ∷ []) v ≡ learnt calls v
learnt_stays calls call v none = learnt-more calls call v ∙ ap (λ (o : Option (List ℕ)). option_or o (learnt calls v)) none

-- ---- how many are held

pub refused_at_256 : (wait : ℕ) (calls : List ResolveCall) (v : Vmac) → is_held wait calls v ≡ false → held wait calls ≡ 256 → ask_refusal wait calls v ≡ Some (Full 256)
refused_at_256 wait calls v new many =
    ap (λ (h : Bool). refusal_of h (held wait calls) (question wait calls v)) new ∙ ap (λ (n : ℕ). refusal_of false n (question wait calls v)) many

pub asked_at_255 : (wait : ℕ) (calls : List ResolveCall) (v : Vmac) → is_held wait calls v ≡ false → held wait calls ≡ 255 → ask_refusal wait calls v ≡ None
asked_at_255 wait calls v new many =
    ap (λ (h : Bool). refusal_of h (held wait calls) (question wait calls v)) new ∙ ap (λ (n : ℕ). refusal_of false n (question wait calls v)) many
    ∙ ap (option_map (λ (q : Question). Pending q.id)) (none_if (question wait calls v) (or_left (is_some (question wait calls v)) (is_some (learnt calls v)) new))
