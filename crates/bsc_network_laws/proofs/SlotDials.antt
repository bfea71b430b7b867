-- How often a slot dials, one URI after the other: at most so often as URIs were learnt, and those are few.
-- It serves the clauses of `failures_are_all_heard`.
use Rattle.std.proofs.Common.{◌≡◌, ◌≤◌, ◌⊎◌, inl, inr, ℕ, ◌+◌, ◌-◌, Bool, true, false, cond, List, [], ◌∷◌, ◌++◌, length, filter, Option, Some, None, refl, ap, sym, subst, ◌∙◌, append_assoc, arith}
use Rattle.std.specs.Prelude.{zero, suc, ⊤, ◌/◌, ◌%◌, take, ◌==◌, if◌then◌else◌, filter_map, map, slice_get, count_by, unwrap_or, drop}
use Rattle.std.specs.List.{list_all, list_any}
use Rattle.std.specs.Option.{option_and_then, option_or}
use Rattle.bsc_octets.specs.declared.vmac.Vmac.{Vmac}
use Rattle.bsc_octets.specs.Envelopes.{flags_in}
use Rattle.bsc_octets.specs.Forwarding.{function_in}
use Rattle.bsc_frame.specs.Layout.{announces_dest_options, announces_data_options, options_at}
use Rattle.bsc_frame.specs.declared.check.Check.{Check}
use Rattle.bsc_frame.specs.declared.check.Check.TheVariants.{C2}
use Rattle.bsc_frame.specs.declared.body.Body.{Body}
use Rattle.bsc_frame.specs.declared.body.Body.TheVariants.{AddressResolutionAck}
use Rattle.bsc_frame.specs.declared.message.Message.{Message}
use Rattle.bsc_checks.specs.declared.place.Place.{Place}
use Rattle.bsc_checks.specs.declared.verdict.Verdict.TheVariants.{Pass}
use Rattle.bsc_checks.specs.Places.{is_to_carry}
use Rattle.bsc_checks.specs.Table.{checks_of}
use Rattle.bsc_checks.specs.Failing.{fails}
use Rattle.bsc_checks.specs.Outcomes.{outcome_of, first_failing}
use Rattle.bsc_checks.specs.Options.{Data, First, Found, data_in, with_marker, first_in, with_first, continued, after_first, items_in, list_in, list_behind, rest_of, dest_options_in, data_options_in}
use Rattle.bsc_checks.specs.Payloads.{body_in}
use Rattle.bsc_checks.proofs.Common.{none_fails, passes_when, unrefused}
use Rattle.bsc_connector.specs.Back.{since, newest_of}
use Rattle.bsc_connector.proofs.BackLemmas.{since-more, count_by-more, newest_of-more}
use Rattle.bsc_resolve.specs.Resolving as Resolving
use Rattle.bsc_resolve.specs.declared.call.ResolveCall.{ResolveCall}
use Rattle.bsc_direct.specs.Slots as Slots
use Rattle.bsc_direct.specs.declared.call.SlotCall.{SlotCall}
use Rattle.bsc_direct.specs.declared.call.SlotCall.TheVariants.{Claim}
use Rattle.bsc_node.specs.declared.link_name.LinkName.TheVariants.{Direct}
use Rattle.bsc_node.specs.declared.node_event.NodeEvent.TheVariants.{DialFailed, DirectTo, NoRandom}
use Rattle.bsc_node.specs.declared.timed_event.TimedEvent.{TimedEvent}
use Rattle.bsc_node.specs.declared.note.Note.TheVariants.{NoUris, SlotsFull, NoDirect}
use Rattle.bsc_node.specs.declared.action.Action.TheVariants.{Dial}
use Rattle.bsc_node.specs.Logs.{Made, Line, came, did, slot, Log, Rule, nothing, in_order, where_found, with_some, does, tells, action_of}
use Rattle.bsc_node.specs.Links.{begins}
use Rattle.bsc_node.specs.Laws.{draws, with_event}
use Rattle.bsc_node.specs.Node.{goes_on, actions_at}
use Rattle.bsc_node.specs.Ending.{tells_finished, ends_by, ends}
use Rattle.bsc_node.specs.Requesting.{dials_first}
use Rattle.bsc_node.specs.Events.{follows}
use Rattle.bsc_node.proofs.Order.{in_order-brought}
use Rattle.bsc_node.proofs.Passing.{pass-in_order, pass-nothing, pass-found}
use Rattle.bsc_node.proofs.Following.{goes_on-is, brought-one}
use Rattle.bsc_network.specs.NodeEvents.{brings_about}
use Rattle.bsc_network_laws.proofs.Undialled.{is_plain, Plain, dialled_in, plain-dials, plain-draws, plain-ends_slot, plain-tells_finished}
use Rattle.bsc_node.specs.Ways.{slot_calls, slot_call_of, slots_see, resolve_calls, resolve_call_of, wanted, established, free_slot, learnt, words_with}
use Rattle.bsc_node.specs.Ways.{is_ws_uri, uris_to_dial, is_claim_of, tries, next_uri}
use Rattle.bsc_node.proofs.Common.{slot_calls-kept, resolve_calls-kept}
use Rattle.bsc_lemmas.proofs.Booleans.{eq_self}
use Rattle.bsc_lemmas.proofs.Lists.{all-at, filter_le, got-within}
use Rattle.std.proofs.lemmas.Bool.{ltb-false}
use Rattle.std.proofs.lemmas.List.Elements.{filter_map-append}

-- ---- a text has no more words than octets, and one

-- a word with one octet more
abbrev and_octet : List ℕ → ℕ → List ℕ
and_octet [] c = c ∷ []
and_octet (b ∷ bs) c = b ∷ and_octet bs c

few_words : (text word : List ℕ) → length (words_with word text) ≤ 1 + length text
few_words [] word = omega arith
few_words (c ∷ text) word = by (c == 0x20) refl (λ w. few_words text w)
  where
    by : (b : Bool) → (c == 0x20) ≡ b → ((w : List ℕ) → length (words_with w text) ≤ 1 + length text) → length (words_with word (c ∷ text)) ≤ 1 + length (c ∷ text)
    by true h rest = rw h (let q = rest [] in omega (arith, q))
    by false h rest = rw h (let q = rest (and_octet word c) in omega (arith, q))

abbrev uris_in : Option (List ℕ) → List (List ℕ)
uris_in None = []
uris_in (Some text) = filter is_ws_uri (words_with [] text)

uris_are : (v : Vmac) (L : Log) (o : Option (List ℕ)) → learnt v L ≡ o → uris_to_dial v L ≡ uris_in o
uris_are v L None h = rw h refl
uris_are v L (Some text) h = rw h refl

few_uris : (o : Option (List ℕ)) (max : ℕ) → ((text : List ℕ) → o ≡ Some text → length text ≤ max) → length (uris_in o) ≤ 1 + max
few_uris None max h = omega arith
few_uris (Some text) max h =
    let fit = h text refl in
    let words = few_words text [] in
    let some = filter_le is_ws_uri (words_with [] text) in
    omega (arith, fit, words, some)

-- No URIs were learnt that are longer than a message may be.
abbrev pub LearnsShort : Made → Log → Type 0
LearnsShort a L = (v : Vmac) (text : List ℕ) → learnt v L ≡ Some text → length text ≤ a.own.max_bvlc

pub few_to_dial : (a : Made) (L : Log) (v : Vmac) → LearnsShort a L → length (uris_to_dial v L) ≤ 1 + a.own.max_bvlc
few_to_dial a L v short =
    let few = few_uris (learnt v L) a.own.max_bvlc (λ text is. short v text is) in
    let same = ap length (uris_are v L (learnt v L) refl) in
    omega (arith, few, same)

-- ---- what is left to dial

abbrev of_wanted : Log → Option Vmac → List (List ℕ)
of_wanted L None = []
of_wanted L (Some v) = uris_to_dial v L

-- How many URIs are left to a slot.
abbrev pub left : ℕ → Log → ℕ
left k L = length (of_wanted L (wanted k L)) - tries k L

-- another log of which the same was learnt and wanted
same_to_dial : (L M : Log) → resolve_calls M ≡ resolve_calls L → (v : Vmac) → uris_to_dial v M ≡ uris_to_dial v L
same_to_dial L M h v =
    let same : learnt v M ≡ learnt v L = ap (λ (calls : List ResolveCall). Resolving.learnt calls v) h in
    uris_are v M (learnt v L) same ∙ sym (uris_are v L (learnt v L) refl)

same_wanted : (L M : Log) → resolve_calls M ≡ resolve_calls L → (o : Option Vmac) → of_wanted M o ≡ of_wanted L o
same_wanted L M h None = refl
same_wanted L M h (Some v) = same_to_dial L M h v

tries-more : (k : ℕ) (L : Log) (m : Line) → is_claim_of k m ≡ false → tries k (L ++ m ∷ []) ≡ tries k L + cond (begins (Direct k) m) 1 0
tries-more k L m h =
    ap (count_by (begins (Direct k))) (since-more (is_claim_of k) L m ∙ ap (λ (b : Bool). cond b [] (since (is_claim_of k) L ++ m ∷ [])) h)
    ∙ count_by-more (begins (Direct k)) (since (is_claim_of k) L) m

tries-claimed : (k : ℕ) (L : Log) (m : Line) → is_claim_of k m ≡ true → tries k (L ++ m ∷ []) ≡ 0
tries-claimed k L m h = ap (count_by (begins (Direct k))) (since-more (is_claim_of k) L m ∙ ap (λ (b : Bool). cond b [] (since (is_claim_of k) L ++ m ∷ [])) h)

begins_itself : (k : ℕ) (uri : List ℕ) → begins (Direct k) (did (Dial (Direct k) uri)) ≡ true
begins_itself k uri = rw (eq_self k) refl

-- A line that says nothing of slots leaves what is left, but that the slot's dial takes one.
same_left : (k : ℕ) (L : Log) (m : Line) → slot_call_of m ≡ None → resolve_call_of m ≡ None → is_claim_of k m ≡ false → begins (Direct k) m ≡ false → left k (L ++ m ∷ []) ≡ left k L
same_left k L m s r c b =
    let t = tries-more k L m c ∙ ap (λ (d : Bool). tries k L + cond d 1 0) b in
    let w =
    ap length (ap (of_wanted (L ++ m ∷ [])) (ap (λ (calls : List SlotCall). Slots.wanted calls k) (slot_calls-kept L m s))
    ∙ same_wanted L (L ++ m ∷ []) (resolve_calls-kept L m r) (wanted k L)) in
    omega (arith, t, w)

pub left-dialled : (k : ℕ) (uri : List ℕ) (L : Log) → left k (L ++ did (Dial (Direct k) uri) ∷ []) ≡ left k L - 1
left-dialled k uri L =
    let m : Line = did (Dial (Direct k) uri) in
    let t = tries-more k L m refl ∙ ap (λ (d : Bool). tries k L + cond d 1 0) (begins_itself k uri) in
    let w =
    ap length (ap (of_wanted (L ++ m ∷ [])) (ap (λ (calls : List SlotCall). Slots.wanted calls k) (slot_calls-kept L m refl))
    ∙ same_wanted L (L ++ m ∷ []) (resolve_calls-kept L m refl) (wanted k L)) in
    omega (arith, t, w)

-- a slot that is claimed for v has all its URIs left
pub left-claimed : (k : ℕ) (v : Vmac) (L : Log) → left k (L ++ slot (Claim k (Some v)) ∷ []) ≡ length (uris_to_dial v L)
left-claimed k v L =
    let m : Line = slot (Claim k (Some v)) in
    let t = tries-claimed k L m (eq_self k) in
    let w = ap length (ap (of_wanted (L ++ m ∷ [])) wants ∙ same_wanted L (L ++ m ∷ []) (resolve_calls-kept L m refl) (Some v)) in
    omega (arith, t, w)
  where
    wants : wanted k (L ++ slot (Claim k (Some v)) ∷ []) ≡ Some v
    wants =
        ap (λ (calls : List SlotCall). Slots.wanted calls k) (filter_map-append slot_call_of L (slot (Claim k (Some v)) ∷ []))
        ∙ ap (λ (o : Option (Option Vmac)). unwrap_or o None) (newest_of-more (Slots.wanted_by k) (slot_calls L) (Claim k (Some v)))
        ∙ ap (λ (b : Bool). unwrap_or (option_or (cond b (Some (Some v)) None) (newest_of (Slots.wanted_by k) (slot_calls L))) None) (eq_self k)

-- where there is a next URI, one is left
pub left-next : (k : ℕ) (uri : List ℕ) (L : Log) → next_uri k L ≡ Some uri → 1 ≤ left k L
left-next k uri L h = by (wanted k L) refl h
  where
    by : (o : Option Vmac) → wanted k L ≡ o → option_and_then (λ v. slice_get (uris_to_dial v L) (tries k L)) o ≡ Some uri → 1 ≤ left k L
    by None is g = cc
    by (Some v) is g =
        let within = got-within (uris_to_dial v L) (tries k L) uri g in
        let all = ap length (ap (of_wanted L) is) in
        omega (arith, within, all)

-- ---- what a message that passed has

-- the octets behind a list of options are no more than those of the list and behind it
abbrev Shorter : ℕ → Option Found → Type 0
Shorter n None = ⊤
Shorter n (Some found) = length found.rest ≤ n

dropped : (n : ℕ) (o : List ℕ) → length (drop n o) ≤ length o
dropped zero o = omega arith
dropped (suc n) [] = omega arith
dropped (suc n) (x ∷ o) = let q = dropped n o in omega (arith, q)

abbrev DataShorter : ℕ → Option Data → Type 0
DataShorter n None = ⊤
DataShorter n (Some d) = length d.rest ≤ n

cut_short : (b : Bool) (n : ℕ) (o : List ℕ) → DataShorter (length o) (cond b None (Some (record { content = Some (take n (drop 2 o)); rest = drop n (drop 2 o) })))
cut_short true n o = tt
cut_short false n o = let p = dropped 2 o in let q = dropped n (drop 2 o) in omega (arith, p, q)

data_short : (announced : Bool) (o : List ℕ) → DataShorter (length o) (data_in announced o)
data_short false o = omega arith
data_short true o = cut_short _ _ o

abbrev FirstShorter : ℕ → Option First → Type 0
FirstShorter n None = ⊤
FirstShorter n (Some first) = length first.rest ≤ n

marked_short : (n marker : ℕ) (o : Option Data) → DataShorter n o → FirstShorter (suc n) (with_marker marker o)
marked_short n marker None h = tt
marked_short n marker (Some d) h = omega (arith, h)

first_short : (o : List ℕ) → FirstShorter (length o) (first_in o)
first_short [] = tt
first_short (marker ∷ o) = marked_short (length o) marker (data_in ((marker / 32 % 2) == 1) o) (data_short ((marker / 32 % 2) == 1) o)

more_short : (n m : ℕ) (o : Option Found) → m ≤ n → Shorter m o → Shorter n o
more_short n m None h s = tt
more_short n m (Some found) h s = omega (arith, h, s)

with_short : (n : ℕ) (first : First) (o : Option Found) → Shorter n o → Shorter n (with_first first.item o)
with_short n first None s = tt
with_short n first (Some found) s = s

items_short : (most : ℕ) (o : List ℕ) → Shorter (length o) (items_in most o)
items_short zero o = tt
items_short (suc most) o = by (first_in o) (first_short o) (λ r. items_short most r)
  where
    go : (follows : Bool) (first : First) → length first.rest ≤ length o → ((r : List ℕ) → Shorter (length r) (items_in most r))
        → Shorter (length o) (continued follows first.item first.rest (λ r. items_in most r))
    go true first h later = with_short (length o) first (items_in most first.rest) (more_short (length o) (length first.rest) (items_in most first.rest) h (later first.rest))
    go false first h later = h

    by : (f : Option First) → FirstShorter (length o) f → ((r : List ℕ) → Shorter (length r) (items_in most r)) → Shorter (length o) (after_first f (λ r. items_in most r))
    by None h later = tt
    by (Some first) h later = go first.follows first h later

list_short : (announced : Bool) (o : List ℕ) → Shorter (length o) (list_in announced o)
list_short true o = items_short (length o) o
list_short false o = omega arith

behind_short : (n : ℕ) (announced : Bool) (o : Option Found) → Shorter n o → Shorter n (list_behind announced o)
behind_short n announced None s = tt
behind_short n announced (Some found) s = more_short n (length found.rest) (list_in announced found.rest) s (list_short announced found.rest)

rest_short : (n : ℕ) (o : Option Found) → Shorter n o → length (rest_of o) ≤ n
rest_short n None s = omega arith
rest_short n (Some found) s = s

-- The payload of a message is no longer than the message.
payload_short : (m : List ℕ) → length (rest_of (data_options_in m)) ≤ length m
payload_short m =
    rest_short (length m) (data_options_in m)
    (behind_short (length m) (announces_data_options (flags_in m)) (dest_options_in m)
    (more_short (length m) (length (drop (options_at m) m)) (dest_options_in m) (dropped (options_at m) m) (list_short (announces_dest_options (flags_in m)) (drop (options_at m) m))))

-- URIs that a payload says are the payload
uris_if : (uris p : List ℕ) (b : Bool) (x y : Body) → (x ≡ AddressResolutionAck uris → length uris ≤ length p) → (y ≡ AddressResolutionAck uris → length uris ≤ length p)
    → cond b x y ≡ AddressResolutionAck uris → length uris ≤ length p
uris_if uris p true x y f g h = f h
uris_if uris p false x y f g h = g h

said_in : (f : ℕ) (p uris : List ℕ) → body_in f p ≡ AddressResolutionAck uris → length uris ≤ length p
said_in f p uris h =
    uris_if uris p (f == 0x00) _ _ (λ e. cc) (uris_if uris p (f == 0x01) _ _ (λ e. cc)
    (uris_if uris p (f == 0x02) _ _ (λ e. cc) (uris_if uris p (f == 0x03) _ _ (λ e. let same = ap length (same_uris p uris e) in omega (arith, same))
    (uris_if uris p (f == 0x04) _ _ (λ e. cc) (uris_if uris p (f == 0x05) _ _ (λ e. cc) (uris_if uris p (f == 0x06) _ _ (λ e. cc)
    (uris_if uris p (f == 0x07) _ _ (λ e. cc) (uris_if uris p (f == 0x08) _ _ (λ e. cc) (uris_if uris p (f == 0x09) _ _ (λ e. cc)
    (uris_if uris p (f == 0x0A) _ _ (λ e. cc) (uris_if uris p (f == 0x0B) _ _ (λ e. cc) (λ e. cc)))))))))))) h
  where
    same_uris : (x y : List ℕ) → AddressResolutionAck x ≡ AddressResolutionAck y → x ≡ y
    same_uris x y e = cc

-- The URIs of an Address-Resolution-ACK that passed are no longer than a message may be.
pub said-short : (m : List ℕ) (place : Place) (max : ℕ) (msg : Message) (uris : List ℕ) → outcome_of m place max ≡ Pass msg → msg.body ≡ AddressResolutionAck uris → length uris ≤ max
unfolding outcome_of
said-short m place max msg uris h body =
    let passed = unrefused m place (first_failing (fails m place max) (checks_of place m)) (Pass msg) h refl in
    let each = none_fails (fails m place max) (checks_of place m) passed.0 in
    let within = ltb-false max (length m) (all-at (λ (check : Check). fails m place max check ≡ false) (checks_of place m) 1 C2 each refl) in
    let whole = payload_short m in
    let same = (passes_when (is_to_carry place m) m msg passed.1).1 in
    let said = said_in (function_in m) (rest_of (data_options_in m)) uris (ap (λ (x : Message). x.body) same ∙ body) in
    omega (arith, within, whole, said)

-- ---- what is dialled for slots at an event

-- Lines behind the log L dial nothing; or they dial once, for a slot, and so many times at most with what is left to it then.
abbrev pub DialsOnce : Log → List Line → ℕ → Type 0
DialsOnce L lines m = (dialled_in lines ≡ []) ⊎ ((k : ℕ) × (dialled_in lines ≡ Direct k ∷ []) × (1 + left k (L ++ lines) ≤ m))

-- So do lines that draw no word.
record Follows (L : Log) (m : ℕ) (lines : List Line) : Type 0 where
  undrawn : list_any draws (filter_map action_of lines) ≡ false
  dials : DialsOnce L lines m

follows_plain : (L : Log) (m : ℕ) (lines : List Line) → list_all is_plain lines ≡ true → Follows L m lines
follows_plain L m lines h = record { undrawn = plain-draws lines h; dials = inl (plain-dials lines h) }

follows_if : {A : Type 0} (L : Log) (m : ℕ) (o : Option A) (rule : A → Rule) (other : Rule) → ((x : A) → o ≡ Some x → Follows L m (rule x L)) → Follows L m (other L)
    → Follows L m (with_some o rule other L)
follows_if L m None rule other f g = g
follows_if L m (Some x) rule other f g = f x refl

brought : (a : Made) (L : Log) (e : TimedEvent) (m : ℕ) → Follows (with_event L e) m (follows a e.event (with_event L e)) → DialsOnce L (brings_about a e L) m
brought a L e m f = subst (λ (ls : List Line). DialsOnce L ls m) (sym whole) (by f.dials)
  where
    lines : List Line
    lines = follows a e.event (with_event L e)

    none : TimedEvent
    none = record { now = e.now; event = NoRandom }

    no_draw : list_any draws (actions_at a L e) ≡ false
    no_draw = ap (λ (ls : List Line). list_any draws (filter_map action_of ls)) (goes_on-is a L e) ∙ f.undrawn

    whole : brings_about a e L ≡ came e ∷ lines
    whole = ap (λ (b : Bool). in_order (map (goes_on a) (if b then e ∷ none ∷ [] else e ∷ [])) L) no_draw ∙ brought-one a e L ∙ goes_on-is a L e

    by : DialsOnce (with_event L e) lines m → DialsOnce L (came e ∷ lines) m
    by (inl nothing_dialled) = inl nothing_dialled
    by (inr (k, is, within)) = inr (k, is, subst (λ (M : Log). 1 + left k M ≤ m) (append_assoc L (came e ∷ []) lines) within)

-- A slot whose dial failed dials the next URI, where one is left.
pub slot-fails : (a : Made) (L : Log) (t k : ℕ) → DialsOnce L (brings_about a (record { now = t; event = DialFailed (Direct k) }) L) (left k L)
slot-fails a L t k = brought a L e (left k L) (follows_if M (left k L) (next_uri k M) (λ uri. does (Dial (Direct k) uri)) last next (follows_plain M (left k L) (last M) (plain_last M)))
  where
    e : TimedEvent
    e = record { now = t; event = DialFailed (Direct k) }

    M : Log
    M = with_event L e

    last : Rule
    last = in_order (where_found (wanted k) (λ v. tells (NoDirect v)) nothing ∷ ends a (Direct k) ∷ [])

    plain_last : Plain last
    plain_last =
        pass-in_order is_plain (where_found (wanted k) (λ v. tells (NoDirect v)) nothing ∷ ends a (Direct k) ∷ []) (
          pass-found is_plain (wanted k) (λ v. tells (NoDirect v)) nothing (λ v N. refl) (pass-nothing is_plain),
          (pass-in_order is_plain (ends_by a (Direct k) ∷ tells_finished ∷ []) (plain-ends_slot k, (plain-tells_finished, tt)), tt),
        )

    next : (uri : List ℕ) → next_uri k M ≡ Some uri → Follows M (left k L) (did (Dial (Direct k) uri) ∷ [])
    next uri is = record {
      undrawn = refl;
      dials = inr (
        k,
        refl,
        (let some = left-next k uri M is in let one = left-dialled k uri M in
            let same : left k M ≡ left k L = same_left k L (came e) refl refl refl refl in omega (arith, some, one, same)),
      );
    }

-- A slot that is claimed dials the first URI, and all are no more than were learnt.
pub slot-begins : (a : Made) (L : Log) (t : ℕ) (v : Vmac) → LearnsShort a L → DialsOnce L (brings_about a (record { now = t; event = DirectTo v }) L) (1 + a.own.max_bvlc)
slot-begins a L t v short =
    brought a L e (1 + a.own.max_bvlc)
    (follows_if M (1 + a.own.max_bvlc) (established v M) (λ k. nothing) by_text (λ k is. follows_plain M (1 + a.own.max_bvlc) [] refl)
    (follows_if M (1 + a.own.max_bvlc) (learnt v M) (λ text. by_slot) (tells (NoUris v))
    (λ text is. follows_if M (1 + a.own.max_bvlc) (free_slot M) (λ k N. dials_first v k (uris_to_dial v N) N) (tells SlotsFull) (λ k free. first k (uris_to_dial v M) refl)
    (follows_plain M (1 + a.own.max_bvlc) (tells SlotsFull M) refl)) (follows_plain M (1 + a.own.max_bvlc) (tells (NoUris v) M) refl)))
  where
    by_slot : Rule
    by_slot = where_found free_slot (λ k N. dials_first v k (uris_to_dial v N) N) (tells SlotsFull)

    by_text : Rule
    by_text = where_found (learnt v) (λ text. by_slot) (tells (NoUris v))

    e : TimedEvent
    e = record { now = t; event = DirectTo v }

    M : Log
    M = with_event L e

    few : length (uris_to_dial v M) ≤ 1 + a.own.max_bvlc
    few =
        let at_most = few_to_dial a L v short in
        let same = ap length (same_to_dial L M (resolve_calls-kept L (came e) refl) v) in
        omega (arith, at_most, same)

    first : (k : ℕ) (uris : List (List ℕ)) → uris_to_dial v M ≡ uris → Follows M (1 + a.own.max_bvlc) (dials_first v k uris M)
    first k [] is = follows_plain M (1 + a.own.max_bvlc) (tells (NoDirect v) M) refl
    first k (uri ∷ uris) is = subst (Follows M (1 + a.own.max_bvlc)) (sym (in_order-brought (slots_see (Claim k (Some v)) ∷ does (Dial (Direct k) uri) ∷ []) M)) (record {
      undrawn = refl;
      dials = inr (
        k,
        refl,
        subst (λ (N : Log). 1 + left k N ≤ 1 + a.own.max_bvlc) (append_assoc M (slot (Claim k (Some v)) ∷ []) (did (Dial (Direct k) uri) ∷ []))
            (let one = left-dialled k uri (M ++ slot (Claim k (Some v)) ∷ []) in
            let all = left-claimed k v M in
            let some = ap length is in
            let at_most = few in
            omega (arith, one, all, some, at_most)),
      );
    })

-- what is left to a slot is no more than was learnt
pub few_left : (a : Made) (L : Log) (k : ℕ) → LearnsShort a L → left k L ≤ 1 + a.own.max_bvlc
few_left a L k short = by (wanted k L) refl
  where
    by : (o : Option Vmac) → wanted k L ≡ o → left k L ≤ 1 + a.own.max_bvlc
    by None is = let none = ap length (ap (of_wanted L) is) in omega (arith, none)
    by (Some v) is = let all = ap length (ap (of_wanted L) is) in let few = few_to_dial a L v short in omega (arith, all, few)
