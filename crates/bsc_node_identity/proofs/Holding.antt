-- Rules behind which the link of an established slot is there, and those that release the slot where its link is over.
-- It serves clauses of functions of `laws`.
use Rattle.std.proofs.Common.{◌≡◌, ℕ, Bool, true, false, not, cond, ◌&&◌, List, [], ◌∷◌, ◌++◌, Option, Some, None, is_some, refl, ap, sym, ◌∙◌, subst}
use Rattle.std.specs.Prelude.{⊤, ◌==◌}
use Rattle.std.specs.List.{list_all}
use Rattle.std.proofs.lemmas.List.{append_assoc, append-nil}
use Rattle.bsc_octets.specs.declared.vmac.Vmac.{Vmac}
use Rattle.bsc_octets.specs.declared.identity.Identity.{Identity}
use Rattle.bsc_frame.specs.declared.message.Message.{Message}
use Rattle.bsc_frame.specs.declared.body.Body.{Body}
use Rattle.bsc_frame.specs.declared.body.Body.TheVariants.{BvlcResult, Npdu, AddressResolution, AddressResolutionAck, Advertisement, AdvertisementSolicitation}
use Rattle.bsc_resolve.specs.declared.call.ResolveCall.TheVariants.{Ask}
use Rattle.bsc_resolve.specs.declared.ask_refusal.AskRefusal.{AskRefusal}
use Rattle.bsc_resolve.specs.declared.ask_refusal.AskRefusal.TheVariants.{Full, Pending, NoMemory}
use Rattle.bsc_accept.specs.declared.closing.Closing.{Closing}
use Rattle.bsc_accept.specs.Steps.{closing}
use Rattle.bsc_direct.specs.declared.call.SlotCall.TheVariants.{Claim, Up, Release}
use Rattle.bsc_direct.specs.Slots.{is_up_call}
use Rattle.bsc_direct.proofs.OneMore.{peer-before, peer-beside, peer-cleared}
use Rattle.bsc_node.specs.Messages.{nak, not_supported_code}
use Rattle.bsc_node.specs.declared.link_name.LinkName.{LinkName}
use Rattle.bsc_node.specs.declared.link_name.LinkName.TheVariants.{Hub, Direct}
use Rattle.bsc_node.specs.declared.note.Note.TheVariants.{DirectDown, NoPath, TooLong, Advert as ToldAdvert}
use Rattle.bsc_node.specs.declared.action.Action.TheVariants.{Dial, Take, Refuse, Put, Close, Deliver, Tell, Draw}
use Rattle.bsc_node.specs.Logs.{Made, Line, came, did, slot, initiating, accepting, connector, resolution, Log, Rule, nothing, in_order, if_so, either, where_found, does, tells, now, next_id}
use Rattle.bsc_node.specs.Links.{same_link, begins, is_over_by, is_there, finishes}
use Rattle.bsc_node.specs.Links.{Outcome, puts, puts_and_closes, closes, meets, is_refused, passes_up, keeps_still, outcome}
use Rattle.bsc_node.specs.Ways.{Way, way, ask_refusal, slot_calls, established_peer, slots_see, resolution_sees}
use Rattle.bsc_node.specs.Ending.{carries_out_by, carries_out, finishes_machine, ends_slot, tells_finished, ends, closes_link, finishes_link}
use Rattle.bsc_node.specs.Receiving.{sender, is_for_all, answers, answers_by, learns, takes_answer, of_sender, takes_body, delivers}
use Rattle.bsc_node.specs.Requesting.{puts_own, by_path, asks_unless, sends, resolves, solicits, other_end_takes}
use Rattle.bsc_node.proofs.Common.{same_link-is}
use Rattle.bsc_node.proofs.There.{there-other}
use Rattle.bsc_node.proofs.Order.{in_order-brought, in_order-cons}
use Rattle.bsc_node.proofs.Passing.{Passes, pass-weaker, pass-in_order, pass-either, pass-nothing, pass-when, pass-found, pass-some}
use Rattle.bsc_node_laws.proofs.There.{there-begun}
use Rattle.bsc_node_identity.proofs.Bare.{Bare, is_bare, bare-ends, bare-finishes, bare-learns, bare-takes_answer, bare-tells_finished}
use Rattle.bsc_node_identity.proofs.OneMore.{established-same, established-told}
use Rattle.bsc_lemmas.proofs.Booleans.{and_left, and_right, not_true, eq_self}
use Rattle.bsc_lemmas.proofs.Options.{some_none_any as some_none}

-- Where the slot is established, its link is there.
abbrev pub HeldAt : ℕ → Log → Type 0
HeldAt k N = (who : Identity) → established_peer k N ≡ Some who → is_there (Direct k) N ≡ true

-- ---- one line more

-- A line by which neither the slot's link is over nor the slot comes up.
abbrev pub is_mild : ℕ → Line → Bool
is_mild k (slot call) = not (is_up_call k call)
is_mild k m = not (is_over_by (Direct k) m)

pub up_elsewhere : (j k : ℕ) (who : Identity) → is_mild k (slot (Up j who)) ≡ true → (j == k) ≡ false
up_elsewhere j k who h = by (j == k) h
  where
    by : (b : Bool) → not (is_some (cond b (Some who) None)) ≡ true → b ≡ false
    by false g = refl
    by true g = cc

-- whom the slot is established with it was so before such a line
pub was_with : (k : ℕ) (N : Log) (m : Line) (who : Identity) → is_mild k m ≡ true → established_peer k (N ++ m ∷ []) ≡ Some who → established_peer k N ≡ Some who
was_with k N (slot (Up j w)) who mild h = (peer-beside (slot_calls N) j k w who (up_elsewhere j k w mild) (sym (established-told k N (Up j w)) ∙ h)).0
was_with k N (slot (Claim j w)) who mild h = peer-before (slot_calls N) k (Claim j w) who refl (λ x. refl) (sym (established-told k N (Claim j w)) ∙ h)
was_with k N (slot (Release j)) who mild h = peer-before (slot_calls N) k (Release j) who refl (λ x. refl) (sym (established-told k N (Release j)) ∙ h)
was_with k N m who mild h = sym (established-same k N m refl) ∙ h

pub not_over : (k : ℕ) (m : Line) → is_mild k m ≡ true → is_over_by (Direct k) m ≡ false
not_over k (slot call) h = refl
not_over k m h = not_true (is_over_by (Direct k) m) h

pub held-more : (k : ℕ) (N : Log) (m : Line) → is_mild k m ≡ true → HeldAt k N → HeldAt k (N ++ m ∷ [])
held-more k N m mild held who h = by (begins (Direct k) m) refl
  where
    over : is_over_by (Direct k) m ≡ false
    over = not_over k m mild

    by : (b : Bool) → begins (Direct k) m ≡ b → is_there (Direct k) (N ++ m ∷ []) ≡ true
    by true b = there-begun (Direct k) N m b over
    by false b = there-other (Direct k) N m b over ∙ held who (was_with k N m who mild h)

pub helds : (k : ℕ) (N : Log) (lines : List Line) → list_all (is_mild k) lines ≡ true → HeldAt k N → HeldAt k (N ++ lines)
helds k N [] h held = subst (HeldAt k) (sym (append-nil N)) held
helds k N (m ∷ lines) h held =
    subst (HeldAt k) (append_assoc N (m ∷ []) lines)
    (helds k (N ++ m ∷ []) lines (and_right (is_mild k m) (list_all (is_mild k) lines) h) (held-more k N m (and_left (is_mild k m) (list_all (is_mild k) lines) h) held))

-- ---- rules

-- Whatever the log, the rule goes on by mild lines.
abbrev pub Mild : ℕ → Rule → Type 0
Mild k rule = Passes (is_mild k) rule

-- Behind each log that has it, the rule leaves it so; and behind each log whatsoever.
abbrev pub Holds : ℕ → Rule → Type 0
Holds k rule = (N : Log) → HeldAt k N → HeldAt k (N ++ rule N)

abbrev pub Restores : ℕ → Rule → Type 0
Restores k rule = (N : Log) → HeldAt k (N ++ rule N)

abbrev pub HoldEach : ℕ → List Rule → Type 0
HoldEach k [] = ⊤
HoldEach k (rule ∷ rules) = Holds k rule × HoldEach k rules

pub bare_line : (k : ℕ) (m : Line) → is_bare m ≡ true → is_mild k m ≡ true
bare_line k (came e) h = cc
bare_line k (slot (Up j who)) h = cc
bare_line k (slot (Claim j w)) h = refl
bare_line k (slot (Release j)) h = refl
bare_line k (did (Close (Direct j) closing)) h = cc
bare_line k (did (Close (Hub s) closing)) h = refl
bare_line k (did (Put name o)) h = refl
bare_line k (did (Dial name uri)) h = refl
bare_line k (did (Take name)) h = refl
bare_line k (did (Refuse closing)) h = refl
bare_line k (did (Deliver d)) h = refl
bare_line k (did (Tell note)) h = refl
bare_line k (did Draw) h = refl
bare_line k (initiating name e) h = refl
bare_line k (accepting name e) h = refl
bare_line k (connector e) h = refl
bare_line k (resolution call) h = refl

pub mild_bare : (k : ℕ) (rule : Rule) → Bare rule → Mild k rule
mild_bare k rule p N = pass-weaker is_bare (is_mild k) (bare_line k) (rule N) (p N)

pub mild_holds : (k : ℕ) (rule : Rule) → Mild k rule → Holds k rule
mild_holds k rule p N held = helds k N (rule N) (p N) held

-- behind one rule, and then the others
pub behind : (k : ℕ) (rule : Rule) (rules : List Rule) (N : Log) → HeldAt k ((N ++ rule N) ++ in_order rules (N ++ rule N)) → HeldAt k (N ++ in_order (rule ∷ rules) N)
behind k rule rules N held =
    subst (HeldAt k) (append_assoc N (rule N) (in_order rules (N ++ rule N)) ∙ ap (λ (lines : List Line). N ++ lines) (sym (in_order-cons rule rules N))) held

pub nothing_more : (N : Log) → N ++ in_order [] N ≡ N
nothing_more N = ap (λ (lines : List Line). N ++ lines) (in_order-brought [] N) ∙ append-nil N

pub holds-in_order : (k : ℕ) (rules : List Rule) → HoldEach k rules → Holds k (in_order rules)
holds-in_order k [] h N held = subst (HeldAt k) (sym (nothing_more N)) held
holds-in_order k (rule ∷ rules) h N held = behind k rule rules N (holds-in_order k rules h.1 (N ++ rule N) (h.0 N held))

-- the last rules restore it, whatever the first did
pub restores-then : (k : ℕ) (rule : Rule) (rules : List Rule) → Restores k (in_order rules) → Restores k (in_order (rule ∷ rules))
restores-then k rule rules r N = behind k rule rules N (r (N ++ rule N))

-- the first rule restores it, and the others leave it so
pub restores-first : (k : ℕ) (rule : Rule) (rules : List Rule) → Restores k rule → HoldEach k rules → Restores k (in_order (rule ∷ rules))
restores-first k rule rules r h N = behind k rule rules N (holds-in_order k rules h (N ++ rule N) (r N))

pub restores-last : (k : ℕ) (rule : Rule) → Restores k rule → Restores k (in_order (rule ∷ []))
restores-last k rule r = restores-first k rule [] r tt

pub holds-if : (k : ℕ) (b : Bool) (rule other : Rule) (N : Log) → (b ≡ true → HeldAt k (N ++ rule N)) → (b ≡ false → HeldAt k (N ++ other N)) → HeldAt k (N ++ if_so b rule other N)
holds-if k true rule other N p q = p refl
holds-if k false rule other N p q = q refl

pub same_log : (k : ℕ) (N : Log) → HeldAt k N → HeldAt k (N ++ [])
same_log k N held = subst (HeldAt k) (sym (append-nil N)) held

-- where the rule is about a link: that of the slot, or another
pub by_name : (k : ℕ) (name : LinkName) (rule : Rule) → (same_link name (Direct k) ≡ false → Holds k rule) → (name ≡ Direct k → Restores k rule) → Holds k rule
by_name k name rule p q N held = by (same_link name (Direct k)) refl
  where
    by : (b : Bool) → same_link name (Direct k) ≡ b → HeldAt k (N ++ rule N)
    by true is = q (same_link-is name (Direct k) is) N
    by false is = p is N held

-- ---- what may close a link

pub mild_close : (k : ℕ) (name : LinkName) (closing : Closing) → same_link name (Direct k) ≡ false → Mild k (does (Close name closing))
mild_close k name closing n N = ap (λ (b : Bool). not b && true) n

pub mild_carries_by : (k : ℕ) (name : LinkName) (o : Outcome) → same_link name (Direct k) ≡ false → Mild k (carries_out_by name o)
mild_carries_by k name (puts o) n = λ N. refl
mild_carries_by k name (puts_and_closes o closing) n = pass-in_order (is_mild k) (does (Put name o) ∷ does (Close name closing) ∷ []) ((λ N. refl), (mild_close k name closing n, tt))
mild_carries_by k name (closes closing) n = mild_close k name closing n
mild_carries_by k name (meets who) n = λ N. refl
mild_carries_by k name (is_refused origin code) n = λ N. refl
mild_carries_by k name (passes_up msg) n = λ N. refl
mild_carries_by k name keeps_still n = λ N. refl

pub mild_carries : (k : ℕ) (a : Made) (name : LinkName) → same_link name (Direct k) ≡ false → Mild k (carries_out a name)
mild_carries k a name n N = mild_carries_by k name (outcome a N name) n N

pub mild_finishes_machine : (k : ℕ) (a : Made) (name : LinkName) → same_link name (Direct k) ≡ false → Mild k (finishes_machine a name)
mild_finishes_machine k a name n =
    pass-when (is_mild k) (is_there name) (in_order (finishes name ∷ carries_out a name ∷ []))
    (pass-in_order (is_mild k) (finishes name ∷ carries_out a name ∷ []) (mild_bare k (finishes name) (bare-finishes name), (mild_carries k a name n, tt)))

-- ---- a link is over

-- The slot that is released isn't established.
pub restores_release : (k : ℕ) → Restores k (slots_see (Release k))
restores_release k N who h =
    some_none who (sym h ∙ established-told k N (Release k) ∙ peer-cleared (slot_calls N) k (Release k) (ap (λ (b : Bool). is_some (cond b (Some false) None)) (eq_self k)))

pub restores_ends : (k : ℕ) (a : Made) → Restores k (ends a (Direct k))
restores_ends k a =
    restores-first k (ends_slot k) (tells_finished ∷ [])
    (restores-then k (where_found (established_peer k) (λ (who : Identity). tells (DirectDown who.vmac)) nothing) (slots_see (Release k) ∷ [])
    (restores-last k (slots_see (Release k)) (restores_release k)))
    (mild_holds k tells_finished (mild_bare k tells_finished bare-tells_finished), tt)

pub restores_ends_named : (k : ℕ) (a : Made) (name : LinkName) → name ≡ Direct k → Restores k (ends a name)
restores_ends_named k a name is = subst (λ (n : LinkName). Restores k (ends a n)) (sym is) (restores_ends k a)

-- what may close the link, and then what follows where it is over
pub holds_over : (k : ℕ) (a : Made) (name : LinkName) (rule : Rule) → (same_link name (Direct k) ≡ false → Mild k rule) → Holds k (in_order (rule ∷ ends a name ∷ []))
holds_over k a name rule p =
    by_name k name (in_order (rule ∷ ends a name ∷ [])) (λ n. mild_holds k (in_order (rule ∷ ends a name ∷ []))
    (pass-in_order (is_mild k) (rule ∷ ends a name ∷ []) (p n, (mild_bare k (ends a name) (bare-ends a name), tt))))
    (λ is. restores-then k rule (ends a name ∷ []) (restores-last k (ends a name) (restores_ends_named k a name is)))

pub holds_closes_link : (k : ℕ) (a : Made) (name : LinkName) (closing : Closing) → Holds k (closes_link a name closing)
holds_closes_link k a name closing = holds_over k a name (does (Close name closing)) (mild_close k name closing)

-- it is over where it isn't there any more
pub mild_over_then : (k : ℕ) (a : Made) (name : LinkName) → Mild k (either (is_there name) nothing (ends a name))
mild_over_then k a name = pass-either (is_mild k) (is_there name) nothing (ends a name) (pass-nothing (is_mild k)) (mild_bare k (ends a name) (bare-ends a name))

pub restores_over_then : (k : ℕ) (a : Made) → Restores k (either (is_there (Direct k)) nothing (ends a (Direct k)))
restores_over_then k a N =
    holds-if k (is_there (Direct k) N) nothing (ends a (Direct k)) N (λ there. same_log k N (λ who h. there)) (λ gone. restores_ends k a N)

pub holds_finishes_link : (k : ℕ) (a : Made) (name : LinkName) → Holds k (finishes_link a name)
holds_finishes_link k a name N held =
    holds-if k (is_there name N) (in_order (finishes_machine a name ∷ either (is_there name) nothing (ends a name) ∷ [])) nothing N
    (λ there. by_name k name (in_order (finishes_machine a name ∷ either (is_there name) nothing (ends a name) ∷ [])) elsewhere here N held) (λ gone. same_log k N held)
  where
    elsewhere : same_link name (Direct k) ≡ false → Holds k (in_order (finishes_machine a name ∷ either (is_there name) nothing (ends a name) ∷ []))
    elsewhere n =
        mild_holds k (in_order (finishes_machine a name ∷ either (is_there name) nothing (ends a name) ∷ []))
        (pass-in_order (is_mild k) (finishes_machine a name ∷ either (is_there name) nothing (ends a name) ∷ []) (mild_finishes_machine k a name n, (mild_over_then k a name, tt)))

    here : name ≡ Direct k → Restores k (in_order (finishes_machine a name ∷ either (is_there name) nothing (ends a name) ∷ []))
    here is =
        restores-then k (finishes_machine a name) (either (is_there name) nothing (ends a name) ∷ [])
        (restores-last k (either (is_there name) nothing (ends a name)) (subst (λ (n : LinkName). Restores k (either (is_there n) nothing (ends a n))) (sym is) (restores_over_then k a)))

-- ---- a message for the node

pub mild_of_sender : (k : ℕ) (name : LinkName) (msg : Message) (rule : Vmac → Rule) → ((v : Vmac) → Mild k (rule v)) → Mild k (of_sender name msg rule)
mild_of_sender k name msg rule q N = pass-some (is_mild k) (sender name msg N) rule nothing q (pass-nothing (is_mild k)) N

pub mild_answers_by : (k : ℕ) (name : LinkName) (msg : Message) (o : Option (List ℕ)) → Mild k (answers_by name msg o)
mild_answers_by k name msg (Some uris) = λ N. refl
mild_answers_by k name msg None = pass-when (is_mild k) (λ N. not (is_for_all msg)) (answers name msg msg.id (nak 0x02 not_supported_code)) (λ N. refl)

pub mild_takes_body : (k : ℕ) (a : Made) (name : LinkName) (msg : Message) (body : Body) → Mild k (takes_body a name msg body)
mild_takes_body k a name msg (Npdu npdu) = mild_of_sender k name msg (delivers msg npdu) (λ v N. refl)
mild_takes_body k a name msg AddressResolution = mild_answers_by k name msg a.limits.uris
mild_takes_body k a name msg (AddressResolutionAck uris) = mild_of_sender k name msg (learns a msg uris) (λ v. mild_bare k (learns a msg uris v) (bare-learns a msg uris v))
mild_takes_body k a name msg (Advertisement ad) = mild_of_sender k name msg (λ v. tells (ToldAdvert v ad)) (λ v N. refl)
mild_takes_body k a name msg AdvertisementSolicitation = λ N. refl
mild_takes_body k a name msg (BvlcResult answer) = mild_bare k (takes_answer a name msg answer) (bare-takes_answer a name msg answer)
mild_takes_body k a name msg body = pass-nothing (is_mild k)

-- ---- what the user wants

pub mild_by_path : (k : ℕ) (v : Vmac) (rule : Way → Rule) → ((w : Way) → Mild k (rule w)) → Mild k (by_path v rule)
mild_by_path k v rule q = pass-found (is_mild k) (way v) rule (tells (NoPath v)) q (λ N. refl)

pub mild_sends : (k : ℕ) (v : Vmac) (npdu : List ℕ) → Mild k (sends v npdu)
mild_sends k v npdu =
    mild_by_path k v (λ w. either (other_end_takes w npdu) (puts_own w (Npdu npdu)) (tells (TooLong v)))
    (λ w. pass-either (is_mild k) (other_end_takes w npdu) (puts_own w (Npdu npdu)) (tells (TooLong v)) (λ N. refl) (λ N. refl))

pub mild_asks_unless : (k : ℕ) (w : Way) (v : Vmac) (o : Option AskRefusal) → Mild k (asks_unless w v o)
mild_asks_unless k w v None N = pass-in_order (is_mild k) (puts_own w AddressResolution ∷ resolution_sees (Ask (now N) (next_id N) v) ∷ []) ((λ M. refl), ((λ M. refl), tt)) N
mild_asks_unless k w v (Some (Full held)) N = refl
mild_asks_unless k w v (Some (Pending id)) N = refl
mild_asks_unless k w v (Some NoMemory) N = refl

pub mild_resolves : (k : ℕ) (a : Made) (v : Vmac) → Mild k (resolves a v)
mild_resolves k a v = mild_by_path k v (λ w N. asks_unless w v (ask_refusal a v N) N) (λ w N. mild_asks_unless k w v (ask_refusal a v N) N)

pub mild_solicits : (k : ℕ) (v : Vmac) → Mild k (solicits v)
mild_solicits k v = mild_by_path k v (λ w. puts_own w AdvertisementSolicitation) (λ w N. refl)
