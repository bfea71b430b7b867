-- The answers of reading exclude one another.
-- It serves the clauses of `one_check`, `one_spelling` and `read`.
use Rattle.std.proofs.Common.{◌≡◌, ℕ, ◌⊎◌, inl, inr, Bool, List, ◌++◌, drop, refl, sym, ap, subst, ◌∙◌}
use Rattle.std.specs.Prelude.{◌↔◌, Result, Ok, Err}
use Rattle.std.specs.Result.{MatchResult}
use Rattle.std.specs.List.{AllByRecursion}
use Rattle.bsc_octets.specs.declared.envelope.Envelope.{Envelope}
use Rattle.bsc_octets.specs.declared.envelope.EnvelopeFault.{EnvelopeFault}
use Rattle.bsc_octets.specs.Forwarding.{function_in}
use Rattle.bsc_octets.proofs.Spelling.{only}
use Rattle.bsc_options.specs.declared.item.OptionItem.{OptionItem}
use Rattle.bsc_frame.specs.declared.body.Body.{Body}
use Rattle.bsc_frame.specs.declared.message.Message.{Message}
use Rattle.bsc_frame.specs.declared.check.Check.{Check}
use Rattle.bsc_frame.specs.declared.check.Check.TheVariants.{C10, C10b, C10c, C11}
use Rattle.bsc_frame.specs.declared.fault.FrameFault.{FrameFault}
use Rattle.bsc_frame.specs.declared.fault.FrameFault.TheVariants.{Fails, NoMemory}
use Rattle.bsc_frame.specs.Spelling.{Spells}
use Rattle.bsc_frame.specs.Layout.{announces_data_options, IsList, IsPayload}
use Rattle.bsc_frame.specs.Checks.{IsFirstOf, IsFirst, order}
use Rattle.bsc_frame.specs.Checks.{MessageFails}
use Rattle.bsc_frame.specs.Walk.{BodyAnswers, HasHead, HasLists, IsBody, MessageAnswers, PayloadFails, head_checks, option_checks, payload_checks}
use Rattle.bsc_frame.proofs.First.{Pass, pass_append, first_later, first_earlier, first_as, first_or_none, one_first}
use Rattle.bsc_frame.proofs.Heads.{head_facts, head_passes}
use Rattle.bsc_frame.proofs.OptionLists.{list_one, lists_pass, well}
use Rattle.bsc_frame.proofs.Bodies.{body_passes, one_body}
use Rattle.bsc_frame.proofs.Whole.{message_of, spells_by, head_of, dest_end, data_end, has_head, has_lists, has_body, lists_of, is_payload, one_payload}
use Rattle.bsc_frame.proofs.Common.{of_payload, same_message}

-- ---- the checks of a payload, as checks of the message

-- the checks of the message fail of its payload, and its payload of them
payload_fails : (m : List ℕ) (f : ℕ) (p : List ℕ) → function_in m ≡ f → IsPayload m p → (k : Check) → PayloadFails f p k → MessageFails m k
payload_fails m f p is payload C10 fault = (p, payload, subst (λ (g : ℕ). PayloadFails g p C10) (sym is) fault)
payload_fails m f p is payload C10b fault = (p, payload, subst (λ (g : ℕ). PayloadFails g p C10b) (sym is) fault)
payload_fails m f p is payload C10c fault = (p, payload, subst (λ (g : ℕ). PayloadFails g p C10c) (sym is) fault)
payload_fails m f p is payload C11 fault = (p, payload, subst (λ (g : ℕ). PayloadFails g p C11) (sym is) fault)
payload_fails m f p is payload k fault = absurd fault

fails_of_payload : (m : List ℕ) (f : ℕ) (p : List ℕ) → function_in m ≡ f → ((q : List ℕ) → IsPayload m q → q ≡ p) → AllByRecursion (λ k. MessageFails m k → PayloadFails f p k) payload_checks
fails_of_payload m f p is one = (of_payload m f p C10 is one, (of_payload m f p C10b is one, (of_payload m f p C10c is one, (of_payload m f p C11 is one, tt))))

-- ---- the first check, stage by stage

-- no check of the envelope and of the lists fails
front_passes : (m : List ℕ) (e : Envelope) (at end : ℕ) (xs ys : List OptionItem) → HasHead m e → HasLists m e at end xs ys → Pass (MessageFails m) (head_checks ++ option_checks)
front_passes m e at end xs ys head lists =
    let facts = head_facts m e head.spells head.whole in
    pass_append (MessageFails m) head_checks option_checks (head_passes m e head)
    (lists_pass m at end xs ys (lists_of m e at end xs ys head lists) lists.dest_shapes lists.data_shapes (well m e facts (announces_data_options e.flags) refl lists.place))

pub head_first : (m : List ℕ) (k : Check) → IsFirstOf head_checks (MessageFails m) k → IsFirst k m
head_first m k first = first_earlier (MessageFails m) head_checks (option_checks ++ payload_checks) k first

pub lists_first : (m : List ℕ) (e : Envelope) (k : Check) → HasHead m e → IsFirstOf option_checks (MessageFails m) k → IsFirst k m
lists_first m e k head first =
    first_later (MessageFails m) head_checks (option_checks ++ payload_checks) k (head_passes m e head) (first_earlier (MessageFails m) option_checks payload_checks k first)

pub payload_first : (m : List ℕ) (e : Envelope) (at end : ℕ) (xs ys : List OptionItem) (k : Check) → HasHead m e → HasLists m e at end xs ys
    → IsFirstOf payload_checks (PayloadFails e.function (drop end m)) k → IsFirst k m
payload_first m e at end xs ys k head lists first =
    let p = drop end m in
    let are = lists_of m e at end xs ys head lists in
    let function = (head_facts m e head.spells head.whole).function in
    first_later (MessageFails m) (head_checks ++ option_checks) payload_checks k (front_passes m e at end xs ys head lists)
    (first_as (PayloadFails e.function p) (MessageFails m) payload_checks k (payload_fails m e.function p function (is_payload m at end xs ys are))
    (fails_of_payload m e.function p function (λ q is. one_payload m at end xs ys q are is)) first)

-- ---- a message that is spelled

-- no check fails of it
pub spelled_passes : (msg : Message) (m : List ℕ) → Spells msg m → Pass (MessageFails m) order
spelled_passes msg m spells =
    let e = head_of msg in
    let head = has_head msg m spells in
    let lists = has_lists msg m spells in
    let are = lists_of m e (dest_end msg) (data_end msg) msg.dest_options msg.data_options head lists in
    let function = (head_facts m e head.spells head.whole).function in
    let p = drop (data_end msg) m in
    let body = has_body msg m spells in
    let passes : Pass (PayloadFails e.function p) payload_checks = subst (λ (q : List ℕ). Pass (PayloadFails e.function q) payload_checks) body.2 (body_passes msg.body body.0) in
    let one = λ (q : List ℕ) (is : IsPayload m q). one_payload m (dest_end msg) (data_end msg) msg.dest_options msg.data_options q are is in
    let back = fails_of_payload m e.function p function one in
    pass_append (MessageFails m) (head_checks ++ option_checks) payload_checks (front_passes m e (dest_end msg) (data_end msg) msg.dest_options msg.data_options head lists)
    ((λ f. passes.0 (back.0 f)), ((λ f. passes.1.0 (back.1.0 f)), ((λ f. passes.1.1.0 (back.1.1.0 f)), ((λ f. passes.1.1.1.0 (back.1.1.1.0 f)), tt))))

pub one_message : (x y : Message) (m : List ℕ) → Spells x m → Spells y m → x ≡ y
one_message x y m spells other =
    let h = has_head x m spells in
    let g = has_head y m other in
    let read : ◌≡◌ {A = Result Envelope EnvelopeFault} (Ok (head_of x)) (Ok (head_of y)) = sym (only (head_of x) m h.whole h.id h.spells) ∙ only (head_of y) m g.whole g.id g.spells in
    let head : head_of x ≡ head_of y = cc in
    let lists = lists_of m (head_of x) (dest_end x) (data_end x) x.dest_options x.data_options h (has_lists x m spells) in
    let others = lists_of m (head_of y) (dest_end y) (data_end y) y.dest_options y.data_options g (has_lists y m other) in
    let first = list_one _ m _ x.dest_options y.dest_options (dest_end x) (dest_end y) lists.first others.first in
    let payload : drop (data_end x) m ≡ drop (data_end y) m = one_payload m (dest_end y) (data_end y) y.dest_options y.data_options (drop (data_end x) m) others
    (is_payload m (dest_end x) (data_end x) x.dest_options x.data_options lists) in
    let second = list_one _ m (dest_end y) x.data_options y.data_options (data_end x) (data_end y) (rw (← first.1) lists.second) others.second in
    let mine = has_body x m spells in
    let its = has_body y m other in
    same_message x y (ap (λ (e : Envelope). e.id) head) (ap (λ (e : Envelope). e.origin) head) (ap (λ (e : Envelope). e.dest) head) first.0 second.0
    (one_body x.body y.body mine.0 its.0 (ap (λ (e : Envelope). e.function) head) (mine.2 ∙ payload ∙ sym its.2))

-- ---- what reading answers, stage by stage

pub check_answers : (m : List ℕ) (r : Result Message FrameFault) (fault : FrameFault) (k : Check) → r ≡ Err fault → fault ≡ Fails k → IsFirst k m → MessageAnswers m r
check_answers m r fault k is fails first = rw (is, fails) first

pub memory_answers : (m : List ℕ) (r : Result Message FrameFault) (fault : FrameFault) (e : Envelope) (at end : ℕ) (xs ys : List OptionItem) (body : Body) → r ≡ Err fault → fault ≡ NoMemory
    → HasHead m e → HasLists m e at end xs ys → IsBody e.function (drop end m) body → MessageAnswers m r
memory_answers m r fault e at end xs ys body is none head lists has = rw (is, none) (message_of e xs ys body, spells_by m e at end xs ys body head lists has)

-- the answer of reading the payload
body_answers : (m : List ℕ) (e : Envelope) (at end : ℕ) (xs ys : List OptionItem) (fault : FrameFault) → HasHead m e → HasLists m e at end xs ys
    → BodyAnswers e.function (drop end m) (Err fault) → MessageAnswers m (Err fault)
body_answers m e at end xs ys (Fails k) head lists a = payload_first m e at end xs ys k head lists a
body_answers m e at end xs ys NoMemory head lists a = (message_of e xs ys a.0, spells_by m e at end xs ys a.0 head lists a.1)

pub payload_answers : (m : List ℕ) (r : Result Message FrameFault) (fault its : FrameFault) (e : Envelope) (at end : ℕ) (xs ys : List OptionItem) (p : List ℕ) → r ≡ Err fault → fault ≡ its
    → p ≡ drop end m
    → HasHead m e → HasLists m e at end xs ys → BodyAnswers e.function p (Err its) → MessageAnswers m r
payload_answers m r fault its e at end xs ys p is same rest head lists a =
    rw (is, same) (body_answers m e at end xs ys its head lists (subst (λ (q : List ℕ). BodyAnswers e.function q (Err its)) rest a))

-- what the lists were read as
pub list_answers : (list : List OptionItem) (m : List ℕ) (at end : ℕ) (items : List OptionItem) (b c : Bool) → b ≡ c
    → ((xs : List OptionItem) (other : ℕ) → IsList b m at xs other → list ≡ xs) → IsList c m at items end → list ≡ items
list_answers list m at end items b c same read is = read items end (subst (λ (d : Bool). IsList d m at items end) (sym same) is)

pub message_answers : (m : List ℕ) (e : Envelope) (at end : ℕ) (xs ys : List OptionItem) (body : Body) (list more : List OptionItem) (p : List ℕ) → p ≡ drop end m → list ≡ xs → more ≡ ys
    → HasHead m e → HasLists m e at end xs ys → IsBody e.function p body → Spells (message_of e list more body) m
message_answers m e at end xs ys body list more p rest first second head lists has =
    rw (first, second) (spells_by m e at end xs ys body head lists (subst (λ (q : List ℕ). IsBody e.function q body) rest has))

-- ---- the clauses of reading

pub only_of : (m : List ℕ) (r : Result Message FrameFault) → MessageAnswers m r → (msg : Message) → Spells msg m → (r ≡ Ok msg) ⊎ (r ≡ Err NoMemory)
only_of m (Ok found) a msg spells = inl (ap (λ (x : Message). Ok x) (one_message found msg m a spells))
only_of m (Err (Fails k)) a msg spells = absurd (first_or_none (MessageFails m) order k (spelled_passes msg m spells) a)
only_of m (Err NoMemory) a msg spells = inr refl

fails_then : (m : List ℕ) (r : Result Message FrameFault) → MessageAnswers m r → (k : Check) → r ≡ Err (Fails k) → IsFirst k m
fails_then m r a k e = subst (MessageAnswers m) e a

fails_if : (m : List ℕ) (r : Result Message FrameFault) → MessageAnswers m r → (k : Check) → IsFirst k m → r ≡ Err (Fails k)
fails_if m (Ok found) a k first = absurd (first_or_none (MessageFails m) order k (spelled_passes found m a) first)
fails_if m (Err (Fails j)) a k first = ap (λ (check : Check). Err (Fails check)) (one_first (MessageFails m) order j k a first)
fails_if m (Err NoMemory) a k first = absurd (first_or_none (MessageFails m) order k (spelled_passes a.0 m a.1) first)

pub fails_where : (m : List ℕ) (r : Result Message FrameFault) → MessageAnswers m r → (k : Check) → (r ≡ Err (Fails k)) ↔ IsFirst k m
fails_where m r a k = (fails_then m r a k, fails_if m r a k)

pub memory_then : (m : List ℕ) (r : Result Message FrameFault) → MessageAnswers m r → r ≡ Err NoMemory → (msg : Message) × Spells msg m
memory_then m r a e = subst (MessageAnswers m) e a

-- what was written is read back
pub read_back : (msg : Message) (r : Result Message FrameFault) → (r ≡ Ok msg) ⊎ (r ≡ Err NoMemory) → MatchResult r (λ again. again ≡ msg) (λ fault. fault ≡ NoMemory)
read_back msg (Ok found) (inl same) = cc
read_back msg (Ok found) (inr out) = absurd cc
read_back msg (Err fault) (inl same) = absurd cc
read_back msg (Err fault) (inr out) = cc
