-- A message by its parts: its envelope, its lists and its payload, from what was read to its spelling and back.
-- It serves the clauses of `one_check`, `one_spelling` and `read`.
use Rattle.std.proofs.Common.{◌≡◌, ℕ, ◌+◌, ◌<◌, ◌≤◌, Bool, true, List, [], ◌∷◌, ◌++◌, length, drop, is_some, refl, sym, ap, subst, ◌∙◌, arith, append_assoc, length-append}
use Rattle.std.specs.Prelude.{IsTrue}
use Rattle.std.proofs.lemmas.List.{drop_at, drop-drop}
use Rattle.byteorder.specs.Endian.{big_bytes}
use Rattle.bsc_octets.specs.declared.envelope.Envelope.{Envelope}
use Rattle.bsc_octets.specs.Envelopes.{flags_in, announces_origin, announces_dest, address_octets, envelope_octets}
use Rattle.bsc_options.specs.declared.item.OptionItem.{OptionItem}
use Rattle.bsc_options.specs.Spelling.{has_items, spelling_of}
use Rattle.bsc_options.proofs.Chains.{has_items-some}
use Rattle.bsc_frame.specs.declared.body.Body.{Body}
use Rattle.bsc_frame.specs.declared.message.Message.{Message}
use Rattle.bsc_frame.specs.Payloads.{function_of, payload_of}
use Rattle.bsc_frame.specs.Spelling.{flags_of, spelling, Spells, TakesDataOptions}
use Rattle.bsc_frame.specs.Layout.{announces_dest_options, announces_data_options, IsList, IsPayload}
use Rattle.bsc_frame.specs.Walk.{HasHead, HasLists, IsBody}
use Rattle.bsc_frame.proofs.Flags.{four_flags, announced, flags_again}
use Rattle.bsc_frame.proofs.Heads.{head_facts}
use Rattle.bsc_frame.proofs.OptionLists.{AreLists, are_lists, list_announced, list_of, list_one, list_spelled}
use Rattle.bsc_frame.proofs.Bodies.{function_le}

-- ---- from the parts to the spelling

abbrev pub message_of : Envelope → List OptionItem → List OptionItem → Body → Message
message_of e xs ys body = record { id = e.id; origin = e.origin; dest = e.dest; dest_options = xs; data_options = ys; body = body }

-- the flags are those of the message
flags_are : (m : List ℕ) (e : Envelope) (at end : ℕ) (xs ys : List OptionItem) (body : Body) → HasHead m e → HasLists m e at end xs ys → e.flags ≡ flags_of (message_of e xs ys body)
flags_are m e at end xs ys body head lists =
    let o : announces_origin e.flags ≡ is_some e.origin = head.spells.origin in
    let d : announces_dest e.flags ≡ is_some e.dest = head.spells.dest in
    let x : announces_dest_options e.flags ≡ has_items xs = list_announced (announces_dest_options e.flags) m e.rest_at xs at lists.dest_list in
    let y : announces_data_options e.flags ≡ has_items ys = list_announced (announces_data_options e.flags) m at ys end lists.data_list in
    sym (flags_again e.flags head.flags)
    ∙ ap (λ (b : Bool). four_flags b (announces_dest e.flags) (announces_dest_options e.flags) (announces_data_options e.flags)) o
    ∙ ap (λ (b : Bool). four_flags (is_some e.origin) b (announces_dest_options e.flags) (announces_data_options e.flags)) d
    ∙ ap (λ (b : Bool). four_flags (is_some e.origin) (is_some e.dest) b (announces_data_options e.flags)) x
    ∙ ap (λ (b : Bool). four_flags (is_some e.origin) (is_some e.dest) (has_items xs) b) y

-- a list with items is announced
some_announced : (b : Bool) (m : List ℕ) (at : ℕ) (items : List OptionItem) (end : ℕ) → IsList b m at items end → 0 < length items → IsTrue b
some_announced b m at items end list some = list_announced b m at items end list ∙ has_items-some items some

pub spells_by : (m : List ℕ) (e : Envelope) (at end : ℕ) (xs ys : List OptionItem) (body : Body) → HasHead m e → HasLists m e at end xs ys → IsBody e.function (drop end m) body
    → Spells (message_of e xs ys body) m
spells_by m e at end xs ys body head lists is =
    let first = spelling_of xs in
    let second = spelling_of ys in
    let p = payload_of body in
    let rest : drop e.rest_at m ≡ first ++ (second ++ p) =
    list_spelled (announces_dest_options e.flags) m e.rest_at xs at lists.dest_list
    ∙ ap (λ (l : List ℕ). first ++ l) (list_spelled (announces_data_options e.flags) m at ys end lists.data_list ∙ ap (λ (l : List ℕ). second ++ l) (sym is.2)) in
    let flags = flags_are m e at end xs ys body head lists in
    let function : e.function ≡ function_of body = sym is.1 in
    let front : ℕ → ℕ → List ℕ = λ f g. (f ∷ g ∷ big_bytes 2 e.id) ++ address_octets e.origin ++ address_octets e.dest in
    record {
      legal = record {
        id = head.id;
        origin = head.whole.origin;
        dest = head.whole.dest;
        dest_options = lists.dest_shapes;
        data_options = lists.data_shapes;
        place = (λ some. subst TakesDataOptions function (lists.place (some_announced (announces_data_options e.flags) m at ys end lists.data_list some)));
        body = is.0;
      };
      octets =
          head.spells.spelling
          ∙ ap (λ (l : List ℕ). envelope_octets e ++ l) rest
          ∙ sym (append_assoc (envelope_octets e) first (second ++ p))
          ∙ sym (append_assoc (envelope_octets e ++ first) second p)
          ∙ ap (λ (f : ℕ). front f e.flags ++ first ++ second ++ p) function
          ∙ ap (λ (g : ℕ). front (function_of body) g ++ first ++ second ++ p) flags;
    }

-- ---- from the spelling to the parts

abbrev pub head_of : Message → Envelope
head_of msg =
    record {
      function = function_of msg.body;
      flags = flags_of msg;
      id = msg.id;
      origin = msg.origin;
      dest = msg.dest;
      rest_at = length ((function_of msg.body ∷ flags_of msg ∷ big_bytes 2 msg.id) ++ address_octets msg.origin ++ address_octets msg.dest);
    }

abbrev pub dest_end : Message → ℕ
dest_end msg = (head_of msg).rest_at + length (spelling_of msg.dest_options)

abbrev pub data_end : Message → ℕ
data_end msg = dest_end msg + length (spelling_of msg.data_options)

-- what stands behind the envelope
abbrev behind : Message → List ℕ
behind msg = spelling_of msg.dest_options ++ (spelling_of msg.data_options ++ payload_of msg.body)

envelope_then : (msg : Message) (m : List ℕ) → m ≡ spelling msg → m ≡ envelope_octets (head_of msg) ++ behind msg
envelope_then msg m e =
    let front = envelope_octets (head_of msg) in
    let first = spelling_of msg.dest_options in
    let second = spelling_of msg.data_options in
    e ∙ append_assoc (front ++ first) second (payload_of msg.body) ∙ append_assoc front first (second ++ payload_of msg.body)

-- the places of the parts
pub record Places (msg : Message) (m : List ℕ) : Type 0 where
  pub rest : drop (head_of msg).rest_at m ≡ behind msg
  pub second : drop (dest_end msg) m ≡ spelling_of msg.data_options ++ payload_of msg.body
  pub payload : drop (data_end msg) m ≡ payload_of msg.body
  pub middle : dest_end msg ≤ length m
  pub within : data_end msg ≤ length m

pub places : (msg : Message) (m : List ℕ) → m ≡ spelling msg → Places msg m
places msg m e =
    let apart = envelope_then msg m e in
    let front = envelope_octets (head_of msg) in
    let xs = spelling_of msg.dest_options in
    let ys = spelling_of msg.data_options in
    let p = payload_of msg.body in
    let at = (head_of msg).rest_at in
    let rest : drop at m ≡ behind msg = ap (drop at) apart ∙ drop_at front (behind msg) at refl in
    let second : drop (at + length xs) m ≡ ys ++ p = sym (drop-drop (length xs) at m) ∙ ap (drop (length xs)) rest ∙ drop_at xs (ys ++ p) (length xs) refl in
    let payload : drop ((at + length xs) + length ys) m ≡ p = sym (drop-drop (length ys) (at + length xs) m) ∙ ap (drop (length ys)) second ∙ drop_at ys p (length ys) refl in
    let long : length m ≡ at + (length xs + (length ys + length p)) =
    ap length apart ∙ length-append front (behind msg) ∙ ap (λ (n : ℕ). at + n) (length-append xs (ys ++ p) ∙ ap (λ (n : ℕ). length xs + n) (length-append ys p)) in
    record { rest = rest; second = second; payload = payload; middle = (omega arith); within = (omega arith) }

pub has_head : (msg : Message) (m : List ℕ) → Spells msg m → HasHead m (head_of msg)
has_head msg m spells =
    let flags = announced (is_some msg.origin) (is_some msg.dest) (has_items msg.dest_options) (has_items msg.data_options) in
    let legal = spells.legal in
    record {
      spells = record {
        spelling = envelope_then msg m spells.octets ∙ ap (λ (l : List ℕ). envelope_octets (head_of msg) ++ l) (sym (places msg m spells.octets).rest);
        place = refl;
        origin = flags.origin;
        dest = flags.dest;
      };
      whole = record { origin = legal.origin; dest = legal.dest };
      id = legal.id;
      flags = flags.few;
      function = function_le msg.body;
    }

has_some : (items : List OptionItem) → has_items items ≡ true → 0 < length items
has_some [] e = absurd cc
has_some (x ∷ xs) e = omega arith

pub has_lists : (msg : Message) (m : List ℕ) → Spells msg m → HasLists m (head_of msg) (dest_end msg) (data_end msg) msg.dest_options msg.data_options
has_lists msg m spells =
    let flags = announced (is_some msg.origin) (is_some msg.dest) (has_items msg.dest_options) (has_items msg.data_options) in
    let at = places msg m spells.octets in
    let legal = spells.legal in
    record {
      dest_list = list_of (announces_dest_options (flags_of msg)) m (head_of msg).rest_at msg.dest_options
          (spelling_of msg.data_options ++ payload_of msg.body) flags.dest_options legal.dest_options at.rest;
      data_list = list_of (announces_data_options (flags_of msg)) m (dest_end msg) msg.data_options (payload_of msg.body) flags.data_options legal.data_options at.second;
      dest_shapes = legal.dest_options;
      data_shapes = legal.data_options;
      place = (λ set. legal.place (has_some msg.data_options (sym flags.data_options ∙ set)));
      middle = at.middle;
      within = at.within;
    }

pub has_body : (msg : Message) (m : List ℕ) → Spells msg m → IsBody (head_of msg).function (drop (data_end msg) m) msg.body
has_body msg m spells = (spells.legal.body, refl, sym (places msg m spells.octets).payload)

-- ---- the payload

pub lists_of : (m : List ℕ) (e : Envelope) (at end : ℕ) (xs ys : List OptionItem) → HasHead m e → HasLists m e at end xs ys → AreLists m at end xs ys
lists_of m e at end xs ys head lists =
    are_lists m e (head_facts m e head.spells head.whole) (announces_dest_options e.flags) (announces_data_options e.flags) refl refl xs ys at end lists.dest_list lists.data_list

pub is_payload : (m : List ℕ) (at end : ℕ) (xs ys : List OptionItem) → AreLists m at end xs ys → IsPayload m (drop end m)
is_payload m at end xs ys lists = record { at = at; items = ys; end = end; before = (xs, lists.first); list = lists.second; rest = refl }

pub one_payload : (m : List ℕ) (at end : ℕ) (xs ys : List OptionItem) (p : List ℕ) → AreLists m at end xs ys → IsPayload m p → p ≡ drop end m
one_payload m at end xs ys p lists is =
    let first = (list_one (announces_dest_options (flags_in m)) m _ is.before.0 xs is.at at is.before.1 lists.first).1 in
    let moved = subst (λ (place : ℕ). IsList (announces_data_options (flags_in m)) m place is.items is.end) first is.list in
    let last = (list_one (announces_data_options (flags_in m)) m at is.items ys is.end end moved lists.second).1 in
    is.rest ∙ ap (λ (n : ℕ). drop n m) last
