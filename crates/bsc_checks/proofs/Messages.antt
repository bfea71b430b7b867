-- The message that octets spell is the one that is read of them, and one is spelled where no check fails.
-- It serves the clauses of `judge` and `one_outcome`.
use Rattle.std.proofs.Common.{◌≡◌, ℕ, zero, suc, ◌≤◌, inl, inr, Bool, true, false, eqb, ◌||◌, List, length, drop, Option, Some, None, refl, sym, ap, subst, ◌∙◌, arith, length-append, length-drop}
use Rattle.std.specs.Prelude.{IsTrue}
use Rattle.std.proofs.lemmas.Bool.{eqb-true, eqb-false}
use Rattle.bsc_octets.specs.Envelopes.{flags_in}
use Rattle.bsc_octets.specs.Forwarding.{function_in}
use Rattle.bsc_octets.proofs.Spelling.{only}
use Rattle.bsc_options.specs.declared.item.OptionItem.{OptionItem}
use Rattle.bsc_options.specs.Spelling.{spelling_of}
use Rattle.bsc_frame.specs.declared.message.Message.{Message}
use Rattle.bsc_frame.specs.Layout.{announces_dest_options, announces_data_options, options_at, IsList, IsPayload}
use Rattle.bsc_frame.specs.Checks.{MessageFails, order, IsShort, LacksAddressOctets, HasBadOption, HasMisplacedDataOptions}
use Rattle.bsc_frame.specs.Payloads.{function_of, payload_of}
use Rattle.bsc_frame.specs.Spelling.{Spells, TakesDataOptions}
use Rattle.bsc_frame.specs.Walk.{HasHead}
use Rattle.bsc_frame.proofs.First.{Pass}
use Rattle.bsc_frame.proofs.OptionLists.{AreLists, list_one, list_spelled}
use Rattle.bsc_frame.proofs.Whole.{message_of, spells_by, head_of, dest_end, data_end, has_head, has_lists, lists_of, is_payload, places}
use Rattle.bsc_checks.proofs.HeadParts.{is_head}
use Rattle.bsc_checks.specs.Options.{AreOctets, Found, items_of, rest_of, dest_options_in, data_options_in}
use Rattle.bsc_checks.specs.Payloads.{body_in}
use Rattle.bsc_checks.specs.Failing.{has_bad}
use Rattle.bsc_checks.specs.Outcomes.{envelope_in, message_in}
use Rattle.bsc_checks.proofs.Reflecting.{clear_of}
use Rattle.bsc_checks.proofs.Walks.{behind_octets}
use Rattle.bsc_checks.proofs.TwoLists.{BothSay, both_say, data_of}
use Rattle.bsc_checks.proofs.OptionTests.{bad, good_all}
use Rattle.bsc_checks.proofs.Envelopes.{id_small, envelope_spelled, envelope_whole}
use Rattle.bsc_checks.proofs.Bodies.{Passes, body_is, not_less}
use Rattle.bsc_frame.proofs.Common.{list_fits, list_place, not_cut, same_message}
use Rattle.bsc_frame.proofs.Bodies.{body_again}
use Rattle.std.proofs.lemmas.Bool.{or_parts as neither}

-- ---- a message that is spelled is read

-- the lists that were read are those that stand there, and the payload is what follows
record Read (m : List ℕ) (xs : List OptionItem) (ys : List OptionItem) (end : ℕ) (d : Option Found) (e : Option Found) : Type 0 where
  dest_list : xs ≡ items_of d
  data_list : ys ≡ items_of e
  rest : rest_of e ≡ drop end m

lists_read : (m : List ℕ) (at end : ℕ) (xs ys : List OptionItem) (d e : Option Found) → AreLists m at end xs ys → BothSay m d e → Read m xs ys end d e
lists_read m at end xs ys None None lists says = absurd (not_cut (announces_dest_options (flags_in m)) m (options_at m) xs at lists.first says.0 says.1)
lists_read m at end xs ys None (Some g) lists says = absurd says
lists_read m at end xs ys (Some f) None lists says =
    let same : at ≡ says.0 = (list_one (announces_dest_options (flags_in m)) m (options_at m) xs f.items at says.0 lists.first says.1).1 in
    absurd (not_cut (announces_data_options (flags_in m)) m says.0 ys end (subst (λ (place : ℕ). IsList (announces_data_options (flags_in m)) m place ys end) same lists.second) says.2 says.3)
lists_read m at end xs ys (Some f) (Some g) lists says =
    let first = list_one (announces_dest_options (flags_in m)) m (options_at m) xs f.items at says.0 lists.first says.2.first in
    let moved : IsList (announces_data_options (flags_in m)) m says.0 ys end = subst (λ (place : ℕ). IsList (announces_data_options (flags_in m)) m place ys end) first.1 lists.second in
    let second = list_one (announces_data_options (flags_in m)) m says.0 ys g.items end says.1 moved says.2.second in
    record { dest_list = first.0; data_list = second.0; rest = says.3 ∙ ap (λ (n : ℕ). drop n m) (sym second.1) }

pub message_is : (m : List ℕ) (msg : Message) → AreOctets m → Spells msg m → msg ≡ message_in m
message_is m msg octets spells =
    let e = head_of msg in
    let head = has_head msg m spells in
    let parts = is_head m e head.spells head.whole head.id (only e m head.whole head.id head.spells) in
    let lists = lists_of m e (dest_end msg) (data_end msg) msg.dest_options msg.data_options head (has_lists msg m spells) in
    let read = lists_read m (dest_end msg) (data_end msg) msg.dest_options msg.data_options (dest_options_in m) (data_options_in m) lists (both_say m octets) in
    let payload : payload_of msg.body ≡ rest_of (data_options_in m) = sym (places msg m spells.octets).payload ∙ sym read.rest in
    let function : function_of msg.body ≡ function_in m = sym parts.function in
    let body = sym (body_again msg.body spells.legal.body) ∙ ap (λ (f : ℕ). body_in f (payload_of msg.body)) function ∙ ap (body_in (function_in m)) payload in
    same_message msg (message_in m) parts.id parts.origin parts.dest read.dest_list read.data_list body

-- ---- octets of which no check fails spell the message that is read

-- there is room for the announced addresses
pub room : (m : List ℕ) → (IsShort m → ⊥) → (LacksAddressOctets m → ⊥) → (4 ≤ length m) × (options_at m ≤ length m)
room m short lacks =
    let four : 4 ≤ length m = not_less (length m) 4 short in
    (four, not_less (length m) (options_at m) (λ less. lacks (four, less)))

pub head_is : (m : List ℕ) → AreOctets m → 4 ≤ length m → options_at m ≤ length m → flags_in m ≤ 0x0F → function_in m ≤ 0x0C → HasHead m (envelope_in m)
head_is m octets four long few known =
    record { spells = envelope_spelled m octets four long; whole = envelope_whole m long; id = id_small m octets; flags = few; function = known }

-- data options stand on a function that takes them
takes_by : (m : List ℕ) (f : ℕ) → function_in m ≡ f → f ≤ 0x0C → (HasMisplacedDataOptions m → ⊥) → IsTrue (announces_data_options (flags_in m)) → TakesDataOptions f
takes_by m zero is known out set = absurd (out (set, inl is))
takes_by m (suc zero) is known out set = inl refl
takes_by m (suc (suc f)) is known out set = by (eqb (suc (suc f)) 12) refl
  where
    by : (b : Bool) → eqb (suc (suc f)) 12 ≡ b → TakesDataOptions (suc (suc f))
    by true e = inr (eqb-true (suc (suc f)) 12 e)
    by false e = absurd (out (set, inr (omega arith, (let other = eqb-false (suc (suc f)) 12 e in omega arith))))

list_within : (b : Bool) (m : List ℕ) (at : ℕ) (items : List OptionItem) (end : ℕ) → IsList b m at items end → at ≤ length m → end ≤ length m
list_within b m at items end list le =
    let place = list_place b m at items end list in
    let spelled = list_spelled b m at items end list in
    omega (arith, ap length spelled, length-append (spelling_of items) (drop end m), length-drop at m, length-drop end m)

spelled_by : (m : List ℕ) (d e : Option Found) → AreOctets m → BothSay m d e → Pass (MessageFails m) order
    → Spells (message_of (envelope_in m) (items_of d) (items_of e) (body_in (function_in m) (rest_of e))) m
spelled_by m None None octets says pass = absurd (pass.1.1.1.1.0 (inl says))
spelled_by m None (Some g) octets says pass = absurd says
spelled_by m (Some f) None octets says pass = absurd (pass.1.1.1.1.0 (inr (data_of m says.0 f.items _ says.1 (says.2, says.3))))
spelled_by m (Some f) (Some g) octets says pass =
    let at = says.0 in
    let end = says.1 in
    let lists = says.2 in
    let place = room m pass.0 pass.1.0 in
    let few : flags_in m ≤ 0x0F = not_less 0x0F (flags_in m) pass.1.1.0 in
    let known : function_in m ≤ 0x0C = not_less 0x0C (function_in m) pass.1.1.1.0 in
    let options = pass.1.1.1.1 in
    let payload = options.1.1.1 in
    let sound = neither (has_bad f.items) (has_bad g.items) (clear_of (HasBadOption m) (has_bad f.items || has_bad g.items) (bad m (Some f) (Some g) says) options.1.0) in
    let middle = list_within (announces_dest_options (flags_in m)) m (options_at m) f.items at lists.first place.1 in
    let here : IsPayload m (drop end m) = is_payload m at end f.items g.items lists in
    let passes : Passes (function_in m) (drop end m) = record {
      there = (λ x. payload.0 (drop end m, here, x));
      long = (λ x. payload.1.0 (drop end m, here, x));
      short = (λ x. payload.1.1.0 (drop end m, here, x));
      range = (λ x. payload.1.1.1.0 (drop end m, here, x));
    } in
    let body = body_is (function_in m) (drop end m) known (behind_octets end m octets) passes in
    let spells = spells_by m (envelope_in m) at end f.items g.items (body_in (function_in m) (drop end m)) (head_is m octets place.0 place.1 few known)
    (record {
      dest_list = lists.first;
      data_list = lists.second;
      dest_shapes = good_all f.items (list_fits (announces_dest_options (flags_in m)) m (options_at m) f.items at lists.first) sound.0;
      data_shapes = good_all g.items (list_fits (announces_data_options (flags_in m)) m at g.items end lists.second) sound.1;
      place = takes_by m (function_in m) refl known options.1.1.0;
      middle = middle;
      within = list_within (announces_data_options (flags_in m)) m at g.items end lists.second middle;
    }) body in
    subst (λ (p : List ℕ). Spells (message_of (envelope_in m) f.items g.items (body_in (function_in m) p)) m) (sym says.3) spells

pub message_spelled : (m : List ℕ) → AreOctets m → Pass (MessageFails m) order → Spells (message_in m) m
message_spelled m octets pass = spelled_by m (dest_options_in m) (data_options_in m) octets (both_say m octets) pass
