-- The two lists of options of a message, as they are read and as they are said to stand there.
-- It serves the clauses of `judge` and `one_outcome`.
use Rattle.std.proofs.Common.{◌≡◌, ℕ, ◌+◌, inl, inr, Bool, true, false, List, ◌++◌, length, drop, Option, Some, None, is_none, refl, sym, ap, subst, ◌∙◌, arith}
use Rattle.std.specs.Prelude.{IsTrue}
use Rattle.std.proofs.lemmas.List.{drop_at, drop-drop}
use Rattle.bsc_octets.specs.Envelopes.{flags_in}
use Rattle.bsc_octets.specs.Forwarding.{function_in}
use Rattle.bsc_options.specs.declared.item.OptionItem.{OptionItem}
use Rattle.bsc_options.specs.Spelling.{spelling_of}
use Rattle.bsc_options.specs.Reading.{IsCut}
use Rattle.bsc_frame.specs.Layout.{announces_dest_options, announces_data_options, options_at, IsList, IsPayload}
use Rattle.bsc_frame.specs.Checks.{OfDestOptions, OfDataOptions, OfPayload, LacksOptionOctets}
use Rattle.bsc_frame.proofs.OptionLists.{AreLists, list_one}
use Rattle.bsc_frame.proofs.Whole.{one_payload}
use Rattle.bsc_checks.specs.Options.{AreOctets, Found, items_in, list_in, list_behind, dest_options_in, data_options_in}
use Rattle.bsc_checks.specs.Failing.{of_payload}
use Rattle.bsc_checks.proofs.Reflecting.{Reflects}
use Rattle.bsc_checks.proofs.Walks.{behind_octets, ItemsSay, items_say}
use Rattle.bsc_frame.proofs.Common.{not_cut}

-- ---- one list

abbrev pub ListSays : Bool → List ℕ → ℕ → Option Found → Type 0
ListSays b m at None = (b ≡ true) × IsCut m at
ListSays b m at (Some found) = (end : ℕ) × IsList b m at found.items end × (found.rest ≡ drop end m)

whole_says : (m : List ℕ) (at : ℕ) (r : Option Found) → ItemsSay (drop at m) r → ListSays true m at r
whole_says m at None cut = (refl, record { items = cut.items; missing = cut.missing; are = cut.are; some = cut.some; spelling = cut.spelling })
whole_says m at (Some found) says =
    let n = length (spelling_of found.items) in
    let rest : found.rest ≡ drop (at + n) m = sym (drop_at (spelling_of found.items) found.rest n refl) ∙ ap (drop n) (sym says.1) ∙ drop-drop n at m in
    (at + n, (says.0, record { spelling = says.1 ∙ ap (λ (l : List ℕ). spelling_of found.items ++ l) rest; place = refl }), rest)

pub list_says : (b : Bool) (m : List ℕ) (at : ℕ) → AreOctets m → ListSays b m at (list_in b (drop at m))
list_says false m at octets = (at, (refl, refl), refl)
list_says true m at octets =
    let o = drop at m in
    whole_says m at (items_in (length o) o) (items_say (length o) o (behind_octets at m octets) (omega arith))

-- ---- the two

abbrev pub DestSays : List ℕ → Option Found → Type 0
DestSays m d = ListSays (announces_dest_options (flags_in m)) m (options_at m) d

pub dest_says : (m : List ℕ) → AreOctets m → DestSays m (dest_options_in m)
dest_says m octets = list_says (announces_dest_options (flags_in m)) m (options_at m) octets

abbrev pub BothSay : List ℕ → Option Found → Option Found → Type 0
BothSay m None None = OfDestOptions m (IsCut m)
BothSay m None (Some g) = ⊥
BothSay m (Some f) None = (at : ℕ) × IsList (announces_dest_options (flags_in m)) m (options_at m) f.items at × IsTrue (announces_data_options (flags_in m)) × IsCut m at
BothSay m (Some f) (Some g) = (at : ℕ) × (end : ℕ) × AreLists m at end f.items g.items × (g.rest ≡ drop end m)

second : (m : List ℕ) (f : Found) (at : ℕ) (e : Option Found) → IsList (announces_dest_options (flags_in m)) m (options_at m) f.items at
    → ListSays (announces_data_options (flags_in m)) m at e → BothSay m (Some f) e
second m f at None list says = (at, list, says.0, says.1)
second m f at (Some g) list says = (at, says.0, record { first = list; second = says.1 }, says.2)

both : (m : List ℕ) (d : Option Found) → AreOctets m → DestSays m d → BothSay m d (list_behind (announces_data_options (flags_in m)) d)
both m None octets says = (says.0, says.1)
both m (Some f) octets says =
    let b = announces_data_options (flags_in m) in
    second m f says.0 (list_in b f.rest) says.1 (subst (λ (o : List ℕ). ListSays b m says.0 (list_in b o)) (sym says.2) (list_says b m says.0 octets))

pub both_say : (m : List ℕ) → AreOctets m → BothSay m (dest_options_in m) (data_options_in m)
both_say m octets = both m (dest_options_in m) octets (dest_says m octets)

-- ---- the place of the data options

pub data_at : (m : List ℕ) (at : ℕ) (xs : List OptionItem) (P : ℕ → Type 0) → IsList (announces_dest_options (flags_in m)) m (options_at m) xs at → OfDataOptions m P
    → IsTrue (announces_data_options (flags_in m)) × P at
data_at m at xs P list h = (h.0, subst P (list_one (announces_dest_options (flags_in m)) m (options_at m) h.1.1.0 xs h.1.0 at h.1.1.1 list).1 h.1.2)

pub data_of : (m : List ℕ) (at : ℕ) (xs : List OptionItem) (P : ℕ → Type 0) → IsList (announces_dest_options (flags_in m)) m (options_at m) xs at
    → IsTrue (announces_data_options (flags_in m)) × P at → OfDataOptions m P
data_of m at xs P list h = (h.0, (at, (xs, list), h.1))

-- what is said of the data options is not said where the destination options are cut
pub no_data : (m : List ℕ) (P : ℕ → Type 0) → OfDestOptions m (IsCut m) → OfDataOptions m P → ⊥
no_data m P cut h = not_cut (announces_dest_options (flags_in m)) m (options_at m) h.1.1.0 h.1.0 h.1.1.1 cut.0 cut.1

-- ---- missing octets

pub lacks : (m : List ℕ) (d e : Option Found) → BothSay m d e → Reflects (LacksOptionOctets m) (is_none e)
lacks m None None says = record { holds = (λ e. inl says); back = (λ lack. refl) }
lacks m None (Some g) says = absurd says
lacks m (Some f) None says = record { holds = (λ e. inr (data_of m says.0 f.items (IsCut m) says.1 (says.2, says.3))); back = (λ lack. refl) }
lacks m (Some f) (Some g) says =
    record {
      holds = (λ e. absurd cc);
      back = (λ lack. absurd (elim lack [
        | inl first ↦ not_cut (announces_dest_options (flags_in m)) m (options_at m) f.items says.0 says.2.first first.0 first.1
        | inr next ↦ (let cut = data_at m says.0 f.items (IsCut m) says.2.first next in not_cut (announces_data_options (flags_in m)) m says.0 g.items says.1 says.2.second cut.0 cut.1)
      ]));
    }

-- ---- the payload

-- there is none where octets of a list are missing
no_payload : (m : List ℕ) (f : Found) (at : ℕ) (p : List ℕ) → IsList (announces_dest_options (flags_in m)) m (options_at m) f.items at → IsTrue (announces_data_options (flags_in m))
    → IsCut m at → IsPayload m p → ⊥
no_payload m f at p list set cut is =
    let same : is.at ≡ at = (list_one (announces_dest_options (flags_in m)) m (options_at m) is.before.0 f.items is.at at is.before.1 list).1 in
    not_cut (announces_data_options (flags_in m)) m at is.items is.end (subst (λ (place : ℕ). IsList (announces_data_options (flags_in m)) m place is.items is.end) same is.list) set cut

pub payload_says : (P : ℕ → List ℕ → Type 0) (t : ℕ → List ℕ → Bool) → ((f : ℕ) (p : List ℕ) → Reflects (P f p) (t f p)) → (m : List ℕ) (d e : Option Found) → BothSay m d e
    → Reflects (OfPayload m P) (of_payload t (function_in m) e)
payload_says P t r m None None says =
    record {
      holds = (λ e. absurd cc);
      back = (λ h. let is : IsPayload m h.0 = h.1 in
          absurd (not_cut (announces_dest_options (flags_in m)) m (options_at m) is.before.0 is.at is.before.1 says.0 says.1));
    }
payload_says P t r m None (Some g) says = absurd says
payload_says P t r m (Some f) None says = record { holds = (λ e. absurd cc); back = (λ h. absurd (no_payload m f says.0 h.0 says.1 says.2 says.3 h.1)) }
payload_says P t r m (Some f) (Some g) says =
    let here : IsPayload m g.rest = record { at = says.0; items = g.items; end = says.1; before = (f.items, says.2.first); list = says.2.second; rest = says.3 } in
    let one = r (function_in m) g.rest in
    record {
      holds = (λ e. (g.rest, here, one.holds e));
      back = (λ h. one.back (subst (P (function_in m)) (one_payload m says.0 says.1 f.items g.items h.0 says.2 h.1 ∙ sym says.3) h.2));
    }
