-- What a line says has its octets: a VMAC six, a device sixteen, and maximum lengths are below 2^16.
-- It serves the clauses of `a_script_delivers_what_was_sent`.
use Rattle.std.proofs.Common.{◌≡◌, ◌<◌, ◌/◌, ◌%◌, ℕ, Bool, true, false, if◌then◌else◌, List, [], ◌∷◌, length, option_map, codes, Option, Some, None, IfSome, Result, Ok, Err, inl}
use Rattle.std.proofs.Common.{inr, refl, sym, ◌∙◌, arith}
use Rattle.std.specs.Prelude.{◌^◌, ◌&&◌, ◌==◌, ⊤, drop, slice_index, take}
use Rattle.std.specs.List.{list_all}
use Rattle.std.proofs.lemmas.Bool.{cases_eq}
use Rattle.hex.specs.declared.error.FromHexError.{FromHexError}
use Rattle.hex.specs.Hex.{IsBytes, decode_sized}
use Rattle.hex.proofs.HexLemmas.{decode_pairs-ok, decode_sized-odd, decode_sized-other}
use Rattle.hex.proofs.Pairs.{decode_sized-pairs}
use Rattle.byteorder.specs.Numbers.{big_from-lt}
use Rattle.uuid.specs.Text.{by_index, byte_of_digits, close_brace, digits_of, has_hyphens, has_urn_prefix, is_hex_digit, open_brace, parsed, parsed_braced, parsed_hyphenated}
use Rattle.uuid.specs.Text.{parsed_simple, parsed_urn}
use Rattle.uuid.proofs.TextLemmas.{by_index_length}
use Rattle.bsc_octets.specs.declared.vmac.Vmac.{Vmac}
use Rattle.bsc_octets.specs.declared.device_id.DeviceId.{DeviceId}
use Rattle.bsc_octets.specs.declared.identity.Identity.{Identity}
use Rattle.bsc_text.specs.Lines.{same_octets}
use Rattle.bsc_text.specs.Words.{words_of, begins_comment}
use Rattle.bsc_text.specs.Grammar.{decoded, device_in, device_of_word, identity_in, maximum_of_word, number_in, number_of, octets_of_words, vmac_in, vmac_of_word}
use Rattle.bsc_node.specs.declared.node_event.NodeEvent.{NodeEvent}
use Rattle.bsc_node.specs.declared.node_event.NodeEvent.TheVariants.{Start, Tick, Send, Resolve, DirectTo, Solicit, Finish}
use Rattle.bsc_network.specs.declared.way.Way.TheVariants.{Up, Down}
use Rattle.bsc_network.specs.declared.world_step.WorldStep.{WorldStep}
use Rattle.bsc_network.specs.declared.world_step.WorldStep.TheVariants.{Node as OfNode, Arrive, Lose, Take, Stop}
use Rattle.bsc_network.specs.Courses.{IsWhole}
use Rattle.bsc_network_script.specs.declared.line.Line.{Line}
use Rattle.bsc_network_script.specs.declared.line.Line.TheVariants.{Nothing, Hub, Node, At, Step}
use Rattle.bsc_network_script.specs.Lines.{at_line, bare_event_of, comes_to, direct_of_words, event_of, hub_line, index_of, line_of, line_of_words, node_line, node_of, node_step}
use Rattle.bsc_network_script.specs.Lines.{only_index, only_vmac, other_event, send_event, send_to, step_of}

-- one of two
either : {A : Type 0} (P : A → Type 0) (b : Bool) (x y : Option A) → IfSome x P → IfSome y P → IfSome (if b then x else y) P
either P true x y p q = p
either P false x y p q = q

-- what was made of what is there
made : {A B : Type 0} (P : B → Type 0) (f : A → B) → ((a : A) → P (f a)) → (o : Option A) → IfSome (option_map f o) P
made P f h None = tt
made P f h (Some a) = h a

-- ---- words

sized : (s : List ℕ) (n : ℕ) (xs : List ℕ) → decode_sized s n ≡ Ok xs → (length xs ≡ n) × IsBytes xs
sized s n xs e =
    elim (cases_eq (length s % 2) 1) [
      | inl odd ↦ cc (sym e ∙ decode_sized-odd s n odd)
      | inr other ↦
          let even : length s % 2 ≡ 0 = omega arith in
          elim (cases_eq (length s / 2) n) [
            | inl half ↦ (
                let ok = decode_pairs-ok 0 s xs (sym (decode_sized-pairs s n even half) ∙ e) in
                let long = ok.1 in
                (omega (arith, long, half), ok.2)
                )
            | inr apart ↦ cc (sym e ∙ decode_sized-other s n even apart)
          ]
    ]

abbrev pub HasSix : Vmac → Type 0
HasSix v = length v.0 ≡ 6

abbrev pub HasSixteen : DeviceId → Type 0
HasSixteen u = length u.0 ≡ 16

abbrev pub IsShort : ℕ → Type 0
IsShort n = n < 2 ^ 16

pub vmac_six : (w : List ℕ) → IfSome (vmac_of_word w) HasSix
vmac_six w = by (decode_sized w 6) refl
  where
    by : (r : Result (List ℕ) FromHexError) → decode_sized w 6 ≡ r → IfSome (vmac_in (decoded r)) HasSix
    by (Ok xs) e = (sized w 6 xs e).0
    by (Err fault) e = tt

pub maximum_short : (w : List ℕ) → IfSome (maximum_of_word w) IsShort
maximum_short w = by (decode_sized w 2) refl
  where
    by : (r : Result (List ℕ) FromHexError) → decode_sized w 2 ≡ r → IfSome (number_in (decoded r)) IsShort
    by (Ok xs) e = (let below = big_from-lt 0 2 xs (sized w 2 xs e).1 in omega (arith, below))
    by (Err fault) e = tt

abbrev Sixteen : List ℕ → Type 0
Sixteen xs = length xs ≡ 16

simple : (s : List ℕ) → IfSome (parsed_simple s) Sixteen
simple s = either Sixteen ((length s == 32) && list_all is_hex_digit s) (Some (by_index 16 (byte_of_digits s))) None (by_index_length 16 (byte_of_digits s)) tt

hyphenated : (s : List ℕ) → IfSome (parsed_hyphenated s) Sixteen
hyphenated s = either Sixteen ((length s == 36) && has_hyphens s) (parsed_simple (digits_of s)) None (simple (digits_of s)) tt

braced : (s : List ℕ) → IfSome (parsed_braced s) Sixteen
braced s =
    either Sixteen ((length s == 38) && (slice_index s 0 == open_brace) && (slice_index s 37 == close_brace)) (parsed_hyphenated (take 36 (drop 1 s))) None
    (hyphenated (take 36 (drop 1 s))) tt

urn : (s : List ℕ) → IfSome (parsed_urn s) Sixteen
urn s = either Sixteen ((length s == 45) && has_urn_prefix s) (parsed_hyphenated (drop 9 s)) None (hyphenated (drop 9 s)) tt

any_form : (s : List ℕ) → IfSome (parsed s) Sixteen
any_form s =
    either Sixteen (length s == 32) (parsed_simple s)
    (if length s == 36 then parsed_hyphenated s else if length s == 38 then parsed_braced s else if length s == 45 then parsed_urn s else None)
    (simple s)
    (either Sixteen (length s == 36) (parsed_hyphenated s) (if length s == 38 then parsed_braced s else if length s == 45 then parsed_urn s else None)
    (hyphenated s)
    (either Sixteen (length s == 38) (parsed_braced s) (if length s == 45 then parsed_urn s else None)
    (braced s)
    (either Sixteen (length s == 45) (parsed_urn s) None (urn s) tt)))

pub device_sixteen : (w : List ℕ) → IfSome (device_of_word w) HasSixteen
device_sixteen w = by (parsed w) (any_form w)
  where
    by : (o : Option (List ℕ)) → IfSome o Sixteen → IfSome (device_in o) HasSixteen
    by None h = tt
    by (Some xs) h = h

-- ---- hubs and nodes

-- An identity has its octets.
pub record IsMeasured (who : Identity) : Type 0 where
  pub address : HasSix who.vmac
  pub device : HasSixteen who.device
  pub bvlc : IsShort who.max_bvlc
  pub npdu : IsShort who.max_npdu

-- What a line says has its octets.
abbrev pub IsSaid : Line → Type 0
IsSaid (Hub who) = IsMeasured who
IsSaid (Node own direct) = IsMeasured own
IsSaid (Step step) = IsWhole step
IsSaid line = ⊤

hub_of : (v : Option Vmac) (u : Option DeviceId) (b n : Option ℕ) → IfSome v HasSix → IfSome u HasSixteen → IfSome b IsShort → IfSome n IsShort
    → IfSome (option_map Hub (identity_in v u b n)) IsSaid
hub_of (Some v) (Some u) (Some b) (Some n) hv hu hb hn = record { address = hv; device = hu; bvlc = hb; npdu = hn }
hub_of v u b n hv hu hb hn = tt

hub_said : (ws : List (List ℕ)) → IfSome (hub_line ws) IsSaid
hub_said (v ∷ u ∷ b ∷ n ∷ []) = hub_of (vmac_of_word v) (device_of_word u) (maximum_of_word b) (maximum_of_word n) (vmac_six v) (device_sixteen u) (maximum_short b) (maximum_short n)
hub_said ws = tt

node_is : (v : Option Vmac) (u : Option DeviceId) (direct : Option Bool) → IfSome v HasSix → IfSome u HasSixteen → IfSome (node_of v u direct) IsSaid
node_is (Some v) (Some u) (Some direct) hv hu = record { address = hv; device = hu; bvlc = omega arith; npdu = omega arith }
node_is v u direct hv hu = tt

node_said : (ws : List (List ℕ)) → IfSome (node_line ws) IsSaid
node_said (v ∷ u ∷ ws) = node_is (vmac_of_word v) (device_of_word u) (direct_of_words ws) (vmac_six v) (device_sixteen u)
node_said ws = tt

at_said : (ws : List (List ℕ)) → IfSome (at_line ws) IsSaid
at_said (ms ∷ []) = made IsSaid At (λ n. tt) (number_of ms)
at_said ws = tt

-- ---- steps

abbrev IsWholeEvent : NodeEvent → Type 0
IsWholeEvent (Send dest npdu) = HasSix dest
IsWholeEvent e = ⊤

of_event : (k : ℕ) (e : NodeEvent) → IsWholeEvent e → IsWhole (OfNode k e)
of_event k (Send dest npdu) h = h
of_event k e h = tt

to_whole : (dest : Option Vmac) (npdu : Option (List ℕ)) → IfSome dest HasSix → IfSome (send_to dest npdu) IsWholeEvent
to_whole (Some dest) (Some npdu) h = h
to_whole dest npdu h = tt

send_whole : (ws : List (List ℕ)) → IfSome (send_event ws) IsWholeEvent
send_whole [] = tt
send_whole (dest ∷ ws) = to_whole (vmac_of_word dest) (octets_of_words ws) (vmac_six dest)

bare_whole : (w : List ℕ) (ws : List (List ℕ)) → IfSome (bare_event_of w ws) IsWholeEvent
bare_whole w [] =
    either IsWholeEvent (same_octets w (codes "start")) (Some Start) _ tt
    (either IsWholeEvent (same_octets w (codes "tick")) (Some Tick) _ tt
    (either IsWholeEvent (same_octets w (codes "finish")) (Some Finish) None tt tt))
bare_whole w ws = tt

other_whole : (w : List ℕ) (ws : List (List ℕ)) → IfSome (other_event w ws) IsWholeEvent
other_whole w ws =
    either IsWholeEvent (same_octets w (codes "resolve")) (option_map Resolve (only_vmac ws)) _ (made IsWholeEvent Resolve (λ v. tt) (only_vmac ws))
    (either IsWholeEvent (same_octets w (codes "direct")) (option_map DirectTo (only_vmac ws)) _ (made IsWholeEvent DirectTo (λ v. tt) (only_vmac ws))
    (either IsWholeEvent (same_octets w (codes "solicit")) (option_map Solicit (only_vmac ws)) _ (made IsWholeEvent Solicit (λ v. tt) (only_vmac ws))
    (bare_whole w ws)))

event_whole : (w : List ℕ) (ws : List (List ℕ)) → IfSome (event_of w ws) IsWholeEvent
event_whole w ws = either IsWholeEvent (same_octets w (codes "send")) (send_event ws) (other_event w ws) (send_whole ws) (other_whole w ws)

comes_whole : (k : Option ℕ) (e : Option NodeEvent) → IfSome e IsWholeEvent → IfSome (comes_to k e) IsWhole
comes_whole (Some k) (Some e) h = of_event k e h
comes_whole k e h = tt

node_step_whole : (w : List ℕ) (ws : List (List ℕ)) → IfSome (node_step w ws) IsWhole
node_step_whole w [] = tt
node_step_whole w (k ∷ ws) = comes_whole (index_of k) (event_of w ws) (event_whole w ws)

step_whole : (w : List ℕ) (ws : List (List ℕ)) → IfSome (step_of w ws) IsWhole
step_whole w ws =
    either IsWhole (same_octets w (codes "up")) (option_map (λ l. Arrive l Up) (only_index ws)) _ (made IsWhole (λ l. Arrive l Up) (λ l. tt) (only_index ws))
    (either IsWhole (same_octets w (codes "down")) (option_map (λ l. Arrive l Down) (only_index ws)) _ (made IsWhole (λ l. Arrive l Down) (λ l. tt) (only_index ws))
    (either IsWhole (same_octets w (codes "lose")) (option_map Lose (only_index ws)) _ (made IsWhole Lose (λ l. tt) (only_index ws))
    (either IsWhole (same_octets w (codes "take")) (option_map Take (only_index ws)) _ (made IsWhole Take (λ l. tt) (only_index ws))
    (either IsWhole (same_octets w (codes "stop")) (option_map Stop (only_index ws)) _ (made IsWhole Stop (λ l. tt) (only_index ws))
    (node_step_whole w ws)))))

step_said : (step : Option WorldStep) → IfSome step IsWhole → IfSome (option_map Step step) IsSaid
step_said None h = tt
step_said (Some step) h = h

-- ---- lines

words_said : (ws : List (List ℕ)) → IfSome (line_of_words ws) IsSaid
words_said [] = tt
words_said (w ∷ ws) =
    either IsSaid (begins_comment w) (Some Nothing) _ tt
    (either IsSaid (same_octets w (codes "hub")) (hub_line ws) _ (hub_said ws)
    (either IsSaid (same_octets w (codes "node")) (node_line ws) _ (node_said ws)
    (either IsSaid (same_octets w (codes "at")) (at_line ws) _ (at_said ws)
    (step_said (step_of w ws) (step_whole w ws)))))

pub line_said : (l : List ℕ) → IfSome (line_of l) IsSaid
unfolding line_of
line_said l = words_said (words_of l)
