-- A hub line says a hub that may be made.
-- It serves the clauses of `read_line`.
use Rattle.std.proofs.Common.{◌≡◌, ℕ, ◌*◌, Bool, true, false, cond, not, nat_le, ◌&&◌, List, [], ◌∷◌, refl, subst, arith, codes, Option, Some, None}
use Rattle.std.specs.Prelude.{IfOk, Result, Ok, Err}
use Rattle.std.specs.Option.{option_map}
use Rattle.bsc_player.specs.declared.language.LineFault.{LineFault}
use Rattle.std.proofs.lemmas.Bool.{and_parts, leb-true}
use Rattle.bsc_octets.specs.declared.bounds.TheConstants.{LEAST_BVLC}
use Rattle.bsc_octets.specs.declared.vmac.Vmac.{Vmac}
use Rattle.bsc_octets.specs.declared.device_id.DeviceId.{DeviceId}
use Rattle.bsc_octets.specs.Addresses.{same_vmac, zero_vmac, broadcast}
use Rattle.bsc_history.specs.declared.limits.About.{About}
use Rattle.bsc_history.specs.declared.limits.TheConstants.{MOST_CALLS, MOST_OCTETS, MOST_OUTBOX, MOST_ROWS}
use Rattle.bsc_script.specs.declared.line.Line.{Line}
use Rattle.bsc_script.specs.declared.line.Line.TheVariants.{Nothing, Hub, Open, In, Text, Drop, Hold, Free, At, Stop, Counts}
use Rattle.bsc_text.specs.Lines.{same_octets}
use Rattle.bsc_text.specs.Words.{words_of, begins_comment}
use Rattle.bsc_text.specs.Grammar.{number_of, vmac_of_word, maximum_of_word, device_of_word, octets_of_words, is_name}
use Rattle.bsc_script.specs.Lines.{lies_within, may_be_hub, hub_of, hub_line, hub_line_of_words, open_line_of_words, in_line, in_line_of_words, name_line_of_words}
use Rattle.bsc_script.specs.Lines.{at_line_of_words, bare_line_of_words, hubs_line_of_words, other_line_of_words, calls_of_words, line_of_words, line_of}
use Rattle.bsc_script.specs.Hubs.{IsHub, IsFit}

fit_hub : (v : Vmac) (u : DeviceId) (b n r o k : ℕ) → may_be_hub v b n r o k ≡ true → IsHub (hub_of v u b n r o k)
fit_hub v u b n r o k h =
    let first = not (same_vmac v zero_vmac) && not (same_vmac v broadcast) in
    let bvlc = lies_within LEAST_BVLC b 65535 in
    let npdu = lies_within 1 n 65535 in
    let rows = lies_within 1 r MOST_ROWS in
    let outbox = lies_within 2 o MOST_OUTBOX in
    let product = nat_le (r * o * b) MOST_OCTETS in
    let calls = lies_within 1 k MOST_CALLS in
    let p0 = and_parts (first && bvlc && npdu && rows && outbox && calls) product h in
    let p1 = and_parts (first && bvlc && npdu && rows && outbox) calls p0.0 in
    let p2 = and_parts (first && bvlc && npdu && rows) outbox p1.0 in
    let p3 = and_parts (first && bvlc && npdu) rows p2.0 in
    let rs = and_parts (nat_le 1 r) (nat_le r MOST_ROWS) p3.1 in
    let os = and_parts (nat_le 2 o) (nat_le o MOST_OUTBOX) p2.1 in
    let ks = and_parts (nat_le 1 k) (nat_le k MOST_CALLS) p1.1 in
    let few = leb-true k MOST_CALLS ks.1 in
    record {
      some_rows = leb-true 1 r rs.0;
      few_rows = leb-true r MOST_ROWS rs.1;
      some_room = leb-true 2 o os.0;
      little_room = leb-true o MOST_OUTBOX os.1;
      some_calls = leb-true 1 k ks.0;
      few_calls = omega (arith, few);
      some_callers = omega arith;
      few_callers = omega arith;
    }

fit_if : (b : Bool) (a : About) (line : Line) → (b ≡ true → IsHub a) → cond b (Some (Hub a)) None ≡ Some line → IsFit line
fit_if true a line hub h = (let e : Hub a ≡ line = cc in subst IsFit e (hub refl))
fit_if false a line hub h = cc

fit_hub_line : (v : Option Vmac) (u : Option DeviceId) (b n r o k : Option ℕ) (line : Line) → hub_line v u b n r o k ≡ Some line → IsFit line
fit_hub_line None u b n r o k line h = cc
fit_hub_line (Some v) None b n r o k line h = cc
fit_hub_line (Some v) (Some u) None n r o k line h = cc
fit_hub_line (Some v) (Some u) (Some b) None r o k line h = cc
fit_hub_line (Some v) (Some u) (Some b) (Some n) None o k line h = cc
fit_hub_line (Some v) (Some u) (Some b) (Some n) (Some r) None k line h = cc
fit_hub_line (Some v) (Some u) (Some b) (Some n) (Some r) (Some o) None line h = cc
fit_hub_line (Some v) (Some u) (Some b) (Some n) (Some r) (Some o) (Some k) line h = fit_if (may_be_hub v b n r o k) (hub_of v u b n r o k) line (fit_hub v u b n r o k) h

fit_hub_words : (ws : List (List ℕ)) (line : Line) → hub_line_of_words ws ≡ Some line → IsFit line
fit_hub_words [] line h = cc
fit_hub_words (v ∷ []) line h = cc
fit_hub_words (v ∷ u ∷ []) line h = cc
fit_hub_words (v ∷ u ∷ b ∷ []) line h = cc
fit_hub_words (v ∷ u ∷ b ∷ n ∷ []) line h = cc
fit_hub_words (v ∷ u ∷ b ∷ n ∷ r ∷ []) line h = cc
fit_hub_words (v ∷ u ∷ b ∷ n ∷ r ∷ o ∷ ws) line h = fit_hub_line (vmac_of_word v) (device_of_word u) (maximum_of_word b) (maximum_of_word n) (number_of r) (number_of o) (calls_of_words ws) line h

fit_open : (b : Bool) (name : List ℕ) (line : Line) → cond b (Some (Open name)) None ≡ Some line → IsFit line
fit_open true name line h = (let e : Open name ≡ line = cc in subst IsFit e tt)
fit_open false name line h = cc

fit_open_words : (ws : List (List ℕ)) (line : Line) → open_line_of_words ws ≡ Some line → IsFit line
fit_open_words [] line h = cc
fit_open_words (name ∷ []) line h = fit_open (is_name name) name line h
fit_open_words (name ∷ w ∷ ws) line h = cc

fit_in : (name : List ℕ) (o : Option (List ℕ)) (line : Line) → in_line name o ≡ Some line → IsFit line
fit_in name None line h = cc
fit_in name (Some m) line h = (let e : In name m ≡ line = cc in subst IsFit e tt)

fit_in_words : (ws : List (List ℕ)) (line : Line) → in_line_of_words ws ≡ Some line → IsFit line
fit_in_words [] line h = cc
fit_in_words (name ∷ ws) line h = fit_in name (octets_of_words ws) line h

fit_name : (f : List ℕ → Line) → ((name : List ℕ) → IsFit (f name)) → (ws : List (List ℕ)) (line : Line) → name_line_of_words f ws ≡ Some line → IsFit line
fit_name f fit [] line h = cc
fit_name f fit (name ∷ []) line h = (let e : f name ≡ line = cc in subst IsFit e (fit name))
fit_name f fit (name ∷ w ∷ ws) line h = cc

fit_bare : (l : Line) → IsFit l → (ws : List (List ℕ)) (line : Line) → bare_line_of_words l ws ≡ Some line → IsFit line
fit_bare l fit [] line h = (let e : l ≡ line = cc in subst IsFit e fit)
fit_bare l fit (w ∷ ws) line h = cc

fit_time : (o : Option ℕ) (line : Line) → option_map At o ≡ Some line → IsFit line
fit_time None line h = cc
fit_time (Some ms) line h = (let e : At ms ≡ line = cc in subst IsFit e tt)

fit_at : (ws : List (List ℕ)) (line : Line) → at_line_of_words ws ≡ Some line → IsFit line
fit_at [] line h = cc
fit_at (ms ∷ []) line h = fit_time (number_of ms) line h
fit_at (ms ∷ w ∷ ws) line h = cc

fit_hubs : (a b c : Bool) (ws : List (List ℕ)) (line : Line) → cond a (at_line_of_words ws) (cond b (bare_line_of_words Stop ws) (cond c (bare_line_of_words Counts ws) None)) ≡ Some line → IsFit line
fit_hubs true b c ws line h = fit_at ws line h
fit_hubs false true c ws line h = fit_bare Stop tt ws line h
fit_hubs false false true ws line h = fit_bare Counts tt ws line h
fit_hubs false false false ws line h = cc

fit_hubs_words : (w : List ℕ) (ws : List (List ℕ)) (line : Line) → hubs_line_of_words w ws ≡ Some line → IsFit line
fit_hubs_words w ws line h = fit_hubs (same_octets w (codes "at")) (same_octets w (codes "stop")) (same_octets w (codes "counts")) ws line h

fit_other : (a b c d : Bool) (w : List ℕ) (ws : List (List ℕ)) (line : Line)
    → cond a (name_line_of_words Text ws) (cond b (name_line_of_words Drop ws) (cond c (name_line_of_words Hold ws) (cond d (name_line_of_words Free ws) (hubs_line_of_words w ws))))
    ≡ Some line → IsFit line
fit_other true b c d w ws line h = fit_name Text (λ name. tt) ws line h
fit_other false true c d w ws line h = fit_name Drop (λ name. tt) ws line h
fit_other false false true d w ws line h = fit_name Hold (λ name. tt) ws line h
fit_other false false false true w ws line h = fit_name Free (λ name. tt) ws line h
fit_other false false false false w ws line h = fit_hubs_words w ws line h

fit_others : (w : List ℕ) (ws : List (List ℕ)) (line : Line) → other_line_of_words w ws ≡ Some line → IsFit line
fit_others w ws line h = fit_other (same_octets w (codes "text")) (same_octets w (codes "drop")) (same_octets w (codes "hold")) (same_octets w (codes "free")) w ws line h

fit_choice : (a b c d : Bool) (w : List ℕ) (ws : List (List ℕ)) (line : Line)
    → cond a (Some Nothing) (cond b (hub_line_of_words ws) (cond c (open_line_of_words ws) (cond d (in_line_of_words ws) (other_line_of_words w ws)))) ≡ Some line → IsFit line
fit_choice true b c d w ws line h = (let e : Nothing ≡ line = cc in subst IsFit e tt)
fit_choice false true c d w ws line h = fit_hub_words ws line h
fit_choice false false true d w ws line h = fit_open_words ws line h
fit_choice false false false true w ws line h = fit_in_words ws line h
fit_choice false false false false w ws line h = fit_others w ws line h

fit_words : (ws : List (List ℕ)) (line : Line) → line_of_words ws ≡ Some line → IsFit line
fit_words [] line h = (let e : Nothing ≡ line = cc in subst IsFit e tt)
fit_words (w ∷ ws) line h = fit_choice (begins_comment w) (same_octets w (codes "hub")) (same_octets w (codes "open")) (same_octets w (codes "in")) w ws line h

pub fits : (l : List ℕ) (line : Line) → line_of l ≡ Some line → IsFit line
unfolding line_of
fits l line h = fit_words (words_of l) line h

pub fits_if_ok : (l : List ℕ) (r : Result Line LineFault) → IfOk r (λ line. line_of l ≡ Some line) → IfOk r IsFit
fits_if_ok l (Ok line) h = fits l line h
fits_if_ok l (Err fault) h = tt
