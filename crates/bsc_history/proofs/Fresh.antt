-- A number above those of all that joined has no joining, no End, no look, and nothing entered its outbox.
-- It serves many crates above.
use Rattle.std.proofs.Common.{◌≡◌, ℕ, ◌+◌, ◌<◌, ◌≤◌, ◌==◌, inl, inr, Bool, true, false, not, ◌||◌, cond, List, [], ◌∷◌, ◌++◌, length, Some, None, is_some, is_none, option_to_list}
use Rattle.std.proofs.Common.{refl, ap, sym, ◌∙◌, arith, append-nil, length-append}
use Rattle.std.specs.List.{list_any}
use Rattle.std.proofs.lemmas.Bool.{and_left, and_right}
use Rattle.bsc_history.specs.declared.limits.About.{About}
use Rattle.bsc_history.specs.declared.call.Call.{Call}
use Rattle.bsc_history.specs.declared.call.Call.TheVariants.{Forward}
use Rattle.bsc_history.specs.declared.looks.Look.{Look}
use Rattle.bsc_history.specs.declared.connection.Connection.{Connection}
use Rattle.bsc_history.specs.declared.entry.Entry.{Entry}
use Rattle.bsc_history.specs.Entries.{connection_of, joins}
use Rattle.bsc_history.specs.Ends.{ended, is_live, joined, live, numbered}
use Rattle.bsc_history.specs.Outboxes.{added_by, is_found_full, is_too_long, looked, means, meant, out_of, sent, takes}
use Rattle.bsc_history.specs.Legality.{Legal}
use Rattle.bsc_history.proofs.Capacity.{within_capacity}
use Rattle.bsc_history.proofs.Lists.{In, In-filter, none_passes}
use Rattle.bsc_history.proofs.More.{along, joined-more, sent-more}
use Rattle.bsc_history.proofs.Named.{live_until_ended}
use Rattle.bsc_history.proofs.Uniqueness.{not_joined, settled}

not_numbered : (c : ℕ) (x : Connection) (xs : List Connection) → is_some (numbered c xs) ≡ false → In x xs → (x.number == c) ≡ false
not_numbered c x [] h m = absurd m
not_numbered c x (y ∷ ys) h m =
    let by : (b : Bool) → (y.number == c) ≡ b → is_some (cond b (Some y) (numbered c ys)) ≡ false
    → (x.number == c) ≡ false = λ b. elim b as (λ b. (y.number == c) ≡ b → is_some (cond b (Some y) (numbered c ys)) ≡ false → (x.number == c) ≡ false) [
      | true ↦ λ e g. cc
      | false ↦ λ e g. elim m [ inl same ↦ ap (λ (z : Connection). z.number == c) (sym same) ∙ e | inr later ↦ not_numbered c x ys g later ]
    ] in
    by (y.number == c) refl h

-- Nothing enters the outbox of a number that isn't live.
pub none_added : (a : About) (H : List Entry) (entered : List (List ℕ)) (c : ℕ) (call : Call) (looks : List Look) → is_live H c ≡ false → added_by a H entered c call looks ≡ []
unfolding added_by
none_added a H entered c (Forward sender m) looks out =
    let o = out_of H sender m in
    let none : list_any (takes a o entered looks c) (meant H sender m) ≡ false =
    none_passes (takes a o entered looks c) (meant H sender m) (λ x mem. and_left (x.number == c) (not (is_too_long o x || is_found_full a entered looks c))
    (not_numbered c x (live H) out (In-filter (means m sender) x (live H) mem).0)) in
    ap (λ (b : Bool). cond b (o ∷ []) []) (and_right (is_live H sender) (list_any (takes a o entered looks c) (meant H sender m)) none)
none_added a H entered c call looks out = refl

pub fresh_joins : (a : About) (H : List Entry) (c : ℕ) → Legal a H → length (joined H) < c → list_any (joins c) H ≡ false
fresh_joins a H c legal above = (settled a H legal).fresh c above

pub fresh_ended : (a : About) (H : List Entry) (c : ℕ) → Legal a H → length (joined H) < c → ended H c ≡ None
fresh_ended a H c legal above = not_joined H c (fresh_joins a H c legal above)

pub fresh_sent : (a : About) (H : List Entry) (c : ℕ) → Legal a H → length (joined H) < c → sent a H c ≡ []
unfolding sent
fresh_sent a H c legal = along a (λ G. length (joined G) < c → sent a G c ≡ []) (λ above. refl) (λ G e legalG p lawful above.
    let grown : length (joined (G ++ e ∷ [])) ≡ length (joined G) + length (option_to_list (connection_of e)) = ap length (joined-more G e)
    ∙ length-append (joined G) (option_to_list (connection_of e)) in
    let before : length (joined G) < c = omega arith in
    let out : is_live G c ≡ false = live_until_ended a G legalG c ∙ and_left (list_any (joins c) G) (is_none (ended G c)) (fresh_joins a G c legalG before) in
    sent-more a G e c ∙ ap (λ (l : List (List ℕ)). sent a G c ++ l) (none_added a G (sent a G c) c e.call e.looks out) ∙ append-nil (sent a G c) ∙ p before) H legal

pub fresh_looked : (a : About) (H : List Entry) (c : ℕ) → Legal a H → length (joined H) < c → looked H c ≡ 0
fresh_looked a H c legal above =
    let most : looked H c ≤ length (sent a H c) = (within_capacity a H legal).not_ahead c in
    let none : length (sent a H c) ≡ 0 = ap length (fresh_sent a H c legal above) in
    omega arith
