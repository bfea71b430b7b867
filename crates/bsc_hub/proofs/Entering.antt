-- Where a unicast is that was told as appended, by a longer history.
-- It serves the clauses of `unicast_is_there`.
use Rattle.std.proofs.Common.{◌≡◌, ◌≢◌, ℕ, suc, ◌+◌, ◌==◌, true, false, cond, List, [], ◌∷◌, ◌++◌, length, take, refl, ap, sym, ◌∙◌, subst, arith, append_assoc, append-nil, length-append}
use Rattle.std.specs.Prelude.{IfOk, Result, Ok, Err}
use Rattle.std.proofs.lemmas.List.{map-append}
use Rattle.std.proofs.lemmas.Bool.{eq-eqb, eqb-true, false_from_ne_true}
use Rattle.bsc_octets.specs.declared.vmac.Vmac.{Vmac}
use Rattle.bsc_octets.specs.Forwarding.{is_broadcast, out}
use Rattle.bsc_history.specs.declared.call.Call.TheVariants.{Forward}
use Rattle.bsc_history.specs.declared.entry.Entry.{Entry}
use Rattle.bsc_history.specs.declared.limits.About.{About}
use Rattle.bsc_history.specs.declared.looks.Look.{Look}
use Rattle.bsc_history.specs.declared.mark.Stamped.{Stamped}
use Rattle.bsc_history.specs.declared.reply.Reply.TheVariants.{Appended as AppendedReply}
use Rattle.bsc_history.specs.declared.told.Told.{Told}
use Rattle.bsc_history.specs.declared.told.Worn.{Worn}
use Rattle.bsc_history.specs.Entries.{moment}
use Rattle.bsc_history.specs.Laws.{names}
use Rattle.bsc_history.specs.Legality.{Legal}
use Rattle.bsc_history.specs.Marks.{entries}
use Rattle.bsc_history.specs.Outboxes.{added, sent, vmac_of}
use Rattle.bsc_history.proofs.Gains.{unicast_to_holder_alone}
use Rattle.bsc_history.proofs.More.{sent-more}
use Rattle.bsc_history.proofs.Named.{adds_as_named}
use Rattle.bsc_history.proofs.Parts.{Legal-at, Legal-first, sent_grows}
use Rattle.bsc_turn.specs.declared.pass.Pass.{Pass}
use Rattle.bsc_turn.specs.Histories.{StartsWith}
use Rattle.bsc_turn.specs.Passes.{number_of, seen}
use Rattle.bsc_desk.specs.declared.forwarding.OneReply.{OneReply}
use Rattle.bsc_desk.specs.declared.forwarding.OneReply.TheVariants.{Appended}
use Rattle.bsc_desk.specs.Entries.{one_reply}
use Rattle.bsc_desk.specs.Frames.{Frame}
use Rattle.bsc_hub.specs.declared.hub.Hub.{Hub}
use Rattle.bsc_hub.specs.Calls.{one_made, one_stamped}
use Rattle.bsc_hub.specs.Passing.{IsCaller, IsOwnAs, Passed, about_of}
use Rattle.bsc_hub.specs.Unicasts.{IsThereAlone}
use Rattle.bsc_hub.proofs.Guarding.{address_lifted, parts}
use Rattle.bsc_history.proofs.Common.{length_entries, take_all as take_front}

take_next : (G : List Entry) (e : Entry) (es : List Entry) → take (suc (length G)) (G ++ e ∷ es) ≡ G ++ e ∷ []
take_next [] e es = refl
take_next (x ∷ G) e es = ap (λ (l : List Entry). x ∷ l) (take_next G e es)

take_one : (G : List Entry) (e : Entry) (es : List Entry) → take (length G + 1) (G ++ e ∷ es) ≡ G ++ e ∷ []
take_one G e es =
    let one : length G + 1 ≡ suc (length G) = omega arith in
    ap (λ n. take n (G ++ e ∷ es)) one ∙ take_next G e es

not_same : (xs : List (List ℕ)) (o : List ℕ) → xs ++ o ∷ [] ≢ xs
not_same xs o e = (let k = ap length e in let n = length-append xs (o ∷ []) in omega (arith, k, n))

-- A unicast of a legal history that was replied to as appended to c, with the address of its sender.
there : (a : About) (G : List Entry) (e : Entry) (rest : List Entry) (sender : ℕ) (f : Frame) (c : ℕ) → Legal a (G ++ e ∷ rest) → e.call ≡ Forward sender f.message
    → e.reply ≡ AppendedReply c → is_broadcast f.message ≡ false → vmac_of G sender ≡ f.sender → IsThereAlone a (G ++ e ∷ rest) (length G) c f
there a G e rest sender f c legal calls says one address =
    let before : Legal a G = Legal-first a G (e ∷ rest) legal in
    let lawful = Legal-at a G rest e legal in
    let adds : (k : ℕ) → sent a (G ++ e ∷ []) k ≡ sent a G k ++ cond (c == k) (out f.message (vmac_of G sender) ∷ []) [] = λ k. sent-more a G e k
    ∙ ap (λ (l : List (List ℕ)). sent a G k ++ l) (subst (λ r. added a (moment G e) (sent a G k) k ≡ cond (names k r) (out f.message (vmac_of G sender) ∷ []) []) says
    (adds_as_named a G before e sender f.message k lawful calls)) in
    let same : (c == c) ≡ true = eq-eqb c c refl in
    let joins : sent a (G ++ e ∷ []) c ≡ sent a G c ++ out f.message f.sender ∷ [] = adds c ∙ ap (λ b. sent a G c ++ cond b (out f.message (vmac_of G sender) ∷ []) []) same
    ∙ ap (λ (v : Vmac). sent a G c ++ out f.message v ∷ []) address in
    let changed : sent a (G ++ e ∷ []) c ≢ sent a G c = λ k. not_same (sent a G c) (out f.message f.sender) (sym joins ∙ k) in
    let up = take_one G e rest in
    let front = take_front G (e ∷ rest) in
    let later = sent_grows a (G ++ e ∷ []) rest c in
    record {
      held = rw front ((unicast_to_holder_alone a G before e sender f.message c calls one changed).0);
      joins = rw (up, front) joins;
      alone = λ k other. rw (up, front) (adds k ∙ ap (λ b. sent a G k ++ cond b (out f.message (vmac_of G sender) ∷ []) [])
          (false_from_ne_true (c == k) (λ is. other (sym (eqb-true c k is)))) ∙ append-nil (sent a G k));
      stays = (later.0, rw up (ap (λ (l : List Entry). sent a l c) (sym (append_assoc G (e ∷ []) rest)) ∙ later.1));
    }

-- What the pass r has seen, which begins with what a unicast left its caller's pass as, says where the unicast is.
pub told_there : (h : Hub) (p q r : Pass) (conn : ℕ) (f : Frame) (answer : Result (Told OneReply) Worn) → Passed h p [] (one_made (number_of p) conn f.message answer) q → IsCaller h r
    → StartsWith (seen r) (seen q) → IsOwnAs p conn f.sender → is_broadcast f.message ≡ false
    → IfOk answer (λ t. (k : Look) → t.said ≡ Appended k → IsThereAlone (about_of h) (entries (seen r)) t.at k.conn f)
told_there h p q r conn f (Err worn) passed is begins own one = tt
told_there h p q r conn f (Ok t) passed is begins own one = λ k said.
    let a = about_of h in
    let m = passed.makes in
    let s : Stamped = one_stamped (number_of p) conn f.message t.said in
    let G = entries m.before in
    let rest = entries begins.0 in
    let H = G ++ s.entry ∷ rest in
    let whole : entries (seen r) ≡ H = parts (seen q) (seen r) begins ∙ ap (λ (S : List Stamped). entries S ++ rest) m.ends
    ∙ ap (λ (l : List Entry). l ++ rest) (map-append (λ (x : Stamped). x.entry) m.before (s ∷ [])) ∙ append_assoc G (s.entry ∷ []) rest in
    let address : vmac_of G conn ≡ f.sender = address_lifted (seen p) m.before (number_of p) conn m.begins own.0 ∙ own.1 in
    let replied : s.entry.reply ≡ AppendedReply k.conn = ap one_reply said in
    let place : t.at ≡ length G = m.place ∙ sym (length_entries m.before) in
    let here = there a G s.entry rest conn f k.conn (subst (Legal a) whole is.1) refl replied one address in
    subst (λ l. IsThereAlone a l t.at k.conn f) (sym whole) (subst (λ n. IsThereAlone a H n k.conn f) (sym place) here)
