-- Each frame of an outbox entered it by one Forward.
-- It serves the clauses of `frames_enter_by_forwards`.
use Rattle.std.proofs.Common.{◌≡◌, ◌⊎◌, inl, inr, ℕ, ◌==◌, Bool, true, false, not, cond, ◌&&◌, ◌||◌, List, [], ◌∷◌, ◌++◌, length, Option, Some, refl, ap, sym, subst, ◌∙◌, append_assoc, append-nil}
use Rattle.std.specs.Prelude.{slice_get}
use Rattle.std.specs.List.{list_any}
use Rattle.std.proofs.lemmas.Bool.{and_parts, eqb-true}
use Rattle.bsc_octets.specs.Forwarding.{out}
use Rattle.bsc_history.specs.declared.limits.About.{About}
use Rattle.bsc_history.specs.declared.call.Call.{Call}
use Rattle.bsc_history.specs.declared.call.Call.TheVariants.{Connect, Forward, Leave, Stop, Count}
use Rattle.bsc_history.specs.declared.connection.Connection.{Connection}
use Rattle.bsc_history.specs.declared.entry.Entry.{Entry}
use Rattle.bsc_history.specs.declared.looks.Look.{Look}
use Rattle.bsc_history.specs.Entering.{EnterByForwards, EnteredBy}
use Rattle.bsc_history.specs.Ends.{is_live, joined, live, numbered}
use Rattle.bsc_history.specs.Legality.{Legal}
use Rattle.bsc_history.specs.Outboxes.{added_by, is_found_full, is_too_long, meant, means, out_of, sent, takes, vmac_in}
use Rattle.bsc_history.proofs.Connections.{found_in, joined_apart, joined_in, numbered_so}
use Rattle.bsc_history.proofs.Gains.{one_or_none}
use Rattle.bsc_history.proofs.Lists.{In, In-filter, any_gives}
use Rattle.bsc_history.proofs.More.{along, sent-more}
use Rattle.bsc_history.proofs.Numbers.{live_numbers}
use Rattle.bsc_lemmas.proofs.Lists.{got-more}
use Rattle.bsc_lemmas.proofs.Options.{found_some}

-- ---- what a call adds

-- It is a Forward of a live sender, and means a live connection of this number.
record Adds (G : List Entry) (c : ℕ) (call : Call) (frame : List ℕ) : Type 0 where
  sender : ℕ
  message : List ℕ
  is : call ≡ Forward sender message
  octets : frame ≡ out_of G sender message
  sends : is_live G sender ≡ true
  taker : Connection
  among : In taker (live G)
  number : taker.number ≡ c
  meant_so : means message sender taker ≡ true

adds : (a : About) (G : List Entry) (entered : List (List ℕ)) (c : ℕ) (call : Call) (looks : List Look) (frame : List ℕ) → added_by a G entered c call looks ≡ frame ∷ [] → Adds G c call frame
unfolding added_by
adds a G entered c (Forward sender m) looks frame h = by (is_live G sender && list_any test (meant G sender m)) refl h
  where
    o : List ℕ
    o = out_of G sender m

    test : Connection → Bool
    test = takes a o entered looks c

    by : (b : Bool) → (is_live G sender && list_any test (meant G sender m)) ≡ b → cond b (o ∷ []) [] ≡ frame ∷ [] → Adds G c (Forward sender m) frame
    by true is e =
        let both = and_parts (is_live G sender) (list_any test (meant G sender m)) is in
        let one = any_gives test (meant G sender m) both.1 in
        let there = In-filter (means m sender) one.0 (live G) one.1 in
        record {
          sender = sender;
          message = m;
          is = refl;
          octets = (let k : frame ≡ o = cc in k);
          sends = both.0;
          taker = one.0;
          among = there.0;
          number = eqb-true one.0.number c (and_parts (one.0.number == c) (not (is_too_long o one.0 || is_found_full a entered looks c)) one.2).0;
          meant_so = there.1;
        }
    by false is e = cc
adds a G entered c (Connect who) looks frame h = cc
adds a G entered c (Leave conn taken empties) looks frame h = cc
adds a G entered c Stop looks frame h = cc
adds a G entered c Count looks frame h = cc

-- one that is added enters by that very entry
enters_now : (a : About) (G : List Entry) (e : Entry) (c place : ℕ) (frame : List ℕ) → Legal a G → Adds G c e.call frame → place ≡ length (sent a G c) → EnteredBy a (G ++ e ∷ []) c place frame
enters_now a G e c place frame legal d behind =
    let sender = found_some (numbered d.sender (live G)) d.sends in
    let from = found_in d.sender (live G) sender.0 sender.1 in
    let from_joined : In sender.0 (joined G) = joined_in _ G sender.0 from.0 in
    record {
      before = G;
      forward = e;
      later = [];
      is = refl;
      from = sender.0;
      to = d.taker;
      message = d.message;
      call = d.is ∙ ap (λ (n : ℕ). Forward n d.message) (sym from.1);
      sender_live = numbered_so sender.0 (live G) (live_numbers a G legal) from.0;
      receiver_live = ap (λ (n : ℕ). numbered n (live G)) (sym d.number) ∙ numbered_so d.taker (live G) (live_numbers a G legal) d.among;
      meant = ap (λ (n : ℕ). means d.message n d.taker) from.1 ∙ d.meant_so;
      octets = d.octets ∙ ap (λ (o : Option Connection). out d.message (vmac_in o))
          (ap (λ (n : ℕ). numbered n (joined G)) (sym from.1) ∙ numbered_so sender.0 (joined G) (joined_apart a G legal) from_joined);
      behind = behind;
    }

-- one that had entered has still entered, with one entry more
entered_still : (a : About) (G : List Entry) (e : Entry) (c place : ℕ) (frame : List ℕ) → EnteredBy a G c place frame → EnteredBy a (G ++ e ∷ []) c place frame
entered_still a G e c place frame x = record {
  before = x.before;
  forward = x.forward;
  later = x.later ++ e ∷ [];
  is = ap (λ (l : List Entry). l ++ e ∷ []) x.is ∙ append_assoc x.before (x.forward ∷ x.later) (e ∷ []);
  from = x.from;
  to = x.to;
  message = x.message;
  call = x.call;
  sender_live = x.sender_live;
  receiver_live = x.receiver_live;
  meant = x.meant;
  octets = x.octets;
  behind = x.behind;
}

step : (a : About) (G : List Entry) (e : Entry) → Legal a G → EnterByForwards a G → EnterByForwards a (G ++ e ∷ [])
step a G e legal all c place frame h = by (one_or_none a G (sent a G c) c e.call e.looks)
  where
    s : List (List ℕ)
    s = sent a G c

    old : slice_get s place ≡ Some frame → EnteredBy a (G ++ e ∷ []) c place frame
    old k = entered_still a G e c place frame (all c place frame k)

    new : (f : List ℕ) → added_by a G s c e.call e.looks ≡ f ∷ [] → (slice_get s place ≡ Some frame) ⊎ ((place ≡ length s) × (f ≡ frame)) → EnteredBy a (G ++ e ∷ []) c place frame
    new f is (inl k) = old k
    new f is (inr (behind, same)) = enters_now a G e c place frame legal (adds a G s c e.call e.looks frame (is ∙ ap (λ (o : List ℕ). o ∷ []) same)) behind

    by : (added_by a G s c e.call e.looks ≡ []) ⊎ ((f : List ℕ) × (added_by a G s c e.call e.looks ≡ f ∷ [])) → EnteredBy a (G ++ e ∷ []) c place frame
    by (inl none) = old (subst (λ (l : List (List ℕ)). slice_get l place ≡ Some frame) (sent-more a G e c ∙ ap (λ (l : List (List ℕ)). s ++ l) none ∙ append-nil s) h)
    by (inr (f, is)) = new f is (got-more s f place frame (subst (λ (l : List (List ℕ)). slice_get l place ≡ Some frame) (sent-more a G e c ∙ ap (λ (l : List (List ℕ)). s ++ l) is) h))

none_entered : (a : About) → EnterByForwards a []
unfolding sent
none_entered a c place frame h = cc

pub enter_by_forwards : (a : About) (H : List Entry) → Legal a H → EnterByForwards a H
enter_by_forwards a H legal = along a (EnterByForwards a) (none_entered a) (λ G e legalG all lawful. step a G e legalG all) H legal
