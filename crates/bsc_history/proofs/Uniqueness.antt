-- In a legal history connections are numbered in order, no two live ones have one address or one device, and nothing enters after an end.
-- It serves clauses of functions of `laws`.
use Rattle.std.proofs.Common.{◌≡◌, inl, inr, ℕ, zero, suc, ◌==◌, ◌+◌, ◌<◌, Bool, true, false, not, ◌||◌, cond, eqb, if◌then◌else◌, List, [], ◌∷◌, ◌++◌, length, filter, Option}
use Rattle.std.proofs.Common.{Some, None, is_none, MatchOption, option_to_list, refl, ap, sym, ◌∙◌, subst, add-zero, arith, length-append, append-nil}
use Rattle.std.specs.Bool.{⊤}
use Rattle.std.proofs.lemmas.List.{map-append}
use Rattle.std.specs.List.{list_any, range_with_len}
use Rattle.std.specs.Option.{option_or}
use Rattle.std.specs.Cmp.Lexicographic.{other_text, pointwise}
use Rattle.std.proofs.lemmas.Bool.{eq-eqb, ne_eqb, both_ways, or_parts, and_right, and_left}
use Rattle.std.proofs.lemmas.List.Folds.{list_any-append}
use Rattle.bsc_octets.specs.declared.vmac.Vmac.{Vmac}
use Rattle.bsc_octets.specs.declared.device_id.DeviceId.{DeviceId}
use Rattle.bsc_octets.specs.Addresses.{same_vmac, same_device}
use Rattle.bsc_history.specs.declared.limits.About.{About}
use Rattle.bsc_history.specs.declared.call.Call.{Call}
use Rattle.bsc_history.specs.declared.call.Call.TheVariants.{Connect, Forward, Leave, Stop, Count}
use Rattle.bsc_history.specs.declared.ending.End.{End}
use Rattle.bsc_history.specs.declared.entry.Entry.{Entry}
use Rattle.bsc_history.specs.declared.looks.Look.{Look}
use Rattle.bsc_history.specs.declared.reply.Refusal.TheVariants.{Stopped as RefusedStopped, Duplicate, TableFull}
use Rattle.bsc_history.specs.declared.reply.Reply.{Reply}
use Rattle.bsc_history.specs.declared.reply.Reply.TheVariants.{Joined, Refused}
use Rattle.bsc_history.specs.declared.connection.Connection.{Connection}
use Rattle.bsc_history.specs.Entries.{connection_of, made_by, is_number, joins, moment}
use Rattle.bsc_history.specs.Ends.{end_by, end_by_call, end_by_reply, ended, joined_where, joined, live, is_live}
use Rattle.bsc_history.specs.Holders.{holder, of_device}
use Rattle.bsc_history.specs.Outboxes.{added_by, means, meant, out_of, takes, is_too_long, is_found_full, sent}
use Rattle.bsc_history.specs.Replies.{reply, connect_reply, refused_as_held, rival, number_of, numbers}
use Rattle.bsc_history.specs.Legality.{Lawful, Legal}
use Rattle.bsc_history.specs.Laws.{NumbersInOrder, OneHolder, OneOfDevice, NoneAfterEnd}
use Rattle.bsc_history.proofs.Lists.{In, In-append, In-option, In-filter, find_says, none_passes, Apart-filter, Apart-push, same_one}
use Rattle.bsc_history.proofs.More.{along, live-more, joined-more, ended-more, sent-more}
use Rattle.bsc_history.proofs.Common.{no_rival}
use Rattle.bsc_octets.proofs.Common.{device_same, vmac_same}

-- addresses and devices, by their tests

texts_refl : (xs ys : List ℕ) → xs ≡ ys → pointwise eqb xs ys ≡ true
texts_refl xs ys e =
    let on : (b : Bool) → b ≡ pointwise eqb xs ys → pointwise eqb xs ys ≡ true =
    λ b. elim b as (λ b. b ≡ pointwise eqb xs ys → pointwise eqb xs ys ≡ true) [ true ↦ λ h. sym h | false ↦ λ h. absurd (other_text xs ys h e) ] in
    on (pointwise eqb xs ys) refl

pub vmac_refl : (v w : Vmac) → v ≡ w → same_vmac v w ≡ true
vmac_refl v w e = texts_refl v.0 w.0 (ap (λ (x : Vmac). x.0) e)

pub device_refl : (u w : DeviceId) → u ≡ w → same_device u w ≡ true
device_refl u w e = texts_refl u.0 w.0 (ap (λ (x : DeviceId). x.0) e)

-- what a reply Joined says

chosen : (s u f : Bool) (r : Option ℕ) (rows n c : ℕ) (o p : Option ℕ)
    → Joined c p ≡ (if s then Refused RefusedStopped else if u then Refused (Duplicate None) else refused_as_held r (if f then Refused (TableFull rows) else Joined n o)) → (c ≡ n) × (p ≡ o)
    × (r ≡ None)
chosen true u f r rows n c o p h = cc
chosen false true f r rows n c o p h = cc
chosen false false f (Some k) rows n c o p h = cc
chosen false false true None rows n c o p h = cc
chosen false false false None rows n c o p h = (cc, cc, refl)

-- what is so of the connection x that joins with the reply r after H
abbrev pub Comes : List Entry → Reply → Connection → Type 0
Comes H r x = (x.number ≡ 1 + length (joined H)) × (r ≡ Joined x.number (number_of (of_device H x.who.device))) × (rival x.who (holder H x.who.vmac) ≡ None)

made_comes : (a : About) (H : List Entry) (caller : ℕ) (call : Call) (looks : List Look) (r : Reply) → r ≡ reply a H call looks → MatchOption (made_by caller call r) ⊤ (Comes H r)
unfolding connect_reply
made_comes a H caller (Connect who) looks (Joined c p) h =
    let k = chosen _ _ _ _ _ _ c _ p h in
    (k.0, ap (Joined c) k.1, k.2)
made_comes a H caller call looks r h = tt

pub comes : (a : About) (H : List Entry) (e : Entry) (x : Connection) → Lawful a (moment H e) → connection_of e ≡ Some x → Comes H e.reply x
comes a H e x lawful same = subst (λ o. MatchOption o ⊤ (Comes H e.reply)) same (made_comes a H e.caller e.call e.looks e.reply lawful.replied)

-- numbers

range-push : (a n : ℕ) → range_with_len a n ++ (a + n) ∷ [] ≡ range_with_len a (n + 1)
range-push a zero = ap (λ (k : ℕ). k ∷ []) (add-zero a)
range-push a (suc n) =
    let e : suc n + 1 ≡ suc (n + 1) = omega arith in
    let d : a + suc n ≡ (a + 1) + n = omega arith in
    rw (e, d) (ap (λ (l : List ℕ). a ∷ l) (range-push (a + 1) n))

length-push : (J : List Connection) (x : Connection) → length (J ++ x ∷ []) ≡ length J + 1
length-push J x = length-append J (x ∷ [])

numbers_step : (J : List Connection) (o : Option Connection) → numbers J ≡ range_with_len 1 (length J) → ((x : Connection) → o ≡ Some x → x.number ≡ 1 + length J)
    → numbers (J ++ option_to_list o) ≡ range_with_len 1 (length (J ++ option_to_list o))
numbers_step J None h next = rw append-nil h
numbers_step J (Some x) h next =
    map-append (λ (c : Connection). c.number) J (x ∷ [])
    ∙ ap (λ (l : List ℕ). l ++ x.number ∷ []) h
    ∙ ap (λ (k : ℕ). range_with_len 1 (length J) ++ k ∷ []) (next x refl)
    ∙ range-push 1 (length J)
    ∙ ap (range_with_len 1) (sym (length-push J x))

fresh_step : (J : List Connection) (o : Option Connection) (c : ℕ) → ((x : Connection) → o ≡ Some x → x.number ≡ 1 + length J) → length (J ++ option_to_list o) < c → (is_number c o ≡ false)
    × (length J < c)
fresh_step J None c next h = (refl, rw append-nil at h)
fresh_step J (Some x) c next h =
    let long : length J + 1 < c = rw length-push at h in
    let n = next x refl in
    (ne_eqb x.number c (λ e. let bad : ⊥ = omega arith in bad), omega arith)

pub not_joined : (H : List Entry) (c : ℕ) → list_any (joins c) H ≡ false → ended H c ≡ None
unfolding ended
not_joined [] c h = refl
not_joined (x ∷ H) c h =
    let r = or_parts (joins c x) (list_any (joins c) H) h in
    rw r.0 (not_joined H c r.1)

-- ends

or_some : {A : Type 0} (o p : Option A) → is_none (option_or o p) ≡ true → is_none p ≡ true
or_some None p h = h
or_some (Some x) p h = cc

pub is_None : {A : Type 0} (o : Option A) → is_none o ≡ true → o ≡ None
is_None None h = refl
is_None (Some x) h = cc

replaced_ends : (c n k : ℕ) (e : Entry) → e.reply ≡ Joined n (Some k) → k ≡ c → is_none (end_by c e) ≡ true → ⊥
replaced_ends c n k e r same h =
    let g = subst (λ (x : Reply). is_none (end_by_reply c x) ≡ true) r (or_some (end_by_call c e.call) (end_by_reply c e.reply) h) in
    let t : eqb k c ≡ true = eq-eqb k c same in
    let b = rw t at g in
    let bad : ⊥ = cc in bad

pub device_clash : (H : List Entry) (e : Entry) (x y : Connection) → OneOfDevice H → Comes H e.reply y → In x (live H) → is_none (end_by x.number e) ≡ true → x.who.device ≡ y.who.device → ⊥
device_clash H e x y one new m stays same =
    let p = λ (c : Connection). same_device c.who.device y.who.device in
    let on : (o : Option Connection) → MatchOption o ((z : Connection) → In z (live H) → p z ≡ false) (λ z. In z (live H) × (p z ≡ true)) → e.reply ≡ Joined y.number (number_of o)
    → ⊥ = λ o. elim o as (λ o. MatchOption o ((z : Connection) → In z (live H) → p z ≡ false) (λ z. In z (live H) × (p z ≡ true)) → e.reply ≡ Joined y.number (number_of o) → ⊥) [
      | None ↦ λ f r. both_ways (p x) (f x m) (device_refl x.who.device y.who.device same)
      | Some c ↦ λ f r. (
          let it : c ≡ x = same_one (λ (z : Connection). z.who.device) c x (live H) one f.0 m (device_same c.who.device y.who.device f.1 ∙ sym same) in
          replaced_ends x.number y.number c.number e r (ap (λ (z : Connection). z.number) it) stays)
    ] in
    on (of_device H y.who.device) (find_says p (live H)) new.1

pub vmac_clash : (H : List Entry) (e : Entry) (x y : Connection) → OneHolder H → OneOfDevice H → Comes H e.reply y → In x (live H) → is_none (end_by x.number e) ≡ true → x.who.vmac ≡ y.who.vmac → ⊥
vmac_clash H e x y holders one new m stays same =
    let p = λ (c : Connection). same_vmac c.who.vmac y.who.vmac in
    let on : (o : Option Connection) → MatchOption o ((z : Connection) → In z (live H) → p z ≡ false) (λ z. In z (live H) × (p z ≡ true)) → rival y.who o ≡ None
    → ⊥ = λ o. elim o as (λ o. MatchOption o ((z : Connection) → In z (live H) → p z ≡ false) (λ z. In z (live H) × (p z ≡ true)) → rival y.who o ≡ None → ⊥) [
      | None ↦ λ f r. both_ways (p x) (f x m) (vmac_refl x.who.vmac y.who.vmac same)
      | Some c ↦ λ f r. (
          let it : c ≡ x = same_one (λ (z : Connection). z.who.vmac) c x (live H) holders f.0 m (vmac_same c.who.vmac y.who.vmac f.1 ∙ sym same) in
          device_clash H e x y one new m stays (sym (ap (λ (z : Connection). z.who.device) it) ∙ device_same c.who.device y.who.device (no_rival y.who c r)))
    ] in
    on (holder H y.who.vmac) (find_says p (live H)) new.2

-- every legal history

pub record Settled (H : List Entry) : Type 0 where
  pub numbered : NumbersInOrder H
  pub holders : OneHolder H
  pub devices : OneOfDevice H
  pub fresh : (c : ℕ) → length (joined H) < c → list_any (joins c) H ≡ false
  pub current : (x : Connection) → In x (live H) → ended H x.number ≡ None

settled_none : Settled []
unfolding joined_where
settled_none = record { numbered = refl; holders = tt; devices = tt; fresh = λ c h. refl; current = λ x m. absurd m }

cond_same : {A : Type 0} (b : Bool) (x : A) → cond b x x ≡ x
cond_same true x = refl
cond_same false x = refl

settled_more : (a : About) (G : List Entry) (e : Entry) → Legal a G → Settled G → Lawful a (moment G e) → Settled (G ++ e ∷ [])
settled_more a G e legal s lawful =
    let o = connection_of e in
    let K = λ (x : Connection). is_none (end_by x.number e) in
    let new : (x : Connection) → o ≡ Some x → Comes G e.reply x = λ x same. comes a G e x lawful same in
    let next : (x : Connection) → o ≡ Some x → x.number ≡ 1 + length (joined G) = λ x same. (new x same).0 in
    record {
      numbered = rw joined-more (numbers_step (joined G) o s.numbered next);
      holders = rw live-more (Apart-push (λ (c : Connection). c.who.vmac) (filter K (live G)) o (Apart-filter (λ (c : Connection). c.who.vmac) K (live G) s.holders)
          (λ x y m same agree. let r = In-filter K x (live G) m in vmac_clash G e x y s.holders s.devices (new y same) r.0 r.1 agree));
      devices = rw live-more (Apart-push (λ (c : Connection). c.who.device) (filter K (live G)) o (Apart-filter (λ (c : Connection). c.who.device) K (live G) s.devices)
          (λ x y m same agree. let r = In-filter K x (live G) m in device_clash G e x y s.devices (new y same) r.0 r.1 agree));
      fresh = λ c h. (
          let r = fresh_step (joined G) o c next (rw joined-more at h) in
          list_any-append (joins c) G (e ∷ []) ∙ ap (λ (b : Bool). b || (joins c e || false)) (s.fresh c r.1) ∙ ap (λ (b : Bool). b || false) r.0);
      current = λ x m. (
          let more = ended-more G e x.number in
          elim (In-append x (filter K (live G)) (option_to_list o) (subst (In x) (live-more G e) m)) [
            | inl n ↦ (
                let r = In-filter K x (live G) n in
                more ∙ ap (λ (w : Option End). option_or w (cond (list_any (joins x.number) G) (end_by x.number e) None)) (s.current x r.0)
                ∙ ap (λ (w : Option End). cond (list_any (joins x.number) G) w None) (is_None (end_by x.number e) r.1) ∙ cond_same (list_any (joins x.number) G) None)
            | inr n ↦ (
                let n = next x (In-option x o n) in
                let none = s.fresh x.number (omega arith) in
                more ∙ ap (λ (w : Option End). option_or w (cond (list_any (joins x.number) G) (end_by x.number e) None)) (not_joined G x.number none)
                ∙ ap (λ (b : Bool). cond b (end_by x.number e) None) none)
          ]);
    }

pub settled : (a : About) (H : List Entry) → Legal a H → Settled H
settled a H legal = along a Settled settled_none (settled_more a) H legal

pub none_after_end : (a : About) (H : List Entry) → Legal a H → NoneAfterEnd a H
unfolding added_by
none_after_end a H legal c ending e h =
    let s = settled a H legal in
    let by : (call : Call) → added_by a H (sent a H c) c call e.looks ≡ [] = λ call. elim call as (λ call. added_by a H (sent a H c) c call e.looks ≡ []) [
      | Connect who ↦ refl
      | Forward sender m ↦ (
          let o = out_of H sender m in
          let p = takes a o (sent a H c) e.looks c in
          let none : list_any p (meant H sender m) ≡ false = none_passes p (meant H sender m) (λ x mem. (
          let other : (x.number == c) ≡ false = ne_eqb x.number c (λ same. let g = s.current x (In-filter (means m sender) x (live H) mem).0 in
          let k = subst (λ n. ended H n ≡ None) same g in let bad : ⊥ = cc in bad) in
          and_left (x.number == c) (not (is_too_long o x || is_found_full a (sent a H c) e.looks c)) other)) in
          ap (λ (b : Bool). cond b (o ∷ []) []) (and_right (is_live H sender) (list_any p (meant H sender m)) none))
      | Leave conn taken empties ↦ refl
      | Stop ↦ refl
      | Count ↦ refl
    ] in
    sent-more a H e c ∙ ap (λ (l : List (List ℕ)). sent a H c ++ l) (by e.call) ∙ append-nil (sent a H c)
