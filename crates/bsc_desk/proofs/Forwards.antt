-- Forwards, of a unicast or of a broadcast.
-- It serves clauses of functions of `desk` and `rows`.
use Rattle.std.proofs.Common.{◌≡◌, ℕ, ◌+◌, ◌<◌, ◌^◌, nat_lt, Bool, true, false, not, ◌&&◌, ◌||◌, cond, List, [], ◌∷◌, ◌++◌, length, map, filter, Option, Some, None, is_none}
use Rattle.std.proofs.Common.{is_some, refl, ap, sym, ◌∙◌, arith}
use Rattle.std.specs.List.{flat_map, list_all}
use Rattle.std.proofs.lemmas.Bool.{and_from, lt-ltb}
use Rattle.std.proofs.lemmas.List.{map-append}
use Rattle.bsc_octets.specs.Forwarding.{destination, has_route, is_broadcast, out}
use Rattle.bsc_history.specs.declared.limits.About.{About}
use Rattle.bsc_history.specs.declared.connection.Connection.{Connection}
use Rattle.bsc_history.specs.declared.ending.End.{End}
use Rattle.bsc_history.specs.declared.entry.Entry.{Entry}
use Rattle.bsc_history.specs.declared.looks.Look.{Look}
use Rattle.bsc_history.specs.declared.mark.Stamped.{Stamped}
use Rattle.bsc_history.specs.declared.reply.Reply.{Reply}
use Rattle.bsc_history.specs.declared.reply.Reply.TheVariants.{Stopped}
use Rattle.bsc_history.specs.Counting.{counts_of, plus}
use Rattle.bsc_history.specs.Entries.{moment}
use Rattle.bsc_history.specs.Ends.{end_by, ended}
use Rattle.bsc_history.specs.Holders.{holder}
use Rattle.bsc_history.specs.Legality.{can_find, is_of, Lawful}
use Rattle.bsc_history.specs.Laws.{names}
use Rattle.bsc_history.specs.Marks.{entries}
use Rattle.bsc_history.specs.Outboxes.{is_too_long, meant, means, out_of}
use Rattle.bsc_history.specs.Replies.{broadcast_reply, forward_reply, is_stopped, numbers, unicast_reply, unless_ended}
use Rattle.bsc_history.proofs.Gains.{sent_short}
use Rattle.bsc_history.proofs.Named.{adds_as_named}
use Rattle.bsc_ring.specs.Ends.{pushed}
use Rattle.bsc_desk.specs.declared.desk.Desk.{Desk}
use Rattle.bsc_desk.specs.declared.fate.Fate.{Fate}
use Rattle.bsc_desk.specs.declared.fate.Fate.TheVariants.{Unmeant, TooLong, Entered, FoundFull}
use Rattle.bsc_desk.specs.declared.row.Row.{Row}
use Rattle.bsc_desk.specs.Entries.{forward_entry, plain, unserved}
use Rattle.bsc_desk.specs.Fates.{AllBefall, Befalls, FewPushed, looks_in, looks_of}
use Rattle.bsc_desk.specs.Frames.{Frame}
use Rattle.bsc_desk.specs.Live.{connection, is_open, number}
use Rattle.bsc_desk.specs.Rows.{IsRowOf, IsUnserved, end_of}
use Rattle.bsc_desk.specs.Standing.{DeskStands, IsInletOf}
use Rattle.bsc_desk.proofs.Fared.{AllFates, Told, each_fate, goes, more_said}
use Rattle.bsc_desk.proofs.LiveRows.{address_of_row, by_of, live_rows, owns, stopped_so}
use Rattle.bsc_desk.proofs.Orders.{all-weaker}
use Rattle.bsc_desk.proofs.Standings.{IsKept, RowGoes, kept, stands_on, stands_same}
use Rattle.bsc_history.proofs.Common.{length_entries}

-- the sender of a frame, by the rows and by the history
pub record Sends (d : Desk) (S : List Stamped) (caller conn : ℕ) (f : Frame) : Type 0 where
  pub mine : is_of (entries S) caller conn ≡ true
  pub ends : end_of d conn ≡ ended (entries S) conn
  pub passes : out_of (entries S) conn f.message ≡ out f.message f.sender

pub sends : (d : Desk) (S : List Stamped) (caller conn : ℕ) (f : Frame) → DeskStands d S → IsRowOf d caller conn f.sender → Sends d S caller conn f
sends d S caller conn f p is =
    let own = owns d S caller conn p (by_of d caller conn f.sender is) in
    record {
      mine = own.mine;
      ends = own.ends;
      passes = ap (out f.message) (address_of_row d S caller conn f.sender p is);
    }

may : (d : Desk) (S : List Stamped) (caller conn : ℕ) (f : Frame) → DeskStands d S → IsRowOf d caller conn f.sender → has_route f.message ≡ true → d.tally.made < d.about.limits.calls
    → (is_of (entries S) caller conn && has_route f.message && nat_lt (length (entries S)) d.about.limits.calls) ≡ true
may d S caller conn f p is route calls =
    and_from (is_of (entries S) caller conn && has_route f.message) _ (and_from (is_of (entries S) caller conn) (has_route f.message) (sends d S caller conn f p is).mine route)
    (ap (λ (n : ℕ). nat_lt n d.about.limits.calls) (length_entries S ∙ sym p.entered) ∙ lt-ltb d.tally.made d.about.limits.calls calls)

-- the hub goes on, and the sender is live
pub serves : (d : Desk) (S : List Stamped) (caller conn : ℕ) (f : Frame) → DeskStands d S → IsRowOf d caller conn f.sender → d.stopped_at ≡ None → end_of d conn ≡ None
    → (is_stopped (entries S) ≡ false) × (ended (entries S) conn ≡ None)
serves d S caller conn f p is on current = (sym (stopped_so d S p) ∙ ap is_some on, sym (sends d S caller conn f p is).ends ∙ current)

-- the reply to a live sender's frame, whose octets are passed on as o
abbrev pub served : About → List Entry → ℕ → List ℕ → List ℕ → List Look → Reply
served a H conn m o looks = cond (is_broadcast m) (broadcast_reply a H o looks (meant H conn m)) (unicast_reply a H m o looks (holder H (destination m)))

pub lawful_served : (d : Desk) (S : List Stamped) (caller conn : ℕ) (f : Frame) (looks : List Look) (reply : Reply) → DeskStands d S → IsRowOf d caller conn f.sender
    → has_route f.message ≡ true → d.tally.made < d.about.limits.calls → d.stopped_at ≡ None → end_of d conn ≡ None
    → reply ≡ served d.about (entries S) conn f.message (out f.message f.sender) looks
    → map (λ k. k.conn) looks ≡ numbers (filter (λ c. not (is_too_long (out f.message f.sender) c)) (meant (entries S) conn f.message))
    → list_all (λ k. can_find d.about (entries S) k.conn k.taken) looks ≡ true → Lawful d.about (moment (entries S) (forward_entry caller conn f.message looks reply))
unfolding forward_reply
lawful_served d S caller conn f looks reply p is route calls on current says names_so can =
    let a = d.about in
    let H = entries S in
    let m = f.message in
    let o = out m f.sender in
    let two = serves d S caller conn f p is on current in
    let passes = (sends d S caller conn f p is).passes in
    let reply_by = λ (b : Bool) (w : Option End) (x : List ℕ). cond b Stopped (unless_ended w (served a H conn m x looks)) in
    let names_by = λ (b : Bool) (w : Option End) (x : List ℕ). cond (b || not (is_none w)) [] (numbers (filter (λ c. not (is_too_long x c)) (meant H conn m))) in
    record {
      replied = says ∙ ap (λ (b : Bool). reply_by b None o) (sym two.0) ∙ ap (λ (w : Option End). reply_by (is_stopped H) w o) (sym two.1)
          ∙ ap (λ (x : List ℕ). reply_by (is_stopped H) (ended H conn) x) (sym passes);
      named = names_so ∙ ap (λ (b : Bool). names_by b None o) (sym two.0) ∙ ap (λ (w : Option End). names_by (is_stopped H) w o) (sym two.1)
          ∙ ap (λ (x : List ℕ). names_by (is_stopped H) (ended H conn) x) (sym passes);
      found = can;
      called = may d S caller conn f p is route calls;
    }

-- A frame that goes nowhere, as the hub has stopped or its sender has ended.
pub lawful_unserved : (d : Desk) (S : List Stamped) (caller conn : ℕ) (f : Frame) (w : Option End) → DeskStands d S → IsRowOf d caller conn f.sender → has_route f.message ≡ true
    → d.tally.made < d.about.limits.calls → IsUnserved d conn w → Lawful d.about (moment (entries S) (forward_entry caller conn f.message [] (unserved w)))
unfolding forward_reply
lawful_unserved d S caller conn f None p is route calls idle =
    let H = entries S in
    let m = f.message in
    let stop : is_stopped H ≡ true = sym (stopped_so d S p) ∙ idle in
    record {
      replied = sym (ap (λ (b : Bool). cond b Stopped (unless_ended (ended H conn) (served d.about H conn m (out_of H conn m) []))) stop);
      named = sym (ap (λ (b : Bool). cond (b || not (is_none (ended H conn))) [] (numbers (filter (λ c. not (is_too_long (out_of H conn m) c)) (meant H conn m)))) stop);
      found = refl;
      called = may d S caller conn f p is route calls;
    }
lawful_unserved d S caller conn f (Some ending) p is route calls idle =
    let H = entries S in
    let m = f.message in
    let stop : is_stopped H ≡ false = sym (stopped_so d S p) ∙ ap is_some idle.0 in
    let ends : ended H conn ≡ Some ending = sym (sends d S caller conn f p is).ends ∙ idle.1 in
    let reply_by = λ (b : Bool) (w : Option End). cond b Stopped (unless_ended w (served d.about H conn m (out_of H conn m) [])) in
    let names_by = λ (b : Bool) (w : Option End). cond (b || not (is_none w)) [] (numbers (filter (λ c. not (is_too_long (out_of H conn m) c)) (meant H conn m))) in
    record {
      replied = sym (ap (λ (b : Bool). reply_by b (ended H conn)) stop ∙ ap (λ (w : Option End). reply_by false w) ends);
      named = sym (ap (λ (b : Bool). names_by b (ended H conn)) stop ∙ ap (λ (w : Option End). names_by false w) ends);
      found = refl;
      called = may d S caller conn f p is route calls;
    }

none_named : (w : Option End) (c : ℕ) → names c (unserved w) ≡ false
none_named None c = refl
none_named (Some e) c = refl

pub stands_unserved : (d n : Desk) (S : List Stamped) (caller conn : ℕ) (f : Frame) (w : Option End) → DeskStands d S → IsRowOf d caller conn f.sender → has_route f.message ≡ true
    → d.tally.made < d.about.limits.calls → IsUnserved d conn w → n.about ≡ d.about → n.stopped_at ≡ d.stopped_at → n.tally.made ≡ d.tally.made + 1
    → n.tally.counts ≡ plus d.tally.counts (counts_of (forward_entry caller conn f.message [] (unserved w))) → n.rows.items ≡ d.rows.items
    → DeskStands n (S ++ plain (forward_entry caller conn f.message [] (unserved w)) ∷ [])
stands_unserved d n S caller conn f w p is route calls idle about stop made count rows =
    let H = entries S in
    let e = forward_entry caller conn f.message [] (unserved w) in
    let lawful = lawful_unserved d S caller conn f w p is route calls idle in
    stands_same d n S (plain e) p lawful (record { goes_on = refl; stays = λ c. refl; joins_none = refl }) (record {
      ends_none = λ c. ends_nobody w c;
      looks_none = refl;
      adds_nothing = λ c. adds_as_named d.about H p.legal e conn f.message c lawful refl ∙ ap (λ (b : Bool). cond b (out_of H conn f.message ∷ []) []) (none_named w c);
    }) about stop made count rows
  where
    ends_nobody : (w : Option End) (c : ℕ) → end_by c (forward_entry caller conn f.message [] (unserved w)) ≡ None
    ends_nobody None c = refl
    ends_nobody (Some e) c = refl

-- A frame that went through the rows makes its one entry.
pub stands_sent : (d n : Desk) (S : List Stamped) (caller conn : ℕ) (f : Frame) (looks : List Look) (reply : Reply) (t : Row → Bool) (full : Option End) (fates : List Fate) → DeskStands d S
    → IsRowOf d caller conn f.sender → Lawful d.about (moment (entries S) (forward_entry caller conn f.message looks reply)) → ((r : Row) → t r ≡ true → is_open r ≡ true)
    → AllBefall t full (out f.message f.sender) d.rows.items fates n.rows.items → AllFates (λ r x. Told full reply looks (number r) x) d.rows.items fates → n.about ≡ d.about
    → n.stopped_at ≡ d.stopped_at → n.tally.made ≡ d.tally.made + 1 → n.tally.counts ≡ plus d.tally.counts (counts_of (forward_entry caller conn f.message looks reply))
    → DeskStands n (S ++ plain (forward_entry caller conn f.message looks reply) ∷ [])
stands_sent d n S caller conn f looks reply t full fates p is lawful opens all told about stop made count =
    let a = d.about in
    let H = entries S in
    let o = out f.message f.sender in
    let e = forward_entry caller conn f.message looks reply in
    let passes = (sends d S caller conn f p is).passes in
    let adds = λ (c : ℕ). adds_as_named a H p.legal e conn f.message c lawful refl ∙ ap (λ (x : List ℕ). cond (names c reply) (x ∷ []) []) passes in
    let each = each_fate t full o (RowGoes a H e) (λ r x. Told full reply looks (number r) x) (IsKept a S) d.rows.items fates n.rows.items
    (λ r x s k says h. goes a S caller conn f.message looks reply t full o opens r x s (adds (number r)) says h) (kept d S p) told all in
    stands_on d n S (plain e) p lawful (record { goes_on = refl; stays = λ c. refl; joins_none = refl }) about stop made count each

-- the connections that a frame means, of those that pass a test

abbrev pub picked : (Connection → Bool) → (Connection → Bool) → List Row → List ℕ
picked q p rows = numbers (filter p (filter q (map connection (filter is_open rows))))

picked-cons : (q p : Connection → Bool) (r : Row) (rows : List Row) → picked q p (r ∷ rows) ≡ cond ((is_open r && q (connection r)) && p (connection r)) (number r ∷ picked q p rows) (picked q p rows)
picked-cons q p r rows =
    let c = connection r in
    let O = filter is_open rows in
    let Q = filter q (map connection O) in
    let P = filter p Q in
    elim (is_open r) as (λ b. numbers (filter p (filter q (map connection (cond b (r ∷ O) O)))) ≡ cond ((b && q c) && p c) (number r ∷ numbers P) (numbers P)) [
      | true ↦ elim (q c) as (λ b. numbers (filter p (cond b (c ∷ Q) Q)) ≡ cond (b && p c) (number r ∷ numbers P) (numbers P)) [
        | true ↦ elim (p c) as (λ b. numbers (cond b (c ∷ P) P) ≡ cond b (number r ∷ numbers P) (numbers P)) [ true ↦ refl | false ↦ refl ]
        | false ↦ refl
      ]
      | false ↦ refl
    ]

-- what fates add to a list is what a test picks, where it is so row by row
pub picks : (q p : Connection → Bool) (f : Fate → List ℕ) (rows : List Row) (fates : List Fate)
    → AllFates (λ r x. f x ≡ cond ((is_open r && q (connection r)) && p (connection r)) (number r ∷ []) []) rows fates → flat_map f fates ≡ picked q p rows
picks q p f [] [] all = refl
picks q p f (r ∷ rows) (x ∷ fates) all =
    let rest = picks q p f rows fates all.1 in
    ap (λ (l : List ℕ). l ++ flat_map f fates) all.0
    ∙ elim ((is_open r && q (connection r)) && p (connection r)) as (λ b. cond b (number r ∷ []) [] ++ flat_map f fates
    ≡ cond b (number r ∷ picked q p rows) (picked q p rows)) [ true ↦ ap (λ (l : List ℕ). number r ∷ l) rest | false ↦ rest ]
    ∙ sym (picked-cons q p r rows)
picks q p f rows fates all = absurd all

pub conns_of : (fates : List Fate) → map (λ k. k.conn) (looks_of fates) ≡ flat_map (λ x. map (λ (k : Look). k.conn) (looks_in x)) fates
conns_of [] = refl
conns_of (x ∷ fates) = map-append (λ (k : Look). k.conn) (looks_in x) (looks_of fates) ∙ ap (λ (l : List ℕ). map (λ (k : Look). k.conn) (looks_in x) ++ l) (conns_of fates)

-- the looks are at those that the frame means and isn't too long for
look_one : (q : Connection → Bool) (full : Option End) (o : List ℕ) (r : Row) (x : Fate) (s : Row) → Befalls (λ r. is_open r && q (connection r)) full o r x s
    → map (λ (k : Look). k.conn) (looks_in x) ≡ cond ((is_open r && q (connection r)) && not (is_too_long o (connection r))) (number r ∷ []) []
look_one q full o r Unmeant s h = sym (ap (λ (b : Bool). cond (b && not (is_too_long o (connection r))) (number r ∷ []) []) h.0)
look_one q full o r (TooLong c) s h = sym (ap (λ (b : Bool). cond (b && not (is_too_long o (connection r))) (number r ∷ []) []) h.0 ∙ ap (λ (b : Bool). cond (not b) (number r ∷ []) []) h.1.0)
look_one q full o r (Entered k) s h = ap (λ (n : ℕ). n ∷ []) h.1.0.conn
    ∙ sym (ap (λ (b : Bool). cond (b && not (is_too_long o (connection r))) (number r ∷ []) []) h.0 ∙ ap (λ (b : Bool). cond (not b) (number r ∷ []) []) h.1.0.fits)
look_one q full o r (FoundFull k) s h = ap (λ (n : ℕ). n ∷ []) h.1.0.conn
    ∙ sym (ap (λ (b : Bool). cond (b && not (is_too_long o (connection r))) (number r ∷ []) []) h.0 ∙ ap (λ (b : Bool). cond (not b) (number r ∷ []) []) h.1.0.fits)

no_facts : (rows : List Row) (fates : List Fate) (after : List Row) (t : Row → Bool) (full : Option End) (o : List ℕ) → AllBefall t full o rows fates after → AllFates (λ r x. true ≡ true) rows fates
no_facts [] [] [] t full o h = tt
no_facts (r ∷ rows) (x ∷ fates) (s ∷ after) t full o h = (refl, no_facts rows fates after t full o h.1)
no_facts rows fates after t full o h = absurd h

pub looks_named : (d : Desk) (S : List Stamped) (conn : ℕ) (m o : List ℕ) (full : Option End) (fates : List Fate) (after : List Row) → DeskStands d S
    → AllBefall (λ r. is_open r && means m conn (connection r)) full o d.rows.items fates after
    → map (λ k. k.conn) (looks_of fates) ≡ numbers (filter (λ c. not (is_too_long o c)) (meant (entries S) conn m))
looks_named d S conn m o full fates after p h =
    let q = means m conn in
    let t = λ (r : Row). is_open r && q (connection r) in
    let f = λ (x : Fate). map (λ (k : Look). k.conn) (looks_in x) in
    let U = λ (r : Row) (x : Fate). f x ≡ cond (t r && not (is_too_long o (connection r))) (number r ∷ []) [] in
    conns_of fates
    ∙ picks q (λ c. not (is_too_long o c)) f d.rows.items fates (more_said t full o (IsKept d.about S) (λ r x. true ≡ true) U d.rows.items fates after
    (λ r x s k y z. look_one q full o r x s z) (kept d S p) (no_facts d.rows.items fates after t full o h) h)
    ∙ ap (λ (l : List Connection). numbers (filter (λ c. not (is_too_long o c)) (filter q l))) (sym (live_rows d S p))

-- a push more is possible at each ring
pub few_pushed : (d : Desk) (S : List Stamped) → DeskStands d S → FewPushed d.rows.items
few_pushed d S p = all-weaker (λ r. IsInletOf d.about S r.connection.number r.inlet) (λ r. length (pushed r.inlet) < 2 ^ 63) d.rows.items (λ r i.
    let short = sent_short d.about (entries S) r.connection.number in
    let same = ap length i.items in
    let len = length_entries S in
    let made = p.entered in
    let few = d.few_calls in
    let rows = d.in_range.few_rows in
    let calls = d.in_range.few_calls in
    omega arith) p.inlets
