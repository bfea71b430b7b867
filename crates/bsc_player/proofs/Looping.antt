-- What the loop over the lines of an input keeps, and how it ends.
-- It serves the clauses of `play_lines`.
use Rattle.std.proofs.Common.{◌≡◌, ℕ, ◌+◌, ◌≤◌, ◌<◌, ⊎_elim, Bool, true, false, List, [], ◌++◌, refl, ap, sym, ◌∙◌, subst, append-nil, arith, Option, Some, None, Err}
use Rattle.std.specs.Option.{option_map}
use Rattle.std.specs.Io.KnownBytes.{Appends, Keeps, IsAtEnd}
use Rattle.bsc_outside.specs.Faults.{PutsPrefix}
use Rattle.bsc_text.specs.declared.feed.Feed.{Feed}
use Rattle.bsc_text.specs.declared.feed.NextLine.TheVariants.{Line, Refused}
use Rattle.bsc_text.specs.Lines.{has_no_lf}
use Rattle.bsc_text.specs.Feeding.{unread, rest_of, Feeds, WantsMore, HasEnded}
use Rattle.bsc_player.specs.declared.language.LineFault.{LineFault}
use Rattle.bsc_player.specs.declared.language.LineFault.TheVariants.{Refused as LineRefused}
use Rattle.bsc_player.specs.declared.play_end.PlayEnd.{PlayEnd}
use Rattle.bsc_player.specs.declared.play_end.PlayEnd.TheVariants.{BadLine, WriteFault, NoMemory}
use Rattle.bsc_player.specs.Playing.{Meaning, Played, LineOutcome, played_of}
use Rattle.bsc_player.specs.Ends.{WritesWhole, WritesSome, PlaysOut}
use Rattle.bsc_player.specs.Languages.{LineStandsAs, StepsTo}
use Rattle.bsc_player.specs.Collecting.{HandsOver, StopsAs, end_of}
use Rattle.bsc_player.proofs.SoFar.{fits_after}
use Rattle.bsc_player.proofs.Reached.{Reached, begins, plays_line, hands_over, reads_on}
use Rattle.bsc_player.proofs.Feeding.{line_given, line_refused, big_refused}
use Rattle.bsc_player.proofs.Stopping.{breaks_off, runs_out, ends_refused, ends_as, ends_at_fault}

-- What the loop over the lines keeps.
pub record PlaysOn {S : Type 0} (means : Meaning S) (sb : S → Type 0) (left_before held_before left held : Option (List ℕ)) (feed : Feed) (number : ℕ) (stands : S → Type 0)
    (collected : List ℕ) : Type 0 where
  pub some : (s : S) × stands s
  pub counted : number ≤ feed.count + 1
  pub reached : (s0 : S) (o t : List ℕ) → sb s0 → left_before ≡ Some o → held_before ≡ Some t → Reached means s0 o t left held (unread feed) feed.ended feed.count number stands collected

-- at first
pub loop_begins : {S : Type 0} (means : Meaning S) (sb : S → Type 0) (left held : Option (List ℕ)) (feed : Feed) (collected : List ℕ) → ((s : S) × sb s) → unread feed ≡ []
    → feed.ended ≡ false → feed.count ≡ 0 → collected ≡ [] → PlaysOn means sb left held left held feed 1 sb collected
loop_begins means sb left held feed collected some none going zero empty = record {
  some = some;
  counted = omega arith;
  reached = λ s0 o t start left_is held_is. rw empty (begins means s0 o t left held (unread feed) feed.ended feed.count sb start left_is held_is none going zero);
}

stood_in : {S : Type 0} (stands : S → Type 0) (before after : List ℕ) (o : Option (LineOutcome S)) → LineStandsAs stands before after o → (st : LineOutcome S) × (o ≡ Some st)
    × stands st.state × (after ≡ before ++ st.text)
stood_in stands before after None h = absurd h
stood_in stands before after (Some st) h = (st, refl, h.0, h.1)

-- a line was given, and carried out
pub loop_plays : {S : Type 0} (means : Meaning S) (sb : S → Type 0) (lb hb left held : Option (List ℕ)) (feed new : Feed) (number : ℕ) (stands stands' : S → Type 0) (collected collected' l : List ℕ)
    → PlaysOn means sb lb hb left held feed number stands collected
    → Feeds feed new (Line l) → new.ended ≡ feed.ended → feed.count < new.count
    → ((s : S) × stands' s) → ((s : S) → stands s → LineStandsAs stands' collected collected' (means.step s l))
    → PlaysOn means sb lb hb left held new (number + 1) stands' collected'
loop_plays means sb lb hb left held feed new number stands stands' collected collected' l inv fed same on some played = record {
  some = some;
  counted = (let k = inv.counted in omega arith);
  reached = λ s0 o t start left_is held_is. (
      let r = inv.reached s0 o t start left_is held_is in
      let g = line_given feed new r.rest l r.at_end fed in
      let st = stood_in stands' collected collected' (means.step r.state l) (played r.state r.holds) in
      let after = fits_after means r.state feed.count g.piece g.fits ∙ ap (means.step r.state) (sym g.line) ∙ st.1 in
      plays_line means s0 o t left held (unread feed)
      (unread new) feed.ended new.ended feed.count new.count number stands stands' collected collected' g.piece st.0 r g.first g.lf after st.2 st.3 same g.counted);
}

-- some of the collected text was written
pub loop_hands_over : {S : Type 0} (means : Meaning S) (sb : S → Type 0) (lb hb left held held' : Option (List ℕ)) (feed : Feed) (number : ℕ) (stands : S → Type 0)
    (collected collected' : List ℕ) → PlaysOn means sb lb hb left held feed number stands collected → HandsOver held held' collected collected'
    → PlaysOn means sb lb hb left held' feed number stands collected'
loop_hands_over means sb lb hb left held held' feed number stands collected collected' inv over = record {
  some = inv.some;
  counted = inv.counted;
  reached = λ s0 o t start left_is held_is. hands_over means s0 o t left held held' (unread feed) feed.ended feed.count number stands collected collected'
      (inv.reached s0 o t start left_is held_is) over;
}

-- the feed looked for a line and found none, or tried a read
pub loop_reads : {S : Type 0} (means : Meaning S) (sb : S → Type 0) (lb hb left left' held : Option (List ℕ)) (feed new : Feed) (number : ℕ) (stands : S → Type 0) (collected : List ℕ)
    → PlaysOn means sb lb hb left held feed number stands collected
    → feed.ended ≡ false → Keeps (rest_of feed left) (rest_of new left') → (new.ended ≡ true → IsAtEnd left') → new.count ≡ feed.count
    → PlaysOn means sb lb hb left' held new number stands collected
loop_reads means sb lb hb left left' held feed new number stands collected inv going kept at_end same = record {
  some = inv.some;
  counted = (let k = inv.counted in omega arith);
  reached = λ s0 o t start left_is held_is. reads_on means s0 o t left left' held (unread feed) (unread new) feed.ended new.ended feed.count new.count number stands collected
      (inv.reached s0 o t start left_is held_is) going kept at_end same;
}

keeps_same : (left : Option (List ℕ)) (a b : List ℕ) → b ≡ a → Keeps (option_map (λ o. a ++ o) left) (option_map (λ o. b ++ o) left)
keeps_same None a b h = tt
keeps_same (Some x) a b h = ap (λ (w : List ℕ). w ++ x) h

pub loop_wants : {S : Type 0} (means : Meaning S) (sb : S → Type 0) (lb hb left held : Option (List ℕ)) (feed new : Feed) (number : ℕ) (stands : S → Type 0) (collected : List ℕ)
    → PlaysOn means sb lb hb left held feed number stands collected → WantsMore feed new → new.ended ≡ feed.ended
    → PlaysOn means sb lb hb left held new number stands collected
loop_wants means sb lb hb left held feed new number stands collected inv wants same =
    let going : new.ended ≡ false = wants.used_up.1 in
    loop_reads means sb lb hb left left held feed new number stands collected inv (sym same ∙ going) (keeps_same left (unread feed) (unread new) wants.unread_same) (λ h. absurd cc) wants.count

-- all of the collected text was written, and a read was tried
pub loop_fills : {S : Type 0} (means : Meaning S) (sb : S → Type 0) (lb hb left left' held held' : Option (List ℕ)) (feed new filled : Feed) (number : ℕ) (stands : S → Type 0)
    (collected collected' : List ℕ)
    → PlaysOn means sb lb hb left held feed number stands collected → WantsMore feed new → new.ended ≡ feed.ended
    → Appends held held' collected → collected' ≡ []
    → Keeps (rest_of new left) (rest_of filled left') → (filled.ended ≡ true → IsAtEnd left') → filled.count ≡ new.count
    → PlaysOn means sb lb hb left' held' filled number stands collected'
loop_fills means sb lb hb left left' held held' feed new filled number stands collected collected' inv wants same put empty kept at_end count =
    let over : HandsOver held held' collected collected' = record { part = collected; put = put; kept = sym (append-nil collected) ∙ ap (λ (x : List ℕ). collected ++ x) (sym empty) } in
    let wanted = loop_wants means sb lb hb left held feed new number stands collected inv wants same in
    loop_reads means sb lb hb left left' held' new filled number stands collected'
    (loop_hands_over means sb lb hb left held held' new number stands collected collected' wanted over) wants.used_up.1 kept at_end count

-- How a play stopped, over what it had reached.
stops_as : (p : List ℕ → Played) (result end : PlayEnd) (o t : List ℕ) (left held held' : Option (List ℕ)) (collected : List ℕ) → StopsAs result end held held' collected
    → (Appends held held' collected → PlaysOut p end o t left held') → (PutsPrefix held held' collected → WritesSome p o t left held') → PlaysOut p result o t left held'
stops_as p result end o t left held held' collected stopped all some = ⊎_elim
    (λ (h : (result ≡ end) × Appends held held' collected). subst (λ (e : PlayEnd). PlaysOut p e o t left held') (sym h.0) (all h.1))
    (λ (h : (result ≡ WriteFault) × PutsPrefix held held' collected). subst (λ (e : PlayEnd). PlaysOut p e o t left held') (sym h.0) (some h.1))
    stopped

-- the line that was given is refused
pub loop_refuses : {S : Type 0} (means : Meaning S) (sb : S → Type 0) (lb hb left held held' : Option (List ℕ)) (feed new : Feed) (number : ℕ) (stands stands' : S → Type 0)
    (collected text l : List ℕ) (result : PlayEnd) (fault : LineFault)
    → PlaysOn means sb lb hb left held feed number stands collected
    → Feeds feed new (Line l) → fault ≡ LineRefused
    → ((s : S) → stands s → StepsTo stands' (Err fault) collected text (means.step s l)) → text ≡ collected
    → StopsAs result (BadLine number) held held' text
    → (s0 : S) (o t : List ℕ) → sb s0 → lb ≡ Some o → hb ≡ Some t → PlaysOut (played_of means s0) result o t left held'
loop_refuses means sb lb hb left held held' feed new number stands stands' collected text l result fault inv fed is played kept stopped s0 o t start left_is held_is =
    let r = inv.reached s0 o t start left_is held_is in
    let g = line_given feed new r.rest l r.at_end fed in
    let none = rw is at (played r.state r.holds) in
    let f = line_refused means feed new r.rest l r.state g none in
    stops_as (played_of means s0) result (BadLine number) o t left held held' collected (rw kept at stopped)
    (λ put. ends_refused means s0 o t left held held' (unread feed) feed.ended feed.count number stands collected r f.0 f.1 put)
    (λ part. breaks_off means s0 o t left held held' (unread feed) feed.ended feed.count number stands collected r part)

-- the next line is too big
pub loop_refuses_big : {S : Type 0} (means : Meaning S) (sb : S → Type 0) (lb hb left held held' : Option (List ℕ)) (feed new : Feed) (number : ℕ) (stands : S → Type 0) (collected : List ℕ)
    (result : PlayEnd)
    → PlaysOn means sb lb hb left held feed number stands collected
    → Feeds feed new Refused
    → StopsAs result (BadLine number) held held' collected
    → (s0 : S) (o t : List ℕ) → sb s0 → lb ≡ Some o → hb ≡ Some t → PlaysOut (played_of means s0) result o t left held'
loop_refuses_big means sb lb hb left held held' feed new number stands collected result inv fed stopped s0 o t start left_is held_is =
    let r = inv.reached s0 o t start left_is held_is in
    let f = big_refused means feed new r.rest r.state r.at_end fed in
    stops_as (played_of means s0) result (BadLine number) o t left held held' collected stopped
    (λ put. ends_refused means s0 o t left held held' (unread feed) feed.ended feed.count number stands collected r f.0 f.1 put)
    (λ part. breaks_off means s0 o t left held held' (unread feed) feed.ended feed.count number stands collected r part)

-- memory ran out
pub loop_runs_out : {S : Type 0} (means : Meaning S) (sb : S → Type 0) (lb hb left held held' : Option (List ℕ)) (feed : Feed) (number : ℕ) (stands : S → Type 0) (collected text : List ℕ)
    (result : PlayEnd)
    → PlaysOn means sb lb hb left held feed number stands collected → text ≡ collected
    → StopsAs result NoMemory held held' text
    → (s0 : S) (o t : List ℕ) → sb s0 → lb ≡ Some o → hb ≡ Some t → PlaysOut (played_of means s0) result o t left held'
loop_runs_out means sb lb hb left held held' feed number stands collected text result inv kept stopped s0 o t start left_is held_is =
    let r = inv.reached s0 o t start left_is held_is in
    stops_as (played_of means s0) result NoMemory o t left held held' collected (rw kept at stopped)
    (λ put. runs_out means s0 o t left held held' (unread feed) feed.ended feed.count number stands collected r put)
    (λ part. breaks_off means s0 o t left held held' (unread feed) feed.ended feed.count number stands collected r part)

-- a write failed
pub loop_breaks_off : {S : Type 0} (means : Meaning S) (sb : S → Type 0) (lb hb left held held' : Option (List ℕ)) (feed : Feed) (number : ℕ) (stands : S → Type 0) (collected : List ℕ)
    → PlaysOn means sb lb hb left held feed number stands collected → PutsPrefix held held' collected
    → (s0 : S) (o t : List ℕ) → sb s0 → lb ≡ Some o → hb ≡ Some t → WritesSome (played_of means s0) o t left held'
loop_breaks_off means sb lb hb left held held' feed number stands collected inv part s0 o t start left_is held_is =
    breaks_off means s0 o t left held held' (unread feed) feed.ended feed.count number stands collected (inv.reached s0 o t start left_is held_is) part

-- a read failed
pub loop_faults : {S : Type 0} (means : Meaning S) (sb : S → Type 0) (lb hb left held : Option (List ℕ)) (feed : Feed) (number : ℕ) (stands : S → Type 0) (collected : List ℕ)
    → PlaysOn means sb lb hb left held feed number stands collected → collected ≡ [] → feed.ended ≡ false → has_no_lf (unread feed) ≡ true
    → (s0 : S) (o t : List ℕ) → sb s0 → lb ≡ Some o → hb ≡ Some t → WritesWhole (played_of means s0) o t left held
loop_faults means sb lb hb left held feed number stands collected inv empty going no_lf s0 o t start left_is held_is =
    ends_at_fault means s0 o t left held (unread feed) feed.ended feed.count number stands (rw empty at (inv.reached s0 o t start left_is held_is)) going no_lf

-- the input ended
pub loop_ends : {S : Type 0} (means : Meaning S) (sb : S → Type 0) (lb hb left held held' : Option (List ℕ)) (feed new : Feed) (number : ℕ) (stands : S → Type 0) (collected : List ℕ)
    (result end : PlayEnd) (b : Bool)
    → PlaysOn means sb lb hb left held feed number stands collected
    → HasEnded feed new → new.ended ≡ feed.ended → ((s : S) → stands s → b ≡ means.may_end s) → end ≡ end_of b number
    → StopsAs result end held held' collected
    → (s0 : S) (o t : List ℕ) → sb s0 → lb ≡ Some o → hb ≡ Some t → PlaysOut (played_of means s0) result o t left held'
loop_ends means sb lb hb left held held' feed new number stands collected result end b inv ended same may is stopped s0 o t start left_is held_is =
    let r = inv.reached s0 o t start left_is held_is in
    stops_as (played_of means s0) result (end_of b number) o t left held held' collected (rw is at stopped)
    (λ put. ends_as means s0 o t left held held' (unread feed) feed.ended feed.count number stands collected b may r ended.none_before (sym same ∙ ended.ended) put)
    (λ part. breaks_off means s0 o t left held held' (unread feed) feed.ended feed.count number stands collected r part)
