-- What the loop over the lines of an input keeps of what the reads gave, whatever is left behind it.
-- It serves the clauses of `play_lines`.
use Rattle.std.proofs.Common.{arith, ◌≡◌, ℕ, ◌||◌, Bool, false, List, [], ◌∷◌, ◌++◌, refl, ap, sym, ◌∙◌, subst, append_assoc, append-nil, Option, Some}
use Rattle.std.proofs.lemmas.List.Folds.{concat-append}
use Rattle.std.specs.List.{concat}
use Rattle.std.specs.Io.KnownBytes.{Appends}
use Rattle.bsc_text.specs.declared.feed.Feed.{Feed}
use Rattle.bsc_text.specs.Feeding.{unread, WantsMore, Takes}
use Rattle.bsc_text.specs.Gave.{Gave, has_end, MayFollow, OfReads}
use Rattle.bsc_text.proofs.Taking.{gave_nothing, gave_more, has_end-append}
use Rattle.bsc_player.specs.declared.play_end.PlayEnd.{PlayEnd}
use Rattle.bsc_player.specs.declared.play_end.PlayEnd.TheVariants.{NoMemory}
use Rattle.bsc_player.specs.Playing.{Meaning, played_of}
use Rattle.bsc_player.specs.Ends.{PlaysOut}
use Rattle.bsc_player.specs.Collecting.{HandsOver}
use Rattle.bsc_player.proofs.Looping.{PlaysOn, loop_begins, loop_hands_over, loop_reads, loop_wants}

-- What the loop keeps where the reads are told: of what they gave and whatever is left, it keeps the same.
pub record ReadsOn {S : Type 0} (means : Meaning S) (sb : S → Type 0) (reads_before reads : Option (List (List ℕ))) (hb held : Option (List ℕ)) (feed : Feed) (number : ℕ)
    (stands : S → Type 0) (collected : List ℕ) : Type 0 where
  pub gave : List (List ℕ)
  pub told : Gave reads_before reads gave
  pub ended : feed.ended ≡ has_end gave
  pub on : (rest : List ℕ) → MayFollow gave rest → PlaysOn means sb (Some (concat gave ++ rest)) hb (Some rest) held feed number stands collected

-- at first
pub reading_begins : {S : Type 0} (means : Meaning S) (sb : S → Type 0) (reads : Option (List (List ℕ))) (held : Option (List ℕ)) (feed : Feed) (collected : List ℕ) → ((s : S) × sb s)
    → unread feed ≡ [] → feed.ended ≡ false → feed.count ≡ 0 → collected ≡ [] → ReadsOn means sb reads reads held held feed 1 sb collected
reading_begins means sb reads held feed collected some none going zero empty = record {
  gave = [];
  told = gave_nothing reads;
  ended = going;
  on = λ rest may. loop_begins means sb (Some rest) held feed collected some none going zero empty;
}

-- no read was tried
pub reading_keeps : {S : Type 0} (means : Meaning S) (sb : S → Type 0) (rb reads : Option (List (List ℕ))) (hb held held' : Option (List ℕ)) (feed new : Feed) (number number' : ℕ)
    (stands stands' : S → Type 0) (collected collected' : List ℕ)
    → ReadsOn means sb rb reads hb held feed number stands collected → new.ended ≡ feed.ended
    → ((lb left : Option (List ℕ)) → PlaysOn means sb lb hb left held feed number stands collected → PlaysOn means sb lb hb left held' new number' stands' collected')
    → ReadsOn means sb rb reads hb held' new number' stands' collected'
reading_keeps means sb rb reads hb held held' feed new number number' stands stands' collected collected' inv same on = record {
  gave = inv.gave;
  told = inv.told;
  ended = same ∙ inv.ended;
  on = λ rest may. on (Some (concat inv.gave ++ rest)) (Some rest) (inv.on rest may);
}

-- a read was tried, which gave these
reading_more : {S : Type 0} (means : Meaning S) (sb : S → Type 0) (rb reads reads' : Option (List (List ℕ))) (hb held : Option (List ℕ)) (feed new : Feed) (number : ℕ) (stands : S → Type 0)
    (collected : List ℕ) (more : List (List ℕ))
    → ReadsOn means sb rb reads hb held feed number stands collected
    → feed.ended ≡ false → Gave reads reads' more → unread new ≡ unread feed ++ concat more → new.ended ≡ has_end more → new.count ≡ feed.count
    → ReadsOn means sb rb reads' hb held new number stands collected
reading_more means sb rb reads reads' hb held feed new number stands collected more inv going gave grown ended count =
    let none : has_end inv.gave ≡ false = sym inv.ended ∙ going in
    let over : new.ended ≡ has_end (inv.gave ++ more) = ended ∙ sym (has_end-append inv.gave more ∙ ap (λ (b : Bool). b || has_end more) none) in
    record {
      gave = inv.gave ++ more;
      told = gave_more rb reads reads' inv.gave more inv.told gave;
      ended = over;
      on = λ rest may. (
          let whole : concat (inv.gave ++ more) ++ rest ≡ concat inv.gave ++ (concat more ++ rest) = ap (λ (x : List ℕ). x ++ rest) (concat-append inv.gave more)
          ∙ append_assoc (concat inv.gave) (concat more) rest in
          let before = inv.on (concat more ++ rest) (λ h. absurd cc) in
          let kept : unread new ++ rest ≡ unread feed ++ (concat more ++ rest) = ap (λ (x : List ℕ). x ++ rest) grown ∙ append_assoc (unread feed) (concat more) rest in
          subst (λ (x : List ℕ). PlaysOn means sb (Some x) hb (Some rest) held new number stands collected) (sym whole)
          (loop_reads means sb (Some (concat inv.gave ++ (concat more ++ rest))) hb (Some (concat more ++ rest)) (Some rest) held feed new number stands collected before going kept
          (λ h. may (sym over ∙ h)) count));
    }

-- all of the collected text was written, and the feed wants more
reading_wants : {S : Type 0} (means : Meaning S) (sb : S → Type 0) (rb reads : Option (List (List ℕ))) (hb held held' : Option (List ℕ)) (feed new : Feed) (number : ℕ) (stands : S → Type 0)
    (collected collected' : List ℕ)
    → ReadsOn means sb rb reads hb held feed number stands collected → WantsMore feed new → new.ended ≡ feed.ended
    → Appends held held' collected → collected' ≡ []
    → ReadsOn means sb rb reads hb held' new number stands collected'
reading_wants means sb rb reads hb held held' feed new number stands collected collected' inv wants same put empty =
    let over : HandsOver held held' collected collected' = record { part = collected; put = put; kept = sym (append-nil collected) ∙ ap (λ (x : List ℕ). collected ++ x) (sym empty) } in
    reading_keeps means sb rb reads hb held held' feed new number number stands stands collected collected' inv same (λ lb left on.
    loop_hands_over means sb lb hb left held held' new number stands collected collected' (loop_wants means sb lb hb left held feed new number stands collected on wants same) over)

-- a read gave a chunk
pub reading_fills : {S : Type 0} (means : Meaning S) (sb : S → Type 0) (rb reads reads' : Option (List (List ℕ))) (hb held held' : Option (List ℕ)) (feed new filled : Feed) (number : ℕ)
    (stands : S → Type 0) (collected collected' : List ℕ)
    → ReadsOn means sb rb reads hb held feed number stands collected → WantsMore feed new → new.ended ≡ feed.ended
    → Appends held held' collected → collected' ≡ []
    → Takes new filled reads reads' → filled.count ≡ new.count
    → ReadsOn means sb rb reads' hb held' filled number stands collected'
reading_fills means sb rb reads reads' hb held held' feed new filled number stands collected collected' inv wants same put empty took count =
    reading_more means sb rb reads reads' hb held' new filled number stands collected' (took.chunk ∷ [])
    (reading_wants means sb rb reads hb held held' feed new number stands collected collected' inv wants same put empty)
    wants.used_up.1 took.gave (took.grown ∙ ap (λ (x : List ℕ). unread new ++ x) (sym (append-nil took.chunk))) took.ended count

-- a read failed
pub reading_faults : {S : Type 0} (means : Meaning S) (sb : S → Type 0) (rb reads reads' : Option (List (List ℕ))) (hb held held' : Option (List ℕ)) (feed new filled : Feed) (number : ℕ)
    (stands : S → Type 0) (collected collected' : List ℕ)
    → ReadsOn means sb rb reads hb held feed number stands collected → WantsMore feed new → new.ended ≡ feed.ended
    → Appends held held' collected → collected' ≡ []
    → Gave reads reads' [] → unread filled ≡ unread new → filled.ended ≡ false → filled.count ≡ new.count
    → ReadsOn means sb rb reads' hb held' filled number stands collected'
reading_faults means sb rb reads reads' hb held held' feed new filled number stands collected collected' inv wants same put empty gave kept going count =
    reading_more means sb rb reads reads' hb held' new filled number stands collected' []
    (reading_wants means sb rb reads hb held held' feed new number stands collected collected' inv wants same put empty)
    wants.used_up.1 gave (kept ∙ sym (append-nil (unread new))) going count

-- how it ends
pub reading_ends : {S : Type 0} (means : Meaning S) (sb : S → Type 0) (rb reads : Option (List (List ℕ))) (hb held held' : Option (List ℕ)) (feed : Feed) (number : ℕ) (stands : S → Type 0)
    (collected : List ℕ) (result : PlayEnd)
    → ReadsOn means sb rb reads hb held feed number stands collected
    → ((lb left : Option (List ℕ)) → PlaysOn means sb lb hb left held feed number stands collected → (s0 : S) (o t : List ℕ) → sb s0 → lb ≡ Some o → hb ≡ Some t
    → PlaysOut (played_of means s0) result o t left held')
    → (s0 : S) (t : List ℕ) → sb s0 → hb ≡ Some t → OfReads rb reads (λ o rest. PlaysOut (played_of means s0) result o t (Some rest) held')
reading_ends means sb rb reads hb held held' feed number stands collected result inv out s0 t start held_is =
    (inv.gave, inv.told, λ rest may. out (Some (concat inv.gave ++ rest)) (Some rest) (inv.on rest may) s0 (concat inv.gave ++ rest) t start refl held_is)

-- nothing was read
pub reading_none : {S : Type 0} (means : Meaning S) (reads : Option (List (List ℕ))) (held : Option (List ℕ)) (s0 : S) (t : List ℕ) → held ≡ Some t
    → OfReads reads reads (λ o rest. PlaysOut (played_of means s0) NoMemory o t (Some rest) held)
reading_none means reads held s0 t held_is = (
  [],
  gave_nothing reads,
  λ rest may. record {
    taken = record { read = []; rest = rest; parts = refl; remains = refl };
    written = rw held_is (0, omega arith, sym (append-nil t));
  },
)
