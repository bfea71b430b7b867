-- What a feed gives of what it has read, a line at a time.
use Rattle.std.specs.Prelude.{◌≡◌, ℕ, ◌+◌, ◌-◌, ◌*◌, ◌<◌, if◌then◌else◌, true, false, List, [], ◌∷◌, ◌++◌, length, take, drop, Option, Some, ⊤}
use Rattle.std.specs.Option.{option_map}
use Rattle.std.specs.Io.KnownBytes.{IsAtEnd}
use Rattle.bsc_text.specs.declared.bounds.TheConstants.{CHUNK_LEN, MAX_INPUT_LEN, MAX_LINE_LEN}
use Rattle.bsc_text.specs.declared.feed.NextLine.{NextLine}
use Rattle.bsc_text.specs.declared.feed.NextLine.TheVariants.{Line, More, End, Refused, NoMemory}
use Rattle.bsc_text.specs.declared.feed.Feed.{Feed}
use Rattle.bsc_text.specs.Gave.{Gave, has_end}
use Rattle.bsc_text.specs.Lines.{pieces_of, line_in, is_too_big, has_no_lf}

-- The octets that a feed has read and hasn't given yet: the front of a line, and then the rest of the last chunk.
abbrev pub unread : Feed → List ℕ
unread feed = feed.carry.items ++ drop feed.at (take feed.end feed.chunk.items)

-- The octets that aren't given yet, where the source tells those that it has left.
abbrev pub rest_of : Feed → Option (List ℕ) → Option (List ℕ)
rest_of feed left = option_map (λ o. unread feed ++ o) left

-- The last chunk was looked through, and wasn't the end of the input: the next one may be read.
abbrev pub IsUsedUp : Feed → Type 0
IsUsedUp feed = (feed.at ≡ feed.end) × (feed.ended ≡ false)

-- the most octets that a feed may have given and read: the longest script, the longest line with its end, and a chunk
abbrev pub most_read : ℕ
most_read = MAX_INPUT_LEN + (MAX_LINE_LEN + 2) + CHUNK_LEN

-- What a caller's loop uses up: each line that is given and each chunk that is read makes it less.
abbrev pub fuel : Feed → ℕ
fuel feed =
    2 * (most_read - (feed.count + length (unread feed))) + length (unread feed) + (if feed.ended then 0 else 1)

-- The line l of a whole piece is given, which isn't too big after so many octets, and the octets u are left.
pub record Gives (before : ℕ) (u : List ℕ) (new : Feed) (piece l : List ℕ) : Type 0 where
  pub line : l ≡ line_in piece
  pub fits : is_too_big before piece ≡ false
  pub unread_same : unread new ≡ u
  pub counted : new.count ≡ before + length piece

-- Of the octets o, the line l of the first piece is given, which isn't too big, and the pieces after it are those of
-- what is not given yet.
pub record GivesLine (o : List ℕ) (old new : Feed) (left : Option (List ℕ)) (l : List ℕ) : Type 0 where
  pub piece : List ℕ
  pub rest : List ℕ
  pub first : pieces_of o ≡ piece ∷ pieces_of rest
  pub line : l ≡ line_in piece
  pub fits : is_too_big old.count piece ≡ false
  pub later : rest_of new left ≡ Some rest
  pub counted : new.count ≡ old.count + length piece

-- Of the octets o, the first piece is too big.
pub record HasTooBig (o : List ℕ) (old : Feed) : Type 0 where
  pub piece : List ℕ
  pub pieces : List (List ℕ)
  pub first : pieces_of o ≡ piece ∷ pieces
  pub big : is_too_big old.count piece ≡ true

-- No whole line is left of what was read: nothing was given, and the next chunk may be read.
pub record WantsMore (old new : Feed) : Type 0 where
  pub unread_same : unread new ≡ unread old
  pub no_lf : has_no_lf (unread new) ≡ true
  pub count : new.count ≡ old.count
  pub used_up : IsUsedUp new

-- The input has ended, and all of it was given.
pub record HasEnded (old new : Feed) : Type 0 where
  pub none_before : unread old ≡ []
  pub none : unread new ≡ []
  pub count : new.count ≡ old.count
  pub ended : new.ended ≡ true

-- What an answer says of the octets that weren't given yet: a line is the next one, and what is refused is too big,
-- whatever follows; after the end of the input nothing does.
abbrev pub Feeds : Feed → Feed → NextLine → Type 0
Feeds old new (Line l) =
    (o : List ℕ) (left : Option (List ℕ)) → rest_of old left ≡ Some o → (old.ended ≡ true → IsAtEnd left) →
    GivesLine o old new left l
Feeds old new More = WantsMore old new
Feeds old new End = HasEnded old new
Feeds old new Refused = (left : List ℕ) → (old.ended ≡ true → left ≡ []) → HasTooBig (unread old ++ left) old
Feeds old new NoMemory = ⊤

-- What reading a chunk does: what was read before stays in front, and only an ended feed has no octet more.
pub record Fills (old new : Feed) : Type 0 where
  pub chunk : List ℕ
  pub grown : unread new ≡ unread old ++ chunk
  pub ended : new.ended ≡ true → chunk ≡ []
  pub count : new.count ≡ old.count
  pub less : fuel new < fuel old

-- A read gave this chunk, which comes behind what was read before; the feed has ended where it is empty.
pub record Takes (old new : Feed) (before after : Option (List (List ℕ))) : Type 0 where
  pub chunk : List ℕ
  pub gave : Gave before after (chunk ∷ [])
  pub grown : unread new ≡ unread old ++ chunk
  pub ended : new.ended ≡ has_end (chunk ∷ [])
