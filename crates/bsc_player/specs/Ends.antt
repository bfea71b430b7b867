-- What stands written after each of the five ends of a play, where the source tells its octets and the sink what it
-- holds. The words speak of what each input comes to, p, and of no language.
use Rattle.std.specs.Prelude.{◌≡◌, ◌⊎◌, ℕ, ◌+◌, if◌then◌else◌, List, [], ◌∷◌, ◌++◌, length, Option, Some, None}
use Rattle.bsc_player.specs.declared.play_end.PlayEnd.{PlayEnd}
use Rattle.bsc_player.specs.declared.play_end.PlayEnd.TheVariants.{Done, BadLine, ReadFault, WriteFault, NoMemory}
use Rattle.bsc_outside.specs.Faults.{PutsPrefix}
use Rattle.bsc_text.specs.Lines.{pieces_of, has_no_lf}
use Rattle.bsc_player.specs.Playing.{Played}

-- Of the octets o that a source had left, these were read, and the rest is left.
pub record Taken (o : List ℕ) (left : Option (List ℕ)) : Type 0 where
  pub read : List ℕ
  pub rest : List ℕ
  pub parts : o ≡ read ++ rest
  pub remains : left ≡ Some rest

-- the octets up to and with the last LF
abbrev pub whole_lines : List ℕ → List ℕ
whole_lines [] = []
whole_lines (c ∷ o) = if has_no_lf (c ∷ o) then [] else c ∷ whole_lines o

-- The lines that were read: the whole ones, and where nothing is left also a last one without LF.
abbrev pub lines_read : List ℕ → List ℕ → List ℕ
lines_read read [] = read
lines_read read (c ∷ rest) = whole_lines read

-- No line of o is refused. Where a number is refused all the same, it is the one after the last line, as the input may
-- not end there.
abbrev pub AcceptsLines : (List ℕ → Played) → List ℕ → Type 0
AcceptsLines p o = (n : ℕ) → (p o).refused ≡ Some n → n ≡ length (pieces_of o) + 1

-- What was read decides that line n is the first that is refused: nothing is left, or it is so whatever might follow.
abbrev pub Decides : (List ℕ → Played) → ℕ → List ℕ → List ℕ → Type 0
Decides p n read rest = (rest ≡ []) ⊎ ((more : List ℕ) → (p (read ++ more)).refused ≡ Some n)

-- The whole text of the input o was written after t, and o was read to its end.
pub record WritesAll (p : List ℕ → Played) (o t : List ℕ) (left held : Option (List ℕ)) : Type 0 where
  pub accepted : (p o).refused ≡ None
  pub written : held ≡ Some (t ++ (p o).text)
  pub read : left ≡ Some []

-- Line n of the input o is the first that is refused, as what was read of o decides, and the text of the lines before
-- it, which were read, was written after t.
pub record WritesTo (p : List ℕ → Played) (n : ℕ) (o t : List ℕ) (left held : Option (List ℕ)) : Type 0 where
  pub refused : (p o).refused ≡ Some n
  pub written : held ≡ Some (t ++ (p o).text)
  pub taken : Taken o left
  pub decided : Decides p n taken.read taken.rest
  pub in_time : (p (lines_read taken.read taken.rest)).text ≡ (p o).text

-- The text of the whole lines that were read was written after t, and none of them is refused.
pub record WritesWhole (p : List ℕ → Played) (o t : List ℕ) (left held : Option (List ℕ)) : Type 0 where
  pub taken : Taken o left
  pub accepted : AcceptsLines p (whole_lines taken.read)
  pub written : held ≡ Some (t ++ (p (whole_lines taken.read)).text)

-- Some first part of the text of the lines that were read was written after t, and nothing else.
pub record WritesSome (p : List ℕ → Played) (o t : List ℕ) (left held : Option (List ℕ)) : Type 0 where
  pub taken : Taken o left
  pub written : PutsPrefix (Some t) held (p (lines_read taken.read taken.rest)).text

-- What an answer says of the input o, where t was held before.
abbrev pub PlaysOut : (List ℕ → Played) → PlayEnd → List ℕ → List ℕ → Option (List ℕ) → Option (List ℕ) → Type 0
PlaysOut p Done o t left held = WritesAll p o t left held
PlaysOut p (BadLine n) o t left held = WritesTo p n o t left held
PlaysOut p ReadFault o t left held = WritesWhole p o t left held
PlaysOut p WriteFault o t left held = WritesSome p o t left held
PlaysOut p NoMemory o t left held = WritesSome p o t left held
