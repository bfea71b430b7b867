-- What a loop over a feed uses up.
-- It serves clauses of functions of `feed`.
use Rattle.std.proofs.Common.{◌≡◌, ℕ, ◌+◌, ◌-◌, ◌*◌, ◌≤◌, ◌<◌, if◌then◌else◌, Bool, true, false, nat_lt, nat_eq, zero, suc, ◌||◌, List, [], ◌∷◌, ◌++◌, length, take, drop, Option}
use Rattle.std.proofs.Common.{Some, refl, sym, ap, ◌∙◌, length-append, length-drop, arith}
use Rattle.std.proofs.lemmas.List.{append-nil, length-take}
use Rattle.std.proofs.lemmas.Bool.{eqb-true}
use Rattle.std.proofs.lemmas.Bool.Decides.{nat_tests}
use Rattle.std.proofs.Math.ListN.{drop_of_length-le}
use Rattle.bsc_text.specs.declared.bounds.TheConstants.{MAX_INPUT_LEN, MAX_LINE_LEN}
use Rattle.bsc_text.specs.declared.feed.Feed.{Feed}
use Rattle.bsc_text.specs.declared.feed.NextLine.{NextLine}
use Rattle.bsc_text.specs.declared.feed.NextLine.TheVariants.{Line}
use Rattle.bsc_text.specs.Lines.{pieces_of, line_in}
use Rattle.bsc_text.specs.Feeding.{unread, fuel, most_read, IsUsedUp, GivesLine, Feeds, Fills}
use Rattle.bsc_text.proofs.Cutting.{length-pieces_of, length-piece}

-- what is read and given stays within a bound
length-unread : (f : Feed) → length (unread f) ≡ length f.carry.items + (f.end - f.at)
length-unread f = omega (
  arith,
  length-append f.carry.items (drop f.at (take f.end f.chunk.items)),
  length-drop f.at (take f.end f.chunk.items),
  length-take f.end f.chunk.items,
  f.in_order,
  f.in_chunk,
)

pub within : (f : Feed) → f.count + length (unread f) ≤ most_read
within f = omega (arith, length-unread f, f.in_order, f.in_chunk, f.one_chunk, f.short_line, f.in_script)

-- the measure, over plain numbers
less : (b c u n d v : ℕ) → d ≡ c + n → u ≡ n + v → c + u ≤ b → 0 < n → (k : ℕ) → 2 * (b - (d + v)) + v + k < 2 * (b - (c + u)) + u + k
less b c u n d v e w h s k = omega arith

-- some line is given
pub fed-line : (old new : Feed) (r : NextLine) (l : List ℕ) → Feeds old new r → r ≡ Line l → GivesLine (unread old ++ []) old new (Some []) l
fed-line old new (Line m) l h e =
    let g : GivesLine (unread old ++ []) old new (Some []) m = h (unread old ++ []) (Some []) refl (λ k. refl) in
    let same : m ≡ l = cc in
    rw same at g
fed-line old new r l h e = absurd cc

short : (m n : ℕ) (b : Bool) → (nat_lt MAX_LINE_LEN m || b) ≡ false → m ≤ MAX_LINE_LEN
short m n b h = grind (arith, nat_tests)

pub line-short : (old new : Feed) (l o : List ℕ) (left : Option (List ℕ)) → GivesLine o old new left l → length l ≤ MAX_LINE_LEN
line-short old new l o left g = omega (arith, ap length g.line, short (length (line_in g.piece)) 0 (nat_lt MAX_INPUT_LEN (old.count + length g.piece)) g.fits)

pub line-on : (old new : Feed) (l o : List ℕ) (left : Option (List ℕ)) → GivesLine o old new left l → old.count < new.count
line-on old new l o left g = omega (arith, g.counted, length-piece o g.piece (pieces_of g.rest) g.first)

some-is : (a b : List ℕ) → Some a ≡ Some b → a ≡ b
some-is a b e = cc

pub line-less : (old new : Feed) (l : List ℕ) → GivesLine (unread old ++ []) old new (Some []) l → new.ended ≡ old.ended → fuel new < fuel old
line-less old new l g same =
    let some : 0 < length g.piece = length-piece (unread old ++ []) g.piece (pieces_of g.rest) g.first in
    let all : length (unread old ++ []) ≡ length g.piece + length g.rest = length-pieces_of (unread old ++ []) g.piece g.rest g.first in
    let left : length (unread new ++ []) ≡ length g.rest = ap length (some-is (unread new ++ []) g.rest g.later) in
    let cut : length (unread old) ≡ length g.piece + length (unread new) = omega (arith, ap length (append-nil (unread old)), ap length (append-nil (unread new))) in
    rw same (less most_read old.count (length (unread old)) (length g.piece) new.count (length (unread new)) g.counted cut (within old) some (if old.ended then 0 else 1))

-- the measure where a chunk is read, over plain numbers
fill-less : (b c u v n : ℕ) (over was : Bool) → v ≡ u + n → c + v ≤ b → over ≡ nat_eq n 0 → was ≡ false →
    2 * (b - (c + v)) + v + (if over then 0 else 1) < 2 * (b - (c + u)) + u + (if was then 0 else 1)
fill-less b c u v zero over was e w o k = rw (o, k, e) (omega arith)
fill-less b c u v (suc n) over was e w o k =
    let more : over ≡ false = grind (arith, nat_tests) in
    rw (more, k, e) (omega arith)

-- nothing is left of a chunk that was looked through
pub none-left : (at end : ℕ) (chunk : List ℕ) → at ≡ end → drop at (take end chunk) ≡ []
none-left at end chunk e = drop_of_length-le (take end chunk) (omega (arith, length-take end chunk))

ended-empty : (n : ℕ) (chunk : List ℕ) → length chunk ≡ n → nat_eq n 0 ≡ true → chunk ≡ []
ended-empty n [] h e = refl
ended-empty n (c ∷ chunk) h e = absurd (omega (arith, eqb-true n 0 e))

-- a chunk that was read comes after what is kept
pub filled : (old new : Feed) (n : ℕ) → IsUsedUp old → new.carry.items ≡ old.carry.items → new.at ≡ 0 → new.end ≡ n →
    new.ended ≡ nat_eq n 0 → new.count ≡ old.count → Fills old new
filled old new n h carry start end over same =
    let was = none-left old.at old.end old.chunk.items h.0 in
    let chunk = take n new.chunk.items in
    let now : unread new ≡ old.carry.items ++ chunk = rw (carry, start, end) refl in
    let grown : unread new ≡ unread old ++ chunk = now ∙ (ap (λ (x : List ℕ). x ++ chunk) (sym (append-nil old.carry.items) ∙ ap (λ (x : List ℕ). old.carry.items ++ x) (sym was))) in
    let long : length chunk ≡ n = omega (arith, length-take n new.chunk.items, new.in_chunk) in
    let sum : length (unread new) ≡ length (unread old) + n = ap length grown ∙ (length-append (unread old) chunk ∙ ap (λ (x : ℕ). length (unread old) + x) long) in
    let fits : old.count + length (unread new) ≤ most_read = omega (arith, within new, same) in
    record {
      chunk = chunk;
      grown = grown;
      ended = λ e. ended-empty n chunk long (sym over ∙ e);
      count = same;
      less = rw same (fill-less most_read old.count (length (unread old)) (length (unread new)) n new.ended old.ended sum fits over h.1);
    }
