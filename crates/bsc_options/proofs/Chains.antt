-- Items that others follow, and the list that they begin.
-- It serves the clauses of `list_length`.
use Rattle.std.proofs.Common.{◌≡◌, ℕ, ◌+◌, ◌<◌, Bool, true, false, List, [], ◌∷◌, ◌++◌, length, drop, None, refl, sym, ap, ◌∙◌, append_assoc, arith, length-append}
use Rattle.std.specs.List.{AllByRecursion, flat_map}
use Rattle.std.proofs.lemmas.List.{drop_at, append-nil, flat_map_more}
use Rattle.bsc_options.specs.declared.item.OptionItem.{OptionItem}
use Rattle.bsc_options.specs.Spelling.{Fits, has_items, item_octets, spelling_of}
use Rattle.bsc_options.specs.Reading.{IsCut}
use Rattle.bsc_options.specs.Walk.{IsCutItem, EndsAt}

-- the octets of items, each of which another follows
abbrev pub chain : List OptionItem → List ℕ
chain front = flat_map (item_octets true) front

pub all_append : (P : OptionItem → Type 0) (xs ys : List OptionItem) → AllByRecursion P xs → AllByRecursion P ys → AllByRecursion P (xs ++ ys)
all_append P [] ys p q = q
all_append P (x ∷ xs) ys p q = (p.0, all_append P xs ys p.1 q)

pub has_items-some : (items : List OptionItem) → 0 < length items → has_items items ≡ true
has_items-some [] some = absurd (omega arith)
has_items-some (x ∷ items) some = refl

spelling_of-chain : (front tail : List OptionItem) → 0 < length tail → spelling_of (front ++ tail) ≡ chain front ++ spelling_of tail
spelling_of-chain [] tail some = refl
spelling_of-chain (x ∷ front) tail some =
    let followed : has_items (front ++ tail) ≡ true = has_items-some (front ++ tail) (omega (arith, length-append front tail)) in
    let rest : spelling_of (front ++ tail) ≡ chain front ++ spelling_of tail = spelling_of-chain front tail some in
    ap (λ (b : Bool). item_octets b x ++ spelling_of (front ++ tail)) followed
    ∙ ap (λ (l : List ℕ). item_octets true x ++ l) rest
    ∙ sym (append_assoc (item_octets true x) (chain front) (spelling_of tail))

-- the octets begin with items that others follow, and `rest` stands behind those
abbrev pub WalkedTo : List ℕ → List ℕ → Type 0
WalkedTo o rest = (front : List OptionItem) × AllByRecursion Fits front × (o ≡ chain front ++ rest)

pub walked_none : (o : List ℕ) → WalkedTo o o
walked_none o = ([], tt, refl)

pub walked_on : (o rest next : List ℕ) (item : OptionItem) → WalkedTo o rest → Fits item → rest ≡ item_octets true item ++ next → WalkedTo o next
walked_on o rest next item walked fits e =
    let front = walked.0 in
    let longer : chain front ++ item_octets true item ≡ chain (front ++ item ∷ []) = flat_map_more (item_octets true) [] front item in (
      front ++ item ∷ [],
      all_append Fits front (item ∷ []) walked.1 (fits, tt),
      walked.2 ∙ ap (λ (l : List ℕ). chain front ++ l) e ∙ sym (append_assoc (chain front) (item_octets true item) next) ∙ ap (λ (l : List ℕ). l ++ next) longer,
    )

-- the last item ends the list
pub walked_out : (o rest next : List ℕ) (item : OptionItem) (n : ℕ) → WalkedTo o rest → Fits item → rest ≡ item_octets false item ++ next → n + length next ≡ length o → EndsAt o n
walked_out o rest next item n walked fits e place =
    let front = walked.0 in
    let items = front ++ item ∷ [] in
    let spelled : spelling_of items ≡ chain front ++ item_octets false item = spelling_of-chain front (item ∷ []) (omega arith)
    ∙ ap (λ (l : List ℕ). chain front ++ l) (append-nil (item_octets false item)) in
    let whole : o ≡ spelling_of items ++ next =
    walked.2 ∙ ap (λ (l : List ℕ). chain front ++ l) e ∙ sym (append_assoc (chain front) (item_octets false item) next) ∙ ap (λ (l : List ℕ). l ++ next) (sym spelled) in
    let long : length (spelling_of items) ≡ n = omega (arith, ap length whole, length-append (spelling_of items) next) in
    let after : drop n o ≡ next = ap (drop n) whole ∙ drop_at (spelling_of items) next n long in
    record {
      items = items;
      are = record { some = omega (arith, length-append front (item ∷ [])); fit = all_append Fits front (item ∷ []) walked.1 (fits, tt) };
      whole = record { spelling = whole ∙ ap (λ (l : List ℕ). spelling_of items ++ l) (sym after); place = omega arith };
    }

-- an item that ends a list where none follows
abbrev last_item : OptionItem
last_item = record { must = false; kind = 1; content = None }

last_fits : Fits last_item
last_fits = record { kind = omega arith; content = tt }

-- octets are missing of the list where they are of an item
cut_by : (o rest : List ℕ) (walked : WalkedTo o rest) (follows : Bool) (item : OptionItem) (missing : List ℕ) → Fits item → 0 < length missing → rest ++ missing ≡ item_octets follows item → IsCut o 0
cut_by o rest walked false item missing fits some e =
    let front = walked.0 in
    record {
      items = front ++ item ∷ [];
      missing = missing;
      are = record { some = omega (arith, length-append front (item ∷ [])); fit = all_append Fits front (item ∷ []) walked.1 (fits, tt) };
      some = some;
      spelling = ap (λ (l : List ℕ). l ++ missing) walked.2 ∙ append_assoc (chain front) rest missing ∙ ap (λ (l : List ℕ). chain front ++ l) (e ∙ sym (append-nil (item_octets false item)))
          ∙ sym (spelling_of-chain front (item ∷ []) (omega arith));
    }
cut_by o rest walked true item missing fits some e =
    let front = walked.0 in
    let tail = item ∷ last_item ∷ [] in
    record {
      items = front ++ tail;
      missing = missing ++ spelling_of (last_item ∷ []);
      are = record { some = omega (arith, length-append front tail); fit = all_append Fits front tail walked.1 (fits, (last_fits, tt)) };
      some = omega (arith, length-append missing (spelling_of (last_item ∷ [])));
      spelling =
          ap (λ (l : List ℕ). l ++ (missing ++ spelling_of (last_item ∷ []))) walked.2
          ∙ append_assoc (chain front) rest (missing ++ spelling_of (last_item ∷ []))
          ∙ ap (λ (l : List ℕ). chain front ++ l) (sym (append_assoc rest missing (spelling_of (last_item ∷ []))) ∙ ap (λ (l : List ℕ). l ++ spelling_of (last_item ∷ [])) e)
          ∙ sym (spelling_of-chain front tail (omega arith));
    }

pub walked_cut : (o rest : List ℕ) → WalkedTo o rest → IsCutItem rest → IsCut o 0
walked_cut o rest walked cut = cut_by o rest walked cut.follows cut.item cut.missing cut.fits cut.some cut.spelling
