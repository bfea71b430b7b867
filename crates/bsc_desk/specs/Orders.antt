-- Connections in the order of their addresses, or of their devices.
use Rattle.std.specs.Prelude.{ℕ, zero, suc, ◌+◌, ◌*◌, nat_eq, Bool, true, ◌&&◌, if◌then◌else◌, List, [], ◌∷◌, fold, slice_get, Option, Some, None}
use Rattle.std.specs.Cmp.Lexicographic.{pointwise, slice_cmp}
use Rattle.std.specs.List.{list_all, insert}
use Rattle.std.specs.Option.{option_or}
use Rattle.std.specs.Ordering.{is_le, nat_cmp}
use Rattle.bsc_history.specs.declared.connection.Connection.{Connection}

-- whether a test of two passes for each element and each after it
abbrev pub in_order : {A : Type 0} → (A → A → Bool) → List A → Bool
in_order r [] = true
in_order r (x ∷ xs) = list_all (r x) xs && in_order r xs

-- the octets of a connection's address, and of its device
abbrev pub address_of : Connection → List ℕ
address_of c = c.who.vmac.0

abbrev pub device_of : Connection → List ℕ
device_of c = c.who.device.0

-- whether octets are the same as others, and whether they come no later in their order
abbrev pub same_key : List ℕ → List ℕ → Bool
same_key k l = pointwise nat_eq k l

abbrev pub at_most : List ℕ → List ℕ → Bool
at_most k l = is_le (slice_cmp nat_cmp k l)

-- the number that octets spell behind n, each octet higher than those after it
abbrev pub spelled : ℕ → List ℕ → ℕ
spelled n [] = n
spelled n (x ∷ xs) = spelled (n * 256 + x) xs

-- whether the octets of one connection come no later than those of another
abbrev pub precedes : (Connection → List ℕ) → Connection → Connection → Bool
precedes key c d = at_most (key c) (key d)

-- how many connections at the front have octets that come no later than k
abbrev pub up_to : (Connection → List ℕ) → List ℕ → List Connection → ℕ
up_to key k [] = 0
up_to key k (c ∷ cs) = if at_most (key c) k then suc (up_to key k cs) else 0

-- a connection filed among others, behind those whose octets come no later
abbrev pub filed : (Connection → List ℕ) → List Connection → Connection → List Connection
filed key cs c = insert cs (up_to key (key c) cs) c

-- connections in the order of their octets, and those with the same octets in the order that they had
abbrev pub sorted_by : (Connection → List ℕ) → List Connection → List Connection
sorted_by key cs = fold (filed key) [] cs

-- the last element that passes a test
abbrev pub last_of : {A : Type 0} → (A → Bool) → List A → Option A
last_of p [] = None
last_of p (x ∷ xs) = option_or (last_of p xs) (if p x then Some x else None)

-- the connection before a place, where it passes a test
abbrev pub passing : (Connection → Bool) → Option Connection → Option Connection
passing p None = None
passing p (Some c) = if p c then Some c else None

abbrev pub before : List Connection → ℕ → Option Connection
before cs zero = None
before cs (suc n) = slice_get cs n
