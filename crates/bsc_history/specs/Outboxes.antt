-- Whom a frame is meant for, and what enters the outboxes.
use Rattle.std.specs.Prelude.{ℕ, ◌-◌, ◌==◌, nat_lt, Bool, not, ◌&&◌, ◌||◌, if◌then◌else◌, List, [], ◌∷◌, ◌++◌, length, filter, fold}
use Rattle.std.specs.Prelude.{flat_map, Option, Some, None}
use Rattle.std.specs.List.{list_any}
use Rattle.bsc_octets.specs.declared.vmac.Vmac.{Vmac}
use Rattle.bsc_octets.specs.Addresses.{zero_vmac, same_vmac}
use Rattle.bsc_octets.specs.Forwarding.{out, destination, is_broadcast}
use Rattle.bsc_history.specs.declared.limits.About.{About}
use Rattle.bsc_history.specs.declared.entry.Entry.{Entry}
use Rattle.bsc_history.specs.declared.looks.Look.{Look}
use Rattle.bsc_history.specs.declared.call.Call.{Call}
use Rattle.bsc_history.specs.declared.call.Call.TheVariants.{Forward}
use Rattle.bsc_history.specs.declared.connection.Connection.{Connection}
use Rattle.bsc_history.specs.Entries.{Moment, moments}
use Rattle.bsc_history.specs.Ends.{live, joined, numbered, is_live}

-- the number of the newest look at c, after one look more
abbrev pub newer : ℕ → ℕ → Look → ℕ
newer c newest k = if k.conn == c then k.taken else newest

-- How many frames the newest look at c found taken from its outbox, 0 where there is no look.
unfoldable pub looked : List Entry → ℕ → ℕ
looked H c = fold (newer c) 0 (flat_map (λ e. e.looks) H)

-- Whether the frame m of the sender means c: a unicast means whoever has its destination for an address, and a
-- broadcast all but the sender.
abbrev pub means : List ℕ → ℕ → Connection → Bool
means m sender c = if is_broadcast m then not (c.number == sender) else same_vmac c.who.vmac (destination m)

-- the address of a connection that may be missing, zero where it is
abbrev pub vmac_in : Option Connection → Vmac
vmac_in None = zero_vmac
vmac_in (Some x) = x.who.vmac

-- The address with which c joined.
abbrev pub vmac_of : List Entry → ℕ → Vmac
vmac_of H c = vmac_in (numbered c (joined H))

-- whether the octets are more than the connection takes in one message
abbrev pub is_too_long : List ℕ → Connection → Bool
is_too_long o c = nat_lt c.who.max_bvlc (length o)

-- A look finds an outbox full where what entered it, less the number found taken, is its capacity.
abbrev pub finds_full : About → List (List ℕ) → ℕ → Bool
finds_full a entered taken = (length entered - taken) == a.limits.outbox

-- whether a look at c finds its outbox full
abbrev pub is_found_full : About → List (List ℕ) → List Look → ℕ → Bool
is_found_full a entered looks c = list_any (λ k. (k.conn == c) && finds_full a entered k.taken) looks

-- The live connections that the frame m of the sender means.
abbrev pub meant : List Entry → ℕ → List ℕ → List Connection
meant G sender m = filter (means m sender) (live G)

-- The frame m as it is passed on: under the address of its sender.
abbrev pub out_of : List Entry → ℕ → List ℕ → List ℕ
out_of G sender m = out m (vmac_of G sender)

-- whether x is c, and takes the octets: they aren't too long for it, and no look finds its outbox full
abbrev pub takes : About → List ℕ → List (List ℕ) → List Look → ℕ → Connection → Bool
takes a o entered looks c x = (x.number == c) && not (is_too_long o x || is_found_full a entered looks c)

-- What a call adds to the outbox of c, which `entered` had entered: the frame as it is passed on where its sender
-- is live and it means a live connection c that takes it, and else nothing.
unfoldable pub added_by : About → List Entry → List (List ℕ) → ℕ → Call → List Look → List (List ℕ)
added_by a G entered c (Forward sender m) looks =
    let o = out_of G sender m in
    if is_live G sender && list_any (takes a o entered looks c) (meant G sender m) then o ∷ [] else []
added_by a G entered c call looks = []

-- what the entry of a moment adds to the outbox of c
abbrev pub added : About → Moment → List (List ℕ) → ℕ → List (List ℕ)
added a m entered c = added_by a m.before entered c m.entry.call m.entry.looks

-- What entered the outbox of c, oldest first: nothing at first, and then what each entry adds.
unfoldable pub sent : About → List Entry → ℕ → List (List ℕ)
sent a H c = fold (λ entered m. entered ++ added a m entered c) [] (moments H)
