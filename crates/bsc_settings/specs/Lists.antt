-- How the lists of a policy are read: one value after the other.
use Rattle.std.specs.Prelude.{◌≡◌, ⊤, ℕ, Bool, List, [], ◌∷◌, ◌++◌, Option, Some, None, option_and_then}
use Rattle.toml.specs.Data.{Data}
use Rattle.bsc_settings.specs.declared.key.KeyName.{KeyName}
use Rattle.bsc_settings.specs.declared.refusal.EntryFault.{EntryFault}
use Rattle.bsc_settings.specs.declared.refusal.PolicyRefusal.{PolicyRefusal}
use Rattle.bsc_settings.specs.declared.unread.Unread.{Unread}
use Rattle.bsc_settings.specs.declared.unread.Unread.TheVariants.{Refused, NoMemory}
use Rattle.bsc_settings.specs.Names.{key_of}
use Rattle.bsc_settings.specs.Policies.{passing}

-- one behind others, where there is one
abbrev pub behind : {T : Type 0} → List T → Option T → Option (List T)
behind xs None = None
behind xs (Some x) = Some (xs ++ x ∷ [])

-- what was said, and behind it what a value more says, where it says something and all together pass a test
abbrev pub after : {T : Type 0} → (Data → Option T) → (List T → Bool) → List T → Data → Option (List T)
after says test xs value = passing test (behind xs (says value))

-- the same of values, one after the other
abbrev pub after_all : {T : Type 0} → (Data → Option T) → (List T → Bool) → List T → List Data → Option (List T)
after_all says test xs [] = Some xs
after_all says test xs (value ∷ rest) = option_and_then (λ ys. after_all says test ys rest) (after says test xs value)

-- A policy that isn't read is refused for this key, which is the first at fault; want of memory says nothing.
abbrev pub Refuses : Unread → Option KeyName → Type 0
Refuses (Refused refusal) first = first ≡ Some (key_of refusal)
Refuses NoMemory first = ⊤

-- A policy is refused for this key.
abbrev pub IsForKey : KeyName → Unread → Type 0
IsForKey key (Refused refusal) = key_of refusal ≡ key
IsForKey key NoMemory = ⊥

-- A list isn't read: it is refused for this key, and says nothing. Want of memory tells nothing.
abbrev pub IsUnread : {T : Type 0} → Unread → KeyName → Option T → Type 0
IsUnread (Refused refusal) key said = (key_of refusal ≡ key) × (said ≡ None)
IsUnread NoMemory key said = ⊤

-- A policy that isn't read is refused so; want of memory tells nothing.
abbrev pub Tells : (PolicyRefusal → Type 0) → Unread → Type 0
Tells IsSo (Refused refusal) = IsSo refusal
Tells IsSo NoMemory = ⊤

-- A refusal names the entry with this number, of which this is wrong.
abbrev pub NamesEntry : (ℕ → EntryFault → PolicyRefusal) → ℕ → Option EntryFault → PolicyRefusal → Type 0
NamesEntry names number wrong refusal = (fault : EntryFault) × (refusal ≡ names number fault) × (wrong ≡ Some fault)
