-- The value of a row that takes the text of a device, and texts that may be missing.
-- It serves the clauses of `join_parts` and `read_uuid`.
use Rattle.std.proofs.Common.{◌≡◌, ◌∙◌, ℕ, List, Option, Some, None, IfSome, is_some, option_map, option_and_then, refl, sym, subst, ap}
use Rattle.std.specs.Borrow.{Bor}
use Rattle.toml.specs.Data.{Data, Members, as_str, get_member}
use Rattle.bsc_octets.specs.declared.device_id.DeviceId.{DeviceId}
use Rattle.bsc_text.specs.Grammar.{device_of_word}
use Rattle.bsc_settings.specs.declared.key.KeyName.{KeyName}
use Rattle.bsc_settings.specs.Table.{device, row, required}
use Rattle.bsc_settings.specs.Values.{uuid, given, taken, value_at}

given_device : (key : KeyName) (word : List ℕ) (g : Option Data) →
    given (row key word device required) g ≡ option_map uuid (option_and_then device_of_word (option_and_then as_str g))
given_device key word None = refl
given_device key word (Some value) = refl

pub value_at-device : (key : KeyName) (word : List ℕ) (table : Members) (text : List ℕ) (u : DeviceId) →
    Some text ≡ option_and_then as_str (get_member word table) → Some u ≡ device_of_word text →
    value_at (row key word device required) table ≡ Some (uuid u)
value_at-device key word table text u found read =
    ap (taken device) (given_device key word (get_member word table)) ∙ rw (← found, ← read)

pub value_at-no_device : (key : KeyName) (word : List ℕ) (table : Members) (text : List ℕ) →
    Some text ≡ option_and_then as_str (get_member word table) → None ≡ device_of_word text →
    value_at (row key word device required) table ≡ None
value_at-no_device key word table text found read =
    ap (taken device) (given_device key word (get_member word table)) ∙ rw (← found, ← read)

-- what holds of a text in a document holds of its copy
pub some-now : (P : List ℕ → Type 0) (copy : Option (List ℕ)) (s : Option (Bor (List ℕ))) →
    copy ≡ option_map (λ t. t.now) s → IfSome s (λ t. P t.now) → IfSome copy P
some-now P copy s same holds = subst (λ o. IfSome o P) (sym same) (there s holds)
  where
    there : (s : Option (Bor (List ℕ))) → IfSome s (λ t. P t.now) → IfSome (option_map (λ t. t.now) s) P
    there None h = h
    there (Some t) h = h

pub is_some-now : (copy : Option (List ℕ)) (s : Option (Bor (List ℕ))) → copy ≡ option_map (λ t. t.now) s → is_some copy ≡ is_some s
is_some-now copy s same = ap is_some same ∙ there s
  where
    there : (s : Option (Bor (List ℕ))) → is_some (option_map (λ t. t.now) s) ≡ is_some s
    there None = refl
    there (Some t) = refl
