-- A script that is only read, of which the laws hold: A and B join, A sends to B, and the hub stops. No code plays it.
-- No clause needs it: worked examples.
use Rattle.std.proofs.Common.{◌≡◌, ℕ, List, [], ◌∷◌, filter_map, codes, length, Option, Some, None, option_map, refl}
use Rattle.uuid.proofs.OnLiterals.{uuid_on_literals}
use Rattle.bsc_history.specs.declared.limits.About.{About}
use Rattle.bsc_script.specs.declared.line.Line.{Line}
use Rattle.bsc_script.specs.Lines.{line_of}
use Rattle.bsc_script.specs.States.{State, new_hub}
use Rattle.bsc_script.specs.Laws.{IsOfOneHub, after_lines}
use Rattle.bsc_script.proofs.OnLiterals.{script_on_literals}
use Rattle.bsc_script_laws.proofs.OneHub.{one_hub}

-- a hub of 256 rows, with 64 frames to an outbox
abbrev about : About
about = record {
  hub = record {
    vmac = record { 0 = 0x02 ∷ 0x00 ∷ 0x00 ∷ 0x00 ∷ 0x00 ∷ 0xFF ∷ [] };
    device = record { 0 = 0x00 ∷ 0x11 ∷ 0x22 ∷ 0x33 ∷ 0x44 ∷ 0x55 ∷ 0x66 ∷ 0x77 ∷ 0x88 ∷ 0x99 ∷ 0xAA ∷ 0xBB ∷ 0xCC ∷ 0xDD ∷ 0xEE ∷ 0xFF ∷ [] };
    max_bvlc = 1600;
    max_npdu = 1497;
  };
  limits = record { rows = 256; outbox = 64; calls = 4503599627370496; callers = 4611686018427387904 };
}

-- what is read of the script
abbrev script : List Line
script = filter_map line_of (
    codes "open A" ∷
    codes "in A 06000001 02000000000A AAAAAAAAAAAAAAAAAAAAAAAAAAAAAAAA 0640 05D9" ∷
    codes "open B" ∷
    codes "in B 06000001 02000000000B BBBBBBBBBBBBBBBBBBBBBBBBBBBBBBBB 0640 05D9" ∷
    codes "in A 01040002 02000000000B 0100" ∷
    codes "stop" ∷
    [])

-- what stands after it
abbrev stands : Option State
stands = after_lines (Some (new_hub about)) script

-- all its lines are accepted, and they made four calls
four_calls : option_map (λ (s : State). length s.history) stands ≡ Some 4
unfolding script_on_literals uuid_on_literals
four_calls = refl

some_state : (o : Option State) (n : ℕ) → option_map (λ (s : State). length s.history) o ≡ Some n → (s : State) × (o ≡ Some s) × (length s.history ≡ n)
some_state None n e = cc
some_state (Some s) n e = (s, refl, one (length s.history) n e)
  where
    one : (a b : ℕ) → Some a ≡ Some b → a ≡ b
    one a b e = cc

-- so they are a legal history
its_calls_are_legal : (s : State) × (stands ≡ Some s) × (length s.history ≡ 4) × IsOfOneHub s
its_calls_are_legal = (let w = some_state stands 4 four_calls in (w.0, w.1, w.2, one_hub about script w.0 w.1))
