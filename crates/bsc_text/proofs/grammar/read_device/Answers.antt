-- A word that isn't parsed is no device.
use Rattle.std.proofs.Common.{◌≡◌, ◌∙◌, Option, Some, None, Result, Err, IsOk, is_ok, refl, sym, ap}
use Rattle.std.proofs.lemmas.Bool.{false≢true}
use Rattle.bsc_text.specs.Grammar.{device_in}
use Rattle.bsc_text.proofs.grammar.read_device.Goals as goal

none : {X E : Type 0} (r : Result X E) (e : E) (o : Option X) → r ≡ Err e → (((u : X) × (o ≡ Some u)) → IsOk r) → None ≡ o
none r e None h k = refl
none r e (Some u) h k = absurd (false≢true (sym (ap is_ok h) ∙ k (u, refl)))

pub returns-in-Err : goal.returns-in-Err
returns-in-Err c = ap device_in (none c.try_parse_ascii.result c.in-Err.field-0 _ c.in-Err.is c.try_parse_ascii.ensures.ok.1)
