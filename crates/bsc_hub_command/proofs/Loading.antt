-- What settings of a text say of the file that has it.
-- It serves the clauses of `load` and `test_hub`.
use Rattle.std.proofs.Common.{◌≡◌, ℕ, List, Option, Result, Ok, Err, inl, inr, subst, sym, ◌∙◌}
use Rattle.std.specs.Prelude.{IfOk, IfErr}
use Rattle.bsc_policy.specs.declared.policy.Policy.{Policy}
use Rattle.bsc_session.specs.Jobs.{policy_of}
use Rattle.bsc_settings.specs.declared.hub.HubSettings.{HubSettings}
use Rattle.bsc_hub_command.specs.declared.settled.HubSettled.{HubSettled}
use Rattle.bsc_hub_command.specs.Settled.{IsSettled, Unsettled}
use Rattle.bsc_hub_command.specs.Tested.{TestsHub}

-- a file that has a text has what the text says
pub settled_in : (holds : List ℕ → Type 0) (text : List ℕ) (v : HubSettings) (policy : Option Policy) → holds text
    → IsSettled (λ o. o ≡ text) v policy → IsSettled holds v policy
settled_in holds text v policy held x = record {
  text = x.text;
  held = subst holds (sym x.held) held;
  doc = x.doc;
  document = x.document;
  settings = x.settings;
  said = x.said;
  hub = x.hub;
  guarded = x.guarded;
}

pub unsettled_in : (holds : List ℕ → Type 0) (text : List ℕ) (f f' s : ℕ) (before after : Option (List ℕ)) → holds text
    → Unsettled (λ o. o ≡ text) f f' s before after → Unsettled holds f f' s before after
unsettled_in holds text f f' s before after held (inl x) = inl x
unsettled_in holds text f f' s before after held (inr (inl x)) = inr (inl (x.0, x.1, subst holds (sym x.2) held, x.3, x.4))
unsettled_in holds text f f' s before after held (inr (inr x)) = inr (inr x)

-- the same of what was loaded
pub settled_from : (r : Result HubSettled ℕ) (holds : List ℕ → Type 0) (text : List ℕ) (before mid after : Option (List ℕ)) → holds text → mid ≡ before
    → IfOk r (λ v. IsSettled (λ o. o ≡ text) v.hub (policy_of v.policy) × (after ≡ mid))
    → IfOk r (λ v. IsSettled holds v.hub (policy_of v.policy) × (after ≡ before))
settled_from (Ok v) holds text before mid after held same x = (settled_in holds text v.hub (policy_of v.policy) held x.0, x.1 ∙ same)
settled_from (Err s) holds text before mid after held same x = tt

pub unsettled_from : (r : Result HubSettled ℕ) (holds : List ℕ → Type 0) (text : List ℕ) (f f' : ℕ) (before mid after : Option (List ℕ)) → holds text → mid ≡ before
    → IfErr r (λ s. Unsettled (λ o. o ≡ text) f f' s mid after)
    → IfErr r (λ s. Unsettled holds f f' s before after)
unsettled_from (Ok v) holds text f f' before mid after held same x = tt
unsettled_from (Err s) holds text f f' before mid after held same x =
    subst (λ (t : Option (List ℕ)). Unsettled holds f f' s t after) same (unsettled_in holds text f f' s mid after held x)

-- and of what was tried
pub tested_in : (holds : List ℕ → Type 0) (text : List ℕ) (f f' s : ℕ) (before after : Option (List ℕ)) → holds text
    → TestsHub (λ o. o ≡ text) f f' s before after → TestsHub holds f f' s before after
tested_in holds text f f' s before after held (inl x) = inl (unsettled_in holds text f f' s before after held x)
tested_in holds text f f' s before after held (inr x) = inr (x.0, x.1, settled_in holds text x.0 x.1 held x.2, x.3)
