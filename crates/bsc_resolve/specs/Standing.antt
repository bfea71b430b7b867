-- For which wait and calls a Resolve stands.
use Rattle.std.specs.Prelude.{◌≡◌, ℕ, Bool, true, cond, List, [], ◌∷◌, ◌++◌, Option, Some, None}
use Rattle.std.specs.List.{list_all, IsDistinct}
use Rattle.bsc_octets.specs.declared.vmac.Vmac.{Vmac}
use Rattle.bsc_octets.specs.Addresses.{same_vmac}
use Rattle.bsc_resolve.specs.declared.call.ResolveCall.{ResolveCall}
use Rattle.bsc_resolve.specs.declared.call.ResolveCall.TheVariants.{Ask, Answered, Refused, Tick}
use Rattle.bsc_resolve.specs.declared.ask_refusal.AskRefusal.{AskRefusal}
use Rattle.bsc_resolve.specs.declared.ask_refusal.AskRefusal.TheVariants.{Full, Pending, NoMemory}
use Rattle.bsc_resolve.specs.declared.entry.Entry.{Entry}
use Rattle.bsc_resolve.specs.declared.resolve.Resolve.{Resolve}
use Rattle.bsc_resolve.specs.Resolving.{question, learnt, ask_refusal, awaits}
use Rattle.bsc_resolve.specs.Kept.{entry_of, kept_question, kept_uris, vmacs, holds_something}

-- What is kept is what the calls say of each VMAC.
pub record Agrees (es : List Entry) (wait : ℕ) (calls : List ResolveCall) : Type 0 where
  pub question : (v : Vmac) → kept_question (entry_of es v) ≡ question wait calls v
  pub uris : (v : Vmac) → kept_uris (entry_of es v) ≡ learnt calls v

-- A Resolve was made with this wait, and these calls happened to it, newest last.
pub record ResolveStands (r : Resolve) (wait : ℕ) (calls : List ResolveCall) : Type 0 where
  pub waits : r.wait ≡ wait
  pub agrees : Agrees r.entries.items wait calls
  pub apart : IsDistinct same_vmac (vmacs r.entries.items)
  pub full : list_all holds_something r.entries.items ≡ true

-- For whatever it stood, it stands for that and this call.
abbrev pub StandsOn : Resolve → Resolve → ResolveCall → Type 0
StandsOn old new call = (wait : ℕ) (calls : List ResolveCall) → ResolveStands old wait calls → ResolveStands new wait (calls ++ call ∷ [])

-- Whatever it stood for, it stands for still.
abbrev pub IsUnchanged : Resolve → Resolve → Type 0
IsUnchanged old new = (wait : ℕ) (calls : List ResolveCall) → ResolveStands old wait calls → ResolveStands new wait calls

-- the refusals that a rule asks for: want of memory is none
abbrev pub by_rule : AskRefusal → Option AskRefusal
by_rule (Full held) = Some (Full held)
by_rule (Pending id) = Some (Pending id)
by_rule NoMemory = None

-- For whatever it stood, no rule refuses the question, and it stands for that and the question.
abbrev pub IsAsked : Resolve → Resolve → ℕ → ℕ → Vmac → Type 0
IsAsked old new now id v =
    (wait : ℕ) (calls : List ResolveCall) → ResolveStands old wait calls
    → (ask_refusal wait calls v ≡ None) × ResolveStands new wait (calls ++ Ask now id v ∷ [])

-- For whatever it stood, the question is refused as the rule asks.
abbrev pub IsAskRefused : Resolve → Vmac → AskRefusal → Type 0
IsAskRefused old v refusal = (wait : ℕ) (calls : List ResolveCall) → ResolveStands old wait calls → ask_refusal wait calls v ≡ by_rule refusal

-- what happened where a call counts
abbrev pub if_it_counts : Bool → List ResolveCall → ResolveCall → List ResolveCall
if_it_counts counts calls call = cond counts (calls ++ call ∷ []) calls

-- For whatever it stood, an answer counts exactly where the question is under way, and it stands for that and the answer.
abbrev pub AnswersAnswer : Resolve → Resolve → ℕ → Vmac → List ℕ → Bool → Type 0
AnswersAnswer old new id v uris counts =
    (wait : ℕ) (calls : List ResolveCall) → ResolveStands old wait calls
    → (counts ≡ awaits wait calls id v) × ResolveStands new wait (if_it_counts counts calls (Answered id v uris))

-- For whatever it stood, a NAK counts exactly where the question is under way, and it stands for that and the NAK.
abbrev pub AnswersRefusal : Resolve → Resolve → ℕ → Vmac → Bool → Type 0
AnswersRefusal old new id v counts =
    (wait : ℕ) (calls : List ResolveCall) → ResolveStands old wait calls
    → (counts ≡ awaits wait calls id v) × ResolveStands new wait (if_it_counts counts calls (Refused id v))
