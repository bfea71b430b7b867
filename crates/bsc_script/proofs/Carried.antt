-- How what is carried out goes together: the lines of one thing stand before those of the next.
-- It serves clauses of functions of `emptying` and `script_hub`.
use Rattle.std.proofs.Common.{◌≡◌, ℕ, suc, Bool, true, false, List, [], ◌∷◌, ◌++◌, flat_map, fold, length, set, take, drop, remove, filter, not, slice_get, Option, Some, None}
use Rattle.std.proofs.Common.{refl, ap, sym, ◌∙◌, subst, append_assoc, append-nil, true≢false}
use Rattle.bsc_history.specs.Laws.{Apart}
use Rattle.bsc_accept.specs.declared.step.Step.{Step}
use Rattle.bsc_accept.specs.declared.step.Step.TheVariants.{Ask, Put, PutClose, Up, Close, Nothing}
use Rattle.bsc_accept.specs.Steps.{closes as is_closing}
use Rattle.bsc_script.specs.declared.script_hub.ScriptHub.{ScriptHub}
use Rattle.bsc_script.specs.States.{State, Peer, is_named}
use Rattle.bsc_script.specs.Written.{Said, says, line_text, text_of}
use Rattle.bsc_script.specs.Carrying.{ScriptOutcome, quietly, writes, and_then, leaves_if, ends, does}
use Rattle.bsc_script.specs.Settled.{SettledBut}
use Rattle.bsc_script.specs.Holding.{ScriptStands, StandsAt, CarriesOut, name_of}
use Rattle.bsc_script.proofs.Peers.{taken_out}

-- ---- texts

pub text-append : (xs ys : List Said) → text_of (xs ++ ys) ≡ text_of xs ++ text_of ys
text-append [] ys = refl
text-append (x ∷ xs) ys = ap (λ (l : List ℕ). line_text x ++ l) (text-append xs ys) ∙ sym (append_assoc (line_text x) (text_of xs) (text_of ys))

-- nothing is written
pub quiet_carried : (n : ScriptHub) (before cs : List ℕ) (s : State) → ScriptStands n s → SettledBut cs s → CarriesOut n before before cs (quietly s)
quiet_carried n before cs s stands settled = record { stands = stands; settled = settled; text = sym (append-nil before) }

-- a line is written first
pub line_carried : (n : ScriptHub) (before mid after cs : List ℕ) (l : Said) (o : ScriptOutcome) → mid ≡ before ++ line_text l → CarriesOut n mid after cs o → CarriesOut n before after cs (writes l o)
line_carried n before mid after cs l o put h = record {
  stands = h.stands;
  settled = h.settled;
  text = h.text ∙ ap (λ (b : List ℕ). b ++ text_of o.said) put ∙ append_assoc before (line_text l) (text_of o.said);
}

-- some lines are written first
pub lines_carried : (n : ScriptHub) (before mid after cs : List ℕ) (ls : List Said) (o : ScriptOutcome) → mid ≡ before ++ text_of ls → CarriesOut n mid after cs o
    → CarriesOut n before after cs (record { state = o.state; said = ls ++ o.said })
lines_carried n before mid after cs ls o put h = record {
  stands = h.stands;
  settled = h.settled;
  text = h.text ∙ ap (λ (b : List ℕ). b ++ text_of o.said) put ∙ append_assoc before (text_of ls) (text_of o.said) ∙ ap (λ (b : List ℕ). before ++ b) (sym (text-append ls o.said));
}

-- one thing, and then another
pub both_carried : (t n : ScriptHub) (before mid after cs ds : List ℕ) (o : ScriptOutcome) (next : State → ScriptOutcome) → CarriesOut t before mid cs o
    → CarriesOut n mid after ds (next o.state) → CarriesOut n before after ds (and_then o next)
both_carried t n before mid after cs ds o next h g = lines_carried n before mid after ds o.said (next o.state) h.text g

-- ---- who stands at which place after a step

ends_peers : (s : State) (k : Peer) (o : Option ℕ) → (leaves_if s k o).state.peers ≡ filter (λ p. not (is_named k.name p)) s.peers
ends_peers s k None = refl
ends_peers s k (Some c) = refl

-- A step that closes takes the peer out.
pub closing_peers : (s : State) (at : ℕ) (k : Peer) (step : Step) → Apart name_of s.peers → slice_get s.peers at ≡ Some k → is_closing step ≡ true → (does s k step).state.peers ≡ remove s.peers at
closing_peers s at k (Ask who) apart here c = absurd (true≢false (sym c))
closing_peers s at k (Put octets) apart here c = absurd (true≢false (sym c))
closing_peers s at k (PutClose octets x) apart here c = ends_peers s k k.conn ∙ taken_out s.peers at k apart here
closing_peers s at k Up apart here c = absurd (true≢false (sym c))
closing_peers s at k (Close x) apart here c = ends_peers s k k.conn ∙ taken_out s.peers at k apart here
closing_peers s at k Nothing apart here c = absurd (true≢false (sym c))

-- Another step leaves the peers.
pub other_peers : (s : State) (k : Peer) (step : Step) → is_closing step ≡ false → (does s k step).state.peers ≡ s.peers
other_peers s k (Ask who) c = refl
other_peers s k (Put octets) c = refl
other_peers s k (PutClose octets x) c = absurd (true≢false c)
other_peers s k Up c = refl
other_peers s k (Close x) c = absurd (true≢false c)
other_peers s k Nothing c = refl

-- a line of a peer is written first
pub said_carried : (n : ScriptHub) (before mid after cs name : List ℕ) (k : Peer) (words : List ℕ) (o : ScriptOutcome) → mid ≡ before ++ line_text (says name words) → name ≡ k.name
    → CarriesOut n mid after cs o → CarriesOut n before after cs (writes (says k.name words) o)
said_carried n before mid after cs name k words o put same h = line_carried n before mid after cs (says k.name words) o (put ∙ ap (λ (m : List ℕ). before ++ line_text (says m words)) same) h
