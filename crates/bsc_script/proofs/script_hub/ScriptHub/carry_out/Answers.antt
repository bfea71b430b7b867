-- A step is carried out.
use Rattle.std.proofs.Common.{◌≡◌, ◌++◌, sym, ap, ◌∙◌, refl, subst, OnOk}
use Rattle.std.proofs.Common.{false, inl, inr}
use Rattle.bsc_accept.specs.Steps.{closes as is_closing}
use Rattle.bsc_script.specs.Written.{says, line_text}
use Rattle.bsc_script.specs.Settled.{IsSettledBut}
use Rattle.bsc_script.specs.Texts.{out_words}
use Rattle.bsc_script.specs.Carrying.{does, closes, quietly}
use Rattle.bsc_script.specs.Holding.{CarriesOut}
use Rattle.bsc_script.proofs.Changes.{indexed, settled_at}
use Rattle.bsc_script.proofs.Carried.{said_carried, quiet_carried}
use Rattle.bsc_script.proofs.script_hub.ScriptHub.carry_out.Goals as goal
use Rattle.std.proofs.lemmas.Result.{on_ok_weaker as on_ok}

pub returns-in-Put : goal.returns-in-Put
returns-in-Put c = λ s k cs h own. (
    let is = c.in-Put.is in
    let settled = settled_at c.args.self.now c.args.at cs s k h (subst (λ st. is_closing st ≡ false → IsSettledBut cs s.about s.history k) is own refl) in
    let name = c.name_at.ensures s.peers k (indexed c.args.self.now s h.stands) h.here in
    subst (λ st. OnOk c.put_out.result (CarriesOut c.args.self.now c.args.text.now.items c.put_out.new.text.items cs (does s k st))) (sym is)
    (on_ok c.put_out.result (λ put. said_carried c.args.self.now c.args.text.now.items c.put_out.new.text.items c.put_out.new.text.items cs c.name_at.result.now k
    (out_words c.in-Put.octets.items) (quietly s)
    (put ∙ ap (λ m. c.args.text.now.items ++ line_text (says c.name_at.result.now (out_words m))) c.as_slice.ensures.value) name
    (quiet_carried c.args.self.now c.put_out.new.text.items cs s h.stands settled))
    c.put_out.ensures))

pub returns-in_ok-put_out-in-PutClose : goal.returns-in_ok-put_out-in-PutClose
returns-in_ok-put_out-in-PutClose c = λ s k cs h own. (
    let is = c.in-PutClose.is in
    let name = c.name_at-in-PutClose.ensures s.peers k (indexed c.args.self.now s h.stands) h.here in
    let put = c.in_ok-put_out-in-PutClose.ensures in
    subst (λ st. OnOk c.close.result (CarriesOut c.close.new.self c.args.text.now.items c.close.new.text.items cs (does s k st))) (sym is)
    (on_ok c.close.result (said_carried c.close.new.self c.args.text.now.items _ c.close.new.text.items cs c.name_at-in-PutClose.result.now k (out_words c.in-PutClose.octets.items)
    (closes s k c.in-PutClose.closing)
    (put ∙ ap (λ m. c.args.text.now.items ++ line_text (says c.name_at-in-PutClose.result.now (out_words m))) c.as_slice-in-PutClose.ensures.value) name)
    (c.close.ensures s k cs h)))

pub returns-in-Ask : goal.returns-in-Ask
returns-in-Ask c = λ s k cs h own. (
    let t = c.args.self.now in
    let b = c.args.text.now.items in
    let quiet : (is_closing c.args.step ≡ false) → CarriesOut t b b cs (quietly s) = λ open_step. quiet_carried t b cs s h.stands (settled_at t c.args.at cs s k h (own open_step)) in
    elim c.in-Ask.is [
      | inl a ↦ subst (λ st. CarriesOut t b b cs (does s k st)) (sym a.1) (quiet (ap is_closing a.1))
      | inr a ↦ elim a [
        | inl e ↦ subst (λ st. CarriesOut t b b cs (does s k st)) (sym e) (quiet (ap is_closing e))
        | inr e ↦ subst (λ st. CarriesOut t b b cs (does s k st)) (sym e) (quiet (ap is_closing e))
      ]
    ])
