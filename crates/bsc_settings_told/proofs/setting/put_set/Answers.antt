use Rattle.std.proofs.Common.{◌≡◌, List, ℕ, Bool, ◌++◌, codes, subst, sym}
use Rattle.std.specs.Prelude.{IfOk, if◌then◌else◌}
use Rattle.bsc_lines.proofs.Chains.{behind}
use Rattle.bsc_settings_told.specs.Lines.{set_line}
use Rattle.bsc_settings_told.proofs.setting.put_set.Goals as goal

pub returns-then-is_default : goal.returns-then-is_default
unfolding set_line
returns-then-is_default c =
    let o = c.put_words-then-is_default.result in
    let z = c.put_words-then-is_default.new.text.items in
    let t = c.args.text.now.items in
    let word = c.args.word.now in
    let value = c.args.value.now in
    let end : List ℕ = codes " # default\n" in
    let whole : IfOk o (λ done. z ≡ t ++ (word ++ (codes " = " ++ (value ++ end)))) =
    behind o t c.put_words.new.text.items word (codes " = " ++ (value ++ end)) z c.in_ok-put_words.ensures
    (behind o c.put_words.new.text.items c.put_words-2.new.text.items (codes " = ") (value ++ end) z c.in_ok-put_words-2.ensures
    (behind o c.put_words-2.new.text.items c.extend_from_slice.new.self.items value end z c.in_ok-extend_from_slice.ensures.items c.put_words-then-is_default.ensures)) in
    subst (λ (b : Bool). IfOk o (λ done. z ≡ t ++ (word ++ (codes " = " ++ (value ++ (if b then codes " # default\n" else codes "\n")))))) (sym c.if-is_default.true) whole

pub returns-else-is_default : goal.returns-else-is_default
unfolding set_line
returns-else-is_default c =
    let o = c.put_words-else-is_default.result in
    let z = c.put_words-else-is_default.new.text.items in
    let t = c.args.text.now.items in
    let word = c.args.word.now in
    let value = c.args.value.now in
    let end : List ℕ = codes "\n" in
    let whole : IfOk o (λ done. z ≡ t ++ (word ++ (codes " = " ++ (value ++ end)))) =
    behind o t c.put_words.new.text.items word (codes " = " ++ (value ++ end)) z c.in_ok-put_words.ensures
    (behind o c.put_words.new.text.items c.put_words-2.new.text.items (codes " = ") (value ++ end) z c.in_ok-put_words-2.ensures
    (behind o c.put_words-2.new.text.items c.extend_from_slice.new.self.items value end z c.in_ok-extend_from_slice.ensures.items c.put_words-else-is_default.ensures)) in
    subst (λ (b : Bool). IfOk o (λ done. z ≡ t ++ (word ++ (codes " = " ++ (value ++ (if b then codes " # default\n" else codes "\n")))))) (sym c.if-is_default.false) whole
