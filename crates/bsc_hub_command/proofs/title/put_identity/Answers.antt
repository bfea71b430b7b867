use Rattle.std.proofs.Common.{List, ap, drop, subst, take, ℕ, ◌++◌, ◌≡◌, ◌∙◌}
use Rattle.std.specs.Prelude.{IfOk}
use Rattle.std.proofs.lemmas.List.{drop-drop}
use Rattle.hex.specs.Hex.{encode_upper}
use Rattle.bsc_octets.specs.Identities.{identity_octets}
use Rattle.bsc_lines.proofs.Chains.{behind}
use Rattle.bsc_hub_command.specs.HubLines.{then_hex}
use Rattle.bsc_hub_command.proofs.title.put_identity.Goals as goal

pub returns : goal.returns
returns c =
    let o : List ℕ = identity_octets c.args.who.now in
    let said = c.octets-octets.ensures.spelled in
    let vmac : c.split_at.result.0.now ≡ take 6 o = c.split_at.ensures.front ∙ ap (take 6) said in
    let behind_vmac : c.split_at.result.1.now ≡ drop 6 o = c.split_at.ensures.back ∙ ap (drop 6) said in
    let device : c.split_at-2.result.0.now ≡ take 16 (drop 6 o) = c.split_at-2.ensures.front ∙ ap (take 16) behind_vmac in
    let behind_device : c.split_at-2.result.1.now ≡ drop 22 o = c.split_at-2.ensures.back ∙ ap (drop 16) behind_vmac ∙ drop-drop 16 6 o in
    let bvlc : c.split_at-3.result.0.now ≡ take 2 (drop 22 o) = c.split_at-3.ensures.front ∙ ap (take 2) behind_device in
    let npdu : c.split_at-3.result.1.now ≡ drop 24 o = c.split_at-3.ensures.back ∙ ap (drop 2) behind_device ∙ drop-drop 2 22 o in
    let r = c.put_then_hex-3.result in
    let a = c.args.text.now.items in
    let one = c.put_hex.new.text.items in
    let two = c.put_then_hex.new.text.items in
    let three = c.put_then_hex-2.new.text.items in
    let four = c.put_then_hex-3.new.text.items in
    let v : List ℕ = encode_upper (take 6 o) in
    let u : List ℕ = then_hex (take 16 (drop 6 o)) in
    let b : List ℕ = then_hex (take 2 (drop 22 o)) in
    let n : List ℕ = then_hex (drop 24 o) in
    let first = c.in_ok-put_hex.ensures ∙ ap (λ (x : List ℕ). a ++ encode_upper x) vmac in
    let second = c.in_ok-put_then_hex.ensures ∙ ap (λ (x : List ℕ). one ++ then_hex x) device in
    let third = c.in_ok-put_then_hex-2.ensures ∙ ap (λ (x : List ℕ). two ++ then_hex x) bvlc in
    let fourth = subst (λ (x : List ℕ). IfOk r (λ done. four ≡ three ++ then_hex x)) npdu c.put_then_hex-3.ensures in
    behind r a one v (u ++ (b ++ n)) four first (behind r one two u (b ++ n) four second (behind r two three b n four third fourth))
