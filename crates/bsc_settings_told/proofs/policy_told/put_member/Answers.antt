use Rattle.std.proofs.Common.{ℕ, List, ◌++◌, codes}
use Rattle.bsc_lines.proofs.Chains.{behind}
use Rattle.bsc_settings.specs.Table.{member_device_row, member_vmac_row, member_group_row}
use Rattle.bsc_settings.specs.Values.{vmac, uuid, text}
use Rattle.bsc_settings_told.specs.Written.{row_line}
use Rattle.bsc_settings_told.specs.Told.{member_lines}
use Rattle.bsc_settings_told.proofs.Rows.{ended, same_text, text_if as same_value}
use Rattle.bsc_settings_told.proofs.policy_told.put_member.Goals as goal

pub returns : goal.returns
unfolding member_lines
returns c =
    let o = c.put_text.result in
    let z = c.put_text.new.text.items in
    let t = c.args.text.now.items in
    let m = c.args.member.now in
    let head : List ℕ = codes "[[policy.member]]\n" in
    let device = row_line member_device_row (uuid m.device) in
    let address = row_line member_vmac_row (vmac m.vmac) in
    let group = row_line member_group_row (text m.group) in
    same_text o z t (head ++ (device ++ (address ++ group))) (member_lines m) (ended head device address group)
    (behind o t c.put_words.new.text.items head (device ++ (address ++ group)) z c.in_ok-put_words.ensures
    (behind o c.put_words.new.text.items c.put_uuid.new.text.items device (address ++ group) z c.in_ok-put_uuid.ensures
    (behind o c.put_uuid.new.text.items c.put_vmac.new.text.items address group z c.in_ok-put_vmac.ensures
    (same_value o c.put_vmac.new.text.items z (codes "group") c.as_slice.result.now m.group c.as_slice.ensures c.put_text.ensures))))
