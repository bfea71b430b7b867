use Rattle.std.proofs.Common.{◌≡◌, ◌∙◌, map, refl, sym, ap, Some, None, List}
use Rattle.std.specs.Prelude.{option_and_then, option_map}
use Rattle.toml.specs.Data.{as_array, get_member}
use Rattle.toml.specs.View.{items_view, table_view, view}
use Rattle.toml.specs.declared.value.Value.{Value}
use Rattle.toml.proofs.Views.{table_get}
use Rattle.bsc_settings.specs.Policies.{listed}
use Rattle.bsc_settings.proofs.Lists.{listed-view}
use Rattle.bsc_settings.proofs.listing.values_at.Goals as goal

pub returns-in_default : goal.returns-in_default
returns-in_default c =
    let found = table_get c.get.result c.args.word.now c.args.table.now.entries c.get.ensures.value in
    rw (← rw c.in_default.is at found) refl

pub returns-in-Some-as_array : goal.returns-in-Some-as_array
returns-in-Some-as_array c =
    let found = table_get c.get.result c.args.word.now c.args.table.now.entries c.get.ensures.value in
    let is : get_member c.args.word.now (table_view c.args.table.now) ≡ Some (view c.in-Some.value.now) = sym (rw c.in-Some.is at found) in
    let list : as_array (view c.in-Some.value.now) ≡ Some (items_view c.in-Some-as_array.list.now.items) = sym (rw c.in-Some-as_array.is at c.as_array.ensures) in
    ap (λ (vs : List Value). Some (map view vs)) c.deref.ensures.value
    ∙ ap Some (sym (listed-view c.in-Some-as_array.list.now.items))
    ∙ sym (ap (option_map listed) (ap (option_and_then as_array) is ∙ list))

pub returns-in-None : goal.returns-in-None
returns-in-None c =
    let found = table_get c.get.result c.args.word.now c.args.table.now.entries c.get.ensures.value in
    let is : get_member c.args.word.now (table_view c.args.table.now) ≡ Some (view c.in-Some.value.now) = sym (rw c.in-Some.is at found) in
    let none : as_array (view c.in-Some.value.now) ≡ None = sym (rw c.in-None.is at c.as_array.ensures) in
    sym (ap (option_map listed) (ap (option_and_then as_array) is ∙ none))
