-- How a command may end, and what it leaves as it was of what the program is handed beside its words.
use Rattle.std.specs.Prelude.{◌≡◌, ℕ, ◌⊎◌, Bool, true, Option, Some, None, ⊤}
use Rattle.bsc_cli.specs.Words.{AskedOf, audit, check, hub, live_node, load, node, replay, simulate, test_hub, test_node}
use Rattle.bsc_commands.specs.declared.outside.Outside.{Outside}

-- The statuses with which the program may end, by what its words ask for.
abbrev pub EndsBy : Option AskedOf → ℕ → Type 0
EndsBy None n = (n ≡ 1) ⊎ (n ≡ 4) ⊎ (n ≡ 7)
EndsBy (Some replay) n = (n ≡ 0) ⊎ (n ≡ 2) ⊎ (n ≡ 3) ⊎ (n ≡ 4) ⊎ (n ≡ 7)
EndsBy (Some simulate) n = (n ≡ 0) ⊎ (n ≡ 2) ⊎ (n ≡ 3) ⊎ (n ≡ 4) ⊎ (n ≡ 7)
EndsBy (Some check) n = (n ≡ 0) ⊎ (n ≡ 2) ⊎ (n ≡ 3) ⊎ (n ≡ 4) ⊎ (n ≡ 7)
EndsBy (Some audit) n = (n ≡ 0) ⊎ (n ≡ 2) ⊎ (n ≡ 3) ⊎ (n ≡ 4) ⊎ (n ≡ 7) ⊎ (n ≡ 10)
EndsBy (Some (hub path sessions journal stop_file)) n = (n ≡ 0) ⊎ (n ≡ 3) ⊎ (n ≡ 4) ⊎ (n ≡ 5) ⊎ (n ≡ 6) ⊎ (n ≡ 7)
EndsBy (Some (node path script)) n =
    (n ≡ 0) ⊎ (n ≡ 2) ⊎ (n ≡ 3) ⊎ (n ≡ 4) ⊎ (n ≡ 5) ⊎ (n ≡ 6) ⊎ (n ≡ 7) ⊎ (n ≡ 8)
EndsBy (Some (live_node path)) n = (n ≡ 0) ⊎ (n ≡ 3) ⊎ (n ≡ 4) ⊎ (n ≡ 5) ⊎ (n ≡ 6) ⊎ (n ≡ 7) ⊎ (n ≡ 8)
EndsBy (Some (load workers)) n = (n ≡ 0) ⊎ (n ≡ 4) ⊎ (n ≡ 7) ⊎ (n ≡ 9)
EndsBy (Some (test_hub path)) n = (n ≡ 0) ⊎ (n ≡ 3) ⊎ (n ≡ 4) ⊎ (n ≡ 5) ⊎ (n ≡ 7)
EndsBy (Some (test_node path script)) n = (n ≡ 0) ⊎ (n ≡ 2) ⊎ (n ≡ 3) ⊎ (n ≡ 4) ⊎ (n ≡ 5) ⊎ (n ≡ 7)

-- A node is asked by lines as they come, and these ended since their input couldn't be read any further.
abbrev pub CutShort : Option AskedOf → Bool → Type 0
CutShort (Some (live_node path)) failed = failed ≡ true
CutShort asked failed = ⊥

module _ {S K F C V W A D N J P : Type 0} where
  -- By what words ask for, what isn't used is as it was; where they ask for nothing, that is all but the sink.
  abbrev pub TouchesOnly : Option AskedOf → Outside S K F C V W A D N J P → Outside S K F C V W A D N J P → Type 0
  TouchesOnly None x y = y ≡ record x { sink = y.sink }
  TouchesOnly (Some replay) x y = y ≡ record x { sink = y.sink; source = y.source }
  TouchesOnly (Some simulate) x y = y ≡ record x { sink = y.sink; source = y.source }
  TouchesOnly (Some check) x y = y ≡ record x { sink = y.sink; source = y.source }
  TouchesOnly (Some audit) x y = y ≡ record x { sink = y.sink; source = y.source; why = y.why }
  TouchesOnly (Some (hub path sessions journal stop_file)) x y =
      y ≡ record x { sink = y.sink; files = y.files; place = y.place; parts = y.parts }
  TouchesOnly (Some (node path script)) x y =
      y ≡ record x { sink = y.sink; files = y.files; node = y.node; parts = record x.parts { clock = y.parts.clock; acceptor = y.parts.acceptor } }
  TouchesOnly (Some (live_node path)) x y =
      y ≡ record x { sink = y.sink; files = y.files; node = y.node; parts = record x.parts { clock = y.parts.clock; acceptor = y.parts.acceptor } }
  TouchesOnly (Some (load n)) x y = y ≡ record x { sink = y.sink; place = record x.place { kept = y.place.kept } }
  TouchesOnly (Some (test_hub path)) x y = y ≡ record x { sink = y.sink; files = y.files }
  TouchesOnly (Some (test_node path script)) x y = y ≡ record x { sink = y.sink; files = y.files }

-- Who may ask for a stop is as it was, but where a hub is made by the words of one.
abbrev pub LeavesAsker : {H Q : Type 0} → Option AskedOf → Option H → Q → Q → Type 0
LeavesAsker (Some (hub path sessions journal stop_file)) made x y = made ≡ None → y ≡ x
LeavesAsker asked made x y = y ≡ x

-- The lines that a node may be asked by are as they were, but of the words of a node that they ask.
abbrev pub LeavesLines : {X : Type 0} → Option AskedOf → X → X → Type 0
LeavesLines (Some (live_node path)) x y = ⊤
LeavesLines asked x y = y ≡ x
